-- What the parser found of what is given.
use Rattle.std.proofs.Common.{◌≡◌, ◌≤◌, ◌∙◌, ◌&&◌, ℕ, Bool, false, true, List, [], Option, Some, ap, arith, refl, subst, sym}
use Rattle.std.specs.Prelude.{codes, is_some, option_map, unwrap_or}
use Rattle.clap.proofs.WalkLemmas.{both, first_value-rows, raw_values-rows}
use Rattle.clap.specs.Walk.{Text}
use Rattle.clap.specs.Words.{first_value, rows_of}
use Rattle.clap.specs.declared.parser.matches.Found.{Found}
use Rattle.trace_arguments.specs.Choices.{choice_said}
use Rattle.trace_arguments.specs.CommandLine.{format_by, format_of, json, perms_and}
use Rattle.trace_arguments.specs.Given.{CommandForm, Given, has, has_required, number_form, number_of, option_named, text_given}
use Rattle.trace_arguments.specs.Given.{text_of, texts_given}
use Rattle.trace_forms.specs.Forms.{ArgumentForm, NumberOption, OptionForm, many_texts, no_text, one_text}
use Rattle.trace_arguments.specs.Values.{capacity_of, name_by}
use Rattle.trace_arguments.specs.declared.questions.NameCommand.{NameCommand}
use Rattle.trace_arguments.specs.declared.questions.NameCommand.TheVariants.{Explain, Judge, Match}
use Rattle.trace_report.specs.declared.format.Format.{Format}
use Rattle.trace_arguments.specs.inner.Parser.{IsAsked, IsGiven, choice_found, flag_found, flag_read, forms_of, number_read, texts_found}

abbrev pub text_form : Text → OptionForm
text_form name = record { name = name; wants = one_text }

abbrev pub texts_form : Text → OptionForm
texts_form name = record { name = name; wants = many_texts }

abbrev pub flag_form : Text → OptionForm
flag_form name = record { name = name; wants = no_text }

module _ (command : CommandForm) (found : Found) (given : Given) (is : IsGiven command (rows_of found) given) where
  pub text_is : (name : Text) → option_named (forms_of command) name ≡ Some (text_form name)
      → first_value found name ≡ text_given given name
  text_is name at = first_value-rows found name ∙ is.texts (text_form name) at

  pub flag_is : (name : Text) → option_named (forms_of command) name ≡ Some (flag_form name) → flag_read name (rows_of found)
      ≡ Some (has given name)
  flag_is name at = is.texts (flag_form name) at

  pub number_is : (n : NumberOption) → option_named (forms_of command) n.name ≡ Some (number_form n)
      → (number_read n.name (rows_of found) ≡ Some (number_of given n)) × (number_of given n ≤ n.most)
  number_is n at = is.texts (number_form n) at

  -- what is read is what is given
  pub text_said : (name text : Text) → option_named (forms_of command) name ≡ Some (text_form name) → first_value found name ≡ Some text →
      text_of given name ≡ text
  text_said name text at read = ap (λ (o : Option Text). unwrap_or o []) (sym (text_is name at) ∙ read)

  pub flag_said : (name : Text) (flag : Bool) → option_named (forms_of command) name ≡ Some (flag_form name)
      → flag_read name (rows_of found)
      ≡ Some flag
      → has given name ≡ flag
  flag_said name flag at read = let same : Some (has given name) ≡ Some flag = sym (flag_is name at) ∙ read in cc same

  pub format_said : (format : Format) → option_named (forms_of command) (codes "json") ≡ Some json
      → option_map format_by (flag_read (codes "json") (rows_of found)) ≡ Some format → format_of given ≡ format
  format_said format at read =
      let same : Some (format_of given) ≡ Some format = sym (ap (option_map format_by) (flag_is (codes "json") at)) ∙ read in
      cc same

  pub number_said : (n : NumberOption) (number : ℕ) → option_named (forms_of command) n.name ≡ Some (number_form n)
      → number_read n.name (rows_of found) ≡ Some number → number_of given n ≡ number
  number_said n number at read = let same : Some (number_of given n) ≡ Some number = sym (number_is n at).0 ∙ read in cc same

  pub number_most : (n : NumberOption) (number : ℕ) → option_named (forms_of command) n.name ≡ Some (number_form n)
      → number_read n.name (rows_of found) ≡ Some number → number ≤ n.most
  number_most n number at read = subst (λ (m : ℕ). m ≤ n.most) (number_said n number at read) (number_is n at).1

module _ (command : CommandForm) (found : Found) (asked : IsAsked command (rows_of found)) where
  pub text_asked : (name : Text) → option_named (forms_of command) name ≡ Some (text_form name) → has asked.0 name ≡ true →
      is_some (first_value found name) ≡ true
  text_asked name at given = ap is_some (text_is command found asked.0 asked.1 name at) ∙ given

  pub flag_asked : (name : Text) → option_named (forms_of command) name ≡ Some (flag_form name) →
      is_some (flag_read name (rows_of found)) ≡ true
  flag_asked name at = ap is_some (flag_is command found asked.0 asked.1 name at)

  pub number_asked : (n : NumberOption) → option_named (forms_of command) n.name ≡ Some (number_form n) →
      is_some (number_read n.name (rows_of found)) ≡ true
  number_asked n at = ap is_some (number_is command found asked.0 asked.1 n at).0

-- ---- a command of PERMS and one more argument

module _ (command : CommandForm) (second : Text) (arguments : command.arguments ≡ perms_and second) (found : Found)
    (asked : IsAsked command (rows_of found)) where
  are_given : has_required (perms_and second) asked.0 ≡ true
  are_given = subst (λ (forms : List ArgumentForm). has_required forms asked.0 ≡ true) arguments asked.1.required

  pub perms_asked : option_named (forms_of command) (codes "PERMS") ≡ Some (text_form (codes "PERMS"))
      → is_some (first_value found (codes "PERMS")) ≡ true
  perms_asked at = text_asked command found asked (codes "PERMS") at
      (both (has asked.0 (codes "PERMS")) (has asked.0 second && true) are_given).0

  pub second_asked : option_named (forms_of command) second ≡ Some (text_form second) → is_some (first_value found second) ≡ true
  second_asked at = text_asked command found asked second at
      (both (has asked.0 second) true (both (has asked.0 (codes "PERMS")) (has asked.0 second && true) are_given).1).0

-- ---- the texts of a choice and of an import

module _ (command : CommandForm) (found : Found) (given : Given) (is : IsGiven command (rows_of found) given) where
  pub flag_there : (name : Text) → option_named (forms_of command) name ≡ Some (flag_form name) → flag_found found name ≡ has given name
  flag_there name at = ap (λ (o : Option Bool). unwrap_or o false) (flag_is command found given is name at)

  pub texts_there : (name : Text) → option_named (forms_of command) name ≡ Some (texts_form name)
      → texts_found found name ≡ texts_given given name
  texts_there name at = ap (λ (o : Option (List Text)). unwrap_or o []) (raw_values-rows found name) ∙ is.texts (texts_form name) at

  -- the options of a choice are those of the command
  pub record HasChoice : Type 0 where
    pub profile : option_named (forms_of command) (codes "profile") ≡ Some (text_form (codes "profile"))
    pub owner : option_named (forms_of command) (codes "owner") ≡ Some (text_form (codes "owner"))
    pub subject : option_named (forms_of command) (codes "for") ≡ Some (text_form (codes "for"))
    pub define : option_named (forms_of command) (codes "define") ≡ Some (texts_form (codes "define"))
    pub override : option_named (forms_of command) (codes "override") ≡ Some (flag_form (codes "override"))

  pub choice_there : HasChoice → choice_found found ≡ choice_said given
  choice_there at = rw (
    text_is command found given is (codes "profile") at.profile,
    text_is command found given is (codes "owner") at.owner,
    text_is command found given is (codes "for") at.subject,
    texts_there (codes "define") at.define,
    flag_there (codes "override") at.override,
  ) refl

-- ---- a question about one name has no tree

pub no_capacity : (command : NameCommand) (perms name : Text) (format : Format) (quiet : Bool)
    → capacity_of (name_by command perms name format quiet) ≤ 16384
no_capacity Judge perms name format quiet = omega arith
no_capacity Explain perms name format quiet = omega arith
no_capacity Match perms name format quiet = omega arith
