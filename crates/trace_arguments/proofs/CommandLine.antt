-- Facts that combine the statements about reading a command line.
use Rattle.std.proofs.Common.{◌≡◌, ◌∙◌, Bool, true, false, List, [], Option, Some, None, Result, Ok, Err, IfErr, IsErrAnd}
use Rattle.std.proofs.Common.{refl, ap, ap₂, subst, sym, inl, inr, drop}
use Rattle.std.specs.Prelude.{codes, is_some, option_map, unwrap_or}
use Rattle.std.specs.Borrow.{Bor}
use Rattle.std.specs.Box.{box_value}
use Rattle.clap.specs.declared.parser.matches.ArgMatches.TheViews.{out-ArgMatches, out-SubCommand}
use Rattle.clap.specs.declared.parser.matches.ArgMatches.{ArgMatches}
use Rattle.clap.specs.declared.parser.matches.Found.{Found}
use Rattle.clap.specs.Words.{App, HasKind, HasMatchesOf, Row, Text, fault_of, first_value, found_of}
use Rattle.clap.specs.Words.{is_simple_and_free, is_simple, rows_of, subcommand_name_of, subcommand_of, subcommand_rows_of}
use Rattle.clap.specs.declared.error.Error.{Error}
use Rattle.trace_arguments.specs.Choices.{ChoiceTexts, ImportTexts, choice_said, import_of, import_said}
use Rattle.trace_arguments.specs.CommandLine.{command_named, commands, explain_command, explain_of, format_by, import_command}
use Rattle.trace_arguments.specs.CommandLine.{line_of, plain_line}
use Rattle.trace_arguments.specs.Given.{CommandForm, has, text_given, text_of}
use Rattle.trace_arguments.specs.Values.{ImportValue, LineValue, import_text}
use Rattle.trace_arguments.specs.inner.Parser.{GivesLine, IsAsked, IsLineBy, IsLineFaultOf, IsReadAs, choice_found, explain_read}
use Rattle.trace_arguments.specs.inner.Parser.{flag_found}
use Rattle.trace_arguments.specs.inner.Parser.{flag_read, import_found, import_read, program_app, text_found}
use Rattle.trace_arguments.specs.declared.line.LineFault.{LineFault}
use Rattle.trace_arguments.specs.declared.line.LineFault.TheVariants.{Usage, NoMemory}
use Rattle.trace_arguments.proofs.Asked.{choice_there, flag_there, text_is}
use Rattle.trace_arguments.proofs.Named.{not_same}
use Rattle.trace_arguments.proofs.LineWalk.{ReadsAs, flat, line_parsed, parsed_of, program_read}

-- ---- a parse that failed

if_err : {T : Type 0} (r : Result T LineFault) (P Q : LineFault → Type 0) → ((fault : LineFault) → P fault → Q fault) →
    IsErrAnd r P → IfErr r Q
if_err (Ok value) P Q f h = tt
if_err (Err fault) P Q f h = f fault h

abbrev Reads : List Text → Option (Option LineValue) → Type 0
Reads words line = ReadsAs commands refl (drop 1 words) line

faultless : (words : List Text) (line : Option (Option LineValue)) → Reads words line → is_some (flat line) ≡ true →
    fault_of program_app words ≡ []
faultless words None h some = absurd (cc some)
faultless words (Some line) h some = h.0

memory_alone : (e : Error) (fault : LineFault) → HasKind [] e → IsLineFaultOf e fault → fault ≡ NoMemory
memory_alone e NoMemory (inl h) is = refl
memory_alone e NoMemory (inr h) is = refl
memory_alone e (Usage told) (inl h) is = absurd (is.1 h)
memory_alone e (Usage told) (inr h) is = absurd h

-- the program's commands are of those whose matches clap states
is_exact : is_simple_and_free program_app ≡ true
is_exact = refl

is_plain : is_simple program_app ≡ true
is_plain = refl

-- if the words are a command line, only memory keeps them from being read
pub refused_line : {T : Type 0} (app : App) (words : List Text) (e : Error) (r : Result T LineFault) → app ≡ program_app
    → (is_simple_and_free app ≡ true → HasKind (fault_of app words) e) → IsErrAnd r (IsLineFaultOf e)
    → IfErr r (λ fault. is_some (line_of words) ≡ true → fault ≡ NoMemory)
refused_line app words e r is has from =
    let kinds : HasKind (fault_of program_app words) e = rw (ap (λ (a : App). fault_of a words) is) at (has (rw is is_exact)) in
    if_err r (IsLineFaultOf e) (λ fault. is_some (line_of words) ≡ true → fault ≡ NoMemory)
    (λ fault h some. memory_alone e fault
    (rw (faultless words (parsed_of words) (program_read words) (sym (ap is_some (line_parsed words)) ∙ some)) at kinds) h) from

-- ---- a parse that succeeded

read_by : (words : List Text) (m : ArgMatches) (line : Option (Option LineValue)) → line_of words ≡ flat line → Reads words line →
    fault_of program_app words ≡ []
    → subcommand_rows_of m ≡ subcommand_of program_app words → IsReadAs words m
read_by words m None is h quiet entered = absurd (h quiet)
read_by words m (Some line) is h quiet entered = record {
  command = h.1.0.name;
  rows = h.1.1;
  entered = entered ∙ h.1.3;
  form = h.1.0;
  form_is = h.1.2;
  gives = subst (λ (l : Option LineValue). GivesLine h.1.0 h.1.1 l) (sym is) h.1.4;
}

pub entered_line : (app : App) (words : List Text) (m : ArgMatches) → app ≡ program_app →
    (is_simple_and_free app ≡ true → fault_of app words ≡ [])
    → HasMatchesOf app words m → IsReadAs words m
entered_line app words m is quiet matches =
    read_by words m (parsed_of words) (line_parsed words) (program_read words) (sym (ap (λ (a : App). fault_of a words) is)
    ∙ quiet (rw is is_exact))
    ((matches (rw is is_plain)).1 ∙ ap (λ (a : App). subcommand_of a words) is)

-- ---- the line, by the name of its command

some_map : {A : Type 0} (f : A → LineValue) (own : Option A) → is_some (option_map f own) ≡ is_some own
some_map f None = refl
some_map f (Some x) = refl

-- the line of the words, by what was found after a command's name
pub record HasLine (words : List Text) (name : Text) (found : Found) : Type 0 where
  pub form : CommandForm
  pub form_is : command_named commands name ≡ Some form
  pub gives : GivesLine form (rows_of found) (line_of words)

-- the name and the rows of what is entered, from each of them
pairs_of : {B : Type 0} (o : Option B) (name_of : B → Text) (rows_in : B → List Row) (name command : Text) (found rows : List Row)
    → Some name ≡ option_map name_of o → Some found ≡ option_map (λ p. p.1)
    (option_map (λ b. let pair : Text × List Row = (name_of b, rows_in b) in pair) o)
    → option_map (λ b. let pair : Text × List Row = (name_of b, rows_in b) in pair) o ≡ Some (command, rows) →
    (command ≡ name) × (rows ≡ found)
pairs_of None name_of rows_in name command found rows is_name is_found is = absurd (cc is_name)
pairs_of (Some b) name_of rows_in name command found rows is_name is_found is =
    let pair : Text × List Row = (name_of b, rows_in b) in
    let whole : Text × List Row = (command, rows) in
    let same : Some pair ≡ Some whole = is in
    let names : name ≡ name_of b = cc is_name in
    let founds : found ≡ rows_in b = cc is_found in (
      sym (ap (λ (o : Option (Text × List Row)). (unwrap_or o (command, rows)).0) same) ∙ sym names,
      sym (ap (λ (o : Option (Text × List Row)). (unwrap_or o (command, rows)).1) same) ∙ sym founds,
    )

-- what `subcommand` returns for matches that are read
pub opened_line : (words : List Text) (m : ArgMatches) (given : Option (Bor Text × Bor ArgMatches)) (it : Bor Text × Bor ArgMatches) →
    IsReadAs words m
    → given ≡ Some it → option_map (λ p. p.0.now) given ≡ subcommand_name_of m
    → option_map (λ p. rows_of (found_of p.1.now)) given ≡ option_map (λ p. p.1) (subcommand_rows_of m) →
    HasLine words it.0.now (found_of it.1.now)
opened_line words m given it read is names rows =
    let same = pairs_of (out-ArgMatches m).subcommand (λ b. (out-SubCommand (box_value b)).name.now)
    (λ b. rows_of (found_of (out-SubCommand (box_value b)).matches))
    it.0.now read.command (rows_of (found_of it.1.now)) read.rows (rw is at names) (rw is at rows) read.entered in
    record {
      form = read.form;
      form_is = ap (command_named commands) (sym same.0) ∙ read.form_is;
      gives = subst (λ rows. GivesLine read.form rows (line_of words)) same.1 read.gives;
    }

module _ (words : List Text) (name : Text) (found : Found) (h : HasLine words name found) where
  -- what is found gives the line as the form of the command says
  by_form : (known : Text) (form : CommandForm) → name ≡ known → command_named commands known ≡ Some form →
      GivesLine form (rows_of found) (line_of words)
  by_form known form is known_is =
      let same : Some h.form ≡ Some form = sym h.form_is ∙ ap (command_named commands) is ∙ known_is in
      let it : h.form ≡ form = cc same in
      subst (λ form. GivesLine form (rows_of found) (line_of words)) it h.gives

  module _ (command : CommandForm) (is : name ≡ command.name) (form_is : command_named commands command.name ≡ Some command) where
    gives : GivesLine command (rows_of found) (line_of words)
    gives = by_form command.name command is form_is

    -- what it requires was found
    pub asked : IsAsked command (rows_of found)
    asked = (gives.0, gives.1)

    -- the line by what was found is the line of the words
    pub line_given : (value : LineValue) → IsLineBy command (rows_of found) value → line_of words ≡ Some value
    line_given value by = gives.2 ∙ by gives.0 gives.1

  -- a fault of what is found is none of the line
  pub own_fault : {A T : Type 0} (f : A → LineValue) (own : Option A) (e : LineFault) (r : Result T LineFault) →
      option_map f own ≡ line_of words → (is_some own ≡ true → e ≡ NoMemory)
      → IsErrAnd r (λ fault. fault ≡ e) → IfErr r (λ fault. is_some (line_of words) ≡ true → fault ≡ NoMemory)
  own_fault f own e r is memory from =
      if_err r (λ fault. fault ≡ e) (λ fault. is_some (line_of words) ≡ true → fault ≡ NoMemory)
      (λ fault same some. same ∙ memory (sym (some_map f own) ∙ ap is_some is ∙ some)) from

  abbrev noted : Bool → ImportValue → LineValue
  noted verbose asked = record { command = import_text asked; verbose = verbose }

  abbrev pub with_notes : ImportValue → LineValue
  with_notes = noted (flag_found found (codes "verbose"))

  abbrev texts : ChoiceTexts → Bool → Bool → Option Text → Option Text → ImportTexts
  texts choice all strict account map = record { choice = choice; all = all; strict = strict; account = account; map = map }

  -- an import, by its options' texts
  pub import_line : name ≡ codes "import" → option_map with_notes (import_read found) ≡ line_of words
  import_line is =
      let line = gives import_command is refl in
      let given = line.0 in
      let choice : choice_found found ≡ choice_said given = choice_there import_command found given line.1 (record {
        profile = refl;
        owner = refl;
        subject = refl;
        define = refl;
        override = refl;
      }) in
      let all = flag_there import_command found given line.1 (codes "all") refl in
      let strict = flag_there import_command found given line.1 (codes "strict") refl in
      let verbose = flag_there import_command found given line.1 (codes "verbose") refl in
      let account : first_value found (codes "account") ≡ text_given given (codes "account") =
      text_is import_command found given line.1 (codes "account") refl in
      let map : first_value found (codes "map") ≡ text_given given (codes "map") =
      text_is import_command found given line.1 (codes "map") refl in
      let same : import_found found ≡ import_said given =
      ap (λ (c : ChoiceTexts). texts c (flag_found found (codes "all")) (flag_found found (codes "strict"))
      (first_value found (codes "account")) (first_value found (codes "map"))) choice
      ∙ ap₂ (λ (a s : Bool). texts (choice_said given) a s (first_value found (codes "account")) (first_value found (codes "map"))) all
      strict
      ∙ ap₂ (λ (a m : Option Text). texts (choice_said given) (has given (codes "all")) (has given (codes "strict")) a m) account map in
      ap (λ (v : Bool). option_map (noted v) (import_of (import_found found))) verbose
      ∙ ap (λ (said : ImportTexts). option_map (noted (has given (codes "verbose"))) (import_of said)) same ∙ sym line.2

  -- the import that is read, with its notes
  pub import_given : name ≡ codes "import" → (asked : ImportValue) (verbose : Bool) → import_read found ≡ Some asked
      → flag_read (codes "verbose") (rows_of found) ≡ Some verbose
      → line_of words ≡ Some (record { command = import_text asked; verbose = verbose })
  import_given is asked verbose read flag =
      sym (import_line is) ∙ ap (option_map with_notes) read ∙ ap (λ (o : Option Bool). Some (noted (unwrap_or o false) asked)) flag

  abbrev explained : Text → Text → Bool → Bool → ChoiceTexts → Option LineValue
  explained perms name json flattened said = option_map plain_line (explain_of perms name (format_by json) flattened said)

  pub explain_line : name ≡ codes "explain" → option_map plain_line (explain_read found) ≡ line_of words
  explain_line is =
      let line = gives explain_command is refl in
      let given = line.0 in
      let choice : choice_found found ≡ choice_said given = choice_there explain_command found given line.1 (record {
        profile = refl;
        owner = refl;
        subject = refl;
        define = refl;
        override = refl;
      }) in
      let perms : text_found found (codes "PERMS") ≡ text_of given (codes "PERMS") =
      ap (λ (o : Option Text). unwrap_or o []) (text_is explain_command found given line.1 (codes "PERMS") refl) in
      let second : text_found found (codes "NAME") ≡ text_of given (codes "NAME") =
      ap (λ (o : Option Text). unwrap_or o []) (text_is explain_command found given line.1 (codes "NAME") refl) in
      let json = flag_there explain_command found given line.1 (codes "json") refl in
      let flattened = flag_there explain_command found given line.1 (codes "flattened") refl in
      ap₂ (λ (p n : Text). explained p n (flag_found found (codes "json")) (flag_found found (codes "flattened")) (choice_found found))
      perms second
      ∙ ap₂ (λ (j f : Bool). explained (text_of given (codes "PERMS")) (text_of given (codes "NAME")) j f (choice_found found)) json
      flattened
      ∙ ap (λ (said : ChoiceTexts). explained (text_of given (codes "PERMS")) (text_of given (codes "NAME")) (has given (codes "json"))
      (has given (codes "flattened")) said) choice ∙ sym line.2

  -- there is no other command
  pub known_command : (name ≡ codes "judge" → ⊥) →
      (name ≡ codes "explain" → ⊥) →
      (name ≡ codes "any" → ⊥) →
      (name ≡ codes "all" → ⊥) →
      (name ≡ codes "diff" → ⊥) →
      (name ≡ codes "lint" → ⊥) →
      (name ≡ codes "run" → ⊥) →
      (name ≡ codes "test" → ⊥) →
      (name ≡ codes "compile" → ⊥) →
      (name ≡ codes "check" → ⊥) →
      (name ≡ codes "match" → ⊥) →
      (name ≡ codes "steps" → ⊥) →
      (name ≡ codes "storm" → ⊥) →
      (name ≡ codes "import" → ⊥) →
      (name ≡ codes "names" → ⊥) →
      (name ≡ codes "audit" → ⊥) → ⊥
  known_command no_judge no_explain no_any no_all no_diff no_lint no_run no_test no_compile no_check no_match no_steps
      no_storm no_import no_names no_audit =
      let none : command_named commands name ≡ None =
      rw (
        not_same (codes "judge") name (λ same. no_judge (sym same)),
        not_same (codes "explain") name (λ same. no_explain (sym same)),
        not_same (codes "any") name (λ same. no_any (sym same)),
        not_same (codes "all") name (λ same. no_all (sym same)),
        not_same (codes "diff") name (λ same. no_diff (sym same)),
        not_same (codes "lint") name (λ same. no_lint (sym same)),
        not_same (codes "run") name (λ same. no_run (sym same)),
        not_same (codes "test") name (λ same. no_test (sym same)),
        not_same (codes "compile") name (λ same. no_compile (sym same)),
        not_same (codes "check") name (λ same. no_check (sym same)),
        not_same (codes "match") name (λ same. no_match (sym same)),
        not_same (codes "steps") name (λ same. no_steps (sym same)),
        not_same (codes "storm") name (λ same. no_storm (sym same)),
        not_same (codes "import") name (λ same. no_import (sym same)),
        not_same (codes "names") name (λ same. no_names (sym same)),
        not_same (codes "audit") name (λ same. no_audit (sym same)),
      ) refl in
      cc (none, h.form_is)
