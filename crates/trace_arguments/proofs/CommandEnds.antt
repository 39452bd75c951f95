-- The rows of a command after the last word, with the defaults of options that aren't given.
use Rattle.std.proofs.Common.{◌≡◌, ◌∙◌, ◌&&◌, ◌||◌, ◌++◌, ℕ, Bool, cond, true, false, not, List, [], ◌∷◌, map, Option, Some, None, refl}
use Rattle.std.proofs.Common.{suc, ap, sym}
use Rattle.std.specs.Prelude.{if◌then◌else◌, fold, is_some, nat_lt, slice_get, unwrap_or}
use Rattle.std.specs.List.{list_any}
use Rattle.std.specs.Str.{bytes_eq}
use Rattle.clap.specs.Lexer.{without_minus}
use Rattle.clap.specs.Kinds.{Kinds, or_else}
use Rattle.clap.specs.Faults.{check_fault, default_fault, defaults_fault, given_default_fault}
use Rattle.clap.specs.Walk.{Row, Rule, Text, all_of, default_rows, first_of, has_row, one_of, with_default}
use Rattle.clap.specs.Takes.{is_given}
use Rattle.clap.specs.declared.error.kind.ErrorKind.TheVariants.{MissingRequiredArgument}
use Rattle.clap.specs.declared.parser.matches.ValueSource.TheVariants.{DefaultValue}
use Rattle.clap.proofs.WalkLemmas.{both}
use Rattle.trace_arguments.specs.Given.{CommandForm, Given, has, has_required, is_number_of, option_named, text_given, texts_given}
use Rattle.trace_forms.specs.Forms.{ArgumentForm, NumberOption, OptionForm, Wants, many_texts, no_text, one_number, one_text}
use Rattle.trace_arguments.specs.inner.Parser.{HasTexts, flag_read, forms_of, text_form, texts_wanted}
use Rattle.trace_arguments.proofs.Numbers.{taken_most, taken_read}
use Rattle.trace_arguments.proofs.LeafWalk.{help, leaf_shape}
use Rattle.trace_arguments.proofs.OptionRules.{Are, are_sound, built_rule, built_rules, defaults_by, found_row}
use Rattle.trace_arguments.proofs.OptionRules.{is_passed, is_sound, reading_to}
use Rattle.trace_arguments.proofs.OptionRules.{row_by, row_named, row_with, rows_often, rows_once, sound_named, with_other, with_same}
use Rattle.trace_arguments.proofs.CommandRules.{argument_in, place, places, rules_for}

-- ---- defaults

-- an argument without a default changes nothing
no_default : (rows : List Row) (a : Rule) → a.defaults ≡ [] → with_default rows a ≡ rows
no_default rows a none = rw none (go (has_row a.id rows))
  where
    go : (has : Bool) → (if has then rows else rows) ≡ rows
    go true = refl
    go false = refl

-- the row of an option, if there is one, or that of its default
abbrev default_row : OptionForm → List Text → Option Row
default_row o [] = None
default_row o (v ∷ vs) = Some (row_with o.name (reading_to o) DefaultValue (v ∷ vs) None)

abbrev ended : OptionForm → Option Row → Option Row
ended o (Some r) = Some r
ended o None = default_row o (defaults_by o.wants)

default_here : (o : OptionForm) (rows : List Row) → row_named (with_default rows (built_rule o)) o.name ≡ ended o (row_named rows o.name)
default_here o rows = go (row_named rows o.name) refl
  where
    listed : (defaults : List Text) → row_named rows o.name ≡ None → row_named (default_rows o.name (reading_to o) defaults rows) o.name
        ≡ default_row o defaults
    listed [] none = none
    listed (v ∷ vs) none =
        with_same o.name (reading_to o) DefaultValue (v ∷ vs) rows
        ∙ ap (λ (r : Option Row). Some (row_with o.name (reading_to o) DefaultValue (v ∷ vs) r)) none

    go : (found : Option Row) → row_named rows o.name ≡ found → row_named (with_default rows (built_rule o)) o.name ≡ ended o found
    go None none = rw (found_row o.name rows ∙ ap is_some none) (listed (defaults_by o.wants) none)
    go (Some r) some = rw (found_row o.name rows ∙ ap is_some some) some

default_other : (p : OptionForm) (rows : List Row) (name : Text) → bytes_eq p.name name ≡ false →
    row_named (with_default rows (built_rule p)) name ≡ row_named rows name
default_other p rows name other = go (has_row p.name rows)
  where
    listed : (defaults : List Text) → row_named (default_rows p.name (reading_to p) defaults rows) name ≡ row_named rows name
    listed [] = refl
    listed (v ∷ vs) = with_other p.name (reading_to p) DefaultValue (v ∷ vs) name rows other

    go : (has : Bool) → row_named (if has then rows else default_rows p.name (reading_to p) (defaults_by p.wants) rows) name
        ≡ row_named rows name
    go true = refl
    go false = listed (defaults_by p.wants)

-- the rows at the end
abbrev pub end_rows : List OptionForm → List Row → List Row
end_rows options rows = fold with_default rows (built_rules options)

others_end : (options : List OptionForm) (rows : List Row) (name : Text) → option_named options name ≡ None →
    row_named (end_rows options rows) name ≡ row_named rows name
others_end [] rows name none = ap (λ (rs : List Row). row_named rs name) (no_default rows help refl)
others_end (p ∷ options) rows name none = go (bytes_eq p.name name) refl none (others_end options (with_default rows (built_rule p)) name)
  where
    go : (same : Bool) → bytes_eq p.name name ≡ same → cond same (Some p) (option_named options name) ≡ None
        → (option_named options name ≡ None → row_named (end_rows options (with_default rows (built_rule p))) name
        ≡ row_named (with_default rows (built_rule p)) name)
        → row_named (end_rows options (with_default rows (built_rule p))) name ≡ row_named rows name
    go true same is behind = absurd (cc is)
    go false other is behind = behind is ∙ default_other p rows name other

unnamed : (found : Option OptionForm) → not (is_some found) ≡ true → found ≡ None
unnamed None e = refl
unnamed (Some o) e = absurd (cc e)

row_end : (options : List OptionForm) (rows : List Row) (o : OptionForm) → are_sound options ≡ true → option_named options o.name ≡ Some o
    → row_named (end_rows options rows) o.name ≡ ended o (row_named rows o.name)
row_end [] rows o sound is = absurd (cc is)
row_end (p ∷ options) rows o sound is =
    let here = both (is_sound p.wants) (not (is_some (option_named options p.name)) && are_sound options) sound in
    let rest = both (not (is_some (option_named options p.name))) (are_sound options) here.1 in
    go (bytes_eq p.name o.name) refl (unnamed (option_named options p.name) rest.0)
    (λ at. row_end options (with_default rows (built_rule p)) o rest.1 at) is
  where
    go : (same : Bool) → bytes_eq p.name o.name ≡ same → option_named options p.name ≡ None
        → (option_named options o.name ≡ Some o
        → row_named (end_rows options (with_default rows (built_rule p))) o.name
        ≡ ended o (row_named (with_default rows (built_rule p)) o.name))
        → cond same (Some p) (option_named options o.name) ≡ Some o
        → row_named (end_rows options (with_default rows (built_rule p))) o.name ≡ ended o (row_named rows o.name)
    go true same alone behind found =
        let it : p ≡ o = cc found in
        let others : option_named options o.name ≡ None = ap (λ (x : OptionForm). option_named options x.name) (sym it) ∙ alone in
        others_end options (with_default rows (built_rule p)) o.name others
        ∙ ap (λ (x : OptionForm). row_named (with_default rows (built_rule x)) o.name) it ∙ default_here o rows
    go false other alone behind found = behind found ∙ ap (ended o) (default_other p rows o.name other)

-- ---- what is found of what is given

-- the rows at the end are those of what is given
abbrev pub EndsAs : List OptionForm → List Row → Given → Type 0
EndsAs options rows given = (before : List Row) × (rows ≡ end_rows options before) × Are options before given

found_end : (options : List OptionForm) (rows : List Row) (given : Given) (o : OptionForm) → are_sound options ≡ true →
    EndsAs options rows given
    → option_named options o.name ≡ Some o → row_named rows o.name ≡ ended o (row_by o.name o.wants given)
found_end options rows given o sound ends at =
    ap (λ (rs : List Row). row_named rs o.name) ends.1 ∙ row_end options ends.0 o sound at ∙ ap (ended o) (ends.2 o at).0

first_end : (rows : List Row) (name : Text) (said : Option Text)
    → row_named rows name ≡ ended (record { name = name; wants = one_text }) (rows_once name one_text said) → first_of name rows ≡ said
first_end rows name None found = rw found refl
first_end rows name (Some text) found = rw found refl

texts_end : (rows : List Row) (name : Text) (texts : List Text)
    → row_named rows name ≡ ended (record { name = name; wants = many_texts }) (rows_often name many_texts texts) →
    unwrap_or (all_of name rows) [] ≡ texts
texts_end rows name [] found = rw found refl
texts_end rows name (text ∷ texts) found = rw found refl

flag_end : (rows : List Row) (name : Text) (said : Option Text) → row_named rows name ≡ ended (record { name = name; wants = no_text })
    (rows_once name no_text said)
    → flag_read name rows ≡ Some (is_some said)
flag_end rows name None found = rw found refl
flag_end rows name (Some text) found = rw found refl

number_end : (rows : List Row) (name : Text) (n : NumberOption) (said : Option Text)
    → row_named rows name ≡ ended (record { name = name; wants = one_number n }) (rows_once name (one_number n) said)
    → one_of name rows ≡ Some (without_minus (unwrap_or said n.default))
number_end rows name n None found = rw found refl
number_end rows name n (Some text) found = rw found refl

texts_by : (name : Text) (wants : Wants) (rows : List Row) (given : Given) → is_sound wants ≡ true
    → is_passed wants (text_given given name)
    ≡ true
    → row_named rows name ≡ ended (record { name = name; wants = wants }) (row_by name wants given) → HasTexts rows given name wants
texts_by name (one_number n) rows given sound passed found =
    let said : Option Text = text_given given name in
    let bounds = both (is_number_of n n.default) (nat_lt n.most 4294967296) sound in (
      rw (number_end rows name n said found) (taken_read n (unwrap_or said n.default) bounds.1 passed),
      taken_most n (unwrap_or said n.default) passed,
    )
texts_by name one_text rows given sound passed found = first_end rows name (text_given given name) found
texts_by name many_texts rows given sound passed found = texts_end rows name (texts_given given name) found
texts_by name no_text rows given sound passed found = flag_end rows name (text_given given name) found

-- the rows have what is given
pub texts_found : (options : List OptionForm) (rows : List Row) (given : Given) → are_sound options ≡ true → EndsAs options rows given →
    (o : OptionForm)
    → option_named options o.name ≡ Some o → HasTexts rows given o.name o.wants
texts_found options rows given sound ends o at =
    texts_by o.name o.wants rows given (sound_named options o sound at) (ends.2 o at).1 (found_end options rows given o sound ends at)

-- ---- the rules of a command, of which those of arguments have no default

abbrev nothing : Kinds
nothing = []

default_quiet : (o : OptionForm) (rows : List Row) → is_sound o.wants ≡ true → default_fault rows (built_rule o) ≡ []
default_quiet o rows sound = by_wants o.name o.wants sound
  where
    quiet_if : (name : Text) (n : NumberOption) (has : Bool) → is_number_of n n.default ≡ true → has_row name rows ≡ has
        → default_fault rows (built_rule (record { name = name; wants = one_number n })) ≡ []
    quiet_if name n true number is = rw is refl
    quiet_if name n false number is = rw (is, number) refl

    none_if : (has : Bool) → (if has || true then nothing else nothing) ≡ nothing
    none_if true = refl
    none_if false = refl

    flag_if : (has : Bool) → (if has || false then nothing else nothing) ≡ nothing
    flag_if true = refl
    flag_if false = refl

    by_wants : (name : Text) (wants : Wants) → is_sound wants ≡ true →
        default_fault rows (built_rule (record { name = name; wants = wants })) ≡ []
    by_wants name (one_number n) is = quiet_if name n (has_row name rows) (both (is_number_of n n.default) (nat_lt n.most 4294967296) is).0
        refl
    by_wants name one_text is = none_if (has_row name rows)
    by_wants name many_texts is = none_if (has_row name rows)
    by_wants name no_text is = flag_if (has_row name rows)

help_quiet : (rows : List Row) → default_fault rows help ≡ []
help_quiet rows = go (has_row help.id rows)
  where
    go : (has : Bool) → (if has || true then nothing else given_default_fault help []) ≡ []
    go true = refl
    go false = refl

place_quiet : (a : ArgumentForm) (i : ℕ) (rows : List Row) → default_fault rows (place a i) ≡ []
place_quiet a i rows = go (has_row a.name rows)
  where
    go : (has : Bool) → (if has || true then nothing else given_default_fault (place a i) []) ≡ []
    go true = refl
    go false = refl

places_quiet : (i : ℕ) (arguments : List ArgumentForm) (rows : List Row) → defaults_fault rows (places i arguments ++ help ∷ []) ≡ []
unfolding defaults_fault
places_quiet i [] rows = rw (help_quiet rows) refl
places_quiet i (a ∷ arguments) rows =
    rw (place_quiet a i rows) (places_quiet (suc i) arguments (with_default rows (place a i)))

rules_quiet : (options : List OptionForm) (arguments : List ArgumentForm) (rows : List Row)
    → are_sound (options ++ map text_form arguments) ≡ true
    → defaults_fault rows (map built_rule options ++ (places 1 arguments ++ help ∷ [])) ≡ []
unfolding defaults_fault
rules_quiet [] arguments rows sound = places_quiet 1 arguments rows
rules_quiet (o ∷ options) arguments rows sound =
    let others : List OptionForm = options ++ map text_form arguments in
    let here = both (is_sound o.wants) (not (is_some (option_named others o.name)) && are_sound others) sound in
    let rest = both (not (is_some (option_named others o.name))) (are_sound others) here.1 in
    rw (default_quiet o rows here.0) (rules_quiet options arguments (with_default rows (built_rule o)) rest.1)

without_defaults : (again : Bool) → defaults_by (texts_wanted again) ≡ []
without_defaults true = refl
without_defaults false = refl

places_end : (i : ℕ) (arguments : List ArgumentForm) (rows : List Row) → fold with_default rows (places i arguments ++ help ∷ [])
    ≡ end_rows (map text_form arguments) rows
places_end i [] rows = refl
places_end i (a ∷ arguments) rows =
    let same : with_default rows (place a i) ≡ with_default rows (built_rule (text_form a)) =
    no_default rows (place a i) refl ∙ sym (no_default rows (built_rule (text_form a)) (without_defaults a.is_repeated)) in
    ap (λ (rs : List Row). fold with_default rs (places (suc i) arguments ++ help ∷ [])) same
    ∙ places_end (suc i) arguments (with_default rows (built_rule (text_form a)))

rules_end : (options : List OptionForm) (arguments : List ArgumentForm) (rows : List Row)
    → fold with_default rows (map built_rule options ++ (places 1 arguments ++ help ∷ []))
    ≡ end_rows (options ++ map text_form arguments) rows
rules_end [] arguments rows = places_end 1 arguments rows
rules_end (o ∷ options) arguments rows = rules_end options arguments (with_default rows (built_rule o))

pub command_end : (command : CommandForm) (rows : List Row) → fold with_default rows (rules_for command) ≡ end_rows (forms_of command) rows
command_end command rows = rules_end command.options command.arguments rows

-- ---- what is required

abbrev is_missing : List Row → Rule → Bool
is_missing rows a = a.required && not (is_given a.id rows)

none_missing : (options : List OptionForm) (rows : List Row) (rest : List Rule)
    → list_any (is_missing rows) (map built_rule options ++ rest)
    ≡ list_any (is_missing rows) rest
none_missing [] rows rest = refl
none_missing (o ∷ options) rows rest = none_missing options rows rest

once_end : (rows : List Row) (name : Text) (said : Option Text)
    → row_named rows name ≡ ended (record { name = name; wants = one_text }) (rows_once name one_text said)
    → is_given name rows ≡ is_some said
once_end rows name None found = rw found refl
once_end rows name (Some text) found = rw found refl

often_end : (rows : List Row) (name : Text) (texts : List Text)
    → row_named rows name ≡ ended (record { name = name; wants = many_texts }) (rows_often name many_texts texts)
    → is_given name rows ≡ is_some (slice_get texts 0)
often_end rows name [] found = rw found refl
often_end rows name (text ∷ texts) found = rw found refl

-- a text is given if the list of texts has one
first_text : (given : Given) (name : Text) → slice_get (texts_given given name) 0 ≡ text_given given name
first_text [] name = refl
first_text (pair ∷ given) name = go (bytes_eq pair.0 name) refl (first_text given name)
  where
    go : (same : Bool) → bytes_eq pair.0 name ≡ same → slice_get (texts_given given name) 0 ≡ text_given given name
        → slice_get (texts_given (pair ∷ given) name) 0 ≡ text_given (pair ∷ given) name
    go true is later = rw is refl
    go false is later = rw is later

argument_end : (rows : List Row) (given : Given) (name : Text) (again : Bool)
    → row_named rows name ≡ ended (record { name = name; wants = texts_wanted again }) (row_by name (texts_wanted again) given)
    → is_given name rows ≡ has given name
argument_end rows given name true found = often_end rows name (texts_given given name) found ∙ ap is_some (first_text given name)
argument_end rows given name false found = once_end rows name (text_given given name) found

missing_if : (required given : Bool) (rest all : Bool) → rest ≡ not all
    → (required && not given || rest) ≡ not ((not required || given) && all)
missing_if true true rest all e = e
missing_if true false rest all e = refl
missing_if false true rest all e = e
missing_if false false rest all e = e

places_missing : (i : ℕ) (arguments : List ArgumentForm) (rows : List Row) (given : Given)
    → ((n : ℕ) (a : ArgumentForm) → slice_get arguments n ≡ Some a → is_given a.name rows ≡ has given a.name)
    → list_any (is_missing rows) (places i arguments ++ help ∷ []) ≡ not (has_required arguments given)
places_missing i [] rows given are = refl
places_missing i (a ∷ arguments) rows given are =
    rw (are 0 a refl) (missing_if a.is_required (has given a.name) _ (has_required arguments given)
    (places_missing (suc i) arguments rows given (λ n b at. are (suc n) b at)))

pub required_end : (command : CommandForm) (rows : List Row) (given : Given) → are_sound (forms_of command) ≡ true →
    EndsAs (forms_of command) rows given
    → list_any (is_missing rows) (rules_for command) ≡ not (has_required command.arguments given)
required_end command rows given sound ends =
    none_missing command.options rows (places 1 command.arguments ++ help ∷ [])
    ∙ places_missing 1 command.arguments rows given (λ n a at. argument_end rows given a.name a.is_repeated
    (found_end (forms_of command) rows given (text_form a) sound ends (argument_in command sound n a at)))

-- the faults after the last word
pub end_faults : (command : CommandForm) (rows end : List Row) (given : Given) (whole : Bool) → are_sound (forms_of command) ≡ true
    → EndsAs (forms_of command) end given → has_required command.arguments given ≡ whole
    → or_else (defaults_fault rows (rules_for command)) (check_fault (leaf_shape command.name (rules_for command)) end false)
    ≡ (if whole then nothing else MissingRequiredArgument ∷ [])
end_faults command rows end given true sound ends is =
    rw (rules_quiet command.options command.arguments rows sound, required_end command end given sound ends, is) refl
end_faults command rows end given false sound ends is =
    rw (rules_quiet command.options command.arguments rows sound, required_end command end given sound ends, is) refl
