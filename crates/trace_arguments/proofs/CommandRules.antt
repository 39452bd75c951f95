-- The parser's rules of a command: of its options, of its arguments by their places, and of help.
use Rattle.std.proofs.Common.{◌≡◌, ◌∙◌, ◌&&◌, ◌+◌, ◌==◌, ℕ, Bool, cond, true, false, not, List, [], ◌∷◌, ◌++◌, map}
use Rattle.std.proofs.Common.{Option, Some, None, refl}
use Rattle.std.proofs.Common.{length, zero, suc, ap, arith, subst, sym}
use Rattle.std.specs.Prelude.{find, is_some, nat_lt, option_map, slice_get}
use Rattle.std.specs.Option.{option_map_or, option_or}
use Rattle.std.specs.Str.{bytes_eq}
use Rattle.std.proofs.lemmas.Bool.{eq-eqb, ne_eqb}
use Rattle.std.proofs.lemmas.List.Folds.{find-append}
use Rattle.std.proofs.lemmas.Option.{slice_get-map}
use Rattle.std.proofs.lemmas.Slice.Eq.{bytes_eq-Decides}
use Rattle.clap.specs.Simple.{new_rule}
use Rattle.clap.specs.Walk.{Rule, Text, arg_by_id, arg_by_index, arg_by_long, arg_by_short}
use Rattle.clap.specs.declared.builder.value_parser.ValueParser.TheVariants.{String}
use Rattle.clap.proofs.WalkLemmas.{both}
use Rattle.trace_arguments.specs.Given.{CommandForm, option_named}
use Rattle.trace_forms.specs.Forms.{ArgumentForm, OptionForm}
use Rattle.trace_arguments.specs.inner.Parser.{forms_of, text_form, texts_wanted}
use Rattle.trace_arguments.proofs.Named.{find_made, or_false, same_name}
use Rattle.trace_arguments.proofs.LeafWalk.{IsToldOrNone, help, help_long}
use Rattle.trace_arguments.proofs.OptionRules.{action_by, are_sound, built_rule, is_sound}

-- an argument as it is built
abbrev pub place_by : Text → Bool → Bool → ℕ → Rule
place_by name is_required is_repeated i = record (new_rule name) {
  required = is_required;
  action = Some (action_by (texts_wanted is_repeated));
  parser = Some String;
  range = Some (record { start_inclusive = 1; end_inclusive = 1 });
  index = Some i;
}

abbrev pub place : ArgumentForm → ℕ → Rule
place argument i = place_by argument.name argument.is_required argument.is_repeated i

abbrev pub places : ℕ → List ArgumentForm → List Rule
places i [] = []
places i (argument ∷ arguments) = place argument i ∷ places (suc i) arguments

abbrev pub rules_for : CommandForm → List Rule
rules_for command = map built_rule command.options ++ (places 1 command.arguments ++ help ∷ [])

abbrev pub is_few : CommandForm → Bool
is_few command = nat_lt (length command.arguments) 256

-- ---- a search among them

-- that passes over the options
pass_options : (test : Rule → Bool) → ((o : OptionForm) → test (built_rule o) ≡ false) → (options : List OptionForm) (rest : List Rule)
    → find test (map built_rule options ++ rest) ≡ find test rest
pass_options test none [] rest = refl
pass_options test none (o ∷ options) rest = rw (none o) (pass_options test none options rest)

-- that passes over the arguments
pass_places : (test : Rule → Bool) → ((a : ArgumentForm) (i : ℕ) → test (place a i) ≡ false) → (i : ℕ) (arguments : List ArgumentForm)
    (rest : List Rule)
    → find test (places i arguments ++ rest) ≡ find test rest
pass_places test none i [] rest = refl
pass_places test none i (a ∷ arguments) rest = rw (none a i) (pass_places test none (suc i) arguments rest)

pub by_short : (command : CommandForm) (x : ℕ) → arg_by_short (rules_for command) x ≡ arg_by_short (help ∷ []) x
by_short command x = pass_options _ (λ o. refl) command.options _ ∙ pass_places _ (λ a i. refl) 1 command.arguments _

long_named : (command : CommandForm) (name : Text) → arg_by_long (rules_for command) name
    ≡ option_or (option_map built_rule (option_named command.options name)) (arg_by_long (help ∷ []) name)
long_named command name =
    find_made built_rule _ (λ o. bytes_eq o.name name) (λ o. or_false (bytes_eq o.name name)) command.options _
    ∙ ap (option_or (option_map built_rule (option_named command.options name))) (pass_places _ (λ a i. refl) 1 command.arguments
    (help ∷ []))

pub by_long : (command : CommandForm) (name : Text) (o : OptionForm) → option_named command.options name ≡ Some o
    → arg_by_long (rules_for command) name ≡ Some (built_rule o)
by_long command name o is = long_named command name ∙ rw is refl

pub no_long : (command : CommandForm) (name : Text) → option_named command.options name ≡ None →
    IsToldOrNone (arg_by_long (rules_for command) name)
no_long command name none =
    let same : arg_by_long (rules_for command) name ≡ arg_by_long (help ∷ []) name = long_named command name ∙ rw none refl in
    rw same (help_long name)

pub by_option : (command : CommandForm) (name : Text) (o : OptionForm) → option_named command.options name ≡ Some o
    → arg_by_id (rules_for command) name ≡ Some (built_rule o)
by_option command name o is = find_made built_rule _ (λ o. bytes_eq o.name name) (λ o. refl) command.options _ ∙ rw is refl

-- ---- by their places

abbrev at_index : ℕ → Rule → Bool
at_index k a = option_map_or (λ (j : ℕ). j == k) a.index false

other_place : (n i : ℕ) → (i == (suc n + i)) ≡ false
other_place n i = ne_eqb i (suc n + i) (λ (e : i ≡ suc n + i). absurd (omega arith))

nth_place : (n i : ℕ) (arguments : List ArgumentForm) → find (at_index (n + i)) (places i arguments ++ help ∷ [])
    ≡ option_map (λ a. place a (n + i)) (slice_get arguments n)
nth_place n i [] = refl
nth_place zero i (a ∷ arguments) =
    let first : i ≡ 0 + i = omega arith in
    subst (λ (k : ℕ). find (at_index k) (places i (a ∷ arguments) ++ help ∷ []) ≡ Some (place a k)) first (rw (eq-eqb i i refl) refl)
nth_place (suc n) i (a ∷ arguments) =
    let next : n + suc i ≡ suc n + i = omega arith in
    rw (other_place n i) (subst (λ (k : ℕ). find (at_index k) (places (suc i) arguments ++ help ∷ [])
    ≡ option_map (λ a. place a k) (slice_get arguments n)) next (nth_place n (suc i) arguments))

-- the argument after n others
pub by_index : (command : CommandForm) (n : ℕ) → arg_by_index (rules_for command) (n + 1)
    ≡ option_map (λ a. place a (n + 1)) (slice_get command.arguments n)
by_index command n = pass_options _ (λ o. refl) command.options _ ∙ nth_place n 1 command.arguments

-- ---- by their names

-- no option has the name of an argument
apart : (options others : List OptionForm) (name : Text) → are_sound (options ++ others) ≡ true →
    is_some (option_named others name) ≡ true → option_named options name ≡ None
apart [] others name sound is = refl
apart (o ∷ options) others name sound is =
    let here = both (is_sound o.wants) (not (is_some (option_named (options ++ others) o.name)) && are_sound (options ++ others)) sound in
    let rest = both (not (is_some (option_named (options ++ others) o.name))) (are_sound (options ++ others)) here.1 in
    go (bytes_eq o.name name) refl rest.0 (apart options others name rest.1 is)
  where
    go : (same : Bool) → bytes_eq o.name name ≡ same → not (is_some (option_named (options ++ others) o.name)) ≡ true →
        option_named options name ≡ None
        → cond same (Some o) (option_named options name) ≡ None
    go true e alone none =
        let named : o.name ≡ name = (bytes_eq-Decides o.name name).0 e in
        let whole : option_named (options ++ others) o.name ≡ option_named others name =
        ap (option_named (options ++ others)) named ∙ find-append (λ (x : OptionForm). bytes_eq x.name name) options others
        ∙ rw none refl in
        let bad : not (is_some (option_named others name)) ≡ true = sym (ap (λ (x : Option OptionForm). not (is_some x)) whole) ∙ alone in
        absurd (cc (rw is at bad))
    go false e alone none = none

sound_rest : (options others : List OptionForm) → are_sound (options ++ others) ≡ true → are_sound others ≡ true
sound_rest [] others sound = sound
sound_rest (o ∷ options) others sound =
    let here = both (is_sound o.wants) (not (is_some (option_named (options ++ others) o.name)) && are_sound (options ++ others)) sound in
    let rest = both (not (is_some (option_named (options ++ others) o.name))) (are_sound (options ++ others)) here.1 in
    sound_rest options others rest.1

-- an option of a sound list is found by its name
pub found_at : (forms : List OptionForm) (n : ℕ) (o : OptionForm) → are_sound forms ≡ true → slice_get forms n ≡ Some o →
    option_named forms o.name ≡ Some o
found_at [] n o sound is = absurd (cc is)
found_at (p ∷ forms) zero o sound is =
    let it : p ≡ o = cc is in
    rw (← it, same_name p.name) refl
found_at (p ∷ forms) (suc n) o sound is =
    let here = both (is_sound p.wants) (not (is_some (option_named forms p.name)) && are_sound forms) sound in
    let rest = both (not (is_some (option_named forms p.name))) (are_sound forms) here.1 in
    let later : option_named forms o.name ≡ Some o = found_at forms n o rest.1 is in
    go (bytes_eq p.name o.name) refl later rest.0
  where
    go : (same : Bool) → bytes_eq p.name o.name ≡ same → option_named forms o.name ≡ Some o →
        not (is_some (option_named forms p.name)) ≡ true
        → cond same (Some p) (option_named forms o.name) ≡ Some o
    go true e later alone =
        let named : p.name ≡ o.name = (bytes_eq-Decides p.name o.name).0 e in
        let there : option_named forms p.name ≡ Some o = ap (option_named forms) named ∙ later in
        absurd (cc (rw there at alone))
    go false e later alone = later

-- an argument's name is no other's, and the others are sound
pub rest_sound : (b : ArgumentForm) (forms : List OptionForm) → are_sound (text_form b ∷ forms) ≡ true
    → (not (is_some (option_named forms b.name)) ≡ true) × (are_sound forms ≡ true)
rest_sound b forms sound =
    let here = both (is_sound (text_form b).wants) (not (is_some (option_named forms b.name)) && are_sound forms) sound in
    both (not (is_some (option_named forms b.name))) (are_sound forms) here.1

-- the rule of an argument is found by its name
place_at : (i n : ℕ) (arguments : List ArgumentForm) (a : ArgumentForm) (rest : List Rule)
    → are_sound (map text_form arguments) ≡ true → slice_get arguments n ≡ Some a
    → (j : ℕ) × (find (λ r. bytes_eq r.id a.name) (places i arguments ++ rest) ≡ Some (place a j))
place_at i n [] a rest sound is = absurd (cc is)
place_at i zero (b ∷ arguments) a rest sound is =
    let it : b ≡ a = cc is in
    (i, rw (← it, same_name b.name) refl)
place_at i (suc n) (b ∷ arguments) a rest sound is =
    let forms : List OptionForm = map text_form arguments in
    let later : are_sound forms ≡ true = (rest_sound b forms sound).1 in
    let alone = (rest_sound b forms sound).0 in
    let there : option_named forms a.name ≡ Some (text_form a) =
    found_at forms n (text_form a) later (slice_get-map text_form arguments n ∙ ap (option_map text_form) is) in
    go (bytes_eq b.name a.name) refl there alone (place_at (suc i) n arguments a rest later is)
  where
    go : (same : Bool) → bytes_eq b.name a.name ≡ same → option_named (map text_form arguments) a.name ≡ Some (text_form a)
        → not (is_some (option_named (map text_form arguments) b.name)) ≡ true
        → (j : ℕ) × (find (λ r. bytes_eq r.id a.name) (places (suc i) arguments ++ rest) ≡ Some (place a j))
        → (j : ℕ) × (cond same (Some (place b i)) (find (λ r. bytes_eq r.id a.name) (places (suc i) arguments ++ rest)) ≡ Some (place a j))
    go true e there alone found =
        let same : option_named (map text_form arguments) b.name ≡ Some (text_form a) =
        ap (option_named (map text_form arguments)) ((bytes_eq-Decides b.name a.name).0 e) ∙ there in
        absurd (cc (rw same at alone))
    go false e there alone found = found

module _ (command : CommandForm) (sound : are_sound (forms_of command) ≡ true) where
  -- an option of a command is one of its forms
  pub option_in : (name : Text) (o : OptionForm) → option_named command.options name ≡ Some o
      → option_named (forms_of command) name ≡ Some o
  option_in name o is = find-append (λ (x : OptionForm). bytes_eq x.name name) command.options (map text_form command.arguments)
      ∙ rw is refl

  pub arguments_sound : are_sound (map text_form command.arguments) ≡ true
  arguments_sound = sound_rest command.options (map text_form command.arguments) sound

  module _ (n : ℕ) (a : ArgumentForm) (at : slice_get command.arguments n ≡ Some a) where
    form_at : slice_get (map text_form command.arguments) n ≡ Some (text_form a)
    form_at = slice_get-map text_form command.arguments n ∙ ap (option_map text_form) at

    named : option_named (map text_form command.arguments) a.name ≡ Some (text_form a)
    named = found_at (map text_form command.arguments) n (text_form a) arguments_sound form_at

    no_option : option_named command.options a.name ≡ None
    no_option = apart command.options (map text_form command.arguments) a.name sound (ap is_some named)

    -- an argument of a command is one of its forms
    pub argument_in : option_named (forms_of command) a.name ≡ Some (text_form a)
    argument_in = find-append (λ (x : OptionForm). bytes_eq x.name a.name) command.options (map text_form command.arguments)
        ∙ rw (no_option, named) refl

    -- an option has another name
    pub other_option : (o : OptionForm) → option_named command.options o.name ≡ Some o → bytes_eq o.name a.name ≡ false
    other_option o is = go (bytes_eq o.name a.name) refl
      where
        go : (same : Bool) → bytes_eq o.name a.name ≡ same → bytes_eq o.name a.name ≡ false
        go true e =
            let there : Some o ≡ None = sym is ∙ ap (option_named command.options) ((bytes_eq-Decides o.name a.name).0 e) ∙ no_option in
            absurd (cc there)
        go false e = e

    pub by_place : (i : ℕ) × (arg_by_id (rules_for command) a.name ≡ Some (place a i))
    by_place =
        let found = place_at 1 n command.arguments a (help ∷ []) arguments_sound at in (
          found.0,
          find_made built_rule _ (λ o. bytes_eq o.name a.name) (λ o. refl) command.options _ ∙ rw no_option found.1,
        )
