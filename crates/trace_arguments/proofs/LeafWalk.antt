-- The outcome of clap's walk over words, at a command whose flags are at most `-h` or `--help`, and `-V` or `--version`.
use Rattle.std.proofs.Common.{◌≡◌, ◌≢◌, ◌⊎◌, ℕ, ◌==◌, Bool, true, false, List, [], ◌∷◌, length, Option, Some, None, refl, sym, ◌∙◌, inl}
use Rattle.std.proofs.Common.{inr, ap, ap₂, subst, ◌++◌}
use Rattle.std.specs.Prelude.{if◌then◌else◌, slice_get, drop, encode_utf8, codes, fold, is_some, option_map}
use Rattle.std.specs.Str.{bytes_eq, chars}
use Rattle.clap.specs.Lexer.{long_of, name_and_value, short_of}
use Rattle.clap.specs.Walk.{after_flag, after_step, arg_by_index, arg_by_long, arg_by_short, bundle, done, long_met, plain, refused}
use Rattle.clap.specs.Walk.{waits, Held}
use Rattle.clap.specs.Walk.{Names, Outcome, Row, Rule, Step, Text, Waiting, Walk, idle, long_or_other, next, option, short_or_plain}
use Rattle.clap.specs.Walk.{subcommand}
use Rattle.clap.specs.Walk.{positional, trailing, value, walked, walked_from, word_met, finished, settled, subcommand_met, to_positional}
use Rattle.clap.specs.Simple.{Shape, help_rule, new_shape, version_rule}
use Rattle.clap.specs.Kinds.{Kinds, or_else}
use Rattle.clap.proofs.FaultLemmas.{fault_ends}
use Rattle.clap.proofs.WalkLemmas.{bundle_ends}
use Rattle.clap.specs.Faults.{long_fault, short_fault, walk_fault, turn_fault, step_fault, settle_fault, defaults_fault, check_fault}
use Rattle.clap.specs.Faults.{word_fault}
use Rattle.clap.specs.Faults.{flags_fault}
use Rattle.clap.specs.declared.builder.value_parser.ValueParser.TheVariants.{String}
use Rattle.clap.specs.declared.error.kind.ErrorKind.{ErrorKind}
use Rattle.clap.specs.declared.error.kind.ErrorKind.TheVariants.{DisplayHelp, DisplayVersion, TooManyValues, UnknownArgument}
use Rattle.trace_arguments.proofs.WordKinds.{IsPlainWord, IsLongWord, IsShortWord}

-- ---- faults, one after the other

-- there is some fault
abbrev pub Some_of : Kinds → Type 0
Some_of kinds = (kind : ErrorKind) × (others : Kinds) × (kinds ≡ kind ∷ others)

pub in_first : (a b : Kinds) → Some_of a → Some_of (or_else a b)
in_first a b h = rw h.2 (h.0, h.1, refl)

pub in_second : (a b : Kinds) → Some_of b → Some_of (or_else a b)
in_second [] b h = h
in_second (k ∷ ks) b h = (k, ks, refl)

pub or_else-nil : (a : Kinds) → or_else a [] ≡ a
or_else-nil [] = refl
or_else-nil (k ∷ ks) = refl

pub some_fault : (kinds : Kinds) → Some_of kinds → kinds ≢ []
some_fault kinds h = λ e. let bad : h.0 ∷ h.1 ≡ [] = sym h.2 ∙ e in cc bad

-- ---- the walk

abbrev pub walk_at : Waiting → ℕ → Bool → Held → Walk
walk_at waiting position is_trailing h = record {
  held = h;
  waiting = waiting;
  position = position;
  is_trailing =
      is_trailing;
  stopped = None;
}

abbrev pub held : List Row → Option (Text × List Text) → Held
held rows pending = record { rows = rows; pending = pending; skip = 0 }

-- the faults after the last word
abbrev pub end_fault : Shape → Held → Kinds
end_fault s h = or_else (settle_fault s.rules s.args_override_self h)
    (or_else (defaults_fault (settled s.rules h).rows s.rules) (check_fault s (finished s.rules h) false))

abbrev pub end_of : Shape → Walk → List Text → Held
end_of s w words = (fold (walked s.rules []) w words).held

-- the faults from here on, where the next word has those of `turn`
abbrev pub faults_from : Shape → Kinds → Walk → List Text → Kinds
faults_from s turn w words = or_else (or_else turn (walk_fault s [] w words)) (end_fault s (end_of s w words))

-- the words have no fault and give these matches, or there is none and they have a fault
abbrev pub ComesTo : {A : Type 0} → (List Row → A → Type 0) → Shape → Kinds → Walk → List Text → Option A → Type 0
ComesTo Has s turn w words None = faults_from s turn w words ≢ []
ComesTo Has s turn w words (Some found) = (faults_from s turn w words ≡ []) × Has (finished s.rules (end_of s w words)) found

-- what follows from what is found
pub comes_as : {A B : Type 0} (Has : List Row → A → Type 0) (As : List Row → B → Type 0) (f : A → B) (s : Shape)
    (w : Walk) (words : List Text)
    → ((rows : List Row) (found : A) → Has rows found → As rows (f found)) → (found : Option A) → ComesTo Has s [] w words found
    → ComesTo As s [] w words (option_map f found)
comes_as Has As f s w words to None h = h
comes_as Has As f s w words to (Some found) h = (h.0, to _ found h.1)

-- ---- a step

-- a step without a fault
pub step : {A : Type 0} (Has : List Row → A → Type 0) (s : Shape) (w later : Walk) (word : Text) (words : List Text) (found : Option A)
    → turn_fault s [] w word ≡ [] → walked s.rules [] w word ≡ later → ComesTo Has s [] later words found →
    ComesTo Has s [] w (word ∷ words) found
unfolding walk_fault
step {A} Has s w later word words found quiet to h =
    let via : ComesTo Has s (turn_fault s [] w word) (walked s.rules [] w word) words found = rw (quiet, to) h in
    elim found as (λ f. ComesTo Has s (turn_fault s [] w word) (walked s.rules [] w word) words f → ComesTo Has s [] w (word ∷ words) f) [
      | None ↦ λ h. h
      | Some f ↦ λ h. h
    ] via

-- a step with a fault
pub stop : {A : Type 0} (Has : List Row → A → Type 0) (s : Shape) (w : Walk) (word : Text) (words : List Text) →
    Some_of (turn_fault s [] w word)
    → ComesTo Has s [] w (word ∷ words) None
unfolding walk_fault
stop Has s w word words fault = some_fault _ (in_first _ _ (in_first _ _ fault))

-- ---- one word

-- a command without subcommands finds none
pub no_names : (waiting : Waiting) (word : Text) → subcommand_met [] waiting word ≡ None
no_names idle word = refl
no_names (option id) word = refl
no_names positional word = refl

pub plain_turn : (s : Shape) (names : Names) (i : ℕ) (rows : List Row) (pending : Option (Text × List Text)) (word : Text)
    → subcommand_met names idle word ≡ None → IsPlainWord word
    → turn_fault s names (walk_at idle i false (held rows pending)) word ≡ step_fault s i (held rows pending) value
plain_turn s names i rows pending word none h = elim h.short [
  | inl short ↦ rw (none, h.dashes, h.long, short) refl
  | inr short ↦
      let first : None ≡ slice_get (chars short.0) 0 = rw short.2 refl in
      rw (
        none,
        h.dashes,
        h.long,
        short.1,
        ← fault_ends s.rules s.args_override_self (length short.0) short.0 0 (held rows pending)
            first,
        ← bundle_ends s.rules (length short.0) short.0 0 plain (held rows pending) first,
      ) refl
]

pub plain_walked : (s : Shape) (i : ℕ) (rows : List Row) (pending : Option (Text × List Text)) (word : Text) → IsPlainWord word
    → walked s.rules [] (walk_at idle i false (held rows pending)) word
    ≡ to_positional s.rules (arg_by_index s.rules i) word (walk_at idle i false (held rows pending)) (held rows pending)
unfolding walked
plain_walked s i rows pending word h = elim h.short [
  | inl none ↦ rw (h.dashes, h.long, none) refl
  | inr short ↦
      let first : None ≡ slice_get (chars short.0) 0 = rw short.2 refl in
      rw (h.dashes, h.long, short.1, ← bundle_ends s.rules (length short.0) short.0 0 plain (held rows pending) first) refl
]

-- ---- a positional argument that waits for more

-- what waits after a word for an argument: nothing, or an argument that may be given again
abbrev pub waits_at : Bool → Waiting
waits_at true = positional
waits_at false = idle

abbrev with : Walk → Waiting → Walk
with w waiting = record w { waiting = waiting }

-- two walks are the same, or differ in what waits alone
data Alike (a b : Walk) : Type 0 where
  equal_walks : a ≡ b → Alike a b
  apart_walks : (w : Walk) → a ≡ with w positional → b ≡ with w idle → Alike a b

-- the word means the same to both
flag_alike : (rules : List Rule) (word : Text) (h : Held) (o : Outcome)
    → after_flag rules positional word h o ≡ after_flag rules idle word h o
flag_alike rules word h done = refl
flag_alike rules word h (waits id) = refl
flag_alike rules word h plain = refl
flag_alike rules word h refused = refl

other_alike : (rules : List Rule) (word : Text) (long : Option (Text × Option Text)) (h : Held)
    → long_or_other rules positional word long h ≡ long_or_other rules idle word long h
other_alike rules word (Some p) h =
    let met : Held × Outcome = long_met rules (arg_by_long rules p.0) p.1 h in
    flag_alike rules word met.0 met.1
other_alike rules word None h = short_alike (short_of word)
  where
    short_alike : (short : Option Text) → short_or_plain rules positional word short h ≡ short_or_plain rules idle word short h
    short_alike (Some flags) = flag_alike rules word (bundle rules flags h).0 (bundle rules flags h).1
    short_alike None = refl

met_alike : (rules : List Rule) (is_trailing : Bool) (position : ℕ) (word : Text) (h : Held)
    → word_met rules [] is_trailing positional position word h ≡ word_met rules [] is_trailing idle position word h
met_alike rules true position word h = refl
met_alike rules false position word h = go (bytes_eq word (codes "--")) (other_alike rules word (long_of word) h)
  where
    last : Held × Step
    last = (h, trailing position)

    go : (dashes : Bool) → long_or_other rules positional word (long_of word) h ≡ long_or_other rules idle word (long_of word) h
        → (if dashes then last else long_or_other rules positional word (long_of word) h)
        ≡ (if dashes then last else long_or_other rules idle word (long_of word) h)
    go true e = refl
    go false e = e

placed_alike : (rules : List Rule) (found : Option Rule) (word : Text) (w : Walk) (h : Held)
    → Alike (to_positional rules found word (with w positional) h) (to_positional rules found word (with w idle) h)
placed_alike rules None word w h = apart_walks (record w { held = h }) refl refl
placed_alike rules (Some a) word w h = equal_walks refl

step_alike : (rules : List Rule) (word : Text) (w : Walk) (h : Held) (s : Step)
    → Alike (after_step rules word (with w positional) h s) (after_step rules word (with w idle) h s)
step_alike rules word w h (next waiting) = equal_walks refl
step_alike rules word w h (trailing position) = apart_walks (record w { held = h; position = position; is_trailing = true }) refl refl
step_alike rules word w h (subcommand name) = apart_walks (record w { held = h; stopped = Some (name, []) }) refl refl
step_alike rules word w h value = placed_alike rules (arg_by_index rules w.position) word w h

walked_alike : (rules : List Rule) (w : Walk) (word : Text) → Alike (walked rules [] (with w positional) word)
    (walked rules [] (with w idle) word)
unfolding walked
walked_alike rules w word = go w.stopped
  where
    go : (stopped : Option (Text × List Text)) → Alike (walked_from rules [] stopped (with w positional) word)
        (walked_from rules [] stopped (with w idle) word)
    go (Some p) = apart_walks (record w { stopped = Some (p.0, p.1 ++ word ∷ []) }) refl refl
    go None =
        let met : Held × Step = word_met rules [] w.is_trailing idle w.position word w.held in
        subst (λ (m : Held × Step). Alike (after_step rules word (with w positional) m.0 m.1)
        (after_step rules word (with w idle) met.0 met.1))
        (sym (met_alike rules w.is_trailing w.position word w.held)) (step_alike rules word w met.0 met.1)

turn_alike : (s : Shape) (w : Walk) (word : Text) → turn_fault s [] (with w positional) word ≡ turn_fault s [] (with w idle) word
turn_alike s w word =
    ap (λ (m : Held × Step). if is_some w.stopped then none
    else or_else (word_fault s [] w.is_trailing idle word w.held) (step_fault s w.position m.0 m.1))
    (met_alike s.rules w.is_trailing w.position word w.held)
  where
    none : Kinds
    none = []

-- all further words mean the same to both
words_alike : (s : Shape) (a b : Walk) (words : List Text) → Alike a b → (walk_fault s [] a words ≡ walk_fault s [] b words)
    × (end_of s a words ≡ end_of s b words)
unfolding walk_fault
words_alike s a b words (equal_walks is) = (ap (λ (w : Walk). walk_fault s [] w words) is, ap (λ (w : Walk). end_of s w words) is)
words_alike s a b [] (apart_walks w is other) = (refl, ap (λ (w : Walk). w.held) is ∙ sym (ap (λ (w : Walk). w.held) other))
words_alike s a b (word ∷ words) (apart_walks w is other) =
    let later = words_alike s (walked s.rules [] (with w positional) word) (walked s.rules [] (with w idle) word) words
    (walked_alike s.rules w word) in (
      ap (λ (v : Walk). walk_fault s [] v (word ∷ words)) is ∙ ap₂ or_else (turn_alike s w word) later.0
          ∙ sym (ap (λ (v : Walk). walk_fault s [] v (word ∷ words)) other),
      ap (λ (v : Walk). end_of s v (word ∷ words)) is ∙ later.1 ∙ sym (ap (λ (v : Walk). end_of s v (word ∷ words)) other),
    )

-- an argument that may be given again waits for what nothing else waits for
pub waits_for_any : {A : Type 0} (Has : List Row → A → Type 0) (s : Shape) (again : Bool) (i : ℕ) (is_trailing : Bool) (h : Held)
    (words : List Text) (found : Option A) → ComesTo Has s [] (walk_at idle i is_trailing h) words found
    → ComesTo Has s [] (walk_at (waits_at again) i is_trailing h) words found
waits_for_any Has s false i is_trailing h words found comes = comes
waits_for_any {A} Has s true i is_trailing h words found comes =
    let alike = words_alike s (walk_at positional i is_trailing h) (walk_at idle i is_trailing h) words
    (apart_walks (walk_at idle i is_trailing h) refl refl) in
    go found (ap₂ (λ (faults : Kinds) (end : Held). or_else faults (end_fault s end)) alike.0 alike.1) alike.1 comes
  where
    go : (found : Option A) → faults_from s [] (walk_at positional i is_trailing h) words
        ≡ faults_from s [] (walk_at idle i is_trailing h) words
        → end_of s (walk_at positional i is_trailing h) words ≡ end_of s (walk_at idle i is_trailing h) words
        → ComesTo Has s [] (walk_at idle i is_trailing h) words found
        → ComesTo Has s [] (walk_at positional i is_trailing h) words found
    go None faults ends comes = λ none. comes (sym faults ∙ none)
    go (Some it) faults ends comes = (faults ∙ comes.0, subst (λ (end : Held). Has (finished s.rules end) it) (sym ends) comes.1)

-- ---- a command that is built

abbrev pub leaf_shape : Text → List Rule → Shape
leaf_shape name rules = record (new_shape name) { rules = rules; disable_help_subcommand = true; is_built = true }

-- ---- help, the version, and options that aren't there

abbrev pub help : Rule
help = record help_rule { parser = Some String; range = Some (record { start_inclusive = 0; end_inclusive = 0 }) }

abbrev pub version : Rule
version = record version_rule { parser = Some String; range = Some (record { start_inclusive = 0; end_inclusive = 0 }) }

-- what is found is answered with a text, or nothing is found
abbrev pub IsToldOrNone : Option Rule → Type 0
IsToldOrNone found = (found ≡ Some help) ⊎ ((found ≡ Some version) ⊎ (found ≡ None))

help_long_if : (name : Text) (same : Bool) → bytes_eq (codes "help") name ≡ same → IsToldOrNone (arg_by_long (help ∷ []) name)
help_long_if name true e = inl (rw e refl)
help_long_if name false e = inr (inr (rw e refl))

pub help_long : (name : Text) → IsToldOrNone (arg_by_long (help ∷ []) name)
help_long name = help_long_if name (bytes_eq (codes "help") name) refl

help_short_if : (x : ℕ) (same : Bool) → (104 == x) ≡ same → IsToldOrNone (arg_by_short (help ∷ []) x)
help_short_if x true e = inl (rw e refl)
help_short_if x false e = inr (inr (rw e refl))

pub help_short : (x : ℕ) → IsToldOrNone (arg_by_short (help ∷ []) x)
help_short x = help_short_if x (104 == x) refl

-- in addition to help, the program has the version
told_long_if : (name : Text) (help_is version_is : Bool) → bytes_eq (codes "help") name ≡ help_is →
    bytes_eq (codes "version") name ≡ version_is
    → IsToldOrNone (arg_by_long (help ∷ version ∷ []) name)
told_long_if name true is e f = inl (rw e refl)
told_long_if name false true e f = inr (inl (rw (e, f) refl))
told_long_if name false false e f = inr (inr (rw (e, f) refl))

pub told_long : (name : Text) → IsToldOrNone (arg_by_long (help ∷ version ∷ []) name)
told_long name = told_long_if name (bytes_eq (codes "help") name) (bytes_eq (codes "version") name) refl refl

told_short_if : (x : ℕ) (help_is version_is : Bool) → (104 == x) ≡ help_is → (86 == x) ≡ version_is →
    IsToldOrNone (arg_by_short (help ∷ version ∷ []) x)
told_short_if x true is e f = inl (rw e refl)
told_short_if x false true e f = inr (inl (rw (e, f) refl))
told_short_if x false false e f = inr (inr (rw (e, f) refl))

pub told_short : (x : ℕ) → IsToldOrNone (arg_by_short (help ∷ version ∷ []) x)
told_short x = told_short_if x (104 == x) (86 == x) refl refl

help_fault : (s : Shape) (given : Option Text) (h : Held) → Some_of (long_fault s.rules s.args_override_self (Some help) given h)
help_fault s None h = in_second _ _ (DisplayHelp, [], refl)
help_fault s (Some text) h = (TooManyValues, [], refl)

version_fault : (s : Shape) (given : Option Text) (h : Held) → Some_of (long_fault s.rules s.args_override_self (Some version) given h)
version_fault s None h = in_second _ _ (DisplayVersion, [], refl)
version_fault s (Some text) h = (TooManyValues, [], refl)

pub long_is_fault : (s : Shape) (found : Option Rule) (given : Option Text) (h : Held) → IsToldOrNone found
    → Some_of (long_fault s.rules s.args_override_self found given h)
long_is_fault s found given h (inl is) = rw is (help_fault s given h)
long_is_fault s found given h (inr (inl is)) = rw is (version_fault s given h)
long_is_fault s found given h (inr (inr is)) = rw is (UnknownArgument, [], refl)

-- a long word that is a fault by itself
pub long_turn : (s : Shape) (names : Names) (waiting : Waiting) (i : ℕ) (h : Held) (word : Text) → subcommand_met names waiting word
    ≡ None → (l : IsLongWord word)
    → Some_of (long_fault s.rules s.args_override_self (arg_by_long s.rules (name_and_value l.body).0) (name_and_value l.body).1 h)
    → Some_of (turn_fault s names (walk_at waiting i false h) word)
long_turn s names waiting i h word none l fault = rw (none, l.dashes, l.long) (in_first _ _ fault)

short_is_fault : (s : Shape) (found : Option Rule) (rest : Text) (h : Held) (others : Held → Kinds) → IsToldOrNone found
    → Some_of (short_fault s.rules s.args_override_self found rest h others)
short_is_fault s found rest h others (inl is) = rw is (in_first _ _ (in_second _ _ (DisplayHelp, [], refl)))
short_is_fault s found rest h others (inr (inl is)) = rw is (in_first _ _ (in_second _ _ (DisplayVersion, [], refl)))
short_is_fault s found rest h others (inr (inr is)) = rw is (UnknownArgument, [], refl)

-- no short flag but help's and the version's
abbrev pub HasNoOtherShort : Shape → Type 0
HasNoOtherShort s = (x : ℕ) → IsToldOrNone (arg_by_short s.rules x)

flags_are_fault : (s : Shape) → HasNoOtherShort s → (flags : Text) (h : Held) (x : ℕ) (xs : Text) → chars flags ≡ x ∷ xs
    → Some_of (flags_fault s.rules s.args_override_self (length flags) flags 0 h)
unfolding flags_fault chars
flags_are_fault s alone [] h x xs e = absurd (cc e)
flags_are_fault s alone (b ∷ rest) h x xs e =
    rw e (short_is_fault s (arg_by_short s.rules x) (drop (length (encode_utf8 x)) (b ∷ rest)) h _ (alone x))

pub short_turn : (s : Shape) (names : Names) (waiting : Waiting) (i : ℕ) (rows : List Row) (pending : Option (Text × List Text))
    (word : Text)
    → subcommand_met names waiting word ≡ None → HasNoOtherShort s → IsShortWord word →
    Some_of (turn_fault s names (walk_at waiting i false (held rows pending)) word)
short_turn s names waiting i rows pending word none alone is =
    rw (none, is.dashes, is.long, is.short)
    (in_first _ _ (flags_are_fault s alone is.flags (held rows pending) is.first is.others is.chars_are))
