-- The outcome of clap's walk over the words after a command.
use Rattle.std.proofs.Common.{◌≡◌, ◌∙◌, ◌+◌, ◌<◌, ◌≤◌, ◌++◌, ◌||◌, ℕ, Bool, true, false, not, List, [], ◌∷◌, Option, Some, None}
use Rattle.std.proofs.Common.{length, refl, ap, ap₂}
use Rattle.std.proofs.Common.{add-one, arith, subst, sym, inl, inr}
use Rattle.std.proofs.Math.Bool.{and-false}
use Rattle.std.proofs.Math.Nat.{min-eq_left}
use Rattle.std.proofs.lemmas.Bool.{ltb-true}
use Rattle.std.proofs.lemmas.Option.{slice_get_within}
use Rattle.std.specs.Prelude.{codes, fold, if◌then◌else◌, min, option_and_then, option_map, slice_get, unwrap_or}
use Rattle.std.specs.Option.{option_map_or}
use Rattle.std.specs.Str.{chars}
use Rattle.clap.specs.Lexer.{name_and_value, usize_max}
use Rattle.clap.specs.Kinds.{Kinds, or_else}
use Rattle.clap.specs.Walk.{Held, Row, Rule, Text, Waiting, Walk, arg_by_index, arg_by_long, finished, idle, is_pending}
use Rattle.clap.specs.Walk.{nothing_held, option, plain, reacted, settled, pushed, takes_values, to_positional}
use Rattle.clap.specs.Walk.{used, value, walked, with_default}
use Rattle.clap.specs.Simple.{Shape}
use Rattle.clap.proofs.FaultLemmas.{fault_ends}
use Rattle.clap.proofs.WalkLemmas.{bundle_ends}
use Rattle.clap.specs.Faults.{check_fault, defaults_fault, long_fault, option_fault}
use Rattle.clap.specs.Faults.{positional_fault, settle_fault, step_fault, stray_fault}
use Rattle.clap.specs.Faults.{turn_fault, use_fault, walk_fault}
use Rattle.clap.specs.declared.error.kind.ErrorKind.TheVariants.{InvalidValue, MissingRequiredArgument, TooManyValues, UnknownArgument}
use Rattle.trace_arguments.specs.Given.{CommandForm, Given, arguments_by, given_by, has, has_required, is_option, is_wanted, may_come}
use Rattle.trace_arguments.specs.Given.{one_argument, one_more, option_named}
use Rattle.trace_forms.specs.Forms.{ArgumentForm, OptionForm, Wants, many_texts, no_text, one_number, one_text}
use Rattle.trace_arguments.specs.inner.Parser.{forms_of, text_form, texts_wanted}
use Rattle.trace_arguments.proofs.Named.{found_name, or_false, same_name}
use Rattle.trace_arguments.proofs.WordKinds.{IsLongWord, IsPlainWord, IsShortWord, is_dashes, is_long, is_plain, is_short, kind_of_word}
use Rattle.trace_arguments.proofs.LeafWalk.{ComesTo, Some_of, held, help_short, in_first, leaf_shape, long_is_fault, long_turn}
use Rattle.trace_arguments.proofs.LeafWalk.{no_names, or_else-nil, plain_turn, plain_walked, short_turn, step, stop, some_fault}
use Rattle.trace_arguments.proofs.LeafWalk.{waits_at, waits_for_any}
use Rattle.trace_arguments.proofs.LeafWalk.{walk_at}
use Rattle.trace_arguments.proofs.GivenWords.{alone_first, given_after, joined_first, name_first, plain_first, short_first, unknown_first}
use Rattle.trace_arguments.proofs.CommandEnds.{EndsAs, command_end, end_faults}
use Rattle.trace_arguments.proofs.CommandRules.{argument_in, by_index, by_long, by_option, by_place, by_short}
use Rattle.trace_arguments.proofs.CommandRules.{is_few, no_long, option_in, place, place_by}
use Rattle.trace_arguments.proofs.CommandRules.{arguments_sound, other_option, rules_for}
use Rattle.trace_arguments.proofs.NextArgument.{AreFirst, first_kept, first_more, next_is, next_open, none_first, place_after}
use Rattle.trace_arguments.proofs.OptionRules.{Are, are_sound, bad, built_rule, count_by, good, more_given, none_are}
use Rattle.trace_arguments.proofs.OptionRules.{one_more_if, said_values}
use Rattle.trace_arguments.proofs.OptionRules.{use_of}

-- the option's name was read, with these values
abbrev named : Text → List Text → Option (Text × List Text)
named name values = Some (name, values)

-- an option that needs a text has one value, and another one none
one_value : (wants : Wants) → is_wanted wants None ≡ false → count_by wants ≡ 1
one_value (one_number n) e = refl
one_value one_text e = refl
one_value many_texts e = refl
one_value no_text e = absurd (cc e)

no_value : (wants : Wants) → is_wanted wants None ≡ true → count_by wants ≡ 0
no_value (one_number n) e = absurd (cc e)
no_value one_text e = absurd (cc e)
no_value many_texts e = absurd (cc e)
no_value no_text e = refl

not_wanted : (wants : Wants) (text : Text) → is_wanted wants None ≡ true → is_wanted wants (Some text) ≡ false
not_wanted (one_number n) text e = absurd (cc e)
not_wanted one_text text e = absurd (cc e)
not_wanted many_texts text e = absurd (cc e)
not_wanted no_text text e = refl

-- what is given, if it has what is required
abbrev pub checked : CommandForm → Option Given → Option Given
checked command found =
    option_and_then (λ given. if has_required command.arguments given then Some given else None) found

-- the rows at the end are those of what is given, and what is required is
abbrev pub HasGiven : CommandForm → List Row → Given → Type 0
HasGiven command rows given = EndsAs (forms_of command) rows given × (has_required command.arguments given ≡ true)

-- ---- a command whose options and arguments have different names
module _ (command : CommandForm) (sound : are_sound (forms_of command) ≡ true) (few : is_few command ≡ true) where
  abbrev options : List OptionForm
  options = command.options

  abbrev arguments : List ArgumentForm
  arguments = command.arguments

  abbrev rules : List Rule
  rules = rules_for command

  abbrev shape : Shape
  shape = leaf_shape command.name rules

  abbrev Has : List Row → Given → Type 0
  Has = HasGiven command

  abbrev Comes : Walk → List Text → Option Given → Type 0
  Comes w words found = ComesTo Has shape [] w words (checked command found)

  -- where the walk is after n arguments
  abbrev stands : Waiting → ℕ → Bool → Held → Walk
  stands waiting n is_trailing h = walk_at waiting (n + 1) is_trailing h

  -- ---- a fault that no further words mend

  abbrev IsBad : Held → Type 0
  IsBad h = Some_of (settle_fault rules false h)

  bad_option : (a : Rule) (given : Option Text) (h : Held) → IsBad h → Some_of (option_fault rules false a given h)
  bad_option a None h fault = fault
  bad_option a (Some text) h fault = in_first _ _ fault

  bad_flag : (a : Rule) (given : Option Text) (h : Held) (takes : Bool) → takes_values a ≡ takes → IsBad h →
      Some_of (long_fault rules false (Some a) given h)
  bad_flag a given h true e fault = rw e (bad_option a given h fault)
  bad_flag a None h false e fault = rw e (in_first _ _ fault)
  bad_flag a (Some text) h false e fault = rw e (TooManyValues, [], refl)

  bad_found : (found : Option Rule) (given : Option Text) (h : Held) → IsBad h → Some_of (long_fault rules false found given h)
  bad_found None given h fault = (UnknownArgument, [], refl)
  bad_found (Some a) given h fault = bad_flag a given h (takes_values a) refl fault

  bad_long : (waiting : Waiting) (n : ℕ) (h : Held) (word : Text) → IsLongWord word → IsBad h →
      Some_of (turn_fault shape [] (stands waiting n false h) word)
  bad_long waiting n h word l fault =
      long_turn shape [] waiting (n + 1) h word (no_names waiting word) l (bad_found (arg_by_long rules (name_and_value l.body).0)
      (name_and_value l.body).1 h fault)

  bad_end : (waiting : Waiting) (n : ℕ) (is_trailing : Bool) (h : Held) → IsBad h → Comes (stands waiting n is_trailing h) [] None
  unfolding walk_fault
  bad_end waiting n is_trailing h fault = some_fault _ (in_first _ _ fault)

  -- what a word for an argument finds pending is used first
  settles_first : (h : Held) (a : ArgumentForm) (i : ℕ) → positional_fault rules false (place a i) h ≡ settle_fault rules false h
  settles_first h a i = rw (and-false (is_pending (place a i) h.pending)) refl

  -- a word for an argument, or one too many
  abbrev placed_fault : Held → Option ArgumentForm → Kinds
  placed_fault h None = stray_fault shape
  placed_fault h (Some a) = settle_fault rules false h

  placed : (n : ℕ) (h : Held) → step_fault shape (n + 1) h value ≡ placed_fault h (slice_get arguments n)
  placed n h = rw (by_index command n) (go (slice_get arguments n))
    where
      go : (o : Option ArgumentForm) → option_map_or (λ a. positional_fault rules false a h) (option_map (λ a. place a (n + 1)) o)
          (stray_fault shape)
          ≡ placed_fault h o
      go None = refl
      go (Some a) = settles_first h a (n + 1)

  bad_placed : (n : ℕ) (h : Held) → IsBad h → Some_of (step_fault shape (n + 1) h value)
  bad_placed n h fault = subst Some_of (sym (placed n h)) (go (slice_get arguments n))
    where
      go : (o : Option ArgumentForm) → Some_of (placed_fault h o)
      go None = (UnknownArgument, [], refl)
      go (Some a) = fault

  bad_escaped : (waiting : Waiting) (n : ℕ) (h : Held) (words : List Text) → IsBad h → Comes (stands waiting n true h) words None
  bad_escaped waiting n h [] fault = bad_end waiting n true h fault
  bad_escaped waiting n h (word ∷ words) fault = stop Has shape (stands waiting n true h) word words (bad_placed n h fault)

  dashes_walked : (waiting : Waiting) (n : ℕ) (h : Held)
      → walked rules [] (stands waiting n false h) (codes "--") ≡ stands waiting n true h
  unfolding walked
  dashes_walked waiting n h = rw (no_names waiting (codes "--")) refl

  dashes_quiet : (waiting : Waiting) (n : ℕ) (h : Held) → turn_fault shape [] (stands waiting n false h) (codes "--") ≡ []
  dashes_quiet waiting n h = rw (no_names waiting (codes "--")) refl

  bad_dashes : (waiting : Waiting) (n : ℕ) (h : Held) (words : List Text) → IsBad h
      → Comes (stands waiting n false h) (codes "--" ∷ words) None
  bad_dashes waiting n h words fault = step Has shape (stands waiting n false h) (stands waiting n true h) (codes "--") words None
      (dashes_quiet waiting n h) (dashes_walked waiting n h) (bad_escaped waiting n h words fault)

  flags_turn : (waiting : Waiting) (n : ℕ) (rows : List Row) (p : Option (Text × List Text)) (word : Text) → IsShortWord word
      → Some_of (turn_fault shape [] (stands waiting n false (held rows p)) word)
  flags_turn waiting n rows p word is = short_turn shape [] waiting (n + 1) rows p word (no_names waiting word)
      (λ x. rw (by_short command x) (help_short x)) is

  bad_idle : (n : ℕ) (rows : List Row) (p : Option (Text × List Text)) (words : List Text) → IsBad (held rows p) →
      Comes (stands idle n false (held rows p)) words None
  bad_idle n rows p [] fault = bad_end idle n false (held rows p) fault
  bad_idle n rows p (word ∷ words) fault =
      let w = stands idle n false (held rows p) in
      elim (kind_of_word word) [
        | is_dashes e ↦ rw e (bad_dashes idle n (held rows p) words fault)
        | is_long o l ↦ stop Has shape w word words (bad_long idle n (held rows p) word l fault)
        | is_short o s ↦ stop Has shape w word words (flags_turn idle n rows p word s)
        | is_plain o h ↦ stop Has shape w word words
            (subst Some_of (sym (plain_turn shape [] (n + 1) rows p word refl h)) (bad_placed n (held rows p) fault))
      ]

  -- ---- between two options or arguments

  -- what is held is what is given, of which n are arguments
  record Holds (given : Given) (n : ℕ) (h : Held) : Type 0 where
    rows : List Row
    quiet : settle_fault rules false h ≡ []
    settles : settled rules h ≡ held rows None
    are : Are (forms_of command) rows given
    first : AreFirst given n arguments

  -- the outcome of the words, between two options and after a name
  record Walks (words : List Text) : Type 0 where
    between : (given : Given) (n : ℕ) (rows : List Row) (p : Option (Text × List Text)) → Holds given n (held rows p)
        → Comes (stands idle n false (held rows p)) words (given_by command given None words)
    behind : (given : Given) (n : ℕ) (o : OptionForm) (rows : List Row) → option_named options o.name ≡ Some o
        → is_wanted o.wants None ≡ false → Are (forms_of command) rows given → AreFirst given n arguments
        → Comes (stands (option o.name) n false (held rows (named o.name []))) words (given_by command given (Some o.name) words)

  good_end : (given : Given) (n : ℕ) (h : Held) (is_trailing : Bool) → Holds given n h
      → Comes (stands idle n is_trailing h) [] (Some given)
  unfolding walk_fault
  good_end given n h is_trailing holds = go (has_required arguments given) refl
    where
      end : List Row
      end = fold with_default holds.rows rules

      ends : EndsAs (forms_of command) end given
      ends = (holds.rows, command_end command holds.rows, holds.are)

      rows : finished rules h ≡ end
      rows = ap (λ (h : Held). fold with_default h.rows rules) holds.settles

      faults : Kinds → Held → Kinds
      faults first h = or_else first (or_else (defaults_fault h.rows rules) (check_fault shape (fold with_default h.rows rules) false))

      go : (whole : Bool) → has_required arguments given ≡ whole →
          ComesTo Has shape [] (stands idle n is_trailing h) [] (if whole then Some given else None)
      go true is = (
        ap₂ faults holds.quiet holds.settles ∙ end_faults command holds.rows end given true sound ends is,
        subst (λ rows. Has rows given) (sym rows) (ends, is),
      )
      go false is = some_fault _ (
        MissingRequiredArgument,
        [],
        ap₂ faults holds.quiet holds.settles ∙ end_faults command holds.rows end given false sound ends is,
      )

  -- ---- one more argument

  module _ (given : Given) (n : ℕ) (rows : List Row) (p : Option (Text × List Text)) (holds : Holds given n (held rows p))
      (word : Text) where
    abbrev here : Held
    here = held rows p

    next_given : one_argument arguments given word ≡ option_map (λ a. given ++ (a.name, word) ∷ []) (slice_get arguments n)
    next_given = ap (option_map (λ (a : ArgumentForm). given ++ (a.name, word) ∷ [])) (next_is given n arguments holds.first)

    module _ (a : ArgumentForm) (found : slice_get arguments n ≡ Some a) where
      abbrev more : Given
      more = given ++ (a.name, word) ∷ []

      abbrev after : Held
      after = held holds.rows (named a.name (word ∷ []))

      within : n + 1 + 1 ≤ usize_max
      within =
          let below : n < length arguments = slice_get_within arguments n a found in
          let bound : length arguments < 256 = ltb-true (length arguments) 256 few in
          omega (arith, below, bound)

      -- the walk at its place
      abbrev taken : Bool → Bool → Bool → ℕ → Held → Walk
      taken again several is_trailing position settled = record {
        held = pushed a.name word (if several then here else settled);
        waiting = waits_at again;
        position = position;
        is_trailing = is_trailing;
        stopped = None;
      }

      -- the walk to its place, by whether it may be given again
      placed_at : (again is_trailing : Bool)
          → to_positional rules (Some (place_by a.name a.is_required again (n + 1))) word (stands idle n is_trailing here) here
          ≡ stands (waits_at again) (place_after again n) is_trailing after
      placed_at true is_trailing =
          ap₂ (λ (several trailing : Bool). taken true several trailing (n + 1) (settled rules here))
          (and-false (is_pending (place_by a.name a.is_required true (n + 1)) p)) (or_false is_trailing)
          ∙ ap (taken true false is_trailing (n + 1)) holds.settles
      placed_at false is_trailing =
          ap₂ (λ (several trailing : Bool). taken false several trailing (min (n + 1 + 1) usize_max) (settled rules here))
          (and-false (is_pending (place_by a.name a.is_required false (n + 1)) p)) (or_false is_trailing)
          ∙ ap₂ (taken false false is_trailing) (min-eq_left within) holds.settles
          ∙ ap (λ (k : ℕ). stands idle k is_trailing after) (add-one n)

      to_place : (is_trailing : Bool) → to_positional rules (arg_by_index rules (n + 1)) word (stands idle n is_trailing here) here
          ≡ stands (waits_at a.is_repeated) (place_after a.is_repeated n) is_trailing after
      to_place is_trailing =
          let rule : arg_by_index rules (n + 1) ≡ Some (place a (n + 1)) =
          by_index command n ∙ ap (option_map (λ (x : ArgumentForm). place x (n + 1))) found in
          ap (λ (r : Option Rule). to_positional rules r word (stands idle n is_trailing here) here) rule
          ∙ placed_at a.is_repeated is_trailing

      -- a use of it is that of an option with a text
      fault_by : (again : Bool) (i : ℕ) → use_fault false (place_by a.name a.is_required again i) (word ∷ []) holds.rows
          ≡ use_fault false (built_rule (record { name = a.name; wants = texts_wanted again })) (word ∷ []) holds.rows
      fault_by true i = refl
      fault_by false i = refl

      used_by : (again : Bool) (i : ℕ) → used (place_by a.name a.is_required again i) (word ∷ []) holds.rows
          ≡ used (built_rule (record { name = a.name; wants = texts_wanted again })) (word ∷ []) holds.rows
      used_by true i = refl
      used_by false i = refl

      settles_by : settle_fault rules false after ≡ use_fault false (built_rule (text_form a)) (word ∷ []) holds.rows
      settles_by =
          let at = by_place command sound n a found in
          rw at.1 (fault_by a.is_repeated at.0)

      settles_to : settled rules after ≡ held (used (built_rule (text_form a)) (word ∷ []) holds.rows) None
      settles_to =
          let at = by_place command sound n a found in
          rw at.1 (ap (λ (rs : List Row). held rs None) (used_by a.is_repeated at.0))

      may_take : (again : Bool) → again || not (has given a.name) ≡ true
          → may_come given (Some word) (record { name = a.name; wants = texts_wanted again }) ≡ true
      may_take true e = refl
      may_take false e = e

      more_first : AreFirst more (place_after a.is_repeated n) arguments
      more_first = first_more given word n arguments a a.is_repeated refl (arguments_sound command sound) found holds.first

      holds_more : Holds more (place_after a.is_repeated n) after
      holds_more = elim (use_of (forms_of command) given holds.rows (text_form a) (Some word) (argument_in command sound n a found)
          holds.are) [
            | good one quiet are ↦ record {
              rows = used (built_rule (text_form a)) (word ∷ []) holds.rows;
              quiet = settles_by ∙ quiet;
              settles = settles_to;
              are = are;
              first = more_first;
            }
            | bad one fault ↦
                let more_of = next_open given n arguments a holds.first found in
                let may : Some more ≡ None =
                sym (one_more_if (forms_of command) given (text_form a) (Some word) true (argument_in command sound n a found)
                (may_take a.is_repeated more_of)) ∙ one in
                absurd (cc may)
          ]

    -- the word is an argument
    placed_comes : (words : List Text) → Walks words → IsPlainWord word → (next : Option ArgumentForm) → slice_get arguments n ≡ next
        → Comes (stands idle n false here) (word ∷ words)
        (given_after command given (option_map (λ a. given ++ (a.name, word) ∷ []) next) words)
    placed_comes words walks plain_word None found =
        stop Has shape (stands idle n false here) word words
        (UnknownArgument, [], plain_turn shape [] (n + 1) rows p word refl plain_word ∙ placed n here ∙ ap (placed_fault here) found)
    placed_comes words walks plain_word (Some a) found =
        step Has shape (stands idle n false here)
        (stands (waits_at a.is_repeated) (place_after a.is_repeated n) false (after a found)) word words _
        (plain_turn shape [] (n + 1) rows p word refl plain_word ∙ placed n here ∙ ap (placed_fault here) found ∙ holds.quiet)
        (plain_walked shape (n + 1) rows p word plain_word ∙ to_place a found false)
        (waits_for_any Has shape a.is_repeated (place_after a.is_repeated n + 1) false (after a found) words _
        (walks.between (more a found) (place_after a.is_repeated n) holds.rows (named a.name (word ∷ [])) (holds_more a found)))

  -- after `--`
  good_escaped : (words : List Text) (given : Given) (n : ℕ) (rows : List Row) (p : Option (Text × List Text))
      → Holds given n (held rows p)
      → Comes (stands idle n true (held rows p)) words (arguments_by arguments given words)
  unfolding walked
  good_escaped [] given n rows p holds = good_end given n (held rows p) true holds
  good_escaped (word ∷ words) given n rows p holds =
      subst (λ one. Comes w (word ∷ words) (option_and_then (λ more. arguments_by arguments more words) one))
      (sym (next_given given n rows p holds word)) (go (λ given n rows p holds. good_escaped words given n rows p holds)
      (slice_get arguments n) refl)
    where
      w : Walk
      w = stands idle n true (held rows p)

      go : ((given : Given) (n : ℕ) (rows : List Row) (p : Option (Text × List Text)) → Holds given n (held rows p)
          → Comes (stands idle n true (held rows p)) words (arguments_by arguments given words))
          → (next : Option ArgumentForm) → slice_get arguments n ≡ next
          → Comes w (word ∷ words) (option_and_then (λ more. arguments_by arguments more words)
          (option_map (λ a. given ++ (a.name, word) ∷ []) next))
      go later None found =
          stop Has shape w word words (UnknownArgument, [], placed n (held rows p) ∙ ap (placed_fault (held rows p)) found)
      go later (Some a) found =
          step Has shape w
          (stands (waits_at a.is_repeated) (place_after a.is_repeated n) true (held holds.rows (named a.name (word ∷ [])))) word words _
          (placed n (held rows p) ∙ ap (placed_fault (held rows p)) found ∙ holds.quiet) (to_place given n rows p holds word a found true)
          (waits_for_any Has shape a.is_repeated (place_after a.is_repeated n + 1) true
          (held holds.rows (named a.name (word ∷ []))) words _
          (later (given ++ (a.name, word) ∷ []) (place_after a.is_repeated n) holds.rows (named a.name (word ∷ []))
          (holds_more given n rows p holds word a found)))

  -- ---- a name that is an option's

  -- a use that is whole: its faults, and the walk after it
  record IsWhole (n : ℕ) (h : Held) (word : Text) (o : OptionForm) (said : Option Text) : Type 0 where
    turn : turn_fault shape [] (stands idle n false h) word
        ≡ or_else (settle_fault rules false h) (use_fault false (built_rule o) (said_values said) (settled rules h).rows)
    to : walked rules [] (stands idle n false h) word ≡ stands idle n false (reacted rules (built_rule o) (said_values said) h)

  module _ (n : ℕ) (h : Held) (word : Text) (l : IsLongWord word) (o : OptionForm)
      (is : option_named options (name_and_value l.body).0 ≡ Some o) where
    joined_whole : (text : Text) → (name_and_value l.body).1 ≡ Some text → is_wanted o.wants None ≡ false → IsWhole n h word o (Some text)
    unfolding walked
    joined_whole text e wanted = record {
      turn = rw (l.dashes, l.long, by_long command (name_and_value l.body).0 o is, e, one_value o.wants wanted) (or_else-nil _);
      to = rw (l.dashes, l.long, by_long command (name_and_value l.body).0 o is, e, one_value o.wants wanted) refl;
    }

    alone_whole : (name_and_value l.body).1 ≡ None → is_wanted o.wants None ≡ true → IsWhole n h word o None
    unfolding walked
    alone_whole e wanted = record {
      turn = rw (l.dashes, l.long, by_long command (name_and_value l.body).0 o is, e, no_value o.wants wanted) (or_else-nil _);
      to = rw (l.dashes, l.long, by_long command (name_and_value l.body).0 o is, e, no_value o.wants wanted) refl;
    }

    -- a text for an option that has none
    text_fault : (text : Text) → (name_and_value l.body).1 ≡ Some text → is_wanted o.wants None ≡ true →
        Some_of (turn_fault shape [] (stands idle n false h) word)
    text_fault text e wanted = rw (l.dashes, l.long, by_long command (name_and_value l.body).0 o is, e, no_value o.wants wanted)
        (TooManyValues, [], refl)

    name_turn : (name_and_value l.body).1 ≡ None → is_wanted o.wants None ≡ false → turn_fault shape [] (stands idle n false h) word
        ≡ settle_fault rules false h
    name_turn e wanted = rw (l.dashes, l.long, by_long command (name_and_value l.body).0 o is, e, one_value o.wants wanted) (or_else-nil _)

    name_walked : (name_and_value l.body).1 ≡ None → is_wanted o.wants None ≡ false → walked rules [] (stands idle n false h) word
        ≡ stands (option o.name) n false (record (settled rules h) { pending = named o.name [] })
    unfolding walked
    name_walked e wanted = rw (l.dashes, l.long, by_long command (name_and_value l.body).0 o is, e, one_value o.wants wanted) refl

  -- an option, as one of the command's forms
  same_more : (given : Given) (o : OptionForm) (said : Option Text) → option_named options o.name ≡ Some o
      → one_more options given (Some o.name) said ≡ one_more (forms_of command) given (Some o.name) said
  same_more given o said named = rw (named, option_in command sound o.name o named) refl

  more_kept : (given : Given) (n : ℕ) (o : OptionForm) (said : Option Text) → option_named options o.name ≡ Some o →
      AreFirst given n arguments → AreFirst (more_given given o said) n arguments
  more_kept given n o said named first = first_kept given o.name (unwrap_or said []) n arguments
      (λ k a found. other_option command sound k a found o named) first

  -- after a whole use
  whole_comes : (given : Given) (n : ℕ) (rows : List Row) (p : Option (Text × List Text)) (word : Text) (words : List Text)
      (o : OptionForm)
      (said : Option Text)
      → option_named options o.name ≡ Some o → IsWhole n (held rows p) word o said → Holds given n (held rows p) → Walks words
      → Comes (stands idle n false (held rows p)) (word ∷ words) (given_after command given (one_more options given
      (Some o.name) said) words)
  whole_comes given n rows p word words o said named whole holds walks =
      let w = stands idle n false (held rows p) in
      let values : List Text = said_values said in
      let used_on : use_fault false (built_rule o) values (settled rules (held rows p)).rows
      ≡ use_fault false (built_rule o) values holds.rows
      = ap (λ (end : Held). use_fault false (built_rule o) values end.rows) holds.settles in
      elim (use_of (forms_of command) given holds.rows o said (option_in command sound o.name o named) holds.are) [
        | good one quiet are ↦
            let rows_after : List Row = used (built_rule o) values holds.rows in
            let no_fault : turn_fault shape [] w word ≡ [] = whole.turn ∙ ap₂ or_else holds.quiet (used_on ∙ quiet) in
            let next : walked rules [] w word ≡ stands idle n false (held rows_after None) =
            whole.to ∙ ap (λ (end : Held). stands idle n false (held (used (built_rule o) values end.rows) None)) holds.settles in
            let more_holds : Holds (more_given given o said) n (held rows_after None) = record {
              rows = rows_after;
              quiet = refl;
              settles = refl;
              are = are;
              first = more_kept given n o said named holds.first;
            } in
            subst (λ one. Comes w (word ∷ words) (given_after command given one words)) (sym (same_more given o said named ∙ one))
            (step Has shape w (stands idle n false (held rows_after None)) word words _ no_fault next
            (walks.between (more_given given o said) n rows_after None more_holds))
        | bad one fault ↦
            let found : Some_of (turn_fault shape [] w word) =
            (fault.0, fault.1, whole.turn ∙ ap₂ or_else holds.quiet (used_on ∙ fault.2)) in
            subst (λ one. Comes w (word ∷ words) (given_after command given one words)) (sym (same_more given o said named ∙ one))
            (stop Has shape w word words found)
      ]

  module _ (given : Given) (n : ℕ) (rows : List Row) (p : Option (Text × List Text)) (word : Text) (words : List Text)
      (l : IsLongWord word)
      (is_long_option : is_option word ≡ true) (o : OptionForm)
      (is : option_named options (name_and_value l.body).0 ≡ Some o) (holds : Holds given n (held rows p)) (walks : Walks words) where
    abbrev from : Walk
    from = stands idle n false (held rows p)

    has_name : o.name ≡ (name_and_value l.body).0
    has_name = found_name (λ (x : OptionForm). x.name) (name_and_value l.body).0 options o is

    named_so : option_named options o.name ≡ Some o
    named_so = ap (option_named options) has_name ∙ is

    -- a use that is whole
    said_comes : (said : Option Text) → given_by command given None (word ∷ words)
        ≡ given_after command given (one_more options given (Some (name_and_value l.body).0) said) words
        → IsWhole n (held rows p) word o said → Comes from (word ∷ words) (given_by command given None (word ∷ words))
    said_comes said same whole =
        let so : given_by command given None (word ∷ words) ≡ given_after command given (one_more options given (Some o.name) said) words =
        same ∙ ap (λ (n : Text). given_after command given (one_more options given (Some n) said) words) (sym has_name) in
        subst (λ found. Comes from (word ∷ words) found) (sym so) (whole_comes given n rows p word words o said named_so whole holds walks)

    -- `--NAME`, which waits for a text
    name_comes : (name_and_value l.body).1 ≡ None → is_wanted o.wants None ≡ false →
        Comes from (word ∷ words) (given_by command given None (word ∷ words))
    name_comes e wanted =
        let h : Held = held rows p in
        let same : given_by command given None (word ∷ words) ≡ given_by command given (Some o.name) words =
        name_first command given word l.dashes words is_long_option (name_and_value l.body) l.long o e is wanted
        ∙ ap (λ (n : Text). given_by command given (Some n) words) (sym has_name) in
        let next : walked rules [] from word ≡ stands (option o.name) n false (held holds.rows (named o.name [])) =
        name_walked n h word l o is e wanted
        ∙ ap (λ (end : Held). stands (option o.name) n false (record end { pending = named o.name [] })) holds.settles in
        subst (λ found. Comes from (word ∷ words) found) (sym same)
        (step Has shape from (stands (option o.name) n false (held holds.rows (named o.name []))) word words _
        (name_turn n h word l o is e wanted ∙ holds.quiet) next (walks.behind given n o holds.rows named_so wanted holds.are holds.first))

    -- `--NAME=TEXT`, where no text is expected
    refused_comes : (text : Text) → (name_and_value l.body).1 ≡ Some text → is_wanted o.wants None ≡ true →
        Comes from (word ∷ words) (given_by command given None (word ∷ words))
    refused_comes text e wanted =
        let none : given_by command given None (word ∷ words) ≡ None =
        joined_first command given word l.dashes words is_long_option (name_and_value l.body) l.long text e
        ∙ rw (is, not_wanted o.wants text wanted) refl in
        subst (λ found. Comes from (word ∷ words) found) (sym none)
        (stop Has shape from word words (text_fault n (held rows p) word l o is text e wanted))

    option_comes : (text : Option Text) (alone : Bool) → (name_and_value l.body).1 ≡ text → is_wanted o.wants None ≡ alone
        → Comes from (word ∷ words) (given_by command given None (word ∷ words))
    option_comes None false e wanted = name_comes e wanted
    option_comes None true e wanted =
        said_comes None (alone_first command given word l.dashes words is_long_option (name_and_value l.body) l.long o e is wanted)
        (alone_whole n (held rows p) word l o is e wanted)
    option_comes (Some text) false e wanted =
        said_comes (Some text) (joined_first command given word l.dashes words is_long_option (name_and_value l.body) l.long text e)
        (joined_whole n (held rows p) word l o is text e wanted)
    option_comes (Some text) true e wanted = refused_comes text e wanted

  -- a word of two hyphens and a name
  long_comes : (given : Given) (n : ℕ) (rows : List Row) (p : Option (Text × List Text)) (word : Text) (words : List Text)
      (l : IsLongWord word) → is_option word ≡ true → (found : Option OptionForm) → option_named options (name_and_value l.body).0 ≡ found
      → Holds given n (held rows p) → Walks words → Comes (stands idle n false (held rows p)) (word ∷ words)
      (given_by command given None (word ∷ words))
  long_comes given n rows p word words l is_long_option None is holds walks =
      let name : Text = (name_and_value l.body).0 in
      let none : given_by command given None (word ∷ words) ≡ None =
      unknown_first command given word l.dashes words is_long_option (name_and_value l.body) l.long is in
      subst (λ found. Comes (stands idle n false (held rows p)) (word ∷ words) found) (sym none)
      (stop Has shape (stands idle n false (held rows p)) word words (long_turn shape [] idle (n + 1) (held rows p) word refl l
      (long_is_fault shape (arg_by_long rules name) (name_and_value l.body).1 (held rows p) (no_long command name is))))
  long_comes given n rows p word words l is_long_option (Some o) is holds walks =
      option_comes given n rows p word words l is_long_option o is holds walks (name_and_value l.body).1 (is_wanted o.wants None) refl refl

  between_comes : (word : Text) (words : List Text) → Walks words → (given : Given) (n : ℕ) (rows : List Row)
      (p : Option (Text × List Text))
      → Holds given n (held rows p)
      → Comes (stands idle n false (held rows p)) (word ∷ words) (given_by command given None (word ∷ words))
  between_comes word words walks given n rows p holds =
      let h : Held = held rows p in
      let w = stands idle n false h in
      let with : Text → Type 0 = λ word. Comes w (word ∷ words) (given_by command given None (word ∷ words)) in
      elim (kind_of_word word) [
        | is_dashes e ↦ subst with (sym e)
            (step Has shape w (stands idle n true h) (codes "--") words _ (dashes_quiet idle n h) (dashes_walked idle n h)
            (good_escaped words given n rows p holds))
        | is_long o l ↦ long_comes given n rows p word words l o (option_named options (name_and_value l.body).0) refl holds walks
        | is_short o s ↦ subst (λ found. Comes w (word ∷ words) found) (sym (short_first command given word s.dashes words o s.long))
            (stop Has shape w word words (flags_turn idle n rows p word s))
        | is_plain o plain_word ↦
            let same : given_by command given None (word ∷ words)
            ≡ given_after command given (option_map (λ a. given ++ (a.name, word) ∷ []) (slice_get arguments n)) words =
            plain_first command given word plain_word.dashes words o plain_word.long
            ∙ ap (λ (one : Option Given). given_after command given one words) (next_given given n rows p holds word) in
            subst (λ found. Comes w (word ∷ words) found) (sym same)
            (placed_comes given n rows p holds word words walks plain_word (slice_get arguments n) refl)
      ]

  -- ---- the word after a name

  abbrev waits : List Row → OptionForm → Held
  waits rows o = held rows (named o.name [])

  module _ (given : Given) (n : ℕ) (o : OptionForm) (rows : List Row) (named_so : option_named options o.name ≡ Some o)
      (wanted : is_wanted o.wants None ≡ false) where
    one : count_by o.wants ≡ 1
    one = one_value o.wants wanted

    bad_waits : IsBad (waits rows o)
    bad_waits = rw (by_option command o.name o named_so, one) (InvalidValue, [], refl)

    waiting_turn : (word : Text) → IsPlainWord word → turn_fault shape [] (stands (option o.name) n false (waits rows o)) word ≡ []
    waiting_turn word h = elim h.short [
      | inl none ↦ rw (h.dashes, h.long, none) refl
      | inr short ↦
          let first : None ≡ slice_get (chars short.0) 0 = rw short.2 refl in
          rw (
            h.dashes,
            h.long,
            short.1,
            ← fault_ends rules false (length short.0) short.0 0 (waits rows o) first,
            ← bundle_ends rules
                (length short.0) short.0 0 plain (waits rows o) first,
          ) refl
    ]

    waiting_walked : (word : Text) → IsPlainWord word → walked rules [] (stands (option o.name) n false (waits rows o)) word
        ≡ stands idle n false (held rows (named o.name (word ∷ [])))
    unfolding walked
    waiting_walked word h = elim h.short [
      | inl none ↦ rw (h.dashes, h.long, none, by_option command o.name o named_so, same_name o.name, one) refl
      | inr short ↦
          let first : None ≡ slice_get (chars short.0) 0 = rw short.2 refl in
          rw (
            h.dashes,
            h.long,
            short.1,
            ← bundle_ends rules (length short.0) short.0 0 plain (waits rows o) first,
            by_option command o.name o
                named_so,
            same_name o.name,
            one,
          ) refl
    ]

    -- a word that may be the option's text
    text_comes : (text : Text) (words : List Text) → Are (forms_of command) rows given → AreFirst given n arguments → Walks words
        → Comes (stands idle n false (held rows (named o.name (text ∷ [])))) words
        (given_after command given (one_more options given (Some o.name) (Some text)) words)
    text_comes text words are first walks =
        let h : Held = held rows (named o.name (text ∷ [])) in
        let w = stands idle n false h in
        let settled_by : settle_fault rules false h ≡ use_fault false (built_rule o) (text ∷ []) rows =
        rw (by_option command o.name o named_so) refl in
        let settled_to : settled rules h ≡ held (used (built_rule o) (text ∷ []) rows) None =
        rw (by_option command o.name o named_so) refl in
        elim (use_of (forms_of command) given rows o (Some text) (option_in command sound o.name o named_so) are) [
          | good one quiet are_more ↦
              let more_holds : Holds (more_given given o (Some text)) n h = record {
                rows = used (built_rule o) (text ∷ []) rows;
                quiet = settled_by ∙ quiet;
                settles = settled_to;
                are = are_more;
                first = more_kept given n o (Some text) named_so first;
              } in
              subst (λ one. Comes w words (given_after command given one words)) (sym (same_more given o (Some text) named_so ∙ one))
              (walks.between (more_given given o (Some text)) n rows (named o.name (text ∷ [])) more_holds)
          | bad one fault ↦
              subst (λ one. Comes w words (given_after command given one words)) (sym (same_more given o (Some text) named_so ∙ one))
              (bad_idle n rows (named o.name (text ∷ [])) words (fault.0, fault.1, settled_by ∙ fault.2))
        ]

    dashes_option : is_option (codes "--") ≡ true
    unfolding chars
    dashes_option = refl

    behind_comes : (word : Text) (words : List Text) → Walks words → Are (forms_of command) rows given → AreFirst given n arguments
        → Comes (stands (option o.name) n false (waits rows o)) (word ∷ words) (given_by command given (Some o.name) (word ∷ words))
    behind_comes word words walks are first =
        let h : Held = waits rows o in
        let w = stands (option o.name) n false h in
        let with : Text → Type 0 = λ word. Comes w (word ∷ words) (given_by command given (Some o.name) (word ∷ words)) in
        let none : (word : Text) → is_option word ≡ true → given_by command given (Some o.name) (word ∷ words) ≡ None =
        λ word is. rw (is, named_so, wanted) refl in
        let unread : (word : Text) → is_option word ≡ true → Comes w (word ∷ words) None → with word =
        λ word is comes. subst (λ found. Comes w (word ∷ words) found) (sym (none word is)) comes in
        elim (kind_of_word word) [
          | is_dashes e ↦ subst with (sym e) (unread (codes "--") dashes_option (bad_dashes (option o.name) n h words bad_waits))
          | is_long is l ↦ unread word is (stop Has shape w word words (bad_long (option o.name) n h word l bad_waits))
          | is_short is s ↦ unread word is (stop Has shape w word words (flags_turn (option o.name) n rows (named o.name []) word s))
          | is_plain is plain_word ↦
              let next = stands idle n false (held rows (named o.name (word ∷ []))) in
              let same : given_by command given (Some o.name) (word ∷ words)
              ≡ given_after command given (one_more options given (Some o.name) (Some word)) words = rw is refl in
              subst (λ found. Comes w (word ∷ words) found) (sym same)
              (step Has shape w next word words _ (waiting_turn word plain_word) (waiting_walked word plain_word)
              (text_comes word words are first walks))
        ]

  walks_of : (words : List Text) → Walks words
  walks_of [] = record {
    between = λ given n rows p holds. good_end given n (held rows p) false holds;
    behind = λ given n o rows at_name wanted are first. bad_end (option o.name) n false (waits rows o)
        (bad_waits given n o rows at_name wanted);
  }
  walks_of (word ∷ words) = record {
    between = between_comes word words (walks_of words);
    behind = λ given n o rows at_name wanted are first. behind_comes given n o rows at_name wanted word words (walks_of words) are first;
  }

  -- clap reads the words after the command's name as `given_by` says
  pub command_walk : (words : List Text)
      → ComesTo (HasGiven command) (leaf_shape command.name (rules_for command)) [] (walk_at idle 1 false nothing_held) words
      (checked command (given_by command [] None words))
  command_walk words = (walks_of words).between [] 0 [] None (record {
    rows = [];
    quiet = refl;
    settles = refl;
    are = none_are (forms_of command) sound;
    first = none_first arguments;
  })
