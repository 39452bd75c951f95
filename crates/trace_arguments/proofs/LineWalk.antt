-- The outcome of clap's walk over the words at a program with commands.
use Rattle.std.proofs.Common.{◌≡◌, ◌≢◌, ◌∙◌, ◌&&◌, ◌++◌, Bool, true, false, not, List, [], ◌∷◌, map, Option, Some, None, refl, ap, ap₂}
use Rattle.std.proofs.Common.{subst, sym, drop, inl, inr, ◌⊎◌, append_assoc, append-nil}
use Rattle.std.specs.Prelude.{if◌then◌else◌, is_some, codes, find, fold, option_and_then, option_map}
use Rattle.std.specs.List.{list_all}
use Rattle.std.specs.Option.{option_map_or, option_or}
use Rattle.std.specs.Str.{bytes_eq}
use Rattle.std.proofs.lemmas.Slice.Eq.{bytes_eq-Decides}
use Rattle.clap.specs.Lexer.{name_and_value}
use Rattle.clap.specs.Walk.{answers_to, arg_by_long, Names, Row, Text, idle, stop_after, subcommand_met, Walk, walked, walk_from}
use Rattle.clap.specs.Walk.{finished, nothing_held, settled}
use Rattle.clap.specs.Simple.{App, Shape, built, built_leaf, help_shape, label_of, names_of, rows_at, entered}
use Rattle.clap.specs.Kinds.{Kinds, or_else}
use Rattle.clap.proofs.FaultLemmas.{stopped_fault}
use Rattle.clap.proofs.WalkLemmas.{both, find-map}
use Rattle.clap.specs.Faults.{built_fault, walk_fault, settle_fault, defaults_fault, check_fault, entered_fault, level_fault, turn_fault}
use Rattle.clap.specs.declared.error.kind.ErrorKind.TheVariants.{DisplayHelp, InvalidSubcommand, MissingSubcommand, UnknownArgument}
use Rattle.trace_arguments.specs.CommandLine.{command_named, commands, line_of}
use Rattle.trace_arguments.specs.Given.{CommandForm, Given, given_by, has_required, line_by}
use Rattle.trace_arguments.specs.Values.{LineValue}
use Rattle.trace_arguments.specs.inner.Parser.{GivesLine, IsGiven, forms_of, program_app}
use Rattle.trace_arguments.proofs.Named.{find_made, found_name, found_passes, or_false}
use Rattle.trace_arguments.proofs.WordKinds.{Kind, is_dashes, is_long, is_short, is_plain, kind_of_word}
use Rattle.trace_arguments.proofs.LeafWalk.{ComesTo, Some_of, comes_as, end_of, faults_from, in_first, leaf_shape}
use Rattle.trace_arguments.proofs.LeafWalk.{long_is_fault, long_turn}
use Rattle.trace_arguments.proofs.LeafWalk.{or_else-nil, plain_turn, short_turn, some_fault, told_long, told_short, walk_at}
use Rattle.trace_arguments.proofs.CommandEnds.{texts_found}
use Rattle.trace_arguments.proofs.CommandRules.{is_few, rules_for}
use Rattle.trace_arguments.proofs.CommandWalk.{HasGiven, checked, command_walk}
use Rattle.trace_arguments.proofs.OptionRules.{are_sound}

-- where a walk begins
abbrev start : Walk
start = walk_at idle 1 false nothing_held

-- ---- one command

-- a command as it is built
abbrev pub leaf : CommandForm → Shape
leaf command = leaf_shape command.name (rules_for command)

-- its options and arguments have different names, and are few
abbrev is_sound_command : CommandForm → Bool
is_sound_command command = are_sound (forms_of command) && is_few command

-- what clap accepts of the words after a command's name, with the line that they give, if they give one
abbrev pub parsed_by : CommandForm → List Text → Option (Option LineValue)
parsed_by command words = option_map command.line (checked command (given_by command [] None words))

-- the line, where there is one
abbrev pub flat : Option (Option LineValue) → Option LineValue
flat None = None
flat (Some line) = line

given_flat : (command : CommandForm) (found : Option Given)
    → option_and_then (λ given. if has_required command.arguments given then command.line given else None) found
    ≡ flat (option_map command.line (checked command found))
given_flat command None = refl
given_flat command (Some given) = go (has_required command.arguments given)
  where
    go : (whole : Bool) → (if whole then command.line given else None)
        ≡ flat (option_map command.line (if whole then Some given else None))
    go true = refl
    go false = refl

line_flat : (command : CommandForm) (words : List Text) → line_by command words ≡ flat (parsed_by command words)
line_flat command words = given_flat command (given_by command [] None words)

-- clap reads the words after a command's name as `line_by` says
line_walk : (command : CommandForm) → is_sound_command command ≡ true → (words : List Text)
    → ComesTo (GivesLine command) (leaf command) [] start words (parsed_by command words)
line_walk command sound words =
    let both_are = both (are_sound (forms_of command)) (is_few command) sound in
    let is_given : (rows : List Row) (given : Given) → HasGiven command rows given → IsGiven command rows given =
    λ rows given h. record { texts = texts_found (forms_of command) rows given both_are.0 h.0; required = h.1 } in
    comes_as (HasGiven command) (GivesLine command) command.line (leaf command) start words (λ rows given h.
    (given, is_given rows given h, refl))
    (checked command (given_by command [] None words)) (command_walk command both_are.0 both_are.1 words)

-- ---- a program with these commands, as it is built

abbrev top : Shape
top = (built program_app).top

abbrev help_leaf : Shape
help_leaf = record (built_leaf help_shape) { disable_help_subcommand = true }

abbrev program_of : List CommandForm → App
program_of forms = record { top = top; subs = map leaf forms ++ help_leaf ∷ [] }

program_is : built program_app ≡ program_of commands
program_is = refl

-- whether the form is of a command that is read as its definition says
abbrev is_good : CommandForm → Bool
is_good command = not (bytes_eq command.name (codes "help")) && is_sound_command command

-- what clap accepts of the words after the program's name, with these commands
abbrev parsed_in : List CommandForm → List Text → Option (Option LineValue)
parsed_in forms [] = None
parsed_in forms (name ∷ words) = option_and_then (λ command. parsed_by command words) (command_named forms name)

find_leaf : (word : Text) (forms : List CommandForm)
    → find (λ t. answers_to word (label_of t)) (map leaf forms ++ help_leaf ∷ [])
    ≡ option_or (option_map leaf (command_named forms word)) (find (λ t. answers_to word (label_of t)) (help_leaf ∷ []))
find_leaf word forms = find_made leaf _ (λ c. bytes_eq c.name word) (λ c. or_false (bytes_eq c.name word)) forms (help_leaf ∷ [])

module _ (forms : List CommandForm) (good : list_all is_good forms ≡ true) where
  abbrev program : App
  program = program_of forms

  abbrev names : Names
  names = names_of program

  abbrev found_by : Text → Option CommandForm → Option Shape
  found_by word command = option_or (option_map leaf command) (find (λ t. answers_to word (label_of t)) (help_leaf ∷ []))

  met_by : (word : Text) (command : Option CommandForm) → command_named forms word ≡ command
      → subcommand_met names idle word ≡ option_map (λ s. s.0) (option_map label_of (found_by word command))
  met_by word command is =
      ap (option_map (λ (s : Text × List Text). s.0)) (sym (find-map (answers_to word) label_of program.subs) ∙ ap (option_map label_of)
      (find_leaf word forms
      ∙ ap (found_by word) is))

  -- ---- the words after a command

  -- a command was met, and the words after it are kept
  stopped_walk : (w : Walk) (name : Text) (before words : List Text)
      → fold (walked top.rules names) (record w { stopped = Some (name, before) }) words
      ≡ record w { stopped = Some (name, before ++ words) }
  unfolding walked
  stopped_walk w name before [] = rw append-nil refl
  stopped_walk w name before (word ∷ words) = stopped_walk w name (before ++ word ∷ []) words ∙ rw append_assoc refl

  -- the program's walk at a command that was met
  abbrev met : Text → Walk
  met name = record (walk_from nothing_held) { stopped = Some (name, []) }

  -- the faults of the words, of which the first has those of `turn`
  abbrev whole : Walk → Kinds → Kinds
  whole w turn = or_else turn (or_else (entered_fault program w.stopped)
      (or_else (settle_fault top.rules false w.held) (or_else (defaults_fault (settled top.rules w.held).rows top.rules)
      (check_fault top (finished top.rules w.held) (is_some (entered program w.stopped))))))

  -- the faults of the words after the program's name
  abbrev faults : List Text → Kinds
  faults words = built_fault program nothing_held words

  -- the command that they enter, with its matches
  abbrev entered_by : List Text → Option (Text × List Row)
  entered_by words = entered program (stop_after top.rules names words)

  -- the words after a command that was met add no fault of the program's own
  behind : (name : Text) (words : List Text)
      → whole (fold (walked top.rules names) (met name) words) (walk_fault top names (met name) words)
      ≡ whole (record (met name) { stopped = Some (name, words) }) []
  behind name words = ap₂ whole (stopped_walk (met name) name [] words) (stopped_fault top names (met name) (name, []) words)

  module _ (command : CommandForm) (is : command_named forms command.name ≡ Some command) where
    parts : (not (bytes_eq command.name (codes "help")) ≡ true) × (is_sound_command command ≡ true)
    parts = both (not (bytes_eq command.name (codes "help"))) (is_sound_command command)
        (found_passes is_good _ forms command good is)

    not_help : bytes_eq command.name (codes "help") ≡ false
    not_help = go (bytes_eq command.name (codes "help")) parts.0
      where
        go : (b : Bool) → not b ≡ true → b ≡ false
        go true e = sym e
        go false e = refl

    met_here : subcommand_met names idle command.name ≡ Some command.name
    met_here = met_by command.name (Some command) is

    quiet : turn_fault top names start command.name ≡ []
    quiet = rw (met_here, not_help) refl

    walks : walked top.rules names start command.name ≡ met command.name
    unfolding walked
    walks = rw met_here refl

    found : find (λ t. answers_to command.name (label_of t)) program.subs ≡ Some (leaf command)
    found = find_leaf command.name forms ∙ ap (found_by command.name) is

    -- the faults if the words enter this command, if there is one
    abbrev entered_whole : List Text → Option Shape → Kinds
    entered_whole words found = or_else (option_map_or (λ s. level_fault s [] nothing_held words false []) found [])
        (check_fault top [] (is_some (option_map (λ s. rows_at s words) found)))

    -- the program's faults are the command's
    faults_behind : (words : List Text) → faults (command.name ∷ words) ≡ faults_from (leaf command) [] start words
    unfolding walk_fault defaults_fault
    faults_behind words =
        let over : Kinds → Walk → Kinds = λ turn w. whole (fold (walked top.rules names) w words)
        (or_else turn (walk_fault top names w words)) in
        ap₂ over quiet walks ∙ behind command.name words ∙ ap (entered_whole words) found
        ∙ or_else-nil (faults_from (leaf command) [] start words)

    -- the program's matches are the command's
    matches_behind : (words : List Text)
        → entered_by (command.name ∷ words) ≡ Some (command.name, finished (rules_for command) (end_of (leaf command) start words))
    matches_behind words =
        let over : Walk → Option (Text × List Row) = λ w. entered program (fold (walked top.rules names) w words).stopped in
        ap over walks ∙ ap (λ (w : Walk). entered program w.stopped) (stopped_walk (met command.name) command.name [] words)
        ∙ ap (option_map (λ s. rows_at s words)) found

  -- ---- a command that isn't there

  module _ (word : Text) (none : subcommand_met names idle word ≡ None) where
    -- the faults of the first word, no command
    no_command : (words : List Text) → Kind word → Some_of (walk_fault top names start (word ∷ words)) ⊎ (word ≡ codes "--")
    unfolding walk_fault
    no_command words (is_dashes e) = inr e
    no_command words (is_long o l) =
        let name : Text = (name_and_value l.body).0 in
        inl (in_first _ _ (long_turn top names idle 1 nothing_held word none l
        (long_is_fault top (arg_by_long top.rules name) (name_and_value l.body).1 nothing_held (told_long name))))
    no_command words (is_short o s) = inl (in_first _ _ (short_turn top names idle 1 [] None word none told_short s))
    no_command words (is_plain o h) =
        inl (in_first _ _ (UnknownArgument, InvalidSubcommand ∷ [], plain_turn top names 1 [] None word none h))

  -- `help` is answered with help
  help_fault : (words : List Text) → subcommand_met names idle (codes "help") ≡ Some (codes "help") →
      Some_of (faults (codes "help" ∷ words))
  unfolding walk_fault
  help_fault words is =
      let turn : turn_fault top names start (codes "help") ≡ DisplayHelp ∷ InvalidSubcommand ∷ [] = rw is refl in
      in_first _ _ (in_first _ _ (DisplayHelp, InvalidSubcommand ∷ [], turn))

  -- after `--` no command is met
  escaped_walk : subcommand_met names idle (codes "--") ≡ None → walked top.rules names start (codes "--")
      ≡ walk_at idle 1 true nothing_held
  unfolding walked
  escaped_walk none = rw none refl

  escaped_fault : (words : List Text) → subcommand_met names idle (codes "--") ≡ None → Some_of (faults (codes "--" ∷ words))
  unfolding walk_fault defaults_fault
  escaped_fault [] none =
      let quiet : turn_fault top names start (codes "--") ≡ [] = rw none refl in
      let over : Kinds → Walk → Kinds = λ turn w. whole w (or_else turn []) in
      (MissingSubcommand, [], ap₂ over quiet (escaped_walk none))
  escaped_fault (word ∷ words) none =
      let quiet : turn_fault top names start (codes "--") ≡ [] = rw none refl in
      let over : Kinds → Walk → Kinds =
      λ turn w. or_else turn (or_else (turn_fault top names w word) (walk_fault top names (walked top.rules names w word) words)) in
      in_first _ _ (UnknownArgument, InvalidSubcommand ∷ [], ap₂ over quiet (escaped_walk none))

  -- ---- all the words

  -- the words have no fault and their matches give the line, if there is one; or they have a fault
  abbrev pub ReadsAs : List Text → Option (Option LineValue) → Type 0
  ReadsAs words None = faults words ≢ []
  ReadsAs words (Some line) = (faults words ≡ [])
      × ((command : CommandForm) × (rows : List Row) × (command_named forms command.name ≡ Some command)
      × (entered_by words ≡ Some (command.name, rows)) × GivesLine command rows line)

  behind_read : (command : CommandForm) → command_named forms command.name ≡ Some command →
      (words : List Text) (line : Option (Option LineValue))
      → ComesTo (GivesLine command) (leaf command) [] start words line → ReadsAs (command.name ∷ words) line
  behind_read command is words None h = rw (faults_behind command is words) h
  behind_read command is words (Some line) h = (
    faults_behind command is words
        ∙ h.0,
    (
      command,
      finished (rules_for command) (end_of (leaf command) start words),
      is,
      matches_behind
          command is words,
      h.1,
    ),
  )

  command_read : (command : CommandForm) → command_named forms command.name ≡ Some command → (words : List Text)
      → ReadsAs (command.name ∷ words) (parsed_by command words)
  command_read command is words = behind_read command is words (parsed_by command words)
      (line_walk command (parts command is).1 words)

  other_read : (word : Text) (words : List Text) → subcommand_met names idle word ≡ None → faults (word ∷ words) ≢ []
  other_read word words none = elim (no_command word none words (kind_of_word word)) [
    | inl fault ↦ some_fault _ (in_first _ _ fault)
    | inr dashes ↦ some_fault _ (subst (λ w. Some_of (faults (w ∷ words))) (sym dashes)
        (escaped_fault words (ap (subcommand_met names idle) (sym dashes) ∙ none)))
  ]

  help_or_other : (word : Text) (words : List Text) (is_help : Bool) → bytes_eq (codes "help") word ≡ is_help →
      command_named forms word ≡ None
      → faults (word ∷ words) ≢ []
  help_or_other word words true e none =
      let same : codes "help" ≡ word = (bytes_eq-Decides (codes "help") word).0 e in
      let named : command_named forms (codes "help") ≡ None = ap (command_named forms) same ∙ none in
      subst (λ w. faults (w ∷ words) ≢ []) same (some_fault _ (help_fault words (met_by (codes "help") None named)))
  help_or_other word words false e none = other_read word words (met_by word None none ∙ rw e refl)

  first_read : (word : Text) (words : List Text) (command : Option CommandForm) → command_named forms word ≡ command
      → ReadsAs (word ∷ words) (option_and_then (λ command. parsed_by command words) command)
  first_read word words None is = help_or_other word words (bytes_eq (codes "help") word) refl is
  first_read word words (Some command) is =
      let name : command.name ≡ word = found_name (λ (c : CommandForm). c.name) word forms command is in
      subst (λ w. ReadsAs (w ∷ words) (parsed_by command words)) name
      (command_read command (ap (command_named forms) name ∙ is) words)

  -- clap reads the words as the forms of the commands say
  pub words_read : (words : List Text) → ReadsAs words (parsed_in forms words)
  unfolding walk_fault walked defaults_fault
  words_read [] = λ e. cc
  words_read (word ∷ words) = first_read word words (command_named forms word) refl

-- what clap accepts of the words of a command line
abbrev pub parsed_of : List Text → Option (Option LineValue)
parsed_of (first ∷ name ∷ words) = option_and_then (λ command. parsed_by command words) (command_named commands name)
parsed_of _ = None

named_flat : (words : List Text) (command : Option CommandForm)
    → option_and_then (λ command. line_by command words) command
    ≡ flat (option_and_then (λ command. parsed_by command words) command)
named_flat words None = refl
named_flat words (Some command) = line_flat command words

-- the words' line is the one that they are parsed to
pub line_parsed : (words : List Text) → line_of words ≡ flat (parsed_of words)
line_parsed [] = refl
line_parsed (first ∷ []) = refl
line_parsed (first ∷ name ∷ words) = named_flat words (command_named commands name)

-- clap reads the words of a command line as `line_of` says
pub program_read : (words : List Text) → ReadsAs commands refl (drop 1 words) (parsed_of words)
program_read [] = words_read commands refl []
program_read (first ∷ []) = words_read commands refl []
program_read (first ∷ name ∷ words) = words_read commands refl (name ∷ words)
