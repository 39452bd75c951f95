-- What each line of a script of events does to a machine, and what it prints. A line whose event isn't legal there prints
-- `not now`, and does nothing.
use Rattle.names.specs.Errors.{no_memory_text, errno_text}
use Rattle.std.specs.Prelude.{◌≡◌, ◌⊎◌, ℕ, ◌<◌, ◌≤◌, ◌==◌, ◌&&◌, true, nat_lt, List, [], ◌∷◌, ◌++◌, length, replicate, Option, None}
use Rattle.std.specs.Prelude.{Result, Ok, Err, is_some, codes, decimal, if◌then◌else◌, MatchBool}
use Rattle.std.specs.List.{All}
use Rattle.glob_automaton.specs.Automata.{StateLimit}
use Rattle.matcher.specs.declared.fault.MakeFault.TheVariants.{TooManyStates}
use Rattle.names.specs.declared.errors.Errno.{Errno}
use Rattle.directory_tree.specs.declared.change.Change.{Change}
use Rattle.rule_reader.specs.declared.fault.ReadFault.{ReadFault}
use Rattle.rule_profile.specs.Profile.{ProfileValue}
use Rattle.rule_reader.specs.ReadText.{outcome_of}
use Rattle.mediation.specs.Deeds.{Deed, published_rules, removed}
use Rattle.mediation.specs.Opens.{judged, failed, no_profile}
use Rattle.justification.specs.declared.answer.Answer.{Answer}
use Rattle.justification.specs.declared.answer.Answer.TheVariants.{Judged, Failed, NoProfile, Busy, NoEntry}
use Rattle.event_machine.specs.Machine.{Call, Event, Machine}
use Rattle.event_machine.specs.Machine.Event.{begin, read_policy, read_count, read_cell, check_count, answer, open_change, set_cell}
use Rattle.event_machine.specs.Machine.Event.{close_change, publish}
use Rattle.event_machine.specs.Machine.Stage.{resting}
use Rattle.event_machine.specs.Takes.{Takes}
use Rattle.event_machine.specs.Runs.{Runs}
use Rattle.event_machine.specs.Lawful.{IsLawful, IsTested}
use Rattle.trace_report.specs.Output.{refusal, compile_refusal}
use Rattle.trace_script.specs.AnswerText.{answered_text}
use Rattle.trace_script.specs.RunOutput.{change_of}
use Rattle.trace_script.specs.Script.{ChangeWords}
use Rattle.trace_steps.specs.StepScript.{StepCommand, publish_text, remove_profile, alter_whole, open_whole, single, cells_read, finish}
use Rattle.trace_steps.specs.StepScript.{keep, cells_set, close}

-- the lines that are printed
abbrev pub Lines : Type 0
Lines = List (List ℕ)

-- this is printed, and nothing is done
abbrev pub OnlyPrints : List ℕ → Machine → Lines → Machine → Type 0
OnlyPrints text old lines new = (lines ≡ text ∷ []) × (new ≡ old)

abbrev pub not_now : List ℕ
not_now = codes "not now"

-- `ok V`, with the tree's version
abbrev pub ok_text : Machine → List ℕ
ok_text m = codes "ok " ++ decimal (length m.keeper.history)

-- ---- events and publications

-- an event is taken, and nothing is printed; or it isn't legal
abbrev pub TakesOne : Machine → Event → Lines → Machine → Type 0
TakesOne old event lines new =
    ((told : Option Answer) × Takes old event told new × (lines ≡ [])) ⊎ (¬ (IsLawful old event) × OnlyPrints not_now old lines new)

-- At most `most` events of one kind are taken, one after the other, fewer if the next one isn't legal. If some may be taken and
-- not even the first is legal, that is printed.
abbrev pub none_taken : ℕ → ℕ → Lines
none_taken most count = if nat_lt 0 most && (count == 0) then not_now ∷ [] else []

abbrev pub TakesUpTo : Machine → ℕ → Event → Lines → Machine → Type 0
TakesUpTo old most event lines new = (count : ℕ) × (count ≤ most) × Runs old (replicate count event) [] new
    × (count < most → ¬ (IsLawful new event)) × (lines ≡ none_taken most count)

-- one change of the policy is published, and its line ends with the policy's new version; or that isn't legal
abbrev pub Publishes : Machine → Deed → List ℕ → Lines → Machine → Type 0
Publishes old deed start lines new =
    (Takes old (publish (deed ∷ [])) None new × (lines ≡ (start ++ decimal (length new.deeds)) ∷ []))
    ⊎ (¬ (IsLawful old (publish (deed ∷ []))) × OnlyPrints not_now old lines new)

-- a profile is published if it can be read and isn't over the limit
abbrev pub PublishesText : StateLimit → Machine → Result ProfileValue ReadFault → Lines → Machine → Type 0
PublishesText limit old (Err fault) lines new = OnlyPrints (codes "policy " ++ refusal fault) old lines new
PublishesText limit old (Ok profile) lines new = MatchBool (limit.is_over profile.rules)
    (OnlyPrints (codes "policy " ++ compile_refusal TooManyStates) old lines new)
    (Publishes old (published_rules profile) (codes "policy " ++ profile.name ++ codes " version ") lines new)

-- ---- changes of the tree

-- A change is refused, and its number is printed: a path is at fault, or the tree doesn't accept it. Or it isn't refused, and this
-- happens.
abbrev pub Tries : Machine → Result Change Errno → (Change → Lines → Machine → Type 0) → Lines → Machine → Type 0
Tries old (Err errno) Happens lines new = OnlyPrints (errno_text errno) old lines new
Tries old (Ok change) Happens lines new =
    ((errno : Errno) × IsTested old change (Err errno) × OnlyPrints (errno_text errno) old lines new) ⊎ Happens change lines new

-- while a change is open no other is tried, whatever its paths
abbrev pub TriesNow : Machine → ChangeWords → (Change → Lines → Machine → Type 0) → Lines → Machine → Type 0
TriesNow old words Happens lines new =
    ((is_some old.keeper.pending ≡ true) × OnlyPrints not_now old lines new)
    ⊎ ((old.keeper.pending ≡ None) × Tries old (change_of words) Happens lines new)

-- the cells that are left of the open change are set, and it is closed
abbrev pub ClosesOpen : Machine → Lines → Machine → Type 0
ClosesOpen old lines new = (count : ℕ) × Runs old (replicate count set_cell ++ close_change ∷ []) [] new × (lines ≡ ok_text new ∷ [])

-- the same, if a change is open
abbrev pub Closes : Machine → Lines → Machine → Type 0
Closes old lines new = ClosesOpen old lines new ⊎ ((old.keeper.pending ≡ None) × OnlyPrints not_now old lines new)

-- a change is opened
abbrev pub IsOpened : Machine → Change → Lines → Machine → Type 0
IsOpened old change lines new = Takes old (open_change change) None new × (lines ≡ [])

-- a change is opened, and closed after all its cells
abbrev pub IsMade : Machine → Change → Lines → Machine → Type 0
IsMade old change lines new = (opened : Machine) × Takes old (open_change change) None opened × ClosesOpen opened lines new

-- ---- calls of sessions

-- an answer, with the name that was judged
abbrev pub told_text : List ℕ → Answer → List ℕ
told_text name (Judged verdict node tree policy) =
    answered_text (judged (record { name = name; node = node; verdict = verdict }) tree policy)
told_text name (Failed errno tree) = answered_text (failed errno tree)
told_text name (NoProfile policy) = answered_text (no_profile policy)
told_text name (Busy began ended) = codes "busy " ++ decimal began ++ codes " " ++ decimal ended
-- no machine gives this answer
told_text name NoEntry = no_memory_text

-- the session for whole opens: no script can name it
abbrev pub fresh : ℕ
fresh = 10

-- an event that leads a session's call on, and neither begins nor answers one
abbrev pub LeadsOn : ℕ → Event → Type 0
LeadsOn s (read_policy own) = own ≡ s
LeadsOn s (read_count own) = own ≡ s
LeadsOn s (read_cell own) = own ≡ s
LeadsOn s (check_count own) = own ≡ s
LeadsOn s (begin own call) = ⊥
LeadsOn s (answer own) = ⊥
LeadsOn s (open_change change) = ⊥
LeadsOn s set_cell = ⊥
LeadsOn s close_change = ⊥
LeadsOn s (publish deeds) = ⊥

-- the rest of a session's call happens, up to its answer, which is printed after this
abbrev pub Finishes : Machine → ℕ → List ℕ → Lines → Machine → Type 0
Finishes old s start lines new = (events : List Event) × (told : Answer) × All (LeadsOn s) events
    × Runs old (events ++ answer s ∷ []) ((s, told) ∷ []) new × (lines ≡ (start ++ told_text (new.sessions s).name told) ∷ [])

-- a session's call is finished; or it has begun none
abbrev pub Goes : Machine → ℕ → Lines → Machine → Type 0
Goes old s lines new = Finishes old s (decimal s ++ codes ": ") lines new
    ⊎ (((old.sessions s).stage ≡ resting) × OnlyPrints not_now old lines new)

-- a whole call; or the session can't begin one
abbrev pub OpensWhole : Machine → Call → Lines → Machine → Type 0
OpensWhole old call lines new =
    ((begun : Machine) × Takes old (begin fresh call) None begun × Finishes begun fresh [] lines new)
    ⊎ (¬ (IsLawful old (begin fresh call)) × OnlyPrints not_now old lines new)

-- ---- commands

abbrev pub Does : StateLimit → Machine → StepCommand → Lines → Machine → Type 0
Does limit old (publish_text text) lines new = PublishesText limit old (outcome_of text) lines new
Does limit old (remove_profile name) lines new = Publishes old (removed name) (codes "policy " ++ name ++ codes " removed version ")
    lines new
Does limit old (alter_whole words) lines new = TriesNow old words (IsMade old) lines new
Does limit old (open_whole call) lines new = OpensWhole old call lines new
Does limit old (single event) lines new = TakesOne old event lines new
Does limit old (cells_read s most) lines new = TakesUpTo old most (read_cell s) lines new
Does limit old (finish s) lines new = Goes old s lines new
Does limit old (keep words) lines new = TriesNow old words (IsOpened old) lines new
Does limit old (cells_set most) lines new = TakesUpTo old most set_cell lines new
Does limit old close lines new = Closes old lines new

-- one command after the other
abbrev pub DoesAll : StateLimit → Machine → List StepCommand → Lines → Machine → Type 0
DoesAll limit old [] lines new = (lines ≡ []) × (new ≡ old)
DoesAll limit old (c ∷ cs) lines new = (here later : Lines) × (between : Machine)
    × Does limit old c here between × DoesAll limit between cs later new × (lines ≡ here ++ later)
