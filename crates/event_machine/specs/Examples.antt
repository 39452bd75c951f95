-- Worked runs: the calls of session 1 in the root. Nobody else does anything, except that the keeper opens a change in some of
-- them.
use Rattle.std.specs.Prelude.{false, List, [], ◌∷◌}
use Rattle.names.specs.Ascii as ascii
use Rattle.names.specs.declared.permissions.Permission.TheVariants.{Read}
use Rattle.names.specs.declared.permissions.Perms.{Perms}
use Rattle.names.specs.Permissions.{only, set_of}
use Rattle.directory_tree.specs.declared.change.Change.{Change}
use Rattle.directory_tree.specs.declared.change.Change.TheVariants.{Mkdir}
use Rattle.mediation.specs.Deeds.{published}
use Rattle.mediation.specs.Judge.{by_rules}
use Rattle.event_machine.specs.Machine.{Call, Event}
use Rattle.event_machine.specs.Machine.Event.{begin, read_policy, read_count, check_count, answer, open_change, publish}

abbrev pub to_read : Perms
to_read = only Read

abbrev pub nothing : Perms
nothing = set_of (λ p. false)

-- the profile `p` opens `/`
abbrev pub root_for : Perms → Call
root_for ask = record { profile = ascii.letter_p ∷ []; path = ascii.slash ∷ []; ask = ask }

-- the profile isn't published
abbrev pub unpublished_call : List Event
unpublished_call = begin 1 (root_for to_read) ∷ read_policy 1 ∷ answer 1 ∷ []

-- `p` is published without rules, and then the whole call is made
abbrev pub whole_call : Perms → List Event
whole_call ask =
    publish (published (ascii.letter_p ∷ []) (by_rules []) ∷ []) ∷ begin 1 (root_for ask) ∷ read_policy 1 ∷ read_count 1 ∷ check_count
    1 ∷ answer 1 ∷ []

-- the directory `/b` is made
abbrev pub mkdir_b : Change
mkdir_b = Mkdir (ascii.slash ∷ ascii.letter_b ∷ [])

-- The same, but the keeper opens a change before the count is read: the count is odd, both times.
abbrev pub busy_call : List Event
busy_call =
    publish (published (ascii.letter_p ∷ []) (by_rules []) ∷ []) ∷ begin 1 (root_for to_read) ∷ read_policy 1 ∷ open_change mkdir_b
    ∷ read_count 1
    ∷ check_count 1 ∷ answer 1 ∷ []

-- The keeper opens the change after the count was read: the count is even first, and odd when it is checked.
abbrev pub overtaken_call : List Event
overtaken_call =
    publish (published (ascii.letter_p ∷ []) (by_rules []) ∷ []) ∷ begin 1 (root_for to_read) ∷ read_policy 1 ∷ read_count 1
    ∷ open_change mkdir_b
    ∷ check_count 1 ∷ answer 1 ∷ []
