-- What a text's states are, and why it has none.
use Rattle.std.specs.Prelude.{◌≡◌, ◌⊎◌, ℕ, List}
use Rattle.rule_profile.specs.Profile.{ProfileValue}
use Rattle.rule_reader.specs.Grammar.{ReadsAs}
use Rattle.rule_reader.specs.ReadFaults.{FaultsAs}
use Rattle.rule_reader.specs.declared.fault.ReadFault.TheVariants as read
use Rattle.glob_automaton.specs.Automata.{IsCompileFault}
use Rattle.glob_automaton.specs.Sets.{IsCount}
use Rattle.benchmarks.specs.declared.compile.Refusal.{Refusal}
use Rattle.benchmarks.specs.declared.compile.Refusal.TheVariants.{Text, Profile}

-- the rules of the text's profile have this many sets of live places
abbrev pub HasStates : List ℕ → ℕ → Type 0
HasStates text n = (profile : ProfileValue) × ReadsAs text profile × IsCount profile.rules n

-- the text has that fault, or its profile has
abbrev pub IsRefusal : List ℕ → Refusal → Type 0
IsRefusal text (Text fault) = (fault ≡ read.NoMemory) ⊎ FaultsAs text fault
IsRefusal text (Profile fault) = (profile : ProfileValue) × ReadsAs text profile × IsCompileFault profile.rules fault
