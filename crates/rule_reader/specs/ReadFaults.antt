-- The fault at which reading from left to right stops.
use Rattle.std.specs.Prelude.{◌≡◌, ℕ, ◌⊎◌, List, Err, true}
use Rattle.rule_reader.specs.declared.fault.ReadFault.{ReadFault}
use Rattle.rule_profile.specs.Profile.{ProfileValue}
use Rattle.rule_reader.specs.Grammar.{ReadsAs}
use Rattle.rule_reader.specs.declared.reader.local_fault.LocalFault.{LocalFault}
use Rattle.rule_reader.specs.ReadText.{text_at, outcome_of}

-- reading the text first stops with this fault
abbrev pub FaultsAs : List ℕ → ReadFault → Type 0
FaultsAs text fault = outcome_of text ≡ Err fault

-- a profile or a fault
abbrev pub HasOutcome : List ℕ → Type 0
HasOutcome text = ((p : ProfileValue) × ReadsAs text p) ⊎ ((fault : ReadFault) × FaultsAs text fault)

-- the text has a fault
abbrev pub Refused : List ℕ → Type 0
Refused text = (fault : ReadFault) × FaultsAs text fault

-- The text has a settled fault. These are not settled: a Syntax fault at the text's end; a word that is left out, or reported as no
-- permissions or as ones that conflict, if it ends at the text's end; the comma of missing permissions directly after a path, if it
-- is the last byte; and an open class or group, if the path ends at the text's end.
abbrev pub IsSettled : List ℕ → Type 0
IsSettled text = (s : LocalFault) × (text_at text ≡ Err s) × (s.settled ≡ true)
