-- What is said about an import that is refused. The sentences are our own.
use Rattle.std.specs.Prelude.{◌≡◌, ℕ, List, [], ◌++◌, codes, Option, Some, None, Ok, Err}
use Rattle.apparmor_text.specs.Parts.{ItemValue}
use Rattle.fault_notes.specs.GrammarNotes.{IsGrammarSaid}
use Rattle.fault_notes.specs.Sentences.{ended}
use Rattle.fault_notes.specs.VariableNotes.{declared_said}
use Rattle.import_profile.specs.declared.options.ImportOptions.{ImportOptions}
use Rattle.import_profile.specs.Faults.{ImportFault, fault_place, syntax, include, left_out, permissions, undefined_variable}
use Rattle.import_profile.specs.Faults.{cyclic_variable, declared, bad_name, too_many_rules, too_long_path, which, not_exact, too_much}
use Rattle.import_profile.specs.Imports.{Imports, Outcome}
use Rattle.rule_explain.specs.FaultWords.{named}
use Rattle.rule_explain.specs.Windows.{place_lines}

-- those of which always the same is said; the names that `which` has are listed in the refusal
abbrev pub plainly_said : ImportFault → List ℕ
plainly_said (include place) = codes "an include: flatten the text first: apparmor_parser -qQp FILE"
plainly_said (permissions place) = codes "these are no permissions, or none that are allowed in this rule"
plainly_said (bad_name place) = codes "the name of an imported profile can't be this one"
plainly_said (too_many_rules place) = codes "the profile has more than 1,024 rules: this is one too many"
plainly_said (too_long_path place) = codes "the path, or the list of a variable that it needs, is too long"
plainly_said (not_exact place) = codes "something changes here for the chosen subject, which --strict doesn't allow"
plainly_said (too_much place) =
    codes "there are more than 1,024 variables, or paths and lists of variables have more than 16 MB"
plainly_said (which names) =
    codes "the profiles there are, as listed: choose one by --profile NAME, or import each by --all"
plainly_said _ = []

-- those that have a word
abbrev pub worded_said : ImportFault → List ℕ
worded_said (left_out place word) = codes "not supported: " ++ (named word ++ [])
worded_said (undefined_variable place name) =
    codes "the variable @{" ++ (named name ++ codes "} isn't declared; --define NAME=VALUE gives a variable a value")
worded_said (cyclic_variable place name) = codes "the variable @{" ++ (named name ++ codes "} needs itself")
worded_said f = plainly_said f

-- this is said of a fault of a text with these items
abbrev pub IsSaid : ImportOptions → List ℕ → List ItemValue → ImportFault → List ℕ → Type 0
IsSaid options text items (syntax place) said = IsGrammarSaid text place said
IsSaid options text items (declared place) said = said ≡ declared_said options text items place
IsSaid options text items f said = said ≡ worded_said f

-- with the place, the part of the line about it, and a caret, if there is a place
abbrev pub said_at : List ℕ → Option ℕ → List ℕ → List ℕ
said_at text (Some place) said = ended (place_lines 0 text place said)
said_at text None said = ended said

-- the notes on a fault of a text with these items
abbrev pub AreFaultNotes : ImportOptions → List ℕ → List ItemValue → ImportFault → List ℕ → Type 0
AreFaultNotes options text items f notes =
    (said : List ℕ) × IsSaid options text items f said × (notes ≡ said_at text (fault_place f) said)

-- on an outcome: none on a profile
abbrev pub AreOutcomeNotes : ImportOptions → List ℕ → List ItemValue → Outcome → List ℕ → Type 0
AreOutcomeNotes options text items (Ok value) notes = notes ≡ []
AreOutcomeNotes options text items (Err f) notes = AreFaultNotes options text items f notes

-- what is said is about the outcome of the text
abbrev pub IsImportNotes : ImportOptions → List ℕ → List ℕ → Type 0
IsImportNotes options text notes =
    (outcome : Outcome) × (imports : Imports options text outcome) × AreOutcomeNotes options text imports.items outcome notes
