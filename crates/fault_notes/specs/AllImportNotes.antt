-- What is said about an import of all profiles of a text that is refused.
use Rattle.std.specs.Prelude.{◌≡◌, ℕ, List, [], Option, Ok, Err}
use Rattle.apparmor_text.specs.Parts.{ItemValue}
use Rattle.apparmor_text.specs.Texts.{ReadsItems}
use Rattle.apparmor_words.specs.Steps.{Stop}
use Rattle.fault_notes.specs.ImportNotes.{AreFaultNotes}
use Rattle.import_profile.specs.AllImports.{AllOutcome, ImportsAll}
use Rattle.import_profile.specs.declared.options.ImportOptions.{ImportOptions}

-- on an outcome of a text with these items: none where each profile is imported
abbrev pub AreNotesOnAll : ImportOptions → List ℕ → List ItemValue → AllOutcome → List ℕ → Type 0
AreNotesOnAll options text items (Ok values) notes = notes ≡ []
AreNotesOnAll options text items (Err f) notes = AreFaultNotes options text items f notes

-- what is said is about the outcome of the text, which has these items
abbrev pub AreAllImportNotes : ImportOptions → List ℕ → List ℕ → Type 0
AreAllImportNotes options text notes = (outcome : AllOutcome) × ImportsAll options text outcome
    × ((items : List ItemValue) × (end : Option Stop) × ReadsItems text items end × AreNotesOnAll options text items outcome notes)
