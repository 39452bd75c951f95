pub mod Sentences
pub mod ProfileNotes
pub mod ImageNotes
pub mod GrammarNotes
pub mod VariableNotes
pub mod ImportNotes
pub mod AllImportNotes
pub mod inner
