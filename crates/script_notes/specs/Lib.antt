pub mod Lines
pub mod ScriptLines
pub mod Forms
pub mod ControlBytes
pub mod ScriptNotes
pub mod Said
