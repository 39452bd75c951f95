mod DeadAutomaton
mod RowReads
mod StatesAfter
