mod WordBits
mod Summaries
mod Entries
mod Notes
mod Directories
mod InitialTally
