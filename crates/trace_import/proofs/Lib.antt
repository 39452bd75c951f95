mod JoinedWords
mod FirstLines
mod Endings
mod FailureEndings
mod AllProfiles
