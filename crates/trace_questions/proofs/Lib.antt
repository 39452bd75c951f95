mod Refused
mod Endings
mod Searches
mod Arguments
mod DifferenceLaws
mod DiffAnswers
mod ListedLines
