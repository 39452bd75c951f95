mod PrintedLines
mod LineReads
mod ScriptRuns
mod ScriptEndings
mod LineTexts
mod Publication
