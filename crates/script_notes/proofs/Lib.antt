mod FirstLine
mod NotedLines
mod ShownWords
mod SaidForms
mod SaidCommands
mod SaidNone
mod Said
