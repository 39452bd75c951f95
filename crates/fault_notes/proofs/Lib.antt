mod EachImport
