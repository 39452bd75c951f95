mod BelowLaws
mod Passes
mod LeastLists
mod Noted
mod CauseLaws
mod Scan
mod Translations
mod KeyedNames
