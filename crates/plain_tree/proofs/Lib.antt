mod EmptyKeys
mod Mirrors
mod Held
mod Carried
mod Entries
