mod Bounds
mod EachEntry
mod KeptEntries
