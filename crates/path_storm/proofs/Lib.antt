mod Closures
mod Counts
mod Logged
mod OneCount
mod Opened
mod Pushed
mod ThreadSafety
