mod LastTries
mod Opened
