mod Sides
mod NameLookUps
mod EightSeats
