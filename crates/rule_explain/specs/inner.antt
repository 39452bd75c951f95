pub mod Firsts
pub mod Numbers
