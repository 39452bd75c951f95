pub mod Numbers
pub mod Front
