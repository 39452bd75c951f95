mod Sums
mod Verdicts
mod Parts
