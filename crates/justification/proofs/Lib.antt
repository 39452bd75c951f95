mod OpenEnds
mod Lookups
mod Agreement
mod Current
mod Growth
mod SameVerdicts
