mod Faults
mod Climbs
mod Files
mod Replacement
