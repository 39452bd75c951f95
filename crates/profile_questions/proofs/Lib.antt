mod LeastNames
mod ReachedNames
mod Representatives
