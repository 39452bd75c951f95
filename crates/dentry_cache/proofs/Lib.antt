mod RowSteps
mod SetCells
mod KeeperParts
mod First
mod SeenWalks
mod Writers
mod Tallied
