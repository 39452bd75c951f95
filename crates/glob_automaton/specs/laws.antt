pub mod AscendingLists
