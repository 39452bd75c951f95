pub mod Grammars
pub mod LineWords
pub mod LineEnds
pub mod FollowedScripts
pub mod Exact
