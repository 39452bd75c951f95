pub mod PermissionSets
pub mod Positions
pub mod LeastNumbers
pub mod Records
pub mod ByteKeys
pub mod Results
pub mod PathLemmas
pub mod PathLaws
