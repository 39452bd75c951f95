mod NameCases
mod PassedMembers
mod JoinedVerdicts
