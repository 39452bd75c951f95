mod Decimals
mod SomeElements
mod SomeHits
mod ChangeKinds
mod RestatedRules
mod RestatedVerdicts
mod RealChanges
mod ChangeParts
