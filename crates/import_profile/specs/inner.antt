pub mod GatheredRules
