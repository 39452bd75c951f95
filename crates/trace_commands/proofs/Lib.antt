mod Arguments
mod Consumption
mod ExplainEndings
mod ImageAnswers
mod ImageRead
mod QuietEndings
mod QuietOutputs
mod QuietVerdicts
