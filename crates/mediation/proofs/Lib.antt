mod Asked
mod ToldLaws
mod RecordVerdicts
mod LinkJudgments
mod MapSteps
