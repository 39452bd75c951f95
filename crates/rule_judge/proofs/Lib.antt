mod VerdictSteps
mod LinkLaws
