pub mod StepScript
pub mod StepLines
pub mod StepsOutput
pub mod inner
