pub mod QuestionHashes
pub mod SameQuestions
