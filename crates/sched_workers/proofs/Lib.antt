pub mod CallAnswers
pub mod Until
