mod AllSessions
mod Lawful
mod Steps
mod TestedChanges
mod Consistency
mod GivenAnswers
mod PassedEvents
mod Lifts
