pub mod OpenLists
pub mod ReturnTrees
pub mod Adding
pub mod Turning
pub mod TurningCalls
pub mod TurningSteps
pub mod TurningTasks
pub mod TurningLinks
pub mod Forking
pub mod OutsideActs
pub mod ReturnWalk
pub mod ReturnPrograms
mod OpenExamples
