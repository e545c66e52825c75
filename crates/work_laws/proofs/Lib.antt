pub mod CodeRuns
pub mod CodesGone
pub mod Events
pub mod Gos
pub mod ItemSteps
pub mod Items
pub mod Meetings
pub mod NextSections
pub mod Once
pub mod Runs
pub mod Shares
pub mod SizeActs
pub mod SizedPrograms
pub mod SizedTrees
pub mod Sizes
pub mod Teams
pub mod Turns
pub mod Walks
mod ConstructHeads
mod ConstructTrees
mod TextColumns
mod ProgramConstructs
mod NextSectionPlaces
mod ToldSections
