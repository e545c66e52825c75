mod Steps
mod Limits
mod Leaving
mod Terms
mod Completing
mod Readying
pub mod Facing
pub mod Weights
pub mod Unique
pub mod Answering
pub mod Lexemes
pub mod Numbers
pub mod Digits
pub mod WordLists
pub mod Table
pub mod Opening
pub mod Joining
pub mod ReaderSteps
pub mod Keeping
pub mod WordSpots
pub mod Leading
pub mod NamePlaces
pub mod Fates
pub mod SpotCounts
pub mod ConstructPlaces
mod Pushing
mod Expressions
mod OutsideSteps
mod FirstWords
mod FirstSteps
mod CallWords
mod DeclaredWords
mod StepWords
mod StatementWords
mod Onward
mod ClauseWords
mod HeadWords
mod AddedChildren
mod StatementParts
pub mod ProgramWords
mod Effects
mod Standing
mod ExpressionFolds
mod ExpressionSorts
mod CallMeaning
mod CallRows
mod DeclaredRows
mod StepRows
mod StatementRows
mod HeadMeaning
mod StatementMeaning
pub mod ClauseFolds
pub mod HeadFolds
pub mod FileRows
pub mod BlockFolds
pub mod SectionFolds
pub mod SortMeaning
pub mod CallSorts
pub mod FileSorts
pub mod ProgramMeaning
mod GoingOn
pub mod OneAnswer
pub mod OddNames
