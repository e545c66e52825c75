pub mod OwnPlaces
pub mod Slotted
pub mod CodesOfRun
