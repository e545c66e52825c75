pub mod LevelLine
