pub mod ThreadSets
