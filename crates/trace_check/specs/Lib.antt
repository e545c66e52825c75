pub mod Brackets
pub mod Before
pub mod Rules
pub mod Nested
pub mod Opened
pub mod Checking
pub mod Answering
pub mod Items
