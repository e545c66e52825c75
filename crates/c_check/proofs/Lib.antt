pub mod Found
mod Breaking
mod Nearest
pub mod Earliest
pub mod Places
pub mod Copying
pub mod Visible
pub mod Kept
pub mod Listed
pub mod InnerLoops
pub mod Numbers
pub mod NumbersOfCriticals
pub mod Standing
pub mod Behind
pub mod Looking
pub mod Putting
pub mod Asking
pub mod Weighing
pub mod Telling
pub mod Parts
pub mod UnderWay
