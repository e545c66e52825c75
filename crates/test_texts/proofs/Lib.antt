mod Controls
mod Answered
