pub mod Watched
pub mod Steps
pub mod Runs
pub mod Trials
