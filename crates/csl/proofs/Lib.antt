pub mod Trials
pub mod Further
pub mod TooEarly
pub mod Costs
pub mod Joined
pub mod Previews
pub mod KnownSizes
