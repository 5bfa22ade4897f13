pub mod Sound
pub mod GivenBack
