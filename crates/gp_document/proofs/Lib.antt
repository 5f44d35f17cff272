pub mod Answering
pub mod Documents
pub mod Few
pub mod Finishing
pub mod Lengths
pub mod OneAnswer
pub mod Whole
pub mod Written
