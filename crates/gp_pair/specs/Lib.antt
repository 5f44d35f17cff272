pub mod Names
pub mod External
pub mod Joined
pub mod Taking
pub mod Bundle
pub mod Pair
pub mod Answers
