pub mod Moved
pub mod Survivors
pub mod References
pub mod Common
pub mod Drawn
pub mod AnySize
pub mod Same
