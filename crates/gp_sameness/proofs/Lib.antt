pub mod AnySize
