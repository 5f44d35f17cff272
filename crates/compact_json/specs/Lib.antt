pub mod Compact
