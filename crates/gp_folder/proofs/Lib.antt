mod Examples
pub mod Named
