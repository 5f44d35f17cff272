mod Examples
pub mod Groups
pub mod Places
pub mod ReadBack
pub mod Rows
