pub mod Text
pub mod Reports
pub mod Costs
pub mod Laws
