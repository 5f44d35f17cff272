pub mod MovedParts
pub mod Standing
pub mod MadeBytes
pub mod Laws
