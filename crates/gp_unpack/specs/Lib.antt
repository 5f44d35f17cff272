pub mod Contents
pub mod Laid
pub mod PlainFields
pub mod Unpacked
pub mod Kept
pub mod Laws
