pub mod Xor
pub mod Total
pub mod Spanned
pub mod Tells
