pub mod Fill
pub mod Choose
pub mod Filling
pub mod HandedBack
