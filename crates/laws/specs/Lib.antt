pub mod Choose
pub mod Below
pub mod Lists
pub mod Columns
