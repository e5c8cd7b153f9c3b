-- Laws that belong to no one function.
pub mod Passing
pub mod Searching
pub mod Rebuilding
pub mod Called
pub mod Inserting
pub mod Deleting
pub mod StoringLists
pub mod RisingLists
pub mod Only
