pub mod Lists
pub mod SameParts
pub mod Pieces
pub mod Machines
pub mod Passes
