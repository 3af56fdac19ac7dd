pub mod Store
pub mod Access
pub mod Spaces
pub mod Opened
pub mod Laying
pub mod Protecting
pub mod Listing
pub mod Exiting
