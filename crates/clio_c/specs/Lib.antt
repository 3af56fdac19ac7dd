pub mod Asking
pub mod Creating
pub mod Numbers
pub mod Owned
pub mod Turning
