pub mod Cut
pub mod Order
pub mod Client
pub mod Issue
pub mod Hearing
pub mod Apart
