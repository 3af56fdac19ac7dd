pub mod ZeroPage
