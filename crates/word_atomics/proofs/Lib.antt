pub mod Atomics
