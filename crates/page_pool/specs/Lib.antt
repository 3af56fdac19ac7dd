pub mod PoolPages
pub mod Kept
