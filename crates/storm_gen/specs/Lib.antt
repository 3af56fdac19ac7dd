pub mod Generated
pub mod Numbering
pub mod Drawing
pub mod Suitable
pub mod SummaryTexts
