pub mod Generated
pub mod Text
