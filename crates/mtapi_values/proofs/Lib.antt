pub mod NameLemmas
pub mod ValueTables
pub mod MaskLemmas
