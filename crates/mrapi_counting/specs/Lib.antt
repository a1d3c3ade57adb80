pub mod SemCalls
pub mod RwlCalls
