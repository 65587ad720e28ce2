pub mod FieldRows
pub mod Parts
pub mod Rows
pub mod SchemaRules
pub mod Variants
