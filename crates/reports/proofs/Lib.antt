pub mod Columns
pub mod RowText
pub mod Rows
