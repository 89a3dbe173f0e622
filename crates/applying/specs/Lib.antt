pub mod BookState
pub mod Rows
pub mod Applied
pub mod Results
