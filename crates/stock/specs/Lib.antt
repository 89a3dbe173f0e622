pub mod Procedures
pub mod Stock
pub mod Shelf
pub mod Texts
pub mod ProcedureNumbered
pub mod StepTestsInOrder
pub mod StepKeepsValid
