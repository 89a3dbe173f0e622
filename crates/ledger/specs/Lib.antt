pub mod Procedures
pub mod Ledger
pub mod Texts
pub mod ProcedureNumbered
pub mod StepTestsInOrder
pub mod StepKeepsValid
pub mod Totals
