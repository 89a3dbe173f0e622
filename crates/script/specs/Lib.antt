pub mod LineValue
pub mod OptionDo
pub mod Grammar
pub mod FaultValue
pub mod Misfit
pub mod Texts
pub mod Reading
