pub mod WriteOneMore
pub mod MappedFault
pub mod CutWhileInstalling
pub mod CutBeforeInstalling
pub mod ChangeIsAtomic
pub mod FinishingLeaves
pub mod WriteRuns
