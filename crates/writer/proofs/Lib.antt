pub mod TaskLines
pub mod TableRows
pub mod SubtaskTexts
pub mod WholeTexts
pub mod Replied
