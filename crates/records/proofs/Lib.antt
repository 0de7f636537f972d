-- The lemmas of this crate's functions.
pub mod Chunks
pub mod LabelLaws
pub mod PairOrder
pub mod StepLoops
pub mod CallSites
pub mod RowLoops
pub mod SurveyLoops
pub mod OtherRows
pub mod Pointed
pub mod FieldLaws
pub mod RecordLaws
pub mod FieldRelocs
pub mod RelocLaws
