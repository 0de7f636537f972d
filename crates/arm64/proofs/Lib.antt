-- Worked examples of the definitions.
pub mod CodeBytes
pub mod Examples
pub mod WriterExamples
pub mod MeaningLaws
pub mod PackingLaws
pub mod PackedBack
pub mod WriterLaws
