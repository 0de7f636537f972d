-- ARM64 unwind data that was written and read back.
pub mod CodeBack
pub mod RunBack
pub mod IndexBack
pub mod HeaderBack
pub mod SameReadings
pub mod ScopeBack
pub mod RecordBack
pub mod PackedForm
pub mod Arm64Back
pub mod BuffersBack
pub mod Together
pub mod Down
pub mod Examples
