-- The fields of CIEs and FDEs.
pub mod Augmentations
pub mod Cies
pub mod Fdes
