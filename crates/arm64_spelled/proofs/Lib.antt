-- Laws of a code's spelling.
pub mod FormLaws
pub mod FitLaws
