-- Laws of one code and its form.
pub mod Formed
