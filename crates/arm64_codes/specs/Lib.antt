-- What holds of every form.
pub mod Forms
