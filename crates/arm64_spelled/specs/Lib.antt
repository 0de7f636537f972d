-- What the inner functions promise.
pub mod Forms
