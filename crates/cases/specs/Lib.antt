-- What the contracts of `cases` cite.
pub mod Total
