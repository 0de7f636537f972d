-- The places of a packed word in the order in which they save, and what holds of the counts of a prologue.
pub mod Places
