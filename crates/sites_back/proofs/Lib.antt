-- The laws of a list that is written and whose call sites are then read.
pub mod TableBack
pub mod SitesBack
pub mod Places
pub mod Together
