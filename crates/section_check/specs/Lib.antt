-- The check of an eh_frame section that another tool wrote, and what its pass over the entries keeps.
pub mod Check
pub mod Answered
pub mod Places
