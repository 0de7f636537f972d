-- One list in two sections.
pub mod Story
