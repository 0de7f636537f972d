-- Laws of places, and of all entries of a section.
pub mod PlaceLaws
pub mod EntryLaws
