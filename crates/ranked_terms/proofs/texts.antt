-- The text of a term: how it is printed, and how it is read.
pub mod HeadLaws
pub mod ReadLaws
pub mod ReadingLaws
pub mod TextLaws
