pub mod ShownLine
pub mod TrimmedText
pub mod TrimmedWords
