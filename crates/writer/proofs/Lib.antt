pub mod LineJudged
pub mod FieldsFit
pub mod Spelling
pub mod Laws
