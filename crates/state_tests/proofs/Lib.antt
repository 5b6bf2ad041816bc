pub mod ClaimsMet
pub mod StateJudged
