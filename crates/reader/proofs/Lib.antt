pub mod GatheredClaims
pub mod WholeListing
pub mod ReadListing
