pub mod ClaimedRange
pub mod FirstClaim
