-- Laws that belong to no one function.
pub mod SomeElement
pub mod FollowsCases
pub mod ExchangedVariables
pub mod SmallerBounds
pub mod GatheredLinks
