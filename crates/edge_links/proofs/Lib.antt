pub mod BetterLinks
