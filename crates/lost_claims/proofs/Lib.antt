pub mod LostClaims
