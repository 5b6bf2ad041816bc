pub mod FileRun
pub mod OverInputs
