pub mod InstructionSteps
