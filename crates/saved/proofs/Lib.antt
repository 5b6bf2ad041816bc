pub mod StateLines
pub mod StateText
pub mod StateReadBack
pub mod BudgetDigits
