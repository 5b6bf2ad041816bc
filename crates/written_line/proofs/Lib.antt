pub mod OtherColumns
pub mod ColumnsRead
pub mod ColumnsSetAgain
pub mod LineFields
pub mod ClearedColumns
