pub mod AskedRows
pub mod KeptNumbers
pub mod SharedByWords
