-- When the bytes that the program has read of a file are the whole of it.
-- A file is read up to the size of a buffer, and then asked for one byte more: there is more or not, or reading failed.
use Rattle.std.specs.Prelude.{ℕ, Bool, false, not, ◌||◌, eqb, Result, Ok, Err}

-- n bytes are the whole of a file: it ended there, or it fills the buffer, which no listing, table or state may do
abbrev pub is_whole : {E : Type 0} → Result Bool E → ℕ → ℕ → Bool
is_whole (Ok more) n size = eqb n size || not more
is_whole (Err e) n size = false
