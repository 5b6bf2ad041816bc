-- The name of the file that is written beside another, before it takes the other's place, and the folder of both.
use Rattle.std.specs.Prelude.{ℕ, zero, suc, cond, List, [], ◌++◌, length, get_or, leb, eqb}
use Rattle.model.specs.Words.{bytes}

-- the longest path that a new file is named after
abbrev pub longest_path : ℕ
longest_path = 4000

-- what a new file's name ends in
abbrev pub ending : List ℕ
ending = bytes ".new"

-- the path with that ending; no name where the path is too long
abbrev pub new_name : List ℕ → List ℕ
new_name path = cond (leb (length path) longest_path) (path ++ ending) []

-- the byte that ends the name of a folder
abbrev pub slash : ℕ
slash = 47

-- how many of the first n bytes of a path name its folder: those up to the last slash
unfoldable pub folder_to : List ℕ → ℕ → ℕ
folder_to path zero = 0
folder_to path (suc n) = cond (eqb (get_or path n 0) slash) (suc n) (folder_to path n)

-- how many bytes of a path name its folder; none where the file is in the folder at hand
abbrev pub folder_length : List ℕ → ℕ
folder_length path = folder_to path (length path)
