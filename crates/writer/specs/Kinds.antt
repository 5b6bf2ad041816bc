-- The fields of a line that is set, as C has them: two lists of six, kinds and numbers.
use Rattle.std.specs.Prelude.{ℕ, cond, List, [], ◌∷◌, get_or, eqb}
use Rattle.model.specs.declared.text.Field.{Field}
use Rattle.model.specs.declared.text.Field.TheVariants.{Blank, Number, Negative, Misshapen}

-- the field of a kind with a number: 0 a blank, 1 a number, 2 a negative number by its size; every other kind is a field of wrong shape
unfoldable pub field_of_kind : ℕ → ℕ → Field
field_of_kind kind v = cond (eqb kind 0) Blank (cond (eqb kind 1) (Number v) (cond (eqb kind 2) (Negative v) Misshapen))

-- six fields of kinds and numbers
unfoldable pub fields_of_kinds : List ℕ → List ℕ → List Field
unfolding field_of_kind
fields_of_kinds kinds numbers = at 0 ∷ at 1 ∷ at 2 ∷ at 3 ∷ at 4 ∷ at 5 ∷ []
  where
    at : ℕ → Field
    at j = field_of_kind (get_or kinds j 0) (get_or numbers j 0)
