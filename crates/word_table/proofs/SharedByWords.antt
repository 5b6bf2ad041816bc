-- What several words share, a word that is one of them has. Assumes nothing.
use mathlib.Core.Path.{◌≡◌, sym, ap, ◌∙◌}
use mathlib.Core.Logic.{◌⊎◌, inl, inr}
use mathlib.Core.List.{List, [], ◌∷◌, map}
use lib.ListN.{get_or, drop}
use Rattle.model.specs.declared.text.Word.{Word}

-- a word is one of these
abbrev pub Among : List Word → Word → Type 0
Among [] w = ⊥
Among (u ∷ []) w = w ≡ u
Among (u ∷ v ∷ us) w = (w ≡ u) ⊎ Among (v ∷ us) w

module _ {A : Type 0} (f : Word → A) (x : A) where
  of-first : (u : Word) (us : List Word) → map f (u ∷ us) ≡ map (λ (v : Word). x) (u ∷ us) → (w : Word) → w ≡ u → f w ≡ x
  of-first u us same w e = ap f e ∙ ap (λ (l : List A). get_or l 0 x) same

  pub shared : (us : List Word) → map f us ≡ map (λ (v : Word). x) us → (w : Word) → Among us w → f w ≡ x
  shared [] same w none = absurd none
  shared (u ∷ []) same w e = of-first u [] same w e
  shared (u ∷ v ∷ us) same w (inl e) = of-first u (v ∷ us) same w e
  shared (u ∷ v ∷ us) same w (inr later) = shared (v ∷ us) (ap (drop 1) same) w later
