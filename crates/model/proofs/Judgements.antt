-- Two judgements in order, by whether the first turns back. Assumes nothing.
use mathlib.Core.Path.{◌≡◌, refl, sym}
use mathlib.Core.Bool.{true, false, false≢true}
use Rattle.model.specs.Types.{Judgement, accepted, Err, Ok}
use Rattle.model.specs.Answers.{is_refused, ◌and_then◌}

pub is-accepted : (j : Judgement) → is_refused j ≡ false → j ≡ accepted
is-accepted (Ok u) e = refl
is-accepted (Err r) e = absurd (false≢true (sym e))

pub stays-refused : (j k : Judgement) → is_refused j ≡ true → (j and_then k) ≡ j
stays-refused (Ok u) k e = absurd (false≢true e)
stays-refused (Err r) k e = refl
