use mathlib.Core.Path.{◌≡◌, sym, ap, ◌∙◌}
use mathlib.Core.List.{[], ◌∷◌}
use Prim.Native.Nat.{ℕ}
use Rattle.model.specs.declared.claims.Claim.{Claim}
use Rattle.model.specs.Bound.{turn_among}
use Rattle.line_rows.specs.Rows.{row_at}
use Rattle.decoded.specs.Decoded.{claim_from, claims_from}
use Rattle.rows_and_places.specs.Points.{number_in, first_in}
use Rattle.register_claims.proofs.FirstClaim.{turn-told, turn-none}
use Rattle.register_claims.proofs.turn.turn_of.Goals as goal

pub returns-then-claims_of-eq0-clause-value : goal.returns-then-claims_of-eq0-clause-value
returns-then-claims_of-eq0-clause-value c =
    let none : number_in c.args.at.now 0 ≡ 0 = sym c.claims_of.ensures ∙ c.if-claims_of-eq0.true in
    turn-none c.args.rows.now (first_in c.args.at.now 0) ∙ ap (λ (n : ℕ). turn_among (claims_from c.args.rows.now (first_in c.args.at.now 0) n)) (sym none)

pub returns : goal.returns
returns c =
    let some : number_in c.args.at.now 0 ≡ 0 → ⊥ = λ e. c.if-claims_of-eq0.false (c.claims_of.ensures ∙ e) in
    let told = c.turn_in.ensures ∙ ap (λ (x : Claim). turn_among (x ∷ [])) (c.claim_at.ensures ∙ ap (λ (k : ℕ). claim_from (row_at c.args.rows.now k)) c.first_of.ensures) in
    record { value = (turn-told c.args.rows.now (first_in c.args.at.now 0) (number_in c.args.at.now 0) c.requires.point.claims some _ told).0; result_bound = (turn-told c.args.rows.now (first_in c.args.at.now 0) (number_in c.args.at.now 0) c.requires.point.claims some _ told).1 }
