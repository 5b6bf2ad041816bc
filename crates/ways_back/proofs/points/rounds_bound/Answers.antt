-- What is kept of the points is what their edges are tested by. Assumes nothing.
use mathlib.Core.Path.{sym, ap, ◌∙◌}
use Rattle.std.proofs.lemmas.Result.{err_from_is_err_and}
use Rattle.model.specs.Bound.{bound_from}
use Rattle.rows_and_places.specs.Points.{points_in}
use Rattle.register_writes.specs.Taken.{only_taken}
use Rattle.ways_back.proofs.TargetMarks.{none-marked}
use Rattle.ways_back.proofs.CoveredPoints.{some-point, turn_alone, bound-rounds}
use Rattle.ways_back.proofs.points.rounds_bound.Goals as goal

pub mark_targets-requires-clause-none_marked : goal.mark_targets-requires-clause-none_marked
mark_targets-requires-clause-none_marked c = none-marked

pub turn_of-t-requires : goal.turn_of-t-requires
turn_of-t-requires c = c.requires.holds.all.each 0 (some-point _ _ _ c.requires.n_value)

pub edges_covered-requires-clause-covering : goal.edges_covered-requires-clause-covering
edges_covered-requires-clause-covering c =
    let ps = points_in c.args.rows.now c.args.at.now c.args.n in
    let t = c.turn_of-t.ensures.value ∙ turn_alone c.args.rows.now c.args.at.now c.args.n (some-point _ _ _ c.requires.n_value) in record {
      marked = c.mark_targets.ensures;
      taken = c.only_taken.ensures ∙ ap (only_taken ps) t;
    }

pub rounds_of-requires : goal.rounds_of-requires
rounds_of-requires c =
    (c.requires.holds.all.each 0 (some-point _ _ _ c.requires.n_value), c.turn_of-t.ensures.result_bound)

pub returns-in_err-edges_covered : goal.returns-in_err-edges_covered
returns-in_err-edges_covered c =
    let p = err_from_is_err_and c.from_residual.result c.from_residual.ensures.1 in
    rw (p.1, p.2) (ap (bound_from (points_in c.args.rows.now c.args.at.now c.args.n)) (sym c.in_err-edges_covered.was ∙ c.edges_covered.ensures))

pub returns : goal.returns
returns c =
    let t = c.turn_of-t.ensures.value ∙ turn_alone c.args.rows.now c.args.at.now c.args.n (some-point _ _ _ c.requires.n_value) in
    bound-rounds c.args.rows.now c.args.at.now c.args.n c.requires.n_value _ t _ c.rounds_of.ensures.0 _ c.edges_covered.ensures c.in_ok-edges_covered.was
