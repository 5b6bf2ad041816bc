-- Each way of the code is a case of the definition. Assumes nothing.
use Rattle.std.proofs.Common.{ℕ, Bool, refl, sym, ◌∙◌, get_or, List}
use Rattle.model.specs.declared.claims.Stripe.{Stripe}
use Rattle.model.specs.Lists.{some}
use Rattle.model.specs.Facts.{Facts}
use Rattle.model.specs.Transfer.{stripe}
use Rattle.model.specs.Follows.{at_once}
use Rattle.goal_search.specs.Goal as Goal
use Rattle.goal_search.specs.Goal.{by_link}
use Rattle.goal_search.proofs.SomeElement.{some-hit, some-missed, some-none}
use Rattle.goal_search.proofs.FollowsCases as cases
use Rattle.goal_search.proofs.ExchangedVariables.{once-turned, follows-turned, either-place}
use Rattle.goal_search.proofs.within.+search_linked_through.Goals as goal
use Rattle.goal_search.proofs.within.+search_linked_through.Goals.{linked-then-v-y+else-through, linked-else-v-y}

-- the test of a goal with so many uses of the links left
abbrev rest : Facts → List Stripe → ℕ → Stripe → Bool
rest f links left = Goal.follows (at_once f) links left

pub search-returns-then-shown : goal.search-returns-then-shown
search-returns-then-shown g t c =
    let a = c.args in
    cases.follows-once (at_once a.edge.now.known.now) a.edge.now.links.now (stripe a.x a.a a.y a.z a.plus a.minus) a.left (sym c.shown.ensures ∙ c.if-shown.true)

pub search-returns-then-left-eq0 : goal.search-returns-then-left-eq0
search-returns-then-left-eq0 g t c =
    let a = c.args in
    cases.follows-none (at_once a.edge.now.known.now) a.edge.now.links.now (stripe a.x a.a a.y a.z a.plus a.minus) a.left c.if-left-eq0.true (sym c.shown.ensures ∙ c.if-shown.false)

pub search-returns : goal.search-returns
search-returns g t c =
    let a = c.args in
    c.linked.ensures ∙ cases.follows-linked (at_once a.edge.now.known.now) a.edge.now.links.now (stripe a.x a.a a.y a.z a.plus a.minus) a.left c.if-left-eq0.false (sym c.shown.ensures ∙ c.if-shown.false)

pub linked-loop-l-init : goal.linked-loop-l-init
unfolding some
linked-loop-l-init g t c = refl

pub linked-returns-then-through : goal.linked-returns-then-through
linked-returns-then-through g t c =
    let a = c.args in
    let s = stripe a.x a.a a.y a.z a.plus a.minus in
    let hit = some-hit (by_link (rest a.edge.now.known.now a.edge.now.links.now a.left) s) c.as_slice-l-items.result.now c.loop-l.l-index (stripe 0 0 0 0 0 0) c.loop-l-test.true (sym c.through.ensures ∙ c.if-through.true) in
    sym (rw c.as_slice-l-items.ensures.same at hit)

pub linked-loop-l-preserved : goal.linked-loop-l-preserved
linked-loop-l-preserved g t c =
    let a = c.args in
    let f : Stripe → Bool = rest a.edge.now.known.now a.edge.now.links.now a.left in
    let s = stripe a.x a.a a.y a.z a.plus a.minus in
    some-missed (by_link f s) c.as_slice-l-items.result.now c.loop-l.l-index (stripe 0 0 0 0 0 0) c.loop-l-test.true c.loop-l.invariant
    (elim c.if-v-y.branch [
      | linked-then-v-y+else-through w ↦ sym w.through.ensures ∙ w.if-through.false
      | linked-else-v-y w ↦ cases.untouched f s (get_or c.as_slice-l-items.result.now c.loop-l.l-index (stripe 0 0 0 0 0 0)) w.if-v-y.false
    ])

pub linked-returns : goal.linked-returns
linked-returns g t c =
    let a = c.args in
    let s = stripe a.x a.a a.y a.z a.plus a.minus in
    let none = some-none (by_link (rest a.edge.now.known.now a.edge.now.links.now a.left) s) c.as_slice-l-items.result.now c.loop-l.l-index c.loop-l-test.false c.loop-l.invariant in
    sym (rw c.as_slice-l-items.ensures.same at none)

pub through-returns-then-v-y : goal.through-returns-then-v-y
through-returns-then-v-y g t c =
    let a = c.args in
    let f = a.edge.now.known.now in
    let s = stripe a.x a.a a.y a.z a.plus a.minus in
    let turns = follows-turned a.x a.a (at_once f) (once-turned a.x a.a f) a.edge.now.links.now a.left in
    let moved = rw (c.scaled.ensures.0, c.scaled-2.ensures.0) at c.search.ensures in
    moved ∙ cases.by-y (rest f a.edge.now.links.now a.left) s a.l.now c.if-v-y.true (either-place (rest f a.edge.now.links.now a.left) s a.l.now turns)
