-- `cost::inner::total_cost` meets its contract: one generator more in each turn, whose segments start where those before it end.
-- Assumes nothing.
use Rattle.std.proofs.Common.{◌+◌, ◌≡◌, refl, ◌∙◌, arith}
use Rattle.lists.specs.UpTo.{up_to}
use Rattle.lists.proofs.Sums.{sum-next}
use Rattle.records.specs.Fields.{segments_of}
use Rattle.records.proofs.Segments.{segments-fit}
use Rattle.numbering.specs.Network.{grid}
use Rattle.numbering.proofs.Laid.{pg_follows, pg_fits}
use Rattle.cost.proofs.Costs.{total-more, total-all}
use Rattle.cost.proofs.inner.total_cost.Goals as goal

pub loop-g-init : goal.loop-g-init
unfolding up_to
loop-g-init c = (c.pg_column-pg.ensures, omega arith, refl)

pub bounds-x-pg : goal.bounds-x-pg
bounds-x-pg c = omega (arith, c.requires, pg_fits c.args.net.now.layout, c.loop-g.invariant.0)

pub new-segments-requires : goal.new-segments-requires
new-segments-requires c =
    let p = c.args.net.now.laid.accepted in
    let turn = c.loop-g in
    let count = rw (c.generator-r.ensures.place, c.generator-r.ensures.bytes) at c.segments-count.ensures.value in
    omega (arith, p.size, segments-fit p turn.g (omega arith), count, turn.invariant.1)

pub overflow_add-first-in-loop-g : goal.overflow_add-first-in-loop-g
overflow_add-first-in-loop-g c =
    let p = c.args.net.now.laid.accepted in
    let turn = c.loop-g in
    let count = rw (c.generator-r.ensures.place, c.generator-r.ensures.bytes) at c.segments-count.ensures.value in
    omega (arith, p.few-buses, p.few-branches, p.few_generators, p.few-segments, segments-fit p turn.g (omega arith), count, turn.invariant.1)

pub loop-g-preserved : goal.loop-g-preserved
loop-g-preserved c =
    let a = c.args in
    let l = a.net.now.layout in
    let b = a.net.now.bytes.now in
    let turn = c.loop-g in
    let r = c.generator-r.ensures in
    let q = c.new-segments.ensures in
    let count = rw (r.place, r.bytes) at c.segments-count.ensures.value in
    let cost = rw (r.place, r.bytes, q.first, q.count, q.bytes) at c.generator_cost-sum.ensures in (
      turn.invariant.0,
      omega (arith, sum-next turn.g (λ i. segments_of b (l.n + l.m + i)), count, turn.invariant.1),
      total-more l.n l.m l.k l.s b a.x.now turn.g turn.first c.segments-count.result _ turn.sum c.generator_cost-sum.result turn.invariant.1 count
          (omega (arith, turn.invariant.0, pg_follows l b turn.g)) turn.invariant.2 cost,
    )

pub returns : goal.returns
returns c =
    let a = c.args in
    let turn = c.loop-g in
    let e : turn.g ≡ a.net.now.layout.k = omega arith in
    (rw e at turn.invariant.2) ∙ total-all (grid a.net.now) a.x.now
