use Rattle.std.proofs.Common.{◌*◌, ◌≡◌, ◌∙◌, arith, length}
use Rattle.weighing.proofs.Walked.{passed-before}
use Rattle.combination.proofs.Tables.{spread_adjoint}
use Rattle.combination.proofs.Adjoint.{segments-filled, summed_none, summed_empty, summed_more, summed_same}
use Rattle.combination.proofs.combine.add_columns.Goals as goal

pub returns-then-rhs-eq0 : goal.returns-then-rhs-eq0
returns-then-rhs-eq0 c = summed_empty _ c.if-rhs-eq0.true

pub loop-spot-init : goal.loop-spot-init
loop-spot-init c = (omega arith, omega arith, summed_none _)

pub terms-requires : goal.terms-requires
terms-requires c = let b = c.fill-next.new.self in segments-filled c.fill-next.ensures b.sized.0 b.sized.1 b.sized.2

pub weigh_all-requires-clause-spread : goal.weigh_all-requires-clause-spread
weigh_all-requires-clause-spread c =
    let x = c.args.rhs.now in
    let y = c.args.y.now in
    let e : length c.loop-spot.out ≡ y.columns * x.columns = c.loop-spot.invariant.2.long ∙ c.requires.1 in
    rw (e, c.terms.ensures.segments) (spread_adjoint y.columns x.columns c.loop-spot.spot.column _ c.fill-next.ensures.inside)

pub loop-spot-preserved : goal.loop-spot-preserved
loop-spot-preserved c =
    let f = c.fill-next.ensures in
    let t = c.terms.ensures in
    (f.column-inside, f.row_inside, summed_more f c.loop-spot.invariant.2 (rw (t.starts, t.rows, t.weights, t.segments, c.requires.0) at c.weigh_all.ensures))

pub returns : goal.returns
returns c = summed_same c.loop-spot.invariant.2 (λ k l. passed-before _ _ _ _ (omega arith))
