use Rattle.std.proofs.Common.{ℕ, ◌*◌, ◌≡◌, ap, ◌∙◌, arith, length}
use Rattle.std.proofs.Math.ListN.{replicate}
use Rattle.sparse.specs.Sparse.{zero64}
use Rattle.combination.proofs.Tables.{spread_forward}
use Rattle.combination.proofs.Forward.{forward_table}
use Rattle.combination.proofs.combine.forward_into.Goals as goal

pub weigh_all-requires-clause-spread : goal.weigh_all-requires-clause-spread
weigh_all-requires-clause-spread c =
    let t = c.args.terms.now in
    let e : length c.fill.new.self ≡ t.segments * c.args.x.now.columns = omega arith in
    rw e (spread_forward t.segments c.args.x.now.columns)

pub returns : goal.returns
returns c =
    let t = c.args.terms.now in
    let s = t.selector in
    let x = c.args.x.now in
    let e : length c.fill.new.self ≡ t.segments * x.columns = omega arith in
    let z : c.fill.new.self ≡ replicate (t.segments * x.columns) zero64 =
    c.fill.ensures.after (λ y e. e) ∙ ap (λ (n : ℕ). replicate n zero64) c.requires.1 in
    (c.scale.ensures ∙ forward_table x.dim x.columns t.segments s.starts.now s.rows.now s.weights.now x.values.now c.args.sign z e c.weigh_all.ensures, omega arith)
