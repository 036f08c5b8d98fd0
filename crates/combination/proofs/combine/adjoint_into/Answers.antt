use Rattle.std.proofs.Common.{ℕ, ◌*◌, ◌≡◌, ap, ◌∙◌, arith, length}
use Rattle.std.proofs.Math.ListN.{replicate}
use Rattle.sparse.specs.Sparse.{zero64}
use Rattle.combination.proofs.Adjoint.{adjoint_table}
use Rattle.combination.proofs.combine.adjoint_into.Goals as goal

pub returns : goal.returns
returns c =
    let x = c.args.rhs.now in
    let y = c.args.y.now in
    let e : length c.fill.new.self ≡ y.columns * x.columns = omega arith in
    let z : c.fill.new.self ≡ replicate (y.columns * x.columns) zero64 =
    c.fill.ensures.after (λ y e. e) ∙ ap (λ (n : ℕ). replicate n zero64) c.requires.1 in
    (c.scale.ensures ∙ adjoint_table y.columns x.columns x.dim c.args.sign x.values.now y.values.now z e c.add_columns.ensures, omega arith)
