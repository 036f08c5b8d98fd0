-- The items' rows follow each other from the first on.
use Rattle.std.proofs.Common.{ap, ◌∙◌, ℕ, List, arith}
use Rattle.lists.specs.UpTo.{overlay}
use Rattle.numbering.specs.Network.{grid}
use Rattle.operands.proofs.Numbers.{row-few, items-few}
use Rattle.operands.proofs.Answers.{rows-listed}
use Rattle.operands.proofs.inner.selector.write_rows.Goals as goal

pub count_from-requires : goal.count_from-requires
count_from-requires c =
    let w = c.args.net.now in
    let r = w.laid.range in
    let f = items-few w.layout.n w.layout.m w.layout.k c.args.o r.n-range r.m-range r.k-range in
    (c.requires.2, omega (arith, f, c.requires.1), omega (arith, row-few w.layout w.bytes.now w.laid c.args.o, c.first_row.ensures))

pub returns : goal.returns
returns c =
    let a = c.args in
    c.count_from.ensures
    ∙ ap (λ (xs : List ℕ). overlay xs a.rows.now)
    (rw c.first_row.ensures (rows-listed (grid a.net.now) a.o c.requires.0 _ c.requires.1))
