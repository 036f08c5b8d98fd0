-- `bus_columns::inner::column::put_cone` meets its contract: the cone's first and last row are written at their numbers. Assumes nothing.
use Rattle.std.proofs.Common.{◌/◌, true, false, ◌≡◌, refl, ◌∙◌, arith, ltb, le-ltb, lt-ltb}
use Rattle.cells.proofs.Puts.{then, none}
use Rattle.numbering.specs.declared.RowName.TheVariants.{Jabr}
use Rattle.numbering.proofs.Laid.{laid-row}
use Rattle.bus_columns.specs.Ends.{cone_end}
use Rattle.bus_columns.proofs.inner.column.put_cone.Goals as goal

pub returns-then-e-net : goal.returns-then-e-net
unfolding cone_end
returns-then-e-net c =
    let x = c.args.x in
    let net = c.args.net.now in
    let row = laid-row _ _ net.laid in
    let e : ltb (x / 2) net.layout.m ≡ true = lt-ltb (x / 2) net.layout.m (omega (arith, c.if-e-net.true)) in
    let first = rw (c.jabr_row-first.ensures ∙ row (Jabr (x / 2) 0) refl) at c.put.ensures.puts in
    let last = rw (c.jabr_row-last.ensures ∙ row (Jabr (x / 2) 3) refl, c.last_value-v.ensures) at c.put-then-e-net.ensures.puts in
    rw e (then first last)

pub returns-else-e-net : goal.returns-else-e-net
unfolding cone_end
returns-else-e-net c =
    let x = c.args.x in
    let m = c.args.net.now.layout.m in
    let e : ltb (x / 2) m ≡ false = le-ltb (x / 2) m (omega (arith, c.if-e-net.false)) in
    rw e none
