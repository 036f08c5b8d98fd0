-- `bus_columns::inner::column::put_ohm` meets its contract. Assumes nothing.
use Rattle.std.proofs.Common.{◌/◌, ◌%◌, ◌≡◌, sym, ◌∙◌, true, false, arith, eqb, ltb, eq-eqb, ne_eqb, le-ltb, lt-ltb}
use Rattle.cells.proofs.Puts.{none}
use Rattle.matrix.specs.Columns.{ohm_cell}
use Rattle.bus_columns.specs.Ends.{parity_of, ohm_end}
use Rattle.bus_columns.proofs.inner.column.put_ohm.Goals as goal

pub returns-then-e-from : goal.returns-then-e-from
unfolding ohm_end ohm_cell
returns-then-e-from c =
    let x = c.args.x in
    let m = c.args.from.now.net.layout.m in
    let t : eqb (x % 2) (parity_of c.args.q) ≡ true = eq-eqb _ _ (c.if-x-side.true ∙ c.side.ensures) in
    let e : ltb (x / 2) m ≡ true = lt-ltb (x / 2) m (omega (arith, c.if-e-from.true)) in
    rw (t, e) (rw (c.ohm_row-row.ensures, c.of-v.ensures) at c.put_nonzero.ensures.puts)

pub returns-else-e-from : goal.returns-else-e-from
unfolding ohm_end
returns-else-e-from c =
    let x = c.args.x in
    let m = c.args.from.now.net.layout.m in
    let t : eqb (x % 2) (parity_of c.args.q) ≡ true = eq-eqb _ _ (c.if-x-side.true ∙ c.side.ensures) in
    let e : ltb (x / 2) m ≡ false = le-ltb (x / 2) m (omega (arith, c.if-e-from.false)) in
    rw (t, e) none

pub returns-else-x-side : goal.returns-else-x-side
unfolding ohm_end
returns-else-x-side c =
    let t : eqb (c.args.x % 2) (parity_of c.args.q) ≡ false = ne_eqb _ _ (λ q. c.if-x-side.false (q ∙ sym c.side.ensures)) in
    rw t none
