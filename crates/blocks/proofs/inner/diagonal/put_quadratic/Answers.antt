use Rattle.std.proofs.Common.{◌≡◌, refl, ◌∙◌, arith}
use Rattle.lists.proofs.Puts.{no-turn, turn, room}
use Rattle.numbering.specs.Network.{grid}
use Rattle.numbering.specs.declared.ColumnName.TheVariants.{Pg}
use Rattle.numbering.proofs.Laid.{laid-column}
use Rattle.rows.specs.Program.{quadratic}
use Rattle.blocks.proofs.Laws.{diagonal_at}
use Rattle.blocks.proofs.inner.diagonal.put_quadratic.Goals as goal

pub loop-g-init : goal.loop-g-init
loop-g-init c = no-turn _

pub put_if-requires : goal.put_if-requires
unfolding quadratic
put_if-requires c =
    let at = c.loop-g in
    let col = c.pg_column-c.ensures ∙ laid-column _ _ c.args.net.now.laid (Pg at.g) refl in
    rw (col, c.quad_value-v.ensures)
    (room (diagonal_at (grid c.args.net.now)) _ _ at.invariant c.loop-g-test.true c.requires.room)

pub loop-g-preserved : goal.loop-g-preserved
loop-g-preserved c =
    let col = c.pg_column-c.ensures ∙ laid-column _ _ c.args.net.now.laid (Pg c.loop-g.g) refl in
    turn _ _ c.loop-g.invariant (rw (col, c.quad_value-v.ensures) at c.put_if.ensures)

pub returns : goal.returns
unfolding quadratic
returns c = let e : c.loop-g.g ≡ c.args.net.now.layout.k = omega arith in rw e at c.loop-g.invariant
