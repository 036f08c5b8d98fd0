use Rattle.std.proofs.Common.{arith}
use Rattle.cells.proofs.Puts.{no-turn, turn}
use Rattle.record_columns.specs.Writers.{ones}
use Rattle.record_columns.proofs.inner.generators.put_ones.Goals as goal

pub loop-t-init : goal.loop-t-init
loop-t-init c = record { bound = omega arith; written = no-turn _ }

pub loop-t-preserved : goal.loop-t-preserved
unfolding ones
loop-t-preserved c =
    record { bound = omega (arith, c.loop-t.invariant.bound, c.put.ensures.upper_bound); written = turn _ c.loop-t.t c.loop-t.invariant.written c.put.ensures.puts }
