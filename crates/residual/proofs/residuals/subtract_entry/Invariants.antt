use Rattle.std.proofs.Common.{◌≡◌, length}
use Rattle.lists.specs.Entries.{entry}
use Rattle.lists.specs.Steps.{turns}
use Rattle.residual.specs.Residual.{subtract_at}
use Rattle.residual.proofs.residuals.subtract_entry.Given as goal

abbrev pub invariant-loop-c : goal.invariant-loop-c
invariant-loop-c l =
    let x = l.answer in
    (length l.out ≡ length l.initial.out) × (l.out ≡ turns (subtract_at x.dim x.values.now (entry l.row l.col l.value)) l.c l.initial.out)
