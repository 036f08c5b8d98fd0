-- The entries are looked at only where the dimension is bounded.
use Rattle.std.proofs.Common.{sym, ◌∙◌}
use Rattle.sparse.proofs.Fits.{bounds}
use Rattle.adjoint.proofs.transposes.transpose_fits.Goals as goal

pub fit-requires : goal.fit-requires
fit-requires c = (bounds _ _ (sym c.bounded.ensures ∙ c.if-bounded.true)).small
