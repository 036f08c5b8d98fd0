use Rattle.sparse.specs.Checks.{entries_fit}
use Rattle.sparse.proofs.Entries.fit.Goals as goal

pub returns : goal.returns
unfolding entries_fit
returns c = rw (c.all_below.ensures, c.all_below-2.ensures)
