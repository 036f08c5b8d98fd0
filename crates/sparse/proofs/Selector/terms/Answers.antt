use Rattle.sparse.proofs.Fits.{selected, segments_of}
use Rattle.sparse.proofs.Selector.terms.Goals as goal

pub invariant_of-result : goal.invariant_of-result
invariant_of-result c = record { held = rw c.items.ensures (segments_of (selected _ _ _ _ c.requires)) }
