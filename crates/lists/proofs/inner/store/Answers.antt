use Rattle.std.proofs.Common.{sym}
use lib.Seq.{set_out}
use Rattle.lists.proofs.inner.store.Goals as goal

pub returns-else-at-s : goal.returns-else-at-s
returns-else-at-s g c = sym (set_out _ _ _ c.if-at-s.false)
