-- Laws of what is added to a buffer. Assumes nothing.
use Rattle.std.proofs.Common.{ℕ, ◌≤◌, refl, ◌∙◌, List, [], ◌++◌}
use Rattle.lists.specs.Entries.{Cell}
use Rattle.weighing.specs.Buffers.{Adds}
use Rattle.weighing.specs.declared.Buffer.{Buffer}
use Rattle.weighing.proofs.Gathered.{passed-by, added-joined}

pub adds_none : (least : ℕ) (b : Buffer) → Adds least [] b b
adds_none least b = record { added = passed-by _ _ _ _; starts = refl; segments = refl }

pub adds-joined : {i j k : ℕ} {xs ys : List Cell} {b b' b'' : Buffer} → Adds i xs b b' → Adds j ys b' b'' → i ≤ k → j ≤ k → Adds k (xs ++ ys) b b''
adds-joined p q h l = record { added = added-joined p.added q.added h l; starts = q.starts ∙ p.starts; segments = q.segments ∙ p.segments }
