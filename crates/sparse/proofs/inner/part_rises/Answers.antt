-- One test more at each turn.
use Rattle.std.proofs.Common.{ℕ, Bool, ◌∙◌, ap, ◌+◌, ◌&&◌, true, leb}
use Rattle.std.proofs.Math.Bool.{and_assoc}
use Rattle.lists.proofs.UpTo.{up_to-more}
use Rattle.sparse.specs.Sparse.{start_of}
use Rattle.sparse.proofs.inner.part_rises.Goals as goal

pub loop-o-preserved : goal.loop-o-preserved
loop-o-preserved c =
    let starts = c.args.starts.now in
    let test : ℕ → Bool = λ k. leb (start_of starts k) (start_of starts (k + 1)) in
    let o = c.loop-o.o in
    up_to-more ◌&&◌ true test o ∙ ap (λ a. a && test o) c.loop-o.invariant ∙ and_assoc _ c.loop-o.ok (test o)
