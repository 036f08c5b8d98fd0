-- A part that falls ends the walk, one that rises goes on with the next.
use Rattle.std.proofs.Common.{ℕ, Bool, refl, sym, arith, ◌+◌, ◌&&◌, true, false, leb}
use Rattle.lists.specs.UpTo.{up_to}
use Rattle.lists.proofs.UpTo.{up_to_stays}
use Rattle.sparse.specs.Sparse.{start_of}
use Rattle.sparse.proofs.inner.rise.Goals as goal

pub loop-first-init : goal.loop-first-init
unfolding up_to
loop-first-init c = (omega arith, refl)

pub returns-then-not-part_rises : goal.returns-then-not-part_rises
returns-then-not-part_rises c =
    let starts = c.args.starts.now in
    let test : ℕ → Bool = λ k. leb (start_of starts k) (start_of starts (k + 1)) in
    let falls = rw (c.loop-first.invariant.1, c.if-not-part_rises.true) at c.part_rises.ensures in
    sym (up_to_stays ◌&&◌ true test false (λ x. refl) c.min-past.result c.args.items (omega (arith, c.min-past.ensures)) falls)
