use Rattle.std.proofs.Common.{◌≡◌, length}
use Rattle.lists.specs.Steps.{turns}
use Rattle.adjoint.specs.Selectors.{add_item}
use Rattle.adjoint.proofs.selectors.add_items.Given as goal

abbrev pub invariant-loop-o : goal.invariant-loop-o
invariant-loop-o l =
    let t = l.terms in
    let s = t.selector in
    (length l.out ≡ length l.initial.out) × (l.out ≡ turns (add_item t.dim s.starts.now s.rows.now s.weights.now) l.o l.initial.out)
