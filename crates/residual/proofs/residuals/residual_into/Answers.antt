use Rattle.std.proofs.Common.{sym, ◌∙◌, arith}
use Rattle.lists.proofs.Overlay.{overlay-whole}
use Rattle.residual.proofs.Fits.{resided}
use Rattle.residual.proofs.Regular.{with_diagonal, without_diagonal}
use Rattle.residual.proofs.residuals.residual_into.Goals as goal

pub copy-requires : goal.copy-requires
copy-requires c = let f = resided _ _ _ _ _ _ _ c.requires.0 in omega arith

pub invariant_of-answer : goal.invariant_of-answer
invariant_of-answer c =
    let f = resided _ _ _ _ _ _ _ c.requires.0 in
    record { small = f.bounds.small; few = f.bounds.few; full = f.answer-size }

pub subtract_entries-requires : goal.subtract_entries-requires
subtract_entries-requires c = let f = resided _ _ _ _ _ _ _ c.requires.0 in (f.fit, omega arith)

pub returns-then-system : goal.returns-then-system
returns-then-system c =
    let f = resided _ _ _ _ _ _ _ c.requires.0 in
    let e = c.copy.ensures ∙ overlay-whole _ _ (f.rhs-size ∙ sym c.requires.1) in
    (with_diagonal _ _ _ _ _ _ _ _ e c.subtract_entries.ensures _ c.if-system.true c.subtract_diagonal.ensures, omega arith)

pub returns-else-system : goal.returns-else-system
returns-else-system c =
    let f = resided _ _ _ _ _ _ _ c.requires.0 in
    let e = c.copy.ensures ∙ overlay-whole _ _ (f.rhs-size ∙ sym c.requires.1) in
    (without_diagonal _ _ _ _ _ _ _ _ e c.subtract_entries.ensures c.if-system.false, omega arith)
