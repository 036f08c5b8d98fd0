use Rattle.combination.specs.Combination.{combination}
use Rattle.combination.proofs.Fits.{forwarded, adjoined, never_auto}
use Rattle.combination.proofs.direction.combine_into.Goals as goal

pub terms-requires : goal.terms-requires
terms-requires c = (forwarded _ _ _ _ _ _ _ (rw c.in-Forward.is at c.requires.0)).0.fit

pub invariant_of-x : goal.invariant_of-x
invariant_of-x c =
    let f = forwarded _ _ _ _ _ _ _ (rw c.in-Forward.is at c.requires.0) in
    record { small = f.0.bounds.small; few = f.0.bounds.few; full = f.1 }

pub invariant_of-rhs : goal.invariant_of-rhs
invariant_of-rhs c =
    let f = adjoined _ _ _ _ _ _ _ (rw c.in-Adjoint.is at c.requires.0) in
    record { small = f.0.bounds.small; few = f.0.bounds.few; full = f.1 }

pub invariant_of-y : goal.invariant_of-y
invariant_of-y c =
    let f = adjoined _ _ _ _ _ _ _ (rw c.in-Adjoint.is at c.requires.0) in
    rw c.items.ensures (record { small = f.0.bounds.small; few = f.0.has.bounds.few; full = f.2 })

pub returns-in-Forward : goal.returns-in-Forward
unfolding combination
returns-in-Forward c =
    let t = c.terms.ensures in
    rw c.in-Forward.is (rw (t.segments, t.selector) at c.forward_into.ensures)

pub returns-in-Adjoint : goal.returns-in-Adjoint
unfolding combination
returns-in-Adjoint c = rw c.in-Adjoint.is (rw c.items.ensures at c.adjoint_into.ensures)

pub returns-in-Auto : goal.returns-in-Auto
returns-in-Auto c = never_auto _ _ _ _ _ _ _ (rw c.in-Auto.is at c.requires.0)
