-- A coefficient of a cost is a generator's, whose record is looked at.
use Rattle.std.proofs.Common.{◌≡◌, refl, sym, ◌∙◌, true, false}
use Rattle.refusals.proofs.Laws.{held}
use Rattle.elements.specs.Lengths.{asks_cost}
use Rattle.columns.specs.Jacobian.{piecewise_cause}
use Rattle.columns.proofs.Causes.{cost-below}
use Rattle.columns.proofs.inner.column.piecewise_cause.Goals as goal

pub returns-then-not-asks_cost : goal.returns-then-not-asks_cost
unfolding piecewise_cause
returns-then-not-asks_cost c =
    let e : asks_cost c.args.p ≡ false = sym c.asks_cost.ensures ∙ c.if-not-asks_cost.true in
    rw e (sym (held _ _ refl))

pub generator-r-requires : goal.generator-r-requires
generator-r-requires c =
    let l = c.args.net.now.layout in
    cost-below l.n l.m l.k c.args.i c.args.p (sym c.asks_cost.ensures ∙ c.if-not-asks_cost.false) c.requires

pub returns : goal.returns
unfolding piecewise_cause
returns c =
    let e : asks_cost c.args.p ≡ true = sym c.asks_cost.ensures ∙ c.if-not-asks_cost.false in
    let r = c.generator-r.ensures in
    rw (e, ← r.bytes, ← r.place, ← c.piecewise.ensures, ← c.id.ensures) c.refuse_unless.ensures
