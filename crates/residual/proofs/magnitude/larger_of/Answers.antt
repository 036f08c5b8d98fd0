use Rattle.residual.proofs.Larger.{below, below-negated, neither}
use Rattle.residual.proofs.magnitude.larger_of.Goals as goal

pub returns-then-m-x : goal.returns-then-m-x
returns-then-m-x c = let l = below _ _ c.requires c.if-m-x.true in (l.is, l.clear)

pub returns-then-m-x-2 : goal.returns-then-m-x-2
returns-then-m-x-2 c = let l = below-negated _ _ c.requires c.if-m-x-2.true in (l.is, l.clear)

pub returns : goal.returns
returns c = let l = neither _ _ c.requires c.if-m-x.false c.if-m-x-2.false in (l.is, l.clear)
