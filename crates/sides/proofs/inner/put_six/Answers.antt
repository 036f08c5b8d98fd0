-- `sides::inner::put_six` meets its contract. Assumes nothing.
use Rattle.std.proofs.Common.{suc, ◌+◌, ◌≡◌, arith}
use Rattle.sides.specs.Sides.{rating_sides}
use Rattle.sides.proofs.inner.put_six.Goals as goal

pub returns : goal.returns
unfolding rating_sides
returns c =
    let a = c.args.at in
    let e1 : a + 1 ≡ suc a = omega arith in
    let e2 : a + 2 ≡ suc (suc a) = omega arith in
    let e3 : a + 3 ≡ suc (suc (suc a)) = omega arith in
    let e4 : a + 4 ≡ suc (suc (suc (suc a))) = omega arith in
    let e5 : a + 5 ≡ suc (suc (suc (suc (suc a)))) = omega arith in
    record { is = cc }
