-- `cells::inner::fill_all` meets its contract. Assumes nothing.
use Rattle.std.proofs.Common.{◌≡◌, ◌-◌, ◌+◌, replicate, arith}
use Rattle.std.proofs.lemmas.Grind.{common_steps}
use Rattle.cells.proofs.Fills.{filled-stretch}
use Rattle.cells.proofs.inner.fill_all.Goals as goal

pub returns : goal.returns
returns c =
    let a = c.args in
    let h : c.fill.new.self ≡ replicate a.count a.v = grind (arith, common_steps) in
    let k : a.at + a.count - a.at ≡ a.count = omega arith in
    rw k (filled-stretch a.at a.count a.v c.requires h)
