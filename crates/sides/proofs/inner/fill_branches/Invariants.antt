-- `sides::inner::fill_branches` meets its contract: each turn writes an element of angub and of anglb, and a limited branch's six behind them. Assumes nothing.
use Rattle.std.proofs.Common.{◌≤◌, ◌+◌, ◌*◌, ◌≡◌, length}
use Rattle.lists.specs.UpTo.{each}
use Rattle.numbering.specs.declared.RowName.TheVariants.{Angub, Anglb}
use Rattle.sides.specs.Sides.{side_at, ratings_at}
use Rattle.sides.proofs.Behind.{Behind}
use Rattle.sides.proofs.inner.fill_branches.Given as goal

abbrev pub invariant-loop-e : goal.invariant-loop-e
invariant-loop-e l =
    let m = l.net.layout.m in
    let f = side_at l.net.layout l.net.bytes.now in
    let g = ratings_at l.net.layout l.net.bytes.now in
    record {
      first : l.angub + m ≤ l.anglb;
      second : l.anglb + m ≤ l.initial.next;
      third : l.initial.next + 6 * l.net.layout.t ≤ length l.initial.out;
      behind : Behind m l.e (f Angub) (f Anglb) g l.angub l.anglb l.initial.next l.initial.out l.out;
      stop : l.next ≡ l.initial.next + length (each l.e g);
    }
