-- All that is proved from the two documents, put together. Assumes nothing.
use Rattle.std.proofs.Common.{ℕ, ◌≡◌, List, ℤ}
use Rattle.refusals.specs.Refusals.{passed}
use Rattle.lists.specs.UpTo.{sum}
use Rattle.records.specs.AcNetwork.{AcNetwork}
use Rattle.records.specs.Network.{network_of}
use Rattle.records.specs.Check.{check_of}
use Rattle.records.proofs.Laws.{accepted}
use Rattle.rows.proofs.Multiplied.{multiplied, quotients}
use Rattle.manual.specs.Documents.{ManualHolds, BalanceHolds, Rounded, PutFor, ConesHold}
use Rattle.manual.proofs.Branches.{branch-law, shunt-law}
use Rattle.manual.proofs.Ohm.{ohm-law, power-law}
use Rattle.manual.proofs.Balance.{pbal-law, qbal-law}
use Rattle.manual.proofs.Objective.{objective-law}
use Rattle.manual.proofs.Split.{split}
use Rattle.manual.proofs.Voltages.{balanced}
use Rattle.manual.proofs.Cones.{cone-rows, from-product, to-product}

pub manual-holds : ManualHolds
manual-holds A o R G x =
    record {
      multiplied = multiplied o R;
      branches = branch-law o R;
      powers = power-law o R;
      ohm = ohm-law o R G x;
      shunt = shunt-law o R;
      split = split o R G;
      active = pbal-law o R G x;
      reactive = qbal-law o R G x;
      objective = objective-law o R G x;
    }

pub balance-holds : BalanceHolds
balance-holds A o R G x = balanced o R G x

pub rounded-quotients : Rounded
rounded-quotients = quotients

-- the accepted records' segments add up to S, and so do those of the numbers put for them
segments-add : (n m k s : ℕ) (bytes : List ℕ) → check_of n m k s bytes ≡ passed → (G : AcNetwork ℤ) → PutFor (network_of n m k s bytes) G → sum G.k G.segments ≡ G.s
segments-add n m k s bytes h G p = rw (p.k, p.segments, p.s) (accepted n m k s bytes h).counts-add

pub cones_hold : ConesHold
cones_hold n m k s bytes h G p =
    let add = segments-add n m k s bytes h G p in
    (cone-rows G, (λ symmetric x. (from-product G x add symmetric, to-product G x add symmetric)))
