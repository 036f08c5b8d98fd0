-- What contracts say of an accepted network.
use Rattle.std.specs.Prelude.{ℕ, ◌≡◌, List, Float}
use Rattle.refusals.specs.Refusals.{passed}
use Rattle.records.specs.AcNetwork.{AcNetwork}
use Rattle.records.specs.Network.{network_of}
use Rattle.records.specs.Check.{check_of}
use Rattle.numbering.specs.Layout.{layout_of}
use Rattle.numbering.specs.Laid.{net_of}
use Rattle.numbering.specs.declared.network.Network.{Network}

-- the network that the records stand for
abbrev pub grid : Network → AcNetwork Float
grid w = net_of w.layout w.bytes.now

-- the network of counts and records, where the check accepts them
pub record Opened (n m k s : ℕ) (b : List ℕ) (w : Network) : Type 0 where
  pub accepted : check_of n m k s b ≡ passed
  pub layout : w.layout ≡ layout_of (network_of n m k s b)
  pub bytes : w.bytes.now ≡ b
