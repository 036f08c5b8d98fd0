-- A network whose parts of x are read.
use Rattle.std.specs.Prelude.{ℕ, ◌≡◌, List, Float}
use Rattle.refusals.specs.Refusals.{passed}
use Rattle.numbering.specs.Network.{Opened}
use Rattle.numbering.specs.declared.network.Network.{Network}
use Rattle.reading.specs.Reading.{part_check}

-- the network of counts and records, where nothing refuses a part of x
pub record Readable (n m k s : ℕ) (b : List ℕ) (x : List Float) (w : Network) : Type 0 where
  pub opened : Opened n m k s b w
  pub checked : part_check n m k s b x ≡ passed
