-- Demand 3 holds of every accepted network. Assumes nothing.
use Rattle.std.proofs.Common.{ℕ, ◌+◌, List, get_or, Float}
use Rattle.std.specs.Float.{nan}
use Rattle.lists.proofs.Ascending.{every-inside}
use Rattle.records.specs.AcNetwork.{AcNetwork}
use Rattle.numbering.specs.Numbering.{nvar, ncon, row_number}
use Rattle.rows.specs.Program.{slack}
use Rattle.kkt.specs.Kkt.{kkt_of, kkt}
use Rattle.records.specs.Network.{network_of}
use Rattle.demand3.specs.Demand3.{Places, Demanded}
use Rattle.numbering.specs.declared.RowName.{RowName}
use Rattle.records.proofs.Laws.{accepted}
use Rattle.records.proofs.Sound.{Sound, sound}
use Rattle.lookups.proofs.Theorem.{numbered}
use Rattle.demand3.proofs.KktCount.{kkt-count}
use Rattle.demand3.proofs.KktPlaces.{kkt-once, kkt-twice, kkt-inside}

-- whatever the slacks and the duals are
places : (G : AcNetwork Float) → Sound G → (s z : RowName → Float) → Places G (kkt_of G s z)
places G h s z =
    record {
      once = kkt-once G h s z;
      twice = kkt-twice G h s z;
      inside = every-inside (nvar G + ncon G) (kkt_of G s z) (kkt-inside G h s z);
      bound = kkt-count G s z h.added;
    }

pub kkt-places : (G : AcNetwork Float) → Sound G → (x z : List Float) → Places G (kkt G x z)
unfolding kkt
kkt-places G h x z = places G h (slack G x) (λ r. get_or z (row_number G r) nan)

pub demand3 : (n m k s : ℕ) (bytes : List ℕ) (x z : List Float) → Demanded n m k s bytes x z
demand3 n m k s bytes x z h hx hz =
    record {
      numbered = numbered n m k s bytes h;
      places = kkt-places (network_of n m k s bytes) (sound n m k s bytes (accepted n m k s bytes h)) x z;
    }
