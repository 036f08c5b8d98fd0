-- What `kkt_entries` answers and leaves in the three lists.
use Rattle.std.specs.Prelude.{ℕ, ◌≡◌, List, map, length, Float}
use Rattle.lists.specs.Entries.{Entry, row_of, col_of, val_of}
use Rattle.lists.specs.declared.Triplets.{Triplets}
use Rattle.refusals.specs.Refusals.{◌or_else◌, room_for, answer_if, left_in, Checked, Written}
use Rattle.records.specs.Network.{network_of}
use Rattle.records.specs.Check.{check_of}
use Rattle.solution.specs.Lengths.{solution_cause}
use Rattle.kkt.specs.Kkt.{kkt}

-- 10: "length needed by the first short one", of three lists of which each needs so many
unfoldable pub room_cause : ℕ → List ℕ → List ℕ → List Float → Checked
room_cause need rs cs vs = room_for need (length rs) or_else room_for need (length cs) or_else room_for need (length vs)

-- "Order: .. 1, 2; then record by record 3, 4, 5, lastly the sum; then 6, .. 10."
unfoldable pub kkt_check : (n m k s : ℕ) (bytes : List ℕ) (x z : List Float) (rs cs : List ℕ) (vs : List Float) → Checked
kkt_check n m k s bytes x z rs cs vs =
    check_of n m k s bytes
    or_else solution_cause (network_of n m k s bytes) (length x) (length z)
    or_else room_cause (length (kkt (network_of n m k s bytes) x z)) rs cs vs

-- the answer w, and the lists that were rs, cs, vs and are now rs', cs', vs': after a check that accepts, the count and the entries over
-- their fronts; after one that refuses, its cause and the lists as they were
pub record Answered (check : Checked) (es : List Entry) (rs cs : List ℕ) (vs : List Float) (rs' cs' : List ℕ) (vs' : List Float) (w : Written) : Type 0 where
  pub answer : w ≡ answer_if check (length es)
  pub rows : rs' ≡ left_in check (map row_of es) rs
  pub cols : cs' ≡ left_in check (map col_of es) cs
  pub vals : vs' ≡ left_in check (map val_of es) vs

-- the same of lists that are lent before and after
pub record ListAnswered (check : Checked) (es : List Entry) (t t' : Triplets) (w : Written) : Type 0 where
  pub rows : t'.rows.ghost_name ≡ t.rows.ghost_name
  pub cols : t'.cols.ghost_name ≡ t.cols.ghost_name
  pub vals : t'.vals.ghost_name ≡ t.vals.ghost_name
  pub answered : Answered check es t.rows.now t.cols.now t.vals.now t'.rows.now t'.cols.now t'.vals.now w
