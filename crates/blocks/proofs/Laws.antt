-- What the loops over the records ask. Assumes nothing.
use Rattle.std.proofs.Common.{ℕ, ◌+◌, ◌<◌, ◌^◌, ◌≡◌, refl, sym, ap₂, ◌∙◌, Bool, List, arith, Float}
use Rattle.std.specs.Float.{binary64}
use Rattle.std.specs.Float.Ieee.{mul}
use Rattle.lists.specs.UpTo.{up_to, sum, bit, count}
use Rattle.lists.specs.Entries.{Entry}
use Rattle.lists.proofs.Sums.{sum-next}
use Rattle.records.specs.AcNetwork.{AcNetwork}
use Rattle.records.specs.Fields.{limited_of}
use Rattle.numbering.specs.Numbering.{column_number}
use Rattle.numbering.specs.Layout.{nvar_of}
use Rattle.numbering.specs.Laid.{net_of, Laid}
use Rattle.numbering.specs.declared.ColumnName.TheVariants.{Pg}
use Rattle.ring.specs.Ops.{rounded}
use Rattle.numbering.specs.declared.SocWrLayout.{SocWrLayout}
use Rattle.numbering.specs.declared.RowName.{RowName}
use Rattle.rows.specs.Program.{nonzero}
use Rattle.kkt.specs.Kkt.{kkt_row, plain_row}
use Rattle.lines.specs.Ohm.{ohm_entries, OhmStands}
use Rattle.lines.specs.declared.Ohm.{Ohm}
use Rattle.lines.proofs.Sizes.{nvar-is, small}

-- of an Ohm row
pub ohm-same : {l : SocWrLayout} {bytes : List ℕ} {v : ℕ} {r : RowName} {o : Ohm} → Laid l bytes → v ≡ nvar_of l → OhmStands (net_of l bytes) r o
    → (v + o.row < 2 ^ 32) × (ohm_entries (v + o.row) o ≡ plain_row (net_of l bytes) r)
ohm-same {l} {bytes} {v} {r} {o} h e s =
    (omega (arith, small h, nvar-is h e, s.within), ap₂ (λ (a k : ℕ). ohm_entries (a + k) o) (nvar-is h e) s.number ∙ sym (s.entries (kkt_row (net_of l bytes) r)))

-- a branch's limit, read from its record
pub bit_at : {b b' : List ℕ} {r r' : ℕ} {x v : Bool} → b' ≡ b → r' ≡ r → x ≡ limited_of b' r' → x ≡ v → limited_of b r ≡ v
bit_at e h p q = cc

-- counts over the records, one record more
pub count-more : {i : ℕ} (n : ℕ) (p : ℕ → Bool) (j : ℕ) → i ≡ count n p → j ≡ bit (p n) → i + j ≡ count (n + 1) p
count-more n p j e q = omega (arith, sum-next n (λ i. bit (p i)))

pub sum_more : {i : ℕ} (n : ℕ) (a : ℕ → ℕ) (j : ℕ) → i ≡ sum n a → j ≡ a n → i + j ≡ sum (n + 1) a
sum_more n a j e q = omega (arith, sum-next n a)

pub none_yet : (a : ℕ → ℕ) → 0 ≡ sum 0 a
unfolding up_to
none_yet a = refl

-- P at generator g
abbrev pub diagonal_at : AcNetwork Float → ℕ → List Entry
diagonal_at G g = nonzero (column_number G (Pg g)) (column_number G (Pg g)) (mul binary64 rounded.two (G.cq g))
