-- Demand 3: the numbering and the KKT entries of an accepted network. `Demanded` states it whole; `kkt_entries` promises it.
use Rattle.refusals.specs.Refusals.{passed}
use Rattle.std.specs.Prelude.{ℕ, ◌+◌, ◌*◌, ◌≤◌, ◌<◌, ◌≡◌, ◌⊎◌, List, length, Float}
use Rattle.lists.specs.Entries.{Entry, times, Every}
use Rattle.records.specs.AcNetwork.{AcNetwork}
use Rattle.records.specs.Check.{check_of}
use Rattle.numbering.specs.Numbering.{nvar, ncon, column_number}
use Rattle.numbering.specs.Layout.{layout_of}
use Rattle.numbering.specs.declared.SocWrLayout.{SocWrLayout}
use Rattle.lookups.specs.Numbered.{Numbered}
use Rattle.kkt.specs.Kkt.{kkt_row, kkt}
use Rattle.records.specs.Network.{network_of}
use Rattle.numbering.specs.declared.ColumnName.TheVariants.{W}
use Rattle.numbering.specs.declared.RowName.TheVariants.{Jabr}

-- the places that may be named twice: the two bus columns in the first and the last row of the four-row cone of a branch below m
pub record Doubled (G : AcNetwork Float) (r c : ℕ) : Type 0 where
  pub branch : ℕ
  pub below : branch < G.m
  pub row : (r ≡ kkt_row G (Jabr branch 0)) ⊎ (r ≡ kkt_row G (Jabr branch 3))
  pub col : (c ≡ column_number G (W (G.from branch))) ⊎ (c ≡ column_number G (W (G.to branch)))

-- how many entries there are at most: "10n + 17k + 82m + 5S + 26T"
abbrev pub entry_bound : SocWrLayout → ℕ
entry_bound l = 10 * l.n + 17 * l.k + 82 * l.m + 5 * l.s + 26 * l.t

-- "A place is one row with one column of it, named once by each entry with these two numbers, whatever its value": each place at most once,
-- those at most twice; each entry inside the matrix of nvar + ncon rows and columns; and how many entries there are at most
pub record Places (G : AcNetwork Float) (es : List Entry) : Type 0 where
  pub once : (r c : ℕ) → (Doubled G r c → ⊥) → times r c es ≤ 1
  pub twice : (r c : ℕ) → times r c es ≤ 2
  pub inside : Every (λ e. (e.row < nvar G + ncon G) × (e.col < nvar G + ncon G)) es
  pub bound : length es ≤ entry_bound (layout_of G)

-- of counts, records, and an x of nvar and a z of ncon floats: the numbering of the network, and the places of its entries
pub record Demand3 (n m k s : ℕ) (bytes : List ℕ) (x z : List Float) : Type 0 where
  pub numbered : Numbered n m k s bytes
  pub places : Places (network_of n m k s bytes) (kkt (network_of n m k s bytes) x z)

-- "In demand 3 an accepted network is counts and records that pass the record check (1 to 5 and the sum); its entries, for an x of nvar and
-- a z of ncon floats, are the whole list written": for all counts, bytes, x and z
abbrev pub Demanded : (n m k s : ℕ) → List ℕ → List Float → List Float → Type 0
Demanded n m k s bytes x z =
    check_of n m k s bytes ≡ passed → length x ≡ nvar (network_of n m k s bytes) → length z ≡ ncon (network_of n m k s bytes)
    → Demand3 n m k s bytes x z
