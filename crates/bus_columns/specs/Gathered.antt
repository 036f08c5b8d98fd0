-- The coefficients of the branches' buses in the Ohm rows, gathered by branch before the columns are written.
use Rattle.std.specs.Prelude.{ℕ, ◌+◌, ◌*◌, ◌≤◌, ◌<◌, ◌≡◌, List, [], ◌∷◌, length, get_or, Float}
use Rattle.std.proofs.lemmas.List.Edits.{sets}
use Rattle.std.specs.Float.{nan}
use Rattle.lists.specs.UpTo.{each}
use Rattle.ring.specs.Ops.{rounded}
use Rattle.records.specs.AcNetwork.{AcNetwork}
use Rattle.rows.specs.Branch.{branch_at}
use Rattle.rows.specs.Rows.{w, ohm_value}
use Rattle.rows.specs.declared.OhmRow.{OhmRow}
use Rattle.rows.specs.declared.OhmRow.TheVariants.{Pf as pf, Qf as qf, Pt as pt, Qt as qt}

-- the place of an Ohm row among a branch's four
abbrev pub place_of : OhmRow → ℕ
place_of pf = 0
place_of qf = 1
place_of pt = 2
place_of qt = 3

module _ (G : AcNetwork Float) where
  -- the four of branch e
  unfoldable pub four_of : ℕ → List Float
  four_of e = ohm_value (branch_at rounded G e) pf w ∷ ohm_value (branch_at rounded G e) qf w ∷ ohm_value (branch_at rounded G e) pt w ∷ ohm_value (branch_at rounded G e) qt w ∷ []

  -- a list with those of all branches written over it from position x on
  abbrev pub with_fours : ℕ → List Float → List Float
  with_fours x vs = sets vs x (each G.m four_of)

  -- they stand in a list from position x on
  pub record Gathered (x : ℕ) (vs : List Float) : Type 0 where
    pub inside : x + 4 * G.m ≤ length vs
    pub at : (e : ℕ) (r : OhmRow) → e < G.m → get_or vs (x + 4 * e + place_of r) nan ≡ ohm_value (branch_at rounded G e) r w
