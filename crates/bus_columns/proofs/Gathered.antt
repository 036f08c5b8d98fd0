-- Laws of the gathered coefficients. Assumes nothing.
use Rattle.std.proofs.lemmas.List.Edits.{sets, sets-eq}
use Rattle.std.specs.Float.{nan}
use Rattle.std.proofs.Common.{ℕ, zero, suc, ◌+◌, ◌*◌, ◌≤◌, ◌<◌, ◌≡◌, refl, sym, ap, ◌∙◌, List, [], ◌∷◌, ◌++◌, arith, length, length-set, set, get_or}
use Rattle.std.proofs.Common.{take, drop, length-append}
use Rattle.std.proofs.Common.{get_or-take, get_or-drop, get_or-append-add, length-take-le, Float}
use lib.ListN.{get_or-append}
use lib.Seq.{length-sets}
use Rattle.std.proofs.lemmas.List.{set-append_left}
use Rattle.lists.specs.UpTo.{up_to, each}
use Rattle.lists.specs.Entries.{Cell}
use Rattle.lists.specs.Compressed.{CellOut, cell_out, write_cells, WroteCells}
use Rattle.lists.proofs.Each.{part-each}
use Rattle.ring.specs.Ops.{rounded}
use Rattle.records.specs.AcNetwork.{AcNetwork}
use Rattle.rows.specs.Branch.{branch_at}
use Rattle.rows.specs.Rows.{w, ohm_value}
use Rattle.rows.specs.declared.OhmRow.{OhmRow}
use Rattle.rows.specs.declared.OhmRow.TheVariants.{Pf as pf, Qf as qf, Pt as pt, Qt as qt}
use Rattle.cells.specs.Filled.{Filled}
use Rattle.bus_columns.specs.Gathered.{place_of, four_of, Gathered}

-- ---- a list written over another: what stands in it

module _ {A : Type 0} where
  in_part : (xs l : List A) (x p : ℕ) (d : A) → x + length xs ≤ length l → p < length xs → get_or (sets l x xs) (x + p) d ≡ get_or xs p d
  in_part xs l x p d h k =
      let e : length (take x l) ≡ x = length-take-le x l (omega arith) in
      let s : sets l x xs ≡ take x l ++ xs ++ drop (x + length xs) l = sets-eq xs l x h in
      let b : get_or (take x l ++ xs) (length (take x l) + p) d ≡ get_or xs p d = get_or-append-add (take x l) xs p d in
      let q : get_or (take x l ++ xs) (x + p) d ≡ get_or xs p d = rw e at b in
      ap (λ (r : List A). get_or r (x + p) d) s ∙ get_or-append (take x l ++ xs) (drop (x + length xs) l) d (x + p) (omega (arith, e, length-append (take x l) xs)) ∙ q

-- ---- four a branch

module _ (G : AcNetwork Float) where
  four-length : (e : ℕ) → length (four_of G e) ≡ 4
  unfolding four_of
  four-length e = refl

  four-at : (e : ℕ) (r : OhmRow) → get_or (four_of G e) (place_of r) nan ≡ ohm_value (branch_at rounded G e) r w
  unfolding four_of
  four-at e pf = refl
  four-at e qf = refl
  four-at e pt = refl
  four-at e qt = refl

  pub fours-length : (n : ℕ) → length (each n (four_of G)) ≡ 4 * n
  unfolding up_to
  fours-length zero = refl
  fours-length (suc n) = length-append (each n (four_of G)) (four_of G n) ∙ omega (arith, fours-length n, four-length n)

  place-below : (r : OhmRow) → place_of r < 4
  place-below pf = omega arith
  place-below qf = omega arith
  place-below pt = omega arith
  place-below qt = omega arith

  fours-at : (n e : ℕ) (r : OhmRow) → e < n → get_or (each n (four_of G)) (4 * e + place_of r) nan ≡ ohm_value (branch_at rounded G e) r w
  fours-at n e r h =
      let xs = each n (four_of G) in
      let p : take 4 (drop (4 * e) xs) ≡ four_of G e = rw (four-length e, fours-length e) at (part-each (four_of G) n e h) in
      sym (get_or-drop (4 * e) xs (place_of r) nan) ∙ sym (get_or-take 4 (drop (4 * e) xs) (place_of r) nan (place-below r))
      ∙ ap (λ (y : List Float). get_or y (place_of r) nan) p ∙ four-at e r

  pub gathered : {x : ℕ} {vs₀ vs : List Float} → Filled (each G.m (four_of G)) vs₀ x vs → x + 4 * G.m ≤ length vs₀ → Gathered G x vs
  gathered {x} {vs₀} {vs} f h =
      let xs = each G.m (four_of G) in
      record {
        inside = omega (arith, ap length f.is ∙ length-sets vs₀ x xs, h);
        at = λ e r k.
            let q : get_or vs (x + (4 * e + place_of r)) nan ≡ ohm_value (branch_at rounded G e) r w =
            rw f.is (in_part xs vs₀ x (4 * e + place_of r) nan (omega (arith, fours-length G.m, h)) (omega (arith, fours-length G.m, place-below r, k)) ∙ fours-at G.m e r k) in
            let a : x + 4 * e + place_of r ≡ x + (4 * e + place_of r) = omega arith in
            rw a q;
      }

-- ---- cells written to a list's front part, and so to the list

abbrev behind_it : List Float → CellOut → CellOut
behind_it ys (cell_out rs vs at) = cell_out rs (vs ++ ys) at

front_written : (cs : List Cell) (rs : List ℕ) (vs ys : List Float) (at : ℕ) → at + length cs ≤ length vs
    → write_cells cs (cell_out rs (vs ++ ys) at) ≡ behind_it ys (write_cells cs (cell_out rs vs at))
unfolding write_cells
front_written [] rs vs ys at h = refl
front_written (c ∷ cs) rs vs ys at h =
    rw (set-append_left vs ys at c.val (omega arith)) (front_written cs (set rs at c.row) (set vs at c.val) ys (at + 1) (omega (arith, length-set vs at c.val)))

pub front-wrote : {cs : List Cell} {rs rs' : List ℕ} {vs vs' l : List Float} {at at' : ℕ} (ys : List Float)
    → WroteCells cs (cell_out rs vs at) (cell_out rs' vs' at') → l ≡ vs ++ ys → at + length cs ≤ length vs → WroteCells cs (cell_out rs l at) (cell_out rs' (vs' ++ ys) at')
front-wrote {cs} {rs} {vs = vs} {at = at} ys k e h = rw e (record { is = ap (behind_it ys) k.is ∙ sym (front_written cs rs vs ys at h) })
