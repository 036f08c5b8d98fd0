-- The column of a bus from the ends at it. Assumes nothing.
use Rattle.std.proofs.Common.{ℕ, zero, suc, ◌+◌, ◌*◌, ◌/◌, ◌%◌, ◌<◌, ◌≡◌, refl, sym, ap, ◌∙◌, Bool, true, false, List, [], ◌∷◌, ◌++◌, append_assoc, append-nil, arith, lt-ltb, eqb}
use Rattle.std.proofs.Common.{length, get_or, length-append, Float}
use Rattle.lists.specs.UpTo.{up_to, each, when}
use Rattle.lists.specs.Entries.{Cell}
use Rattle.lists.proofs.Each.{each_ext, when-nil}
use Rattle.records.specs.AcNetwork.{AcNetwork}
use Rattle.rows.specs.Rows.{end_bus}
use Rattle.rows.specs.declared.OhmRow.{OhmRow}
use Rattle.rows.specs.declared.OhmRow.TheVariants.{Pf as pf, Qf as qf, Pt as pt, Qt as qt}
use Rattle.matrix.specs.Columns.{shunt_cells, ohm_cell, bound_cells, cone_from, cone_to, ohm_at, cones_at, w_cells}
use Rattle.incidence.specs.Incidence.{ends_at, ends_of}
use Rattle.bus_columns.specs.Ends.{parity_of, side_ends, ohm_end, cone_end, ohms_of, cone_cells, blocks_of}

-- ---- what each number of a list stands for, joined

module _ (h : ℕ → List Cell) where
  flat : List ℕ → List Cell
  flat [] = []
  flat (x ∷ xs) = h x ++ flat xs

  flat_append : (xs ys : List ℕ) → flat (xs ++ ys) ≡ flat xs ++ flat ys
  unfolding flat
  flat_append [] ys = refl
  flat_append (x ∷ xs) ys = rw (flat_append xs ys, append_assoc)

  flat-each : (n : ℕ) (f : ℕ → List ℕ) → flat (each n f) ≡ each n (λ j. flat (f j))
  unfolding up_to flat
  flat-each zero f = refl
  flat-each (suc n) f = rw (flat_append (each n f) (f n), flat-each n f)

  flat-when : (b : Bool) (x : ℕ) → flat (when b (x ∷ [])) ≡ when b (h x)
  unfolding flat
  flat-when true x = append-nil (h x)
  flat-when false x = refl

  -- the first apart
  each_cons : (f : ℕ → List Cell) (n : ℕ) → each (suc n) f ≡ f 0 ++ each n (λ j. f (suc j))
  unfolding up_to
  each_cons f zero = sym (append-nil (f 0))
  each_cons f (suc n) = ap (λ (y : List Cell). y ++ f (suc n)) (each_cons f n) ∙ append_assoc (f 0) (each n (λ j. f (suc j))) (f (suc n))

  flat-index : (xs : List ℕ) → each (length xs) (λ j. h (get_or xs j 0)) ≡ flat xs
  unfolding up_to flat
  flat-index [] = refl
  flat-index (x ∷ xs) = each_cons (λ j. h (get_or (x ∷ xs) j 0)) (length xs) ∙ ap (λ (y : List Cell). h x ++ y) (flat-index xs)

  -- by the ends of a bus, and by all branches
  pub by-branches : (G : AcNetwork Float) (i : ℕ) (xs : List ℕ) → xs ≡ ends_of G i
      → each (length xs) (λ j. h (get_or xs j 0)) ≡ each G.m (λ e. when (eqb (G.from e) i) (h (2 * e)) ++ when (eqb (G.to e) i) (h (2 * e + 1)))
  unfolding ends_of ends_at
  by-branches G i xs q =
      flat-index xs ∙ ap flat q ∙ flat-each G.m (ends_at G i)
      ∙ each_ext _ _ G.m
      (λ e l. flat_append (when (eqb (G.from e) i) ((2 * e) ∷ [])) (when (eqb (G.to e) i) ((2 * e + 1) ∷ [])) ∙ rw (flat-when (eqb (G.from e) i) (2 * e), flat-when (eqb (G.to e) i) (2 * e + 1)))

  -- those that pass a test
  picked : (b : ℕ → Bool) (xs : List ℕ)
      → each (length (each (length xs) (λ j. when (b (get_or xs j 0)) (get_or xs j 0 ∷ [])))) (λ j. h (get_or (each (length xs) (λ j. when (b (get_or xs j 0)) (get_or xs j 0 ∷ []))) j 0))
      ≡ each (length xs) (λ j. when (b (get_or xs j 0)) (h (get_or xs j 0)))
  picked b xs =
      flat-index (each (length xs) (λ j. when (b (get_or xs j 0)) (get_or xs j 0 ∷ []))) ∙ flat-each (length xs) (λ j. when (b (get_or xs j 0)) (get_or xs j 0 ∷ []))
      ∙ each_ext _ _ (length xs) (λ j l. flat-when (b (get_or xs j 0)) (get_or xs j 0))

-- ---- halves and parities

half_even : (e : ℕ) → 2 * e / 2 ≡ e
half_even e = omega arith

half_odd : (e : ℕ) → (2 * e + 1) / 2 ≡ e
half_odd e = omega arith

even : (e : ℕ) → 2 * e % 2 ≡ 0
even e = omega arith

odd : (e : ℕ) → (2 * e + 1) % 2 ≡ 1
odd e = omega arith

when_again : (b : Bool) (cs : List Cell) → when b (when b cs) ≡ when b cs
when_again true cs = refl
when_again false cs = refl

module _ (G : AcNetwork Float) where
  ohm-even : (r : OhmRow) (e : ℕ) → e < G.m → ohm_end G r (2 * e) ≡ when (eqb 0 (parity_of r)) (ohm_cell G r e)
  unfolding ohm_end
  ohm-even r e h = rw (even e, half_even e, lt-ltb e G.m h)

  ohm-odd : (r : OhmRow) (e : ℕ) → e < G.m → ohm_end G r (2 * e + 1) ≡ when (eqb 1 (parity_of r)) (ohm_cell G r e)
  unfolding ohm_end
  ohm-odd r e h = rw (odd e, half_odd e, lt-ltb e G.m h)

  ohm-side : (r : OhmRow) (i e : ℕ) (cs : List Cell)
      → when (eqb (G.from e) i) (when (eqb 0 (parity_of r)) cs) ++ when (eqb (G.to e) i) (when (eqb 1 (parity_of r)) cs) ≡ when (eqb (end_bus G r e) i) cs
  ohm-side pf i e cs = rw (when-nil {A = Cell} (eqb (G.to e) i)) (append-nil _)
  ohm-side qf i e cs = rw (when-nil {A = Cell} (eqb (G.to e) i)) (append-nil _)
  ohm-side pt i e cs = rw (when-nil {A = Cell} (eqb (G.from e) i))
  ohm-side qt i e cs = rw (when-nil {A = Cell} (eqb (G.from e) i))

  cone-even : (e : ℕ) → e < G.m → cone_end G (2 * e) ≡ cone_from G e
  unfolding cone_end cone_from
  cone-even e h = rw (even e, half_even e, lt-ltb e G.m h)

  cone-odd : (e : ℕ) → e < G.m → cone_end G (2 * e + 1) ≡ cone_to G e
  unfolding cone_end cone_to
  cone-odd e h = rw (odd e, half_odd e, lt-ltb e G.m h)

  -- a side's ends give the cells that all ends give
  pub ohms_sided : (r : OhmRow) (xs : List ℕ) → ohms_of G (side_ends (parity_of r) xs) r ≡ ohms_of G xs r
  unfolding side_ends ohm_end
  ohms_sided r xs =
      picked (ohm_end G r) (λ x. eqb (x % 2) (parity_of r)) xs
      ∙ each_ext _ _ (length xs) (λ j l. when_again (eqb (get_or xs j 0 % 2) (parity_of r)) _)

  -- the four blocks by pairs
  pub blocks_paired : (xs : List ℕ) → (ohms_of G xs pf ++ ohms_of G xs qf) ++ (ohms_of G xs pt ++ ohms_of G xs qt) ≡ blocks_of G xs
  unfolding blocks_of
  blocks_paired xs = simp append_assoc

  pub pairs_length : (xs : List ℕ) → length (blocks_of G xs) ≡ length (ohms_of G xs pf ++ ohms_of G xs qf) + length (ohms_of G xs pt ++ ohms_of G xs qt)
  pairs_length xs = ap length (sym (blocks_paired xs)) ∙ length-append (ohms_of G xs pf ++ ohms_of G xs qf) (ohms_of G xs pt ++ ohms_of G xs qt)

  -- ---- a bus's column

  module _ (i : ℕ) (xs : List ℕ) (q : xs ≡ ends_of G i) where
    ohms_are : (r : OhmRow) → ohms_of G xs r ≡ each G.m (ohm_at G r i)
    unfolding ohm_at
    ohms_are r = by-branches (ohm_end G r) G i xs q ∙ each_ext _ _ G.m (λ e h. rw (ohm-even r e h, ohm-odd r e h) (ohm-side r i e (ohm_cell G r e)))

    cones_are : cone_cells G xs ≡ each G.m (cones_at G i)
    unfolding cones_at
    cones_are = by-branches (cone_end G) G i xs q ∙ each_ext _ _ G.m (λ e h. rw (cone-even e h, cone-odd e h))

    pub column-is : shunt_cells G i ++ blocks_of G xs ++ bound_cells G i ++ cone_cells G xs ≡ w_cells G i
    unfolding blocks_of w_cells
    column-is = rw (ohms_are pf, ohms_are qf, ohms_are pt, ohms_are qt, cones_are) (simp append_assoc)

    pub column-length : length (w_cells G i) ≡ length (shunt_cells G i) + length (blocks_of G xs) + length (bound_cells G i) + length (cone_cells G xs)
    column-length = sym (ap length column-is) ∙ simp length-append
