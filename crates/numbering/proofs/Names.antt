-- At each point exactly one name stands, the one that is answered for it. Assumes nothing.
use Rattle.std.proofs.Common.{ℕ, zero, suc, ◌+◌, ◌*◌, ◌<◌, ◌≤◌, ◌≡◌, Bool, refl, sym, ap, ◌∙◌, List, [], ◌∷◌, ◌++◌, arith, zero-add, add-zero, get_or, replicate}
use Rattle.lists.specs.UpTo.{bit, sum}
use Rattle.lists.proofs.Sums.{bit_le}
use Rattle.records.specs.AcNetwork.{AcNetwork}
use Rattle.numbering.specs.Blocks.{Block, points, block_at, key, Valid, key_at}
use Rattle.numbering.specs.Numbering.{SameKey, column_table, column_key, column_names, column_of, column_blocks, column_number, column_at}
use Rattle.numbering.specs.Numbering.{ColumnStands, nvar, row_table, row_key, row_names, row_of, row_blocks, row_number, row_at, RowStands, ncon}
use Rattle.numbering.specs.Numbering.{cone_lengths, added}
use Rattle.numbering.specs.declared.Key.{Key}
use Rattle.numbering.specs.declared.ColumnName.{ColumnName}
use Rattle.numbering.specs.declared.ColumnName.TheVariants.{Pg, Qg, W, Wr, Wi, Pf, Pt, Qf, Qt, CostOf}
use Rattle.numbering.specs.declared.RowName.{RowName}
use Rattle.numbering.specs.declared.RowName.TheVariants.{Pbal, Qbal, OhmPf, OhmQf, OhmPt, OhmQt, Wub, Wlb, Pgub, Pglb, Qgub, Qglb, Angub, Anglb, Segment, Jabr, Thermal}
use Rattle.numbering.proofs.Points.{key_right, key-placed}
use Rattle.numbering.proofs.Numbers.{ncon-number}

-- a table of names: from block b on, each name of record i and place q that is valid has the key (b, i, q)
abbrev Named : {A : Type 0} → (A → Key) → ℕ → ℕ → List Block → List A → ℕ → Type 0
Named f i q [] xs b = Unit
Named f i q (w ∷ ws) [] b = ⊥
Named f i q (w ∷ ws) (x ∷ xs) b = (q < points w i → f x ≡ key b i q) × Named f i q ws xs (suc b)

named : {A : Type 0} (f : A → Key) (i q : ℕ) (ws : List Block) (xs : List A) (b : ℕ) → Named f i q ws xs b
    → (d : A) (c : ℕ) → q < points (block_at ws c) i → f (get_or xs c d) ≡ key (c + b) i q
named f i q [] xs b n d c h = absurd (omega arith)
named f i q (w ∷ ws) [] b n d c h = absurd n
named f i q (w ∷ ws) (x ∷ xs) b n d zero h = rw zero-add (n.0 h)
named f i q (w ∷ ws) (x ∷ xs) b n d (suc c) h =
    let e : suc c + b ≡ c + suc b = omega arith in
    rw e (named f i q ws xs (suc b) n.1 d c h)

-- a record of at most one point has the place 0 alone
only : (b i q w : ℕ) → w ≤ 1 → q < w → key b i 0 ≡ key b i q
only b i q w u h = let e : 0 ≡ q = omega arith in ap (key b i) e

one : (b i q : ℕ) → q < 1 → key b i 0 ≡ key b i q
one b i q h = only b i q 1 (omega arith) h

one_or_none : (b i q : ℕ) (t : Bool) → q < 1 * bit t → key b i 0 ≡ key b i q
one_or_none b i q t h = only b i q (1 * bit t) (omega (arith, bit_le t)) h

-- two keys that are the same are equal
pub same_key : {x y : Key} → SameKey x y → x ≡ y
same_key {x} {y} h =
    ap (λ (b : ℕ). key b x.item x.place) h.block
    ∙ ap (λ (i : ℕ). key y.block i x.place) h.item
    ∙ ap (key y.block y.item) h.place

pub row_of_lem : (x : RowName) → row_of (row_key x) ≡ x
row_of_lem (Pbal i) = refl
row_of_lem (Qbal i) = refl
row_of_lem (OhmPf e) = refl
row_of_lem (OhmQf e) = refl
row_of_lem (OhmPt e) = refl
row_of_lem (OhmQt e) = refl
row_of_lem (Wub i) = refl
row_of_lem (Wlb i) = refl
row_of_lem (Pgub g) = refl
row_of_lem (Pglb g) = refl
row_of_lem (Qgub g) = refl
row_of_lem (Qglb g) = refl
row_of_lem (Angub e) = refl
row_of_lem (Anglb e) = refl
row_of_lem (Segment g s) = refl
row_of_lem (Jabr e q) = refl
row_of_lem (Thermal e q) = refl

pub column_of_lem : (x : ColumnName) → column_of (column_key x) ≡ x
column_of_lem (Pg g) = refl
column_of_lem (Qg g) = refl
column_of_lem (W i) = refl
column_of_lem (Wr e) = refl
column_of_lem (Wi e) = refl
column_of_lem (Pf e) = refl
column_of_lem (Pt e) = refl
column_of_lem (Qf e) = refl
column_of_lem (Qt e) = refl
column_of_lem (CostOf g) = refl

pub added-append : (xs ys : List ℕ) → added (xs ++ ys) ≡ added xs + added ys
added-append [] ys = omega arith
added-append (x ∷ xs) ys = omega (arith, added-append xs ys)

pub added-replicate : (n w : ℕ) → added (replicate n w) ≡ w * n
added-replicate zero w = omega arith
added-replicate (suc n) w = omega (arith, added-replicate n w)

module _ {A : Type 0} (G : AcNetwork A) where
  row_named : (i q : ℕ) → Named row_key i q (row_blocks G) (row_names i q) 0
  unfolding row_blocks row_table
  row_named i q = search (one)

  pub row-key : (x : Key) → Valid (row_blocks G) x → row_key (row_of x) ≡ x
  row-key x v =
      rw add-zero at (named row_key x.item x.place (row_blocks G) (row_names x.item x.place) 0
      (row_named x.item x.place) (Pbal 0) x.block v.place)

  pub row-stands : (p : ℕ) → p < ncon G → RowStands G p (row_at G p)
  unfolding ncon row_at row_number
  row-stands p b =
      let r = key_right (row_blocks G) p b in
      let e = row-key (key_at (row_blocks G) p) r.valid in
      record { valid = rw e r.valid; number = rw e r.number }

  pub row-only : (p : ℕ) → p < ncon G → (x : RowName) → RowStands G p x → x ≡ row_at G p
  unfolding row_at row_number
  row-only p b x s = sym (row_of_lem x) ∙ ap row_of (sym (key-placed (row_blocks G) (row_key x) s.valid)) ∙ ap (row_at G) s.number

  column-named : (i q : ℕ) → Named column_key i q (column_blocks G) (column_names i) 0
  unfolding column_blocks column_table
  column-named i q = search (one, one_or_none)

  pub column-key : (x : Key) → Valid (column_blocks G) x → column_key (column_of x) ≡ x
  column-key x v =
      rw add-zero at (named column_key x.item x.place (column_blocks G) (column_names x.item) 0
      (column-named x.item x.place) (Pg 0) x.block v.place)

  pub column-stands : (p : ℕ) → p < nvar G → ColumnStands G p (column_at G p)
  unfolding nvar column_at column_number
  column-stands p b =
      let r = key_right (column_blocks G) p b in
      let e = column-key (key_at (column_blocks G) p) r.valid in
      record { valid = rw e r.valid; number = rw e r.number }

  pub column-only : (p : ℕ) → p < nvar G → (x : ColumnName) → ColumnStands G p x → x ≡ column_at G p
  unfolding column_at column_number
  column-only p b x s = sym (column_of_lem x) ∙ ap column_of (sym (key-placed (column_blocks G) (column_key x) s.valid)) ∙ ap (column_at G) s.number

  -- the cones' lengths add up to the rows
  pub cones-add : sum G.k G.segments ≡ G.s → added (cone_lengths G) ≡ ncon G
  cones-add h = simp (added-append, added-replicate, ncon-number) (omega (arith, h))
