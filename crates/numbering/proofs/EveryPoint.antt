-- Lists over all points of a numbering, block after block and record after record: what is at every number is what is at every name.
-- A name that the network has is the one at its number. Assumes nothing.
use Rattle.std.proofs.Common.{ℕ, zero, suc, ◌+◌, ◌*◌, ◌<◌, ◌≡◌, refl, sym, ap, ◌∙◌, Bool, true, false, List, ◌++◌, append_assoc, arith, one-mul, length}
use Rattle.lists.specs.UpTo.{up_to, each, when, bit}
use Rattle.lists.proofs.Each.{each_ext, each-split}
use Rattle.records.specs.AcNetwork.{AcNetwork}
use Rattle.numbering.specs.Blocks.{Block, records, points, start, size, block_at, before, total, key, Valid, number_of}
use Rattle.numbering.specs.Numbering.{column_table, column_blocks, column_key, column_of, column_number, column_at, nvar, row_table, row_blocks, row_key, row_of, row_number, row_at, ncon}
use Rattle.numbering.specs.declared.Key.{Key}
use Rattle.numbering.specs.declared.ColumnName.{ColumnName}
use Rattle.numbering.specs.declared.ColumnName.TheVariants.{Pg, Qg, W, Wr, Wi, Pf, Pt, Qf, Qt, CostOf}
use Rattle.numbering.specs.declared.RowName.{RowName}
use Rattle.numbering.specs.declared.RowName.TheVariants.{Pbal, Qbal, OhmPf, OhmQf, OhmPt, OhmQt, Wub, Wlb, Pgub, Pglb, Qgub, Qglb, Angub, Anglb, Segment, Jabr, Thermal}
use Rattle.numbering.proofs.Points.{start-zero, start-next, before-zero, before-next, key-placed}
use Rattle.numbering.proofs.Numbers.{HasColumn, HasRow, column-valid, row-valid}
use Rattle.numbering.proofs.Names.{column_of_lem, row_of_lem, column-key, row-key, column-stands}

module _ {A : Type 0} where
  -- the points of a block
  each-block : (B : Block) (h : ℕ → List A) (n : ℕ) → each (start B n) h ≡ each n (λ i. each (points B i) (λ q. h (start B i + q)))
  unfolding up_to
  each-block B h zero = rw (start-zero B)
  each-block B h (suc n) = rw (start-next B n, each-split h (start B n) (points B n), each-block B h n)

  abbrev keys : List Block → (Key → List A) → ℕ → List A
  keys bs f b = each (records (block_at bs b)) (λ i. each (points (block_at bs b) i) (λ q. f (key b i q)))

  each_blocks : (bs : List Block) (h : ℕ → List A) (n : ℕ) → each (before bs n) h ≡ each n (keys bs (λ x. h (number_of bs x)))
  unfolding up_to size number_of
  each_blocks bs h zero = rw (before-zero bs)
  each_blocks bs h (suc n) =
      let B = block_at bs n in
      rw (before-next bs n, each-split h (before bs n) (size B), each_blocks bs h n, each-block B (λ j. h (before bs n + j)) (records B))

  -- h at every number is f at every key, where they agree at the valid ones
  every_point : (bs : List Block) (h : ℕ → List A) (f : Key → List A) → ((x : Key) → Valid bs x → h (number_of bs x) ≡ f x)
      → each (total bs) h ≡ each (length bs) (keys bs f)
  unfolding total
  every_point bs h f same =
      each_blocks bs h (length bs)
      ∙ each_ext _ _ (length bs)
      (λ b l. each_ext _ _ (records (block_at bs b))
      (λ i m. each_ext _ _ (points (block_at bs b) i) (λ q o. same (key b i q) (record { item = m; place = o }))))

-- w points or none
pub several : (l : Bool) (w q : ℕ) → q < w * bit l → (l ≡ true) × (q < w)
several true w q h = (refl, omega arith)
several false w q h = absurd (omega arith)

-- six points or none
six : {A : Type 0} (l : Bool) (f : ℕ → List A) → each (6 * bit l) f ≡ when l (each 3 f ++ each 3 (λ q. f (3 + q)))
unfolding up_to
six true f = simp append_assoc
six false f = refl

one_or_none : {A : Type 0} (l : Bool) (f : ℕ → List A) → each (1 * bit l) f ≡ when l (f 0)
unfolding up_to
one_or_none true f = refl
one_or_none false f = refl

-- the six blocks of the zero cone, the nine of the nonnegative, and the two of the others
regroup : {A : Type 0} (x : ℕ → List A) → each 17 x
    ≡ (x 0 ++ x 1 ++ x 2 ++ x 3 ++ x 4 ++ x 5) ++ (x 6 ++ x 7 ++ x 8 ++ x 9 ++ x 10 ++ x 11 ++ x 12 ++ x 13 ++ x 14) ++ (x 15 ++ x 16)
unfolding up_to
regroup x = simp append_assoc

module _ {A : Type 0} (G : AcNetwork A) where
  -- ---- the name of a valid key is one that the network has
  pub has-column : (x : ColumnName) → Valid (column_blocks G) (column_key x) → HasColumn G x
  unfolding column_blocks column_table
  has-column (Pg g) v = v.item
  has-column (Qg g) v = v.item
  has-column (W i) v = v.item
  has-column (Wr e) v = v.item
  has-column (Wi e) v = v.item
  has-column (Pf e) v = v.item
  has-column (Pt e) v = v.item
  has-column (Qf e) v = v.item
  has-column (Qt e) v = v.item
  has-column (CostOf g) v = (v.item, (several (G.piecewise g) 1 0 v.place).0)

  pub has-row : (x : RowName) → Valid (row_blocks G) (row_key x) → HasRow G x
  unfolding row_blocks row_table
  has-row (Pbal i) v = v.item
  has-row (Qbal i) v = v.item
  has-row (OhmPf e) v = v.item
  has-row (OhmQf e) v = v.item
  has-row (OhmPt e) v = v.item
  has-row (OhmQt e) v = v.item
  has-row (Wub i) v = v.item
  has-row (Wlb i) v = v.item
  has-row (Pgub g) v = v.item
  has-row (Pglb g) v = v.item
  has-row (Qgub g) v = v.item
  has-row (Qglb g) v = v.item
  has-row (Angub e) v = v.item
  has-row (Anglb e) v = v.item
  has-row (Segment g t) v = (v.item, omega (arith, v.place))
  has-row (Jabr e q) v = (v.item, v.place)
  has-row (Thermal e q) v = let s = several (G.limited e) 6 q v.place in (v.item, s.0, s.1)

  -- ---- a name is the one at its number, so two names have two numbers; and the name at a number is one that the network has
  pub column-placed : (x : ColumnName) → HasColumn G x → column_at G (column_number G x) ≡ x
  unfolding column_at column_number
  column-placed x h = ap column_of (key-placed (column_blocks G) (column_key x) (column-valid G x h)) ∙ column_of_lem x

  pub row-placed : (x : RowName) → HasRow G x → row_at G (row_number G x) ≡ x
  unfolding row_at row_number
  row-placed x h = ap row_of (key-placed (row_blocks G) (row_key x) (row-valid G x h)) ∙ row_of_lem x

  pub column-alone : (x y : ColumnName) → HasColumn G x → HasColumn G y → column_number G x ≡ column_number G y → x ≡ y
  column-alone x y h k e = sym (column-placed x h) ∙ ap (column_at G) e ∙ column-placed y k

  pub column-there : (p : ℕ) → p < nvar G → HasColumn G (column_at G p)
  column-there p h = has-column (column_at G p) (column-stands G p h).valid

module _ {A B : Type 0} (G : AcNetwork A) where
  -- what holds at every name holds at every valid key
  row-key-same : (h : ℕ → List B) (f : RowName → List B) → ((x : RowName) → HasRow G x → h (row_number G x) ≡ f x)
      → (x : Key) → Valid (row_blocks G) x → h (number_of (row_blocks G) x) ≡ f (row_of x)
  unfolding row_number
  row-key-same h f same x v = let e = row-key G x v in rw e at (same (row_of x) (has-row G (row_of x) (rw e v)))

  column-key-same : (h : ℕ → List B) (f : ColumnName → List B) → ((x : ColumnName) → HasColumn G x → h (column_number G x) ≡ f x)
      → (x : Key) → Valid (column_blocks G) x → h (number_of (column_blocks G) x) ≡ f (column_of x)
  unfolding column_number
  column-key-same h f same x v = let e = column-key G x v in rw e at (same (column_of x) (has-column G (column_of x) (rw e v)))

  -- ---- what h has at every row's number, or column's, is what f has at its name
  pub every-row : (h : ℕ → List B) (f : RowName → List B) → ((x : RowName) → HasRow G x → h (row_number G x) ≡ f x) → each (ncon G) h
      ≡ (each G.n (λ i. f (Pbal i)) ++ each G.n (λ i. f (Qbal i))
      ++ each G.m (λ e. f (OhmPf e)) ++ each G.m (λ e. f (OhmQf e)) ++ each G.m (λ e. f (OhmPt e)) ++ each G.m (λ e. f (OhmQt e)))
      ++ (each G.n (λ i. f (Wub i)) ++ each G.n (λ i. f (Wlb i))
      ++ each G.k (λ g. f (Pgub g)) ++ each G.k (λ g. f (Pglb g)) ++ each G.k (λ g. f (Qgub g)) ++ each G.k (λ g. f (Qglb g))
      ++ each G.m (λ e. f (Angub e)) ++ each G.m (λ e. f (Anglb e))
      ++ each G.k (λ g. each (G.segments g) (λ t. f (Segment g t))))
      ++ (each G.m (λ e. each 4 (λ q. f (Jabr e q)))
      ++ each G.m (λ e. when (G.limited e) (each 3 (λ q. f (Thermal e q)) ++ each 3 (λ q. f (Thermal e (3 + q))))))
  unfolding up_to ncon row_blocks row_table
  every-row h f same =
      every_point (row_blocks G) h (λ x. f (row_of x)) (row-key-same h f same)
      ∙ regroup (keys (row_blocks G) (λ x. f (row_of x)))
      ∙ rw (
        each_ext (λ g. each (1 * G.segments g) (λ t. f (Segment g t))) (λ g. each (G.segments g) (λ t. f (Segment g t))) G.k (λ g l. rw (one-mul (G.segments g))),
        each_ext (λ e. each (6 * bit (G.limited e)) (λ q. f (Thermal e q)))
            (λ e. when (G.limited e) (each 3 (λ q. f (Thermal e q)) ++ each 3 (λ q. f (Thermal e (3 + q))))) G.m
            (λ e l. six (G.limited e) (λ q. f (Thermal e q))),
      )

  pub every-column : (h : ℕ → List B) (f : ColumnName → List B) → ((x : ColumnName) → HasColumn G x → h (column_number G x) ≡ f x) → each (nvar G) h
      ≡ each G.k (λ g. f (Pg g)) ++ each G.k (λ g. f (Qg g)) ++ each G.n (λ i. f (W i))
      ++ each G.m (λ e. f (Wr e)) ++ each G.m (λ e. f (Wi e))
      ++ each G.m (λ e. f (Pf e)) ++ each G.m (λ e. f (Pt e)) ++ each G.m (λ e. f (Qf e)) ++ each G.m (λ e. f (Qt e))
      ++ each G.k (λ g. when (G.piecewise g) (f (CostOf g)))
  unfolding up_to nvar column_blocks column_table
  every-column h f same =
      every_point (column_blocks G) h (λ x. f (column_of x)) (column-key-same h f same)
      ∙ rw (each_ext (λ g. each (1 * bit (G.piecewise g)) (λ q. f (CostOf g))) (λ g. when (G.piecewise g) (f (CostOf g))) G.k (λ g l. one_or_none (G.piecewise g) (λ q. f (CostOf g))))
