-- A by columns is A by rows, at each column's number. Assumes nothing.
use Rattle.std.proofs.Common.{ℕ, zero, suc, ◌+◌, ◌<◌, ◌≡◌, refl, sym, ap, ◌∙◌, Bool, true, false, cond, List, [], ◌∷◌, ◌++◌, append_assoc, arith, eqb, ltb, Float, eq-eqb, ne_eqb}
use Rattle.std.specs.Float.Ieee.{ne}
use native.Mathlib.Decide.{ℕ_discrete}
use Rattle.lists.specs.UpTo.{up_to, each, when}
use Rattle.lists.specs.Entries.{Entry, Cell, select}
use Rattle.lists.proofs.Each.{each_ext}
use Rattle.records.specs.AcNetwork.{AcNetwork}
use Rattle.records.proofs.Sound.{Sound}
use Rattle.numbering.specs.Numbering.{column_key, column_of, column_number, row_number}
use Rattle.numbering.specs.declared.Key.{Key}
use Rattle.numbering.specs.declared.ColumnName.{ColumnName}
use Rattle.numbering.specs.declared.ColumnName.TheVariants.{Pg, Qg, W, Wr, Wi, Pf, Pt, Qf, Qt, CostOf}
use Rattle.numbering.specs.declared.RowName.{RowName}
use Rattle.numbering.specs.declared.RowName.TheVariants.{Pbal, Qbal, OhmPf, OhmQf, OhmPt, OhmQt, Wub, Wlb, Pgub, Pglb, Qgub, Qglb, Angub, Anglb, Segment, Jabr, Thermal}
use Rattle.numbering.proofs.Numbers.{HasColumn, HasRow}
use Rattle.numbering.proofs.Names.{column_of_lem}
use Rattle.numbering.proofs.EveryPoint.{column-alone, every-column}
use Rattle.rows.specs.Rows.{Constant, constant64, zero64, Term, term, kept, terms, end_bus, flow_column}
use Rattle.rows.specs.declared.OhmRow.{OhmRow}
use Rattle.rows.specs.declared.OhmRow.TheVariants.{Pf as pf, Qf as qf, Pt as pt, Qt as qt}
use Rattle.rows.specs.Program.{every_row, in_row, program, matrix}
use Rattle.rows.proofs.Shape.{hit_terms, end_terms}
use Rattle.matrix.specs.Lists.{every_column}
use Rattle.matrix.specs.Columns.{one_cell, column_cells}
use Rattle.matrix.proofs.Shaped.{sole, ohm_terms, shaped, terms_shape}
use Rattle.matrix.proofs.Cuts.{same, cut, column, column-cells}

-- the same where the test holds
when-same : {A : Type 0} (b : Bool) {xs ys : List A} → (b ≡ true → xs ≡ ys) → when b xs ≡ when b ys
when-same true h = h refl
when-same false h = refl

-- two functions that agree at the rows that a network has
pub every_ext : {A B : Type 0} (G : AcNetwork A) (f g : RowName → List B) → ((x : RowName) → HasRow G x → f x ≡ g x) → every_row G f ≡ every_row G g
every_ext G f g h =
    rw (
      each_ext (λ i. f (Pbal i)) (λ i. g (Pbal i)) G.n (λ i l. h (Pbal i) l),
      each_ext (λ i. f (Qbal i)) (λ i. g (Qbal i)) G.n (λ i l. h (Qbal i) l),
      each_ext (λ e. f (OhmPf e)) (λ e. g (OhmPf e)) G.m (λ e l. h (OhmPf e) l),
      each_ext (λ e. f (OhmQf e)) (λ e. g (OhmQf e)) G.m (λ e l. h (OhmQf e) l),
      each_ext (λ e. f (OhmPt e)) (λ e. g (OhmPt e)) G.m (λ e l. h (OhmPt e) l),
      each_ext (λ e. f (OhmQt e)) (λ e. g (OhmQt e)) G.m (λ e l. h (OhmQt e) l),
      each_ext (λ i. f (Wub i)) (λ i. g (Wub i)) G.n (λ i l. h (Wub i) l),
      each_ext (λ i. f (Wlb i)) (λ i. g (Wlb i)) G.n (λ i l. h (Wlb i) l),
      each_ext (λ i. f (Pgub i)) (λ i. g (Pgub i)) G.k (λ i l. h (Pgub i) l),
      each_ext (λ i. f (Pglb i)) (λ i. g (Pglb i)) G.k (λ i l. h (Pglb i) l),
      each_ext (λ i. f (Qgub i)) (λ i. g (Qgub i)) G.k (λ i l. h (Qgub i) l),
      each_ext (λ i. f (Qglb i)) (λ i. g (Qglb i)) G.k (λ i l. h (Qglb i) l),
      each_ext (λ e. f (Angub e)) (λ e. g (Angub e)) G.m (λ e l. h (Angub e) l),
      each_ext (λ e. f (Anglb e)) (λ e. g (Anglb e)) G.m (λ e l. h (Anglb e) l),
      each_ext (λ i. each (G.segments i) (λ t. f (Segment i t))) (λ i. each (G.segments i) (λ t. g (Segment i t))) G.k (λ i l. each_ext _ _ (G.segments i) (λ t k. h (Segment i t) (l, k))),
      each_ext (λ e. each 4 (λ l. f (Jabr e l))) (λ e. each 4 (λ l. g (Jabr e l))) G.m (λ e k. each_ext _ _ 4 (λ l q. h (Jabr e l) (k, q))),
      each_ext (λ e. when (G.limited e) (each 3 (λ l. f (Thermal e l)) ++ each 3 (λ l. f (Thermal e (3 + l)))))
          (λ e. when (G.limited e) (each 3 (λ l. g (Thermal e l)) ++ each 3 (λ l. g (Thermal e (3 + l))))) G.m
          (λ e k. when-same (G.limited e)
          (λ p. rw (
            each_ext (λ l. f (Thermal e l)) (λ l. g (Thermal e l)) 3 (λ l q. h (Thermal e l) (k, p, omega arith)),
            each_ext (λ l. f (Thermal e (3 + l))) (λ l. g (Thermal e (3 + l))) 3 (λ l q. h (Thermal e (3 + l)) (k, p, omega arith)),
          ))),
    )

-- ---- every term of a row stands in a column of the network

pub data All (G : AcNetwork Float) : List Term → Type 0 where
  none : All G []
  also : {t : Term} {ts : List Term} → HasColumn G t.col → All G ts → All G (t ∷ ts)

module _ (G : AcNetwork Float) where
  all_append : {xs ys : List Term} → All G xs → All G ys → All G (xs ++ ys)
  all_append none q = q
  all_append (also h p) q = also h (all_append p q)

  all-each : (n : ℕ) (f : ℕ → List Term) → ((j : ℕ) → j < n → All G (f j)) → All G (each n f)
  unfolding up_to
  all-each zero f h = none
  all-each (suc n) f h = all_append (all-each n f (λ j l. h j (omega arith))) (h n (omega arith))

  all-when : {xs : List Term} (b : Bool) → All G xs → All G (when b xs)
  all-when true p = p
  all-when false p = none

  all-sole : (c : ColumnName) (v : Float) → HasColumn G c → All G (sole c v)
  unfolding sole
  all-sole c v h = also {t = term c v} h none

  all-kept : (c : ColumnName) (v : Float) → HasColumn G c → All G (kept c v)
  unfolding kept sole
  all-kept c v h = all-when (ne v zero64) (all-sole c v h)

  all-hits : (n : ℕ) (s : ℕ → ℕ) (i : ℕ) (c : ℕ → ColumnName) (v : Constant) → ((j : ℕ) → j < n → HasColumn G (c j)) → All G (hit_terms n s i c v)
  unfolding hit_terms sole
  all-hits n s i c v h = all-each n _ (λ j l. all-when (eqb (s j) i) (all-sole (c j) (constant64 v) (h j l)))

  all-cond : {xs ys : List Term} (b : Bool) → All G xs → All G ys → All G (cond b xs ys)
  all-cond true p q = p
  all-cond false p q = q

  all-ohm : (r : OhmRow) (e : ℕ) → e < G.m → end_bus G r e < G.n → All G (ohm_terms G r e)
  unfolding ohm_terms
  all-ohm r e l b =
      all_append (all_append (all_append (all-kept (W (end_bus G r e)) _ b) (all-kept (Wr e) _ l)) (all-kept (Wi e) _ l))
      (all-sole (flow_column r e) _ (flow-stands r))
    where
      flow-stands : (r : OhmRow) → HasColumn G (flow_column r e)
      flow-stands pf = l
      flow-stands qf = l
      flow-stands pt = l
      flow-stands qt = l

  all-ends : Sound G → (e : ℕ) → e < G.m → (u v : Constant) → All G (end_terms G e u v)
  unfolding end_terms
  all-ends s e l u v =
      let f = s.from_bus e l in
      let t = s.to_bus e l in
      all-cond (ltb (G.from e) (G.to e)) (also {t = term (W (G.from e)) (constant64 u)} f (also {t = term (W (G.to e)) (constant64 v)} t none))
      (also {t = term (W (G.to e)) (constant64 v)} t (also {t = term (W (G.from e)) (constant64 u)} f none))

  all-shaped : Sound G → (x : RowName) → HasRow G x → All G (shaped G x)
  unfolding shaped
  all-shaped s (Pbal i) l =
      all_append
      (all_append (all_append (all-hits G.k G.gen_bus i Pg _ (λ j h. h)) (all-kept (W i) _ l)) (all-hits G.m G.from i Pf _ (λ j h. h)))
      (all-hits G.m G.to i Pt _ (λ j h. h))
  all-shaped s (Qbal i) l =
      all_append
      (all_append (all_append (all-hits G.k G.gen_bus i Qg _ (λ j h. h)) (all-kept (W i) _ l)) (all-hits G.m G.from i Qf _ (λ j h. h)))
      (all-hits G.m G.to i Qt _ (λ j h. h))
  all-shaped s (OhmPf e) l = all-ohm pf e l (s.from_bus e l)
  all-shaped s (OhmQf e) l = all-ohm qf e l (s.from_bus e l)
  all-shaped s (OhmPt e) l = all-ohm pt e l (s.to_bus e l)
  all-shaped s (OhmQt e) l = all-ohm qt e l (s.to_bus e l)
  all-shaped s (Wub i) l = all-when (G.bounded i) (all-sole (W i) _ l)
  all-shaped s (Wlb i) l = all-when (G.bounded i) (all-sole (W i) _ l)
  all-shaped s (Pgub g) l = all-when (G.capable g) (all-sole (Pg g) _ l)
  all-shaped s (Pglb g) l = all-when (G.capable g) (all-sole (Pg g) _ l)
  all-shaped s (Qgub g) l = all-when (G.capable g) (all-sole (Qg g) _ l)
  all-shaped s (Qglb g) l = all-when (G.capable g) (all-sole (Qg g) _ l)
  all-shaped s (Angub e) l = all-when (G.angled e) (all_append (all-kept (Wr e) _ l) (all-sole (Wi e) _ l))
  all-shaped s (Anglb e) l = all-when (G.angled e) (all_append (all-kept (Wr e) _ l) (all-sole (Wi e) _ l))
  all-shaped s (Segment g t) l = all_append (all-kept (Pg g) _ l.0) (all-sole (CostOf g) _ (l.0, s.pieces g t l.0 l.1))
  all-shaped s (Jabr e zero) l = all-ends s e l.0 _ _
  all-shaped s (Jabr e (suc zero)) l = all-sole (Wr e) _ l.0
  all-shaped s (Jabr e (suc (suc zero))) l = all-sole (Wi e) _ l.0
  all-shaped s (Jabr e (suc (suc (suc zero)))) l = all-ends s e l.0 _ _
  all-shaped s (Jabr e (suc (suc (suc (suc q))))) l = none
  all-shaped s (Thermal e zero) l = none
  all-shaped s (Thermal e (suc zero)) l = all-sole (Pf e) _ l.0
  all-shaped s (Thermal e (suc (suc zero))) l = all-sole (Qf e) _ l.0
  all-shaped s (Thermal e (suc (suc (suc zero)))) l = none
  all-shaped s (Thermal e (suc (suc (suc (suc zero))))) l = all-sole (Pt e) _ l.0
  all-shaped s (Thermal e (suc (suc (suc (suc (suc zero)))))) l = all-sole (Qt e) _ l.0
  all-shaped s (Thermal e (suc (suc (suc (suc (suc (suc q))))))) l = none

  pub all-terms : Sound G → (x : RowName) → HasRow G x → All G (terms G x)
  all-terms s x h = rw (terms_shape G x) (all-shaped s x h)

-- ---- the cells at a number are the cells at the name

-- two columns of a network have the same number only if they are the same
pub number_same : (G : AcNetwork Float) (a b : ColumnName) → HasColumn G a → HasColumn G b → eqb (column_number G a) (column_number G b) ≡ same a b
number_same G a b ha hb = elim (ℕ_discrete (column_number G a) (column_number G b)) [
  | yes e ↦
      let k : column_key a ≡ column_key b = ap column_key (column-alone G a b ha hb e) in
      rw (
        eq-eqb (column_number G a) (column_number G b) e,
        eq-eqb (column_key a).block (column_key b).block (ap (λ (x : Key). x.block) k),
        eq-eqb (column_key a).item (column_key b).item (ap (λ (x : Key). x.item) k),
      )
  | no d ↦ rw (ne_eqb (column_number G a) (column_number G b) d) (elim (ℕ_discrete (column_key a).block (column_key b).block) [
    | yes k ↦ rw (eq-eqb (column_key a).block (column_key b).block k, ne_eqb (column_key a).item (column_key b).item (λ i. d (ap (column_number G) (names k i))))
    | no k ↦ rw (ne_eqb (column_key a).block (column_key b).block k)
  ])
]
  where
    names : (column_key a).block ≡ (column_key b).block → (column_key a).item ≡ (column_key b).item → a ≡ b
    names k i =
        let e : column_of (column_key a) ≡ column_of (column_key b) = rw (k, i) in
        sym (column_of_lem a) ∙ e ∙ column_of_lem b

row_same : (G : AcNetwork Float) (κ : ColumnName) → HasColumn G κ → (r : ℕ) (ts : List Term) → All G ts → select (column_number G κ) (in_row G r ts) ≡ cut κ r ts
unfolding select cut one_cell
row_same G κ h r [] a = refl
row_same G κ h r (t ∷ ts) (also s a) = rw (number_same G t.col κ s h, row_same G κ h r ts a)

pub select-append : (c : ℕ) (xs ys : List Entry) → select c (xs ++ ys) ≡ select c xs ++ select c ys
unfolding select
select-append c [] ys = refl
select-append c (x ∷ xs) ys = rw (select-append c xs ys, append_assoc)

pub select-each : (c n : ℕ) (f : ℕ → List Entry) → select c (each n f) ≡ each n (λ j. select c (f j))
unfolding select up_to
select-each c zero f = refl
select-each c (suc n) f = rw (select-append c (each n f) (f n), select-each c n f)

pub select_when : (c : ℕ) (b : Bool) (xs : List Entry) → select c (when b xs) ≡ when b (select c xs)
unfolding select
select_when c true xs = refl
select_when c false xs = refl

pub select-every : {A : Type 0} (c : ℕ) (G : AcNetwork A) (f : RowName → List Entry) → select c (every_row G f) ≡ every_row G (λ x. select c (f x))
select-every c G f = simp (select-append, select-each, select_when)

module _ (G : AcNetwork Float) (s : Sound G) (bus_below : (g : ℕ) → g < G.k → G.gen_bus g < G.n) where
  -- of the rows' entries those in a column are what the code writes there
  pub column-at : (κ : ColumnName) → HasColumn G κ → select (column_number G κ) (program G) ≡ column_cells G κ
  unfolding program column
  column-at κ h =
      select-every (column_number G κ) G (λ x. in_row G (row_number G x) (terms G x))
      ∙ every_ext G _ _ (λ x l. row_same G κ h (row_number G x) (terms G x) (all-terms G s x l) ∙ ap (cut κ (row_number G x)) (terms_shape G x))
      ∙ column-cells G s bus_below κ h

  -- the whole matrix is what the code writes, kind after kind
  pub matrix-columns : matrix G ≡ every_column G (λ κ. column_cells G κ ∷ [])
  unfolding matrix
  matrix-columns =
      every-column G (λ c. select c (program G) ∷ []) (λ κ. column_cells G κ ∷ []) (λ κ h. ap (λ (l : List Cell). l ∷ []) (column-at κ h))
