-- A by rows and A by columns are one matrix. Assumes nothing.
use Rattle.std.proofs.Common.{ℕ, zero, suc, ◌+◌, ◌≤◌, ◌<◌, ◌≡◌, refl, sym, ap, ◌∙◌, Bool, true, false, ◌&&◌, List, [], ◌∷◌, ◌++◌, append_assoc, map}
use Rattle.std.proofs.Common.{arith, eqb, length, get_or, length-append, Float, eq-eqb, ne_eqb}
use Rattle.std.proofs.lemmas.List.{get_or_at}
use native.Mathlib.Decide.{ℕ_discrete, dec_lt}
use lib.ListN.{get_or-append}
use Rattle.lists.specs.UpTo.{up_to, each, listed, when, bit}
use Rattle.lists.specs.Entries.{Entry, entry, sits, times, Cell, cell, select}
use Rattle.lists.proofs.Each.{each_ext, each_at, each_none, each_nil, when-nil}
use Rattle.lists.proofs.Sums.{each-length, sum_ones}
use Rattle.records.specs.AcNetwork.{AcNetwork}
use Rattle.records.specs.Network.{network_of, Accepted}
use Rattle.records.proofs.Sound.{Sound, sound}
use Rattle.numbering.specs.Numbering.{nvar, ncon, column_at, column_number, row_number}
use Rattle.numbering.proofs.Numbers.{column-below}
use Rattle.numbering.proofs.Names.{column-stands}
use Rattle.numbering.proofs.EveryPoint.{column-there}
use Rattle.rows.specs.Rows.{Term, terms}
use Rattle.rows.specs.Program.{in_row, program, matrix}
use Rattle.matrix.specs.Columns.{column_cells}
use Rattle.matrix.specs.Law.{values_at, column_entries, Rising, stop, more, OneMatrix}
use Rattle.matrix.proofs.Same.{All, also, all-terms, every_ext, select-every, column-at}
use Rattle.matrix.proofs.Rises.{rises}

-- the values of a column's cells in row r
unfoldable cells_at : ℕ → List Cell → List Float
cells_at r [] = []
cells_at r (c ∷ cs) = when (eqb c.row r) (c.val ∷ []) ++ cells_at r cs

values-select : (r c : ℕ) (es : List Entry) → values_at r c es ≡ cells_at r (select c es)
unfolding values_at select cells_at
values-select r c [] = refl
values-select r c (e ∷ es) = rw (values-select r c es) (go (eqb e.row r) (eqb e.col c) refl)
  where
    go : (a b : Bool) → eqb e.row r ≡ a → when (a && b) (e.val ∷ []) ++ cells_at r (select c es) ≡ cells_at r (when b (cell e.row e.val ∷ []) ++ select c es)
    go true true h = rw h
    go true false h = refl
    go false true h = rw h
    go false false h = refl

values-append : (r c : ℕ) (xs ys : List Entry) → values_at r c (xs ++ ys) ≡ values_at r c xs ++ values_at r c ys
unfolding values_at
values-append r c [] ys = refl
values-append r c (x ∷ xs) ys = rw (values-append r c xs ys, append_assoc)

values-each : (r c n : ℕ) (f : ℕ → List Entry) → values_at r c (each n f) ≡ each n (λ j. values_at r c (f j))
unfolding values_at up_to
values-each r c zero f = refl
values-each r c (suc n) f = rw (values-append r c (each n f) (f n), values-each r c n f)

and_false : (a : Bool) → a && false ≡ false
and_false true = refl
and_false false = refl

and_true : (a : Bool) → a && true ≡ a
and_true true = refl
and_true false = refl

values-column : (r c j : ℕ) (cs : List Cell) → values_at r c (map (λ x. entry x.row j x.val) cs) ≡ when (eqb j c) (cells_at r cs)
unfolding values_at cells_at
values-column r c j cs = elim (ℕ_discrete j c) [
  | yes e ↦ rw (eq-eqb j c e) (hit cs e)
  | no d ↦ rw (ne_eqb j c d) (miss cs d)
]
  where
    hit : (cs : List Cell) → j ≡ c → values_at r c (map (λ x. entry x.row j x.val) cs) ≡ cells_at r cs
    hit [] e = refl
    hit (x ∷ xs) e = rw (eq-eqb j c e, and_true (eqb x.row r), hit xs e)

    miss : (cs : List Cell) → (j ≡ c → ⊥) → values_at r c (map (λ x. entry x.row j x.val) cs) ≡ []
    miss [] d = refl
    miss (x ∷ xs) d = rw (ne_eqb j c d, and_false (eqb x.row r), miss xs d)

times-values : (r c : ℕ) (es : List Entry) → times r c es ≡ length (values_at r c es)
unfolding times values_at
times-values r c [] = refl
times-values r c (e ∷ es) = go (times-values r c es) (sits r c e) ∙ sym (length-append (when (sits r c e) (e.val ∷ [])) (values_at r c es))
  where
    go : times r c es ≡ length (values_at r c es) → (b : Bool) → bit b + times r c es ≡ length (when b (e.val ∷ [])) + length (values_at r c es)
    go h true = omega arith
    go h false = omega arith

-- ---- ascending rows name a row once

rising-below : {lo hi : ℕ} {cs : List Cell} (r : ℕ) → r < lo → Rising lo hi cs → cells_at r cs ≡ []
unfolding cells_at
rising-below r l (stop h) = refl
rising-below r l (more {r = q} h t) = rw (ne_eqb q r (λ e. omega arith)) (rising-below r (omega arith) t)

rising-once : {lo hi : ℕ} {cs : List Cell} (r : ℕ) → Rising lo hi cs → length (cells_at r cs) ≤ 1
unfolding cells_at
rising-once r (stop h) = omega arith
rising-once r (more {r = q} h t) = elim (ℕ_discrete q r) [
  | yes e ↦ rw (eq-eqb q r e) (omega (arith, ap length (rising-below r (omega arith) t)))
  | no d ↦ rw (ne_eqb q r d) (rising-once r t)
]

-- ---- columns by number

listed-length : {A : Type 0} (f : ℕ → A) (n : ℕ) → length (listed n f) ≡ n
listed-length f n = each-length n (λ i. f i ∷ []) ∙ sum_ones n

listed_at : {A : Type 0} (f : ℕ → A) (d : A) (n i : ℕ) → i < n → get_or (listed n f) i d ≡ f i
unfolding up_to
listed_at f d zero i h = absurd (omega arith)
listed_at f d (suc n) i h = elim (ℕ_discrete i n) [
  | yes e ↦ rw e (get_or_at (listed n f) (f n) [] d n (listed-length f n))
  | no q ↦ get_or-append (listed n f) (f n ∷ []) d i (omega (arith, listed-length f n)) ∙ listed_at f d n i (omega arith)
]

module _ (G : AcNetwork Float) (s : Sound G) (bus_below : (g : ℕ) → g < G.k → G.gen_bus g < G.n) where
  column_of_lem : (c : ℕ) → c < nvar G → Rising 0 (ncon G) (select c (program G))
  column_of_lem c h =
      let x = column_at G c in
      let k = column-there G c h in
      let e : select c (program G) ≡ column_cells G x = ap (λ (p : ℕ). select p (program G)) (sym (column-stands G c h).number) ∙ column-at G s bus_below x k in
      rw e (rises G s bus_below x k)

  -- no row has anything past the last column
  row-past : (c r : ℕ) → nvar G ≤ c → (ts : List Term) → All G ts → select c (in_row G r ts) ≡ []
  unfolding select
  row-past c r h [] a = refl
  row-past c r h (t ∷ ts) (also v a) =
      let b : column_number G t.col < nvar G = column-below G t.col v in
      rw (ne_eqb (column_number G t.col) c (λ e. omega arith)) (row-past c r h ts a)

  past : (c : ℕ) → nvar G ≤ c → select c (program G) ≡ []
  unfolding program
  past c h =
      select-every c G (λ x. in_row G (row_number G x) (terms G x))
      ∙ every_ext G _ (λ x. []) (λ x l. row-past c (row_number G x) h (terms G x) (all-terms G s x l))
      ∙ simp (each_nil, when-nil)

  once : (r c : ℕ) → times r c (program G) ≤ 1
  unfolding cells_at
  once r c = elim (dec_lt c (nvar G)) [
    | yes h ↦ omega (arith, times-values r c (program G), ap length (values-select r c (program G)), rising-once r (column_of_lem c h))
    | no h ↦ omega (arith, times-values r c (program G), ap length (values-select r c (program G) ∙ ap (cells_at r) (past c (omega arith))))
  ]

  abbrev columns : List (List Cell)
  columns = listed (nvar G) (λ j. select j (program G))

  in_column : ℕ → List Entry
  in_column j = map (λ x. entry x.row j x.val) (get_or columns j [])

  column-values : (r c j : ℕ) → j < nvar G → values_at r c (in_column j) ≡ when (eqb j c) (cells_at r (select j (program G)))
  unfolding in_column
  column-values r c j h = values-column r c j (get_or columns j []) ∙ rw (listed_at (λ j. select j (program G)) [] (nvar G) j h)

  all-values : (r c : ℕ) → each (nvar G) (λ j. when (eqb j c) (cells_at r (select j (program G)))) ≡ cells_at r (select c (program G))
  unfolding cells_at
  all-values r c = elim (dec_lt c (nvar G)) [
    | yes h ↦ each_at (λ j. cells_at r (select j (program G))) c (nvar G) h
    | no h ↦ each_none (λ j. when (eqb j c) (cells_at r (select j (program G)))) (nvar G) (λ j l. rw (ne_eqb j c (λ e. omega arith))) ∙ sym (ap (cells_at r) (past c (omega arith)))
  ]

  same : (r c : ℕ) → values_at r c (column_entries (matrix G)) ≡ values_at r c (program G)
  unfolding column_entries matrix in_column
  same r c =
      ap (λ (k : ℕ). values_at r c (each k in_column)) (listed-length (λ j. select j (program G)) (nvar G))
      ∙ values-each r c (nvar G) in_column
      ∙ each_ext (λ j. values_at r c (in_column j)) (λ j. when (eqb j c) (cells_at r (select j (program G)))) (nvar G) (column-values r c)
      ∙ all-values r c
      ∙ sym (values-select r c (program G))

  pub one-matrix : OneMatrix G
  unfolding matrix
  one-matrix =
      record {
        same = same;
        once = once;
        ascending = λ c h. rw (listed_at (λ j. select j (program G)) [] (nvar G) c h) (column_of_lem c h);
      }

-- of every accepted network
pub accepted-matrix : (n m k s : ℕ) (bytes : List ℕ) → Accepted n m k s bytes → OneMatrix (network_of n m k s bytes)
accepted-matrix n m k s bytes a = one-matrix (network_of n m k s bytes) (sound n m k s bytes a) a.bus_below
