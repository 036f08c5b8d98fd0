-- A row's cells and terms by ascending column. Assumes nothing.
use Rattle.std.proofs.Common.{ℕ, zero, suc, ◌+◌, ◌≤◌, ◌≡◌, Bool, true, false, List, [], ◌∷◌, ◌++◌, map, arith, get_or, length, length-append, eqb, Float}
use Rattle.std.specs.Float.Ieee.{ne}
use Rattle.lists.specs.UpTo.{up_to, each, when}
use Rattle.lists.specs.Entries.{entry}
use Rattle.lists.proofs.Ascending.{Asc, asc_from}
use Rattle.ring.specs.Ops.{rounded}
use Rattle.records.specs.AcNetwork.{AcNetwork}
use Rattle.numbering.specs.Numbering.{column_number}
use Rattle.rows.specs.Rows.{Coefficient, plain, over, constant, Constant, Cell, cell, hits, cells, under, zero64, value64, Term, term, kept, written, written_cell, terms}
use Rattle.numbering.specs.declared.ColumnName.{ColumnName}
use Rattle.numbering.specs.declared.RowName.{RowName}

module _ (G : AcNetwork Float) where
  -- the cells' columns ascend from lo or more to below hi
  pub data Up : ℕ → ℕ → List (Cell Float) → Type 0 where
    stop : {lo hi : ℕ} → lo ≤ hi → Up lo hi []
    more : {lo hi : ℕ} {c : ColumnName} {v : Coefficient Float} {cs : List (Cell Float)}
        → lo ≤ column_number G c → Up (column_number G c + 1) hi cs → Up lo hi (cell c v ∷ cs)

  -- the same of each of several lists
  pub data Ups (lo hi : ℕ) : List (List (Cell Float)) → Type 0 where
    none : Ups lo hi []
    and : {cs : List (Cell Float)} {css : List (List (Cell Float))} → Up lo hi cs → Ups lo hi css → Ups lo hi (cs ∷ css)

kept-up : (G : AcNetwork Float) {r lo hi : ℕ} (c : ColumnName) (v : Float) (ts : List Term) (g : Term → Float) → lo ≤ column_number G c
    → Asc r (column_number G c + 1) hi (map (λ t. entry r (column_number G t.col) (g t)) ts)
    → Asc r lo hi (map (λ t. entry r (column_number G t.col) (g t)) (kept c v ++ ts))
unfolding kept
kept-up G {r} {lo} {hi} c v ts g h p = go (ne v zero64)
  where
    go : (b : Bool) → Asc r lo hi (map (λ t. entry r (column_number G t.col) (g t)) (when b (term c v ∷ []) ++ ts))
    go true = Asc.more h p
    go false = asc_from lo (omega arith) p

module _ {G : AcNetwork Float} where
  pub up_from : {lo hi : ℕ} {cs : List (Cell Float)} (l : ℕ) → l ≤ lo → Up G lo hi cs → Up G l hi cs
  up_from {hi = hi} l g (stop h) = let m : l ≤ hi = omega arith in stop m
  up_from l g (more {c = c} h t) = let m : l ≤ column_number G c = omega arith in more m t

  pub up-to : {lo hi : ℕ} {cs : List (Cell Float)} (u : ℕ) → hi ≤ u → Up G lo hi cs → Up G lo u cs
  up-to {lo} u g (stop h) = let m : lo ≤ u = omega arith in stop m
  up-to u g (more h t) = more h (up-to u g t)

  pub up-join : {lo mid from hi : ℕ} {xs ys : List (Cell Float)} → Up G lo mid xs → mid ≤ from → Up G from hi ys → Up G lo hi (xs ++ ys)
  up-join {lo} {from = f} (stop h) g q = let m : lo ≤ f = omega arith in up_from lo m q
  up-join (more h t) g q = more h (up-join t g q)

  pub up-each : (s n : ℕ) (f : ℕ → List (Cell Float)) → ((j : ℕ) → Up G (s + j) (s + j + 1) (f j)) → Up G s (s + n) (each n f)
  unfolding up_to
  up-each s zero f h = let m : s ≤ s + 0 = omega arith in stop m
  up-each s (suc n) f h = up-join (up-each s n f h) (omega arith) (up-to (s + suc n) (omega arith) (h n))

  pub up_one : (c : ColumnName) (v : Coefficient Float) → Up G (column_number G c) (column_number G c + 1) (cell c v ∷ [])
  up_one c v = let m : column_number G c ≤ column_number G c = omega arith in let e : column_number G c + 1 ≤ column_number G c + 1 = omega arith in more m (stop e)

  pub up-when : {lo hi : ℕ} {cs : List (Cell Float)} (b : Bool) → lo ≤ hi → Up G lo hi cs → Up G lo hi (when b cs)
  up-when true h p = p
  up-when false h p = stop h

  pub up-hits : (n : ℕ) (s : ℕ → ℕ) (i : ℕ) (c : ℕ → ColumnName) (v : Constant) (start : ℕ) → ((j : ℕ) → column_number G (c j) ≡ start + j)
      → Up G start (start + n) (hits rounded G n s i c v)
  up-hits n s i c v start h =
      up-each start n _
      (λ j. up-when (eqb (s j) i) (omega arith) (up_from (start + j) (omega (arith, h j)) (up-to (start + j + 1) (omega (arith, h j)) (up_one (c j) (constant v)))))

  -- one of several lists
  pub up-pick : {lo hi : ℕ} {css : List (List (Cell Float))} → lo ≤ hi → Ups G lo hi css → (q : ℕ) → Up G lo hi (get_or css q [])
  up-pick h none q = stop h
  up-pick h (and p ps) zero = p
  up-pick h (and p ps) (suc q) = up-pick h ps q

  -- the entries ascend as the cells do
  written-up : {lo hi : ℕ} {cs : List (Cell Float)} (r : ℕ) (tm2 : Float) (g : Term → Float) → Up G lo hi cs
      → Asc r lo hi (map (λ t. entry r (column_number G t.col) (g t)) (written tm2 cs))
  written-up r tm2 g (stop h) = Asc.stop h
  written-up r tm2 g (more {c = c} {v = plain a} {cs = cs} h t) = kept-up G c a (written tm2 cs) g h (written-up r tm2 g t)
  written-up r tm2 g (more {c = c} {v = over a} {cs = cs} h t) = kept-up G c (value64 tm2 (over a)) (written tm2 cs) g h (written-up r tm2 g t)
  written-up r tm2 g (more {c = c} {v = constant k} h t) = Asc.more h (written-up r tm2 g t)

  pub up-entries : {lo hi : ℕ} (x : RowName) (r : ℕ) (g : Term → Float) → Up G lo hi (cells rounded G x)
      → Asc r lo hi (map (λ t. entry r (column_number G t.col) (g t)) (terms G x))
  unfolding terms
  up-entries x r g p = written-up r (under rounded G x) g p

-- at most as many terms as cells
when-le : {A : Type 0} (b : Bool) (xs : List A) → length (when b xs) ≤ length xs
when-le true xs = omega arith
when-le false xs = omega arith

cell-le : (tm2 : Float) (c : ColumnName) (v : Coefficient Float) → length (written_cell tm2 c v) ≤ 1
unfolding kept
cell-le tm2 c (plain a) = when-le (ne a zero64) (term c a ∷ [])
cell-le tm2 c (over a) = when-le (ne (value64 tm2 (over a)) zero64) (term c (value64 tm2 (over a)) ∷ [])
cell-le tm2 c (constant k) = omega arith

written-le : (tm2 : Float) (cs : List (Cell Float)) → length (written tm2 cs) ≤ length cs
written-le tm2 [] = omega arith
written-le tm2 (c ∷ cs) =
    omega (arith, length-append (written_cell tm2 c.column c.value) (written tm2 cs), cell-le tm2 c.column c.value, written-le tm2 cs)

pub terms-le : (G : AcNetwork Float) (x : RowName) → length (terms G x) ≤ length (cells rounded G x)
unfolding terms
terms-le G x = written-le (under rounded G x) (cells rounded G x)
