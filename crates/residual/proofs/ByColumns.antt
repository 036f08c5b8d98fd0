-- The pass by entries and the pass by columns leave the same: steps in unlike columns may change places. Assumes nothing.
use Rattle.std.proofs.Common.{ℕ, zero, suc, ◌+◌, ◌*◌, ◌≤◌, ◌<◌, ◌≡◌, refl, sym, ap, ◌∙◌, List, [], ◌∷◌, ◌++◌, mul-le-mul_right, suc-mul, arith, length, get_or, get_or-set_other, Float}
use Rattle.std.proofs.lemmas.List.{set_comm}
use Rattle.std.specs.Float.{nan}
use Rattle.lists.specs.UpTo.{up_to, listed}
use Rattle.lists.specs.Steps.{turns, through}
use Rattle.lists.specs.Entries.{Entry}
use Rattle.sparse.specs.Sparse.{entries}
use Rattle.sparse.proofs.Fits.{Entered}
use Rattle.sparse.proofs.Places.{inside}
use Rattle.residual.specs.Residual.{subtract_at, subtract_entry, subtract_column, subtract_entries}

-- each row is below dim
data Inside (dim : ℕ) : List Entry → Type 0 where
  none : Inside dim []
  more : {e : Entry} {es : List Entry} → e.row < dim → Inside dim es → Inside dim (e ∷ es)

inside-append : {dim : ℕ} {es fs : List Entry} → Inside dim es → Inside dim fs → Inside dim (es ++ fs)
inside-append none k = k
inside-append (more h j) k = more h (inside-append j k)

inside-listed : {dim : ℕ} (n : ℕ) (f : ℕ → Entry) → ((j : ℕ) → j < n → (f j).row < dim) → Inside dim (listed n f)
unfolding up_to
inside-listed zero f h = none
inside-listed (suc n) f h = inside-append (inside-listed n f (λ j l. h j (omega arith))) (more (h n (omega arith)) none)

-- a place in a column before
before : (c d dim a b : ℕ) → d < c → a < dim → b < dim → d * dim + b < c * dim + a
before c d dim a b h k l = omega (arith, mul-le-mul_right dim h, suc-mul d dim)

-- both places of an entry in column c lie inside
pub spots : {dim : ℕ} {rows cols : List ℕ} {values : List Float} → Entered dim rows cols values → (c columns j : ℕ) → c < columns → j < length rows
    → (c * dim + get_or rows j 0 < dim * columns) × (c * dim + get_or cols j 0 < dim * columns)
spots {dim} f c columns j h k = (inside c columns _ dim h (f.rows-below j k), inside c columns _ dim h (f.cols-below j k))

module _ (dim : ℕ) (x : List Float) where
  abbrev at : Entry → ℕ → List Float → List Float
  at e c = subtract_at dim x e c

  swap : (e e' : Entry) (c d : ℕ) → d < c → e.row < dim → e'.row < dim → (r : List Float) → at e c (at e' d r) ≡ at e' d (at e c r)
  unfolding subtract_at
  swap e e' c d h k l r =
      let q = before c d dim e.row e'.row h k l in
      rw (
        get_or-set_other r (d * dim + e'.row) (c * dim + e.row) _ nan (λ p. omega arith),
        get_or-set_other r (c * dim + e.row) (d * dim + e'.row) _ nan (λ p. omega arith),
      )
      (set_comm r (d * dim + e'.row) (c * dim + e.row) _ _ (λ p. omega arith))

  past-turns : (e e' : Entry) (c n : ℕ) → n ≤ c → e.row < dim → e'.row < dim → (r : List Float) → at e c (turns (at e') n r) ≡ turns (at e') n (at e c r)
  unfolding turns
  past-turns e e' c zero h k l r = refl
  past-turns e e' c (suc n) h k l r = swap e e' c n (omega arith) k l (turns (at e') n r) ∙ ap (at e' n) (past-turns e e' c n (omega arith) k l r)

  abbrev row : ℕ → Entry → List Float → List Float
  row n e = turns (at e) n

  past-through : (e : Entry) (n : ℕ) {es : List Entry} → e.row < dim → Inside dim es → (r : List Float) → at e n (through (row n) es r) ≡ through (row n) es (at e n r)
  unfolding through
  past-through e n k none r = refl
  past-through e n k (more {e = e'} {es = es} h i) r = past-through e n k i (row n e' r) ∙ ap (through (row n) es) (past-turns e e' n n (omega arith) k h r)

  -- a column more, after the columns before it
  separate : (n : ℕ) {es : List Entry} → Inside dim es → (r : List Float) → through (row (suc n)) es r ≡ through (λ e. at e n) es (through (row n) es r)
  unfolding through turns
  separate n none r = refl
  separate n (more {e = e} {es = es} h i) r = separate n i (at e n (row n e r)) ∙ ap (through (λ e. at e n) es) (sym (past-through e n h i (row n e r)))

  no-columns : (es : List Entry) (r : List Float) → through (row 0) es r ≡ r
  unfolding through turns
  no-columns [] r = refl
  no-columns (e ∷ es) r = no-columns es r

  by-columns : (n : ℕ) {es : List Entry} → Inside dim es → (r : List Float) → through (row n) es r ≡ turns (subtract_column dim x es) n r
  unfolding turns subtract_column
  by-columns zero {es} i r = no-columns es r
  by-columns (suc n) {es} i r = separate n i r ∙ ap (through (λ e. at e n) es) (by-columns n i r)

  pub columns-subtract : (columns : ℕ) {rows cols : List ℕ} {values : List Float} → Entered dim rows cols values → (r : List Float)
      → turns (subtract_column dim x (entries rows cols values)) columns r ≡ subtract_entries dim columns x (entries rows cols values) r
  unfolding subtract_entries subtract_entry entries
  columns-subtract columns {rows} f r = sym (by-columns columns (inside-listed (length rows) _ f.rows-below) r)
