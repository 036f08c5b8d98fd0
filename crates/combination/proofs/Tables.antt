-- The table of results, and the cells of a pass in it. Assumes nothing.
use Rattle.std.proofs.Common.{ℕ, zero, suc, ◌+◌, ◌*◌, ◌/◌, ◌%◌, ◌≤◌, ◌<◌, ◌≡◌, sym, ap, ◌∙◌, ⊎_elim, List, ◌++◌, mul-le-mul_right, suc-mul, zero-mul}
use Rattle.std.proofs.Common.{mul-zero, mul-one, not-suc-le-zero, le_of_suc-le-suc, eq-or-lt_of_le, div-add-mod', mod-lt, div-lt_iff_lt-mul, arith}
use Rattle.std.proofs.Common.{length, get_or, length-append, get_or-append-add, ext_get_or, Float}
use Rattle.std.specs.Float.{binary64, nan}
use Rattle.std.specs.Float.Ieee.{mul}
use native.Mathlib.Decide.{dec_lt}
use lib.ListN.{get_or-append}
use Rattle.lists.specs.UpTo.{up_to, each, listed}
use Rattle.lists.proofs.Listed.{listed-length, listed_at}
use Rattle.weighing.specs.Passes.{place, Spread}
use Rattle.combination.specs.Combination.{table}

-- one place, one item and column
pub unique : (n o k o' k' : ℕ) → k < n → k' < n → o * n + k ≡ o' * n + k' → (o ≡ o') × (k ≡ k')
unique n o k o' k' h h' e =
    elim (dec_lt o o') [
      | yes l ↦ absurd (omega (arith, mul-le-mul_right n l, suc-mul o n))
      | no l ↦ elim (dec_lt o' o) [
        | yes l' ↦ absurd (omega (arith, mul-le-mul_right n l', suc-mul o' n))
        | no l' ↦
            let q : o ≡ o' = omega arith in
            let r : o * n ≡ o' * n = ap (λ (i : ℕ). i * n) q in
            (q, omega arith)
      ]
    ]

-- item o, column k lies inside
pub item-inside : (items columns o k : ℕ) → o < items → k < columns → o * columns + k < items * columns
item-inside items columns o k h l = omega (arith, mul-le-mul_right columns h, suc-mul o columns)

module _ (f : ℕ → ℕ → Float) where
  table-length : (items columns : ℕ) → length (table items columns f) ≡ items * columns
  unfolding table up_to
  table-length zero columns = sym (zero-mul columns)
  table-length (suc n) columns =
      omega (arith, length-append (each n (λ i. listed columns (f i))) (listed columns (f n)), table-length n columns, listed-length (f n) columns, suc-mul n columns)

  -- "item o, column c is at o × columns + c"
  pub table_at : (items columns o c : ℕ) → o < items → c < columns → get_or (table items columns f) (o * columns + c) nan ≡ f o c
  unfolding table up_to
  table_at zero columns o c h k = absurd (not-suc-le-zero h)
  table_at (suc n) columns o c h k =
      let e : length (each n (λ i. listed columns (f i))) ≡ n * columns = table-length n columns in
      ⊎_elim
      (λ q.
      let g : o * columns + c ≡ length (each n (λ i. listed columns (f i))) + c = ap (λ (i : ℕ). i * columns + c) q ∙ ap (λ (i : ℕ). i + c) (sym e) in
      ap (λ (i : ℕ). get_or (each n (λ i. listed columns (f i)) ++ listed columns (f n)) i nan) g
      ∙ get_or-append-add (each n (λ i. listed columns (f i))) (listed columns (f n)) c nan
      ∙ listed_at (f n) columns c nan k
      ∙ ap (λ (i : ℕ). f i c) (sym q))
      (λ l.
      let b : o * columns + c < length (each n (λ i. listed columns (f i))) = omega (arith, e, item-inside n columns o c l k) in
      get_or-append (each n (λ i. listed columns (f i))) _ nan (o * columns + c) b ∙ table_at n columns o c l k)
      (eq-or-lt_of_le (le_of_suc-le-suc h))

  -- a list with these cells is the table
  pub table_is : (items columns : ℕ) (m : List Float) → length m ≡ items * columns
      → ((o c : ℕ) → o < items → c < columns → get_or m (o * columns + c) nan ≡ f o c) → m ≡ table items columns f
  table_is items columns m h g =
      ext_get_or nan m (table items columns f) (h ∙ sym (table-length items columns))
      (λ i l.
      let z : 0 < columns = elim (dec_lt 0 columns) [
        | yes p ↦ p
        | no p ↦
            let e : columns ≡ 0 = omega arith in
            absurd (let q : items * columns ≡ 0 = ap (λ (k : ℕ). items * k) e ∙ mul-zero items in omega arith)
      ] in
      let o : i / columns < items = (div-lt_iff_lt-mul z).1 (omega arith) in
      let d : i / columns * columns + i % columns ≡ i = div-add-mod' i columns in
      ap (λ (k : ℕ). get_or m k nan) (sym d)
      ∙ g (i / columns) (i % columns) o (mod-lt i z)
      ∙ sym (table_at items columns (i / columns) (i % columns) o (mod-lt i z))
      ∙ ap (λ (k : ℕ). get_or (table items columns f) k nan) d)

-- ---- the cells of a pass
module _ (items columns : ℕ) where
  -- forward: the dense columns are the table's columns, the segments its items
  pub forward_place : (c o : ℕ) → place 0 1 columns c o ≡ o * columns + c
  forward_place c o = omega (arith, mul-one c)

  pub spread_forward : Spread 0 1 columns columns items (items * columns)
  spread_forward =
      record {
        inside = λ c o b. rw (forward_place c o) (item-inside items columns o c b.1 b.0);
        apart = λ c o c' o' b b' e.
            let u = unique columns o c o' c' b.0 b'.0 (sym (forward_place c o) ∙ e ∙ forward_place c' o') in
            (u.1, u.0);
      }

  -- adjoint: the dense columns are its items, the segments its columns from c on
  pub adjoint_place : (c o s : ℕ) → place c columns 1 o s ≡ o * columns + (c + s)
  adjoint_place c o s = omega (arith, mul-one s)

  pub spread_adjoint : (c segments : ℕ) → c + segments ≤ columns → Spread c columns 1 items segments (items * columns)
  spread_adjoint c segments h =
      record {
        inside = λ o s b. rw (adjoint_place c o s) (item-inside items columns o (c + s) b.0 (omega arith));
        apart = λ o s o' s' b b' e.
            let u = unique columns o (c + s) o' (c + s') (omega arith) (omega arith) (sym (adjoint_place c o s) ∙ e ∙ adjoint_place c o' s') in
            (u.0, omega arith);
      }

-- each cell times the sign
pub scaled-table : (sign : Float) (g : ℕ → ℕ → Float) (items columns : ℕ) (m : List Float) → length m ≡ items * columns
    → ((o c : ℕ) → o < items → c < columns → get_or m (o * columns + c) nan ≡ g o c)
    → listed (length m) (λ i. mul binary64 sign (get_or m i nan)) ≡ table items columns (λ o c. mul binary64 sign (g o c))
scaled-table sign g items columns m h e =
    table_is (λ o c. mul binary64 sign (g o c)) items columns (listed (length m) (λ i. mul binary64 sign (get_or m i nan)))
    (listed-length (λ i. mul binary64 sign (get_or m i nan)) (length m) ∙ h)
    (λ o c l k.
    listed_at (λ i. mul binary64 sign (get_or m i nan)) (length m) (o * columns + c) nan (omega (arith, h, item-inside items columns o c l k))
    ∙ ap (mul binary64 sign) (e o c l k))
