-- Adjoint: a fill and a pass gather more rows, and all of them make the table. Assumes nothing.
use Rattle.std.proofs.Common.{ℕ, ◌+◌, ◌*◌, ◌-◌, ◌≤◌, ◌<◌, ◌≡◌, refl, sym, ap, ◌∙◌, List, ◌++◌, zero-add, arith, length, get_or, replicate, Float}
use Rattle.std.proofs.lemmas.List.{get_or-replicate}
use Rattle.std.specs.Float.{binary64, nan}
use Rattle.std.specs.Float.Ieee.{mul}
use native.Mathlib.Decide.{dec_lt}
use Rattle.lists.specs.UpTo.{up_to, each, listed}
use Rattle.lists.specs.Entries.{Cell}
use Rattle.lists.proofs.Each.{each-split}
use Rattle.lists.proofs.Steps.{through-none, through-append}
use Rattle.sparse.specs.Sparse.{zero64, item_of, Segments}
use Rattle.weighing.specs.Weighing.{weigh, weighed, nonzero_at}
use Rattle.weighing.specs.Passes.{place, Below, Passed, weighed_at}
use Rattle.weighing.specs.Gathering.{span, passed_rows, Filling}
use Rattle.combination.specs.Combination.{nonzeros, adjoint_at, table}
use Rattle.combination.specs.Summed.{Summed}
use Rattle.weighing.proofs.Walked.{not_reached}
use Rattle.combination.proofs.Tables.{unique, item-inside, adjoint_place, scaled-table}

-- the buffer's segments
pub segments-filled : {dim columns c r : ℕ} {rhs : List Float} {starts rows : List ℕ} {values : List Float} {segments c' r' : ℕ}
    → Filling dim columns c r rhs starts rows values segments c' r' → length starts ≡ 9 → length rows ≡ 256 → length values ≡ 256 → Segments dim starts rows values segments
segments-filled f a b d =
    record {
      few = omega (arith, f.few);
      rises = f.has.rises;
      rows-within = λ s l. omega (arith, f.has.within s l, f.room);
      weights_within = λ s l. omega (arith, f.has.within s l, f.room);
      below = λ s l j k. f.has.below j (omega (arith, f.has.within s l));
    }

-- terms weighed in two parts
weighed-joined : (y : List Float) (base : ℕ) (xs ys : List Cell) (a : Float) → weighed y base (xs ++ ys) a ≡ weighed y base ys (weighed y base xs a)
unfolding weighed
weighed-joined y base xs ys a = through-append (weigh y base) xs ys a

-- the rows up to a, and then those up to b
rows-joined : (rhs : List Float) (base a b : ℕ) → a ≤ b → each b (nonzero_at rhs base) ≡ each a (nonzero_at rhs base) ++ span rhs base a b
unfolding span
rows-joined rhs base a b h =
    let e : b ≡ a + (b - a) = omega arith in
    ap (λ (k : ℕ). each k (nonzero_at rhs base)) e ∙ each-split (nonzero_at rhs base) a (b - a)

module _ {items columns dim : ℕ} {rhs y : List Float} where
  pub summed_none : (m : List Float) → Summed items columns dim rhs y (passed_rows dim 0 0) m m
  unfolding weighed up_to
  summed_none m =
      record { long = refl; at = λ o k i j. rw (not_reached dim 0 0 k (omega arith) (λ e. refl)) (sym (through-none (weigh y (o * dim)) _)) }

  module _ {c r c' r' segments : ℕ} {starts rows : List ℕ} {values m m₁ m₂ : List Float} where
    pub summed_more : Filling dim columns c r rhs starts rows values segments c' r' → Summed items columns dim rhs y (passed_rows dim c r) m m₁
        → Passed (place c columns 1) (Below items segments) (weighed_at y 0 dim starts rows values) m₁ m₂ → Summed items columns dim rhs y (passed_rows dim c' r') m m₂
    summed_more f a p =
        record {
          long = p.long ∙ a.long;
          at = λ o k i j.
              elim (dec_lt k c) [
                | yes l ↦ rw (f.earlier k l) (untouched o k j (λ t b. omega arith) ∙ a.at o k i j)
                | no l ↦ elim (dec_lt k (c + segments)) [
                  | yes h ↦ touched o k i j (omega arith) h
                  | no h ↦ rw (f.later k (omega arith)) (untouched o k j (λ t b. omega arith) ∙ a.at o k i j)
                ]
              ];
        }
      where
        -- a column that no segment is of
        untouched : (o k : ℕ) → k < columns → ((s : ℕ) → s < segments → k ≡ c + s → ⊥) → get_or m₂ (o * columns + k) nan ≡ get_or m₁ (o * columns + k) nan
        untouched o k j h =
            p.kept (o * columns + k)
            (λ o' s b e.
            let u = unique columns o k o' (c + s) j (omega (arith, f.inside, b.1)) (e ∙ adjoint_place items columns c o' s) in
            h s b.1 u.1)

        -- a column that was gathered on
        touched : (o k : ℕ) → o < items → k < columns → c ≤ k → k < c + segments
            → get_or m₂ (o * columns + k) nan ≡ weighed y (o * dim) (each (passed_rows dim c' r' k) (nonzero_at rhs (k * dim))) (get_or m (o * columns + k) nan)
        touched o k i j l h =
            let e : c + (k - c) ≡ k = omega arith in
            let q : place c columns 1 o (k - c) ≡ o * columns + k = adjoint_place items columns c o (k - c) ∙ ap (λ (z : ℕ). o * columns + z) e in
            let d = p.done o (k - c) (omega arith) in
            let g : item_of starts rows values (k - c) ≡ span rhs (k * dim) (passed_rows dim c r k) (passed_rows dim c' r' k) = rw e at (f.has.holds (k - c) (omega arith)) in
            (rw (q, zero-add, g, a.at o k i j) at d)
            ∙ rw (rows-joined rhs (k * dim) (passed_rows dim c r k) (passed_rows dim c' r' k) (f.onward k))
            (sym (weighed-joined y (o * dim) (each (passed_rows dim c r k) (nonzero_at rhs (k * dim))) (span rhs (k * dim) (passed_rows dim c r k) (passed_rows dim c' r' k)) _))

  pub summed_empty : (m : List Float) → dim ≡ 0 → Summed items columns dim rhs y (λ k. dim) m m
  unfolding weighed up_to
  summed_empty m e = record { long = refl; at = λ o k i j. rw e (sym (through-none (weigh y (o * 0)) _)) }

  -- as far by another count
  pub summed_same : {past past' : ℕ → ℕ} {m m' : List Float} → Summed items columns dim rhs y past m m' → ((k : ℕ) → k < columns → past k ≡ past' k)
      → Summed items columns dim rhs y past' m m'
  summed_same a e = record { long = a.long; at = λ o k i j. rw (← e k j) (a.at o k i j) }

-- all rows of every column, each cell times the sign
pub adjoint_table : (items columns dim : ℕ) (sign : Float) (rhs y : List Float) {m m' : List Float} → m ≡ replicate (items * columns) zero64 → length m ≡ items * columns
    → Summed items columns dim rhs y (λ k. dim) m m'
    → listed (length m') (λ i. mul binary64 sign (get_or m' i nan)) ≡ table items columns (adjoint_at dim sign rhs y)
unfolding adjoint_at nonzeros
adjoint_table items columns dim sign rhs y {m} {m'} z l a =
    scaled-table sign (λ o c. weighed y (o * dim) (each dim (nonzero_at rhs (c * dim))) zero64) items columns m' (a.long ∙ l)
    (λ o c h k.
    let e : get_or m (o * columns + c) nan ≡ zero64 = rw z (get_or-replicate (items * columns) (o * columns + c) zero64 nan (item-inside items columns o c h k)) in
    rw e at (a.at o c h k))
