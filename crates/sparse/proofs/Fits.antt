-- What lists that fit say. Assumes nothing.
use Rattle.std.proofs.Common.{ℕ, zero, suc, ◌+◌, ◌*◌, ◌-◌, ◌≤◌, ◌<◌, ◌≡◌, true, ◌&&◌, List, mul-le-mul, arith, leb-true, ltb-true, eqb-true, leb, ltb, eqb, length, get_or, Float}
use Rattle.lists.proofs.Tests.{both, all-at}
use Rattle.sparse.specs.Sparse.{items_of, start_of, Segments}
use Rattle.sparse.specs.Checks.{most_dim, bounded, all_below, entries_fit, starts_fit, selector_fits}

pub record Bounded (dim columns : ℕ) : Type 0 where
  pub few : columns ≤ 65536
  pub small : dim ≤ most_dim

pub bounds : (dim columns : ℕ) → bounded dim columns ≡ true → Bounded dim columns
unfolding bounded
bounds dim columns h =
    let t = both (leb columns 65536) _ h in
    record { few = leb-true _ _ t.0; small = leb-true _ _ t.1 }

-- the matrix has few elements
pub size : {dim columns : ℕ} → Bounded dim columns → dim * columns ≤ 19327352832
size b = mul-le-mul b.small b.few

pub below_at : (dim : ℕ) (xs : List ℕ) → all_below dim xs ≡ true → (j : ℕ) → j < length xs → get_or xs j 0 < dim
unfolding all_below
below_at dim xs h j l = ltb-true _ _ (all-at (λ k. ltb (get_or xs k 0) dim) (length xs) h j l)

pub record Entered (dim : ℕ) (rows cols : List ℕ) (values : List Float) : Type 0 where
  pub same-cols : length cols ≡ length rows
  pub same-values : length values ≡ length rows
  pub rows-below : (j : ℕ) → j < length rows → get_or rows j 0 < dim
  pub cols-below : (j : ℕ) → j < length rows → get_or cols j 0 < dim

pub entered : (dim : ℕ) (rows cols : List ℕ) (values : List Float) → entries_fit dim rows cols values ≡ true → Entered dim rows cols values
unfolding entries_fit
entered dim rows cols values h =
    let a = both (eqb (length cols) (length rows) && eqb (length values) (length rows) && all_below dim rows) _ h in
    let b = both (eqb (length cols) (length rows) && eqb (length values) (length rows)) _ a.0 in
    let d = both (eqb (length cols) (length rows)) _ b.0 in
    let e : length cols ≡ length rows = eqb-true _ _ d.0 in
    record {
      same-cols = e;
      same-values = eqb-true _ _ d.1;
      rows-below = below_at dim rows b.1;
      cols-below = λ j l. below_at dim cols a.1 j (omega arith);
    }

rises-to : (f : ℕ → ℕ) (n : ℕ) → ((o : ℕ) → o < n → f o ≤ f (o + 1)) → (o k : ℕ) → o + k ≡ n → f o ≤ f n
rises-to f n h o zero e = let p : o ≡ n = omega arith in rw p (omega arith)
rises-to f n h o (suc k) e = omega (arith, h o (omega arith), rises-to f n h (o + 1) k (omega arith))

pub record Selected (dim : ℕ) (starts rows : List ℕ) (weights : List Float) : Type 0 where
  pub bounds : Bounded dim (items_of starts)
  pub some : 0 < length starts
  pub rises : (o : ℕ) → o < items_of starts → start_of starts o ≤ start_of starts (o + 1)
  pub within : (o : ℕ) → o ≤ items_of starts → start_of starts o ≤ length rows
  pub same : length weights ≡ length rows
  pub below : (j : ℕ) → j < length rows → get_or rows j 0 < dim

pub selected : (dim : ℕ) (starts rows : List ℕ) (weights : List Float) → selector_fits dim starts rows weights ≡ true → Selected dim starts rows weights
unfolding selector_fits starts_fit
selected dim starts rows weights h =
    let a = both (bounded dim (items_of starts) && starts_fit starts (length rows) && eqb (length weights) (length rows)) _ h in
    let b = both (bounded dim (items_of starts) && starts_fit starts (length rows)) _ a.0 in
    let d = both (bounded dim (items_of starts)) (starts_fit starts (length rows)) b.0 in
    let e = both (ltb 0 (length starts) && eqb (start_of starts 0) 0 && eqb (start_of starts (items_of starts)) (length rows)) _ d.1 in
    let f = both (ltb 0 (length starts) && eqb (start_of starts 0) 0) (eqb (start_of starts (items_of starts)) (length rows)) e.0 in
    let up : (o : ℕ) → o < items_of starts → start_of starts o ≤ start_of starts (o + 1) =
    λ o l. leb-true _ _ (all-at (λ k. leb (start_of starts k) (start_of starts (k + 1))) (items_of starts) e.1 o l) in
    let last : start_of starts (items_of starts) ≡ length rows = eqb-true _ _ f.1 in
    record {
      bounds = bounds _ _ d.0;
      some = ltb-true _ _ (both (ltb 0 (length starts)) _ f.0).0;
      rises = up;
      within = λ o l. rw (← last) (rises-to (start_of starts) (items_of starts) up o (items_of starts - o) (omega arith));
      same = eqb-true _ _ b.1;
      below = below_at dim rows a.1;
    }

-- the items of a selector that fits
pub segments_of : {dim : ℕ} {starts rows : List ℕ} {weights : List Float} → Selected dim starts rows weights → Segments dim starts rows weights (items_of starts)
segments_of f =
    record {
      few = omega (arith, f.some);
      rises = f.rises;
      rows-within = λ s l. f.within (s + 1) (omega arith);
      weights_within = λ s l. omega (arith, f.within (s + 1) (omega arith), f.same);
      below = λ s l j k. f.below j (omega (arith, f.within (s + 1) (omega arith)));
    }
