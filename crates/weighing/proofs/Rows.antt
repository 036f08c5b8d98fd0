-- A pass goes on by one segment, of one dense column or of two, and by more dense columns. Assumes nothing.
use Rattle.std.proofs.Common.{ℕ, ◌+◌, ◌*◌, ◌-◌, ◌≤◌, ◌<◌, ◌≡◌, sym, ap, ◌∙◌, inl, inr, ⊎_elim, List, zero-mul, one-mul, add-mul, arith, length, get_or, set, get_or-set_other, Float}
use Rattle.std.specs.Float.{nan}
use native.Mathlib.Decide.{ℕ_discrete, dec_lt}
use Rattle.sparse.specs.Sparse.{item_of}
use Rattle.weighing.specs.Weighing.{weighed}
use Rattle.weighing.specs.Passes.{place, Below, Spread, Passed, weighed_at}
use Rattle.weighing.proofs.Cells.{passed-one, passed-joined, passed-same}

pub place-first : (at dense across s : ℕ) → at + s * across ≡ place at dense across 0 s
place-first at dense across s = omega (arith, zero-mul dense)

place-second : (at dense across s : ℕ) → at + s * across + dense ≡ place at dense across 1 s
place-second at dense across s = omega (arith, one-mul dense)

module _ {at dense across count segments n : ℕ} (w : Spread at dense across count segments n) where
  pub first-inside : (s : ℕ) → 0 < count → s < segments → at + s * across < n
  first-inside s h l = rw (place-first at dense across s) (w.inside 0 s (h, l))

  pub second-inside : (s : ℕ) → 1 < count → s < segments → at + s * across + dense < n
  second-inside s h l = rw (place-second at dense across s) (w.inside 1 s (h, l))

  -- a cell that is not among those of earlier segments
  fresh : (d s d' s' : ℕ) → Below count segments d' s' → d < count → s < s' → place at dense across d s ≡ place at dense across d' s' → ⊥
  fresh d s d' s' h k l e = let q = w.apart d s d' s' (omega arith) h e in omega arith

module _ {at dense across segments : ℕ} {f : ℕ → ℕ → Float → Float} {m m' : List Float} {s : ℕ} where
  -- a segment of one dense column
  pub one-row : Spread at dense across 1 segments (length m) → Passed (place at dense across) (Below 1 s) f m m' → s < segments
      → (p : ℕ) (v : Float) → p ≡ at + s * across → v ≡ f 0 s (get_or m' p nan) → Passed (place at dense across) (Below 1 (s + 1)) f m (set m' p v)
  one-row w a l p v e g =
      let o : p ≡ place at dense across 0 s = e ∙ place-first at dense across s in
      let i : place at dense across 0 s < length m' = omega (arith, w.inside 0 s (omega arith), a.long) in
      rw o
      (passed-same
      (passed-joined a (passed-one 0 s v i (rw o at g)) (λ d t d' t' b q r. fresh w d t d' t' (omega arith) b.0 (omega arith) r))
      (λ d t b. elim (ℕ_discrete t s) [ yes q ↦ inr (omega arith) | no q ↦ inl (omega arith) ])
      (λ d t b. ⊎_elim (λ q. omega arith) (λ q. omega arith) b))

  -- a segment of two dense columns
  pub two-rows : Spread at dense across 2 segments (length m) → Passed (place at dense across) (Below 2 s) f m m' → s < segments
      → (p q : ℕ) (v u : Float) → p ≡ at + s * across → q ≡ p + dense → v ≡ f 0 s (get_or m' p nan) → u ≡ f 1 s (get_or m' q nan)
      → Passed (place at dense across) (Below 2 (s + 1)) f m (set (set m' p v) q u)
  two-rows w a l p q v u e e' g g' =
      let o : p ≡ place at dense across 0 s = e ∙ place-first at dense across s in
      let o' : q ≡ place at dense across 1 s = e' ∙ ap (λ (k : ℕ). k + dense) e ∙ place-second at dense across s in
      let other : place at dense across 1 s ≡ place at dense across 0 s → ⊥ = λ r. let z = w.apart 1 s 0 s (omega arith) (omega arith) r in omega arith in
      let i : place at dense across 0 s < length m' = omega (arith, w.inside 0 s (omega arith), a.long) in
      let first = passed-joined a (passed-one 0 s v i (rw o at g)) (λ d t d' t' b k r. fresh w d t d' t' (omega arith) b.0 (omega arith) r) in
      let i' : place at dense across 1 s < length (set m' (place at dense across 0 s) v) = omega (arith, w.inside 1 s (omega arith), first.long) in
      let g'' : u ≡ f 1 s (get_or (set m' (place at dense across 0 s) v) (place at dense across 1 s) nan) =
      (rw o' at g') ∙ ap (f 1 s) (sym (get_or-set_other m' (place at dense across 0 s) (place at dense across 1 s) v nan other)) in
      rw (o', o)
      (passed-same
      (passed-joined first (passed-one 1 s u i' g'')
      (λ d t d' t' b k r.
      ⊎_elim
      (λ h. fresh w d t d' t' (omega arith) h.0 (omega arith) r)
      (λ h. other (sym (rw (h.0, h.1, k.0, k.1) at r))) b))
      (λ d t (b : Below 2 (s + 1) d t).
      elim (ℕ_discrete t s) [
        | yes q ↦ elim (ℕ_discrete d 0) [ yes z ↦ inl (inr (z, q)) | no z ↦ inr (omega arith) ]
        | no q ↦ inl (inl (omega arith))
      ])
      (λ d t b. ⊎_elim (λ h. ⊎_elim (λ k. omega arith) (λ k. omega arith) h) (λ h. omega arith) b))

-- the dense columns from k on, counted from there and counted from the first
place-moved : (at dense across k d s : ℕ) → place (at + k * dense) dense across d s ≡ place at dense across (k + d) s
place-moved at dense across k d s = omega (arith, add-mul k d dense)

module _ (at dense across k : ℕ) {segments j : ℕ} {f g : ℕ → ℕ → Float → Float} {m' m'' : List Float} where
  moved : ((d s : ℕ) (v : Float) → g d s v ≡ f (k + d) s v) → Passed (place (at + k * dense) dense across) (Below j segments) g m' m''
      → Passed (place at dense across) (λ d s. (k ≤ d) × (d < k + j) × (s < segments)) f m' m''
  moved e b =
      record {
        long = b.long;
        done = λ d s p.
            let i : k + (d - k) ≡ d = omega arith in
            let o : place (at + k * dense) dense across (d - k) s ≡ place at dense across d s = place-moved at dense across k (d - k) s ∙ ap (λ (x : ℕ). place at dense across x s) i in
            rw (← o) (b.done (d - k) s (omega arith) ∙ e (d - k) s _ ∙ ap (λ (x : ℕ). f x s (get_or m' (place (at + k * dense) dense across (d - k) s) nan)) i);
        kept = λ i h. b.kept i (λ d s q r. h (k + d) s (omega arith) (r ∙ place-moved at dense across k d s));
      }

  -- more dense columns
  pub more-columns : {m : List Float} {n : ℕ} → Spread at dense across (k + j) segments n → ((d s : ℕ) (v : Float) → g d s v ≡ f (k + d) s v)
      → Passed (place at dense across) (Below k segments) f m m' → Passed (place (at + k * dense) dense across) (Below j segments) g m' m''
      → Passed (place at dense across) (Below (k + j) segments) f m m''
  more-columns w e a b =
      passed-same
      (passed-joined a (moved e b) (λ d s d' s' p q r. let z = w.apart d s d' s' (omega arith) (omega arith) r in omega arith))
      (λ d s p. elim (dec_lt d k) [ yes l ↦ inl (omega arith) | no l ↦ inr (omega arith) ])
      (λ d s p. ⊎_elim (λ q. omega arith) (λ q. omega arith) p)

-- where the first and the second dense column begin
pub first_base : (base dim : ℕ) → base + 0 * dim ≡ base
first_base base dim = omega (arith, zero-mul dim)

pub second_base : (base dim : ℕ) → base + 1 * dim ≡ base + dim
second_base base dim = omega (arith, one-mul dim)

-- ---- fewer dense columns, and those from k on
module _ {at dense across count segments n : ℕ} (w : Spread at dense across count segments n) where
  pub spread_fewer : (k : ℕ) → k ≤ count → Spread at dense across k segments n
  spread_fewer k h = record { inside = λ d s b. w.inside d s (omega arith); apart = λ d s d' s' b b' e. w.apart d s d' s' (omega arith) (omega arith) e }

  pub spread-from : (k j : ℕ) → k + j ≤ count → Spread (at + k * dense) dense across j segments n
  spread-from k j h =
      record {
        inside = λ d s b. rw (place-moved at dense across k d s) (w.inside (k + d) s (omega arith));
        apart = λ d s d' s' b b' e.
            let q = w.apart (k + d) s (k + d') s' (omega arith) (omega arith) (sym (place-moved at dense across k d s) ∙ e ∙ place-moved at dense across k d' s') in
            (omega arith, q.1);
      }

-- one dense column has no next
alone : (at dense across d s : ℕ) → d < 1 → place at 0 across d s ≡ place at dense across d s
alone at dense across d s h =
    let e : d ≡ 0 = omega arith in
    rw e (sym (place-first at 0 across s) ∙ place-first at dense across s)

pub passed-alone : (at dense across segments : ℕ) {f : ℕ → ℕ → Float → Float} {m m' : List Float}
    → Passed (place at 0 across) (Below 1 segments) f m m' → Passed (place at dense across) (Below 1 segments) f m m'
passed-alone at dense across segments a =
    record {
      long = a.long;
      done = λ d s b. rw (← alone at dense across d s b.0) (a.done d s b);
      kept = λ i h. a.kept i (λ d s b e. h d s b (e ∙ alone at dense across d s b.0));
    }

-- the dense columns from k on begin k * dim further
pub weighed-from : (x : List Float) (base dim k : ℕ) (starts rows : List ℕ) (weights : List Float) → base ≡ k * dim → (d s : ℕ) (v : Float)
    → weighed_at x base dim starts rows weights d s v ≡ weighed_at x 0 dim starts rows weights (k + d) s v
weighed-from x base dim k starts rows weights e d s v =
    ap (λ (b : ℕ). weighed x b (item_of starts rows weights s) v) (omega (arith, e, add-mul k d dim))
