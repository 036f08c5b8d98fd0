-- Laws of the buffer: a cell kept, and two gatherings joined. Assumes nothing.
use Rattle.std.proofs.Common.{ℕ, ◌+◌, ◌-◌, ◌≤◌, ◌<◌, ◌≡◌, sym, ap, ap₂, ◌∙◌, List, [], ◌∷◌, ◌++◌, append-nil, append_assoc, arith, length, set}
use Rattle.std.proofs.Common.{length-append, get_or-set_same, get_or-set_other, Float}
use Rattle.std.specs.Float.{nan}
use native.Mathlib.Decide.{ℕ_discrete}
use Rattle.lists.specs.UpTo.{up_to, each}
use Rattle.lists.specs.Entries.{Cell, cell}
use Rattle.lists.proofs.UpTo.{up_to-more, up_to-same}
use Rattle.lists.proofs.Each.{each-split}
use Rattle.lists.proofs.Listed.{listed-length}
use Rattle.weighing.specs.Weighing.{nonzero_at}
use Rattle.weighing.specs.Gathering.{held, span, Added}

-- stored past the first n, they stay
held_kept : (rows : List ℕ) (values : List Float) (n row : ℕ) (v : Float) → held (set rows n row) (set values n v) n ≡ held rows values n
unfolding held
held_kept rows values n row v =
    up_to-same ◌++◌ [] _ _ n
    (λ j l.
    let o : j ≡ n → ⊥ = λ e. omega arith in
    ap₂ (λ (a : ℕ) (b : Float). cell a b ∷ []) (get_or-set_other rows n j row 0 o) (get_or-set_other values n j v nan o))

pub kept : (rows : List ℕ) (values : List Float) (n row : ℕ) (v : Float) → n < length rows → n < length values
    → Added (row + 1) (cell row v ∷ []) rows values n (set rows n row) (set values n v) (n + 1)
unfolding held
kept rows values n row v h k =
    record {
      adds =
          up_to-more ◌++◌ [] _ n
          ∙ ap₂ ◌++◌ (held_kept rows values n row v) (ap₂ (λ (a : ℕ) (b : Float). cell a b ∷ []) (get_or-set_same rows n row 0 h) (get_or-set_same values n v nan k));
      below = λ b l f j i.
          elim (ℕ_discrete j n) [
            | yes e ↦ rw (e, get_or-set_same rows n row 0 h) (omega arith)
            | no o ↦ rw (get_or-set_other rows n j row 0 o) (f j (omega arith))
          ];
    }

pub passed-by : (least : ℕ) (rows : List ℕ) (values : List Float) (n : ℕ) → Added least [] rows values n rows values n
passed-by least rows values n = record { adds = sym (append-nil _); below = λ b l f. f }

pub added-joined : {a b c n n' n'' : ℕ} {xs ys : List Cell} {rows rows' rows'' : List ℕ} {values values' values'' : List Float}
    → Added a xs rows values n rows' values' n' → Added b ys rows' values' n' rows'' values'' n'' → a ≤ c → b ≤ c
    → Added c (xs ++ ys) rows values n rows'' values'' n''
added-joined p q h k =
    record {
      adds = rw (q.adds, p.adds, append_assoc);
      below = λ e l f. q.below e (omega arith) (p.below e (omega arith) f);
    }

-- how many there are then
pub held-length : (rows : List ℕ) (values : List Float) (n : ℕ) → length (held rows values n) ≡ n
unfolding held
held-length rows values n = listed-length _ n

pub added-count : {least n n' : ℕ} {ts : List Cell} {rows rows' : List ℕ} {values values' : List Float}
    → Added least ts rows values n rows' values' n' → n' ≡ n + length ts
added-count {n = n} {n' = n'} {rows = rows} {rows' = rows'} {values = values} {values' = values'} p =
    omega (arith, simp length-append at (ap length p.adds), held-length rows values n, held-length rows' values' n')

-- ---- spans
module _ (rhs : List Float) (base : ℕ) where
  pub span_none : (a : ℕ) → span rhs base a a ≡ []
  unfolding span up_to
  span_none a = let e : a - a ≡ 0 = omega arith in rw e

  pub span-joined : (a b c : ℕ) → a ≤ b → b ≤ c → span rhs base a c ≡ span rhs base a b ++ span rhs base b c
  unfolding span
  span-joined a b c h k =
      let e : c - a ≡ (b - a) + (c - b) = omega arith in
      let f : (j : ℕ) → a + ((b - a) + j) ≡ b + j = λ j. omega arith in
      rw (e, each-split (λ i. nonzero_at rhs base (a + i)) (b - a) (c - b))
      (ap (λ (l : List Cell). each (b - a) (λ i. nonzero_at rhs base (a + i)) ++ l) (up_to-same ◌++◌ [] _ _ (c - b) (λ j l. ap (nonzero_at rhs base) (f j))))

  pub span-one : (a : ℕ) → span rhs base a (a + 1) ≡ nonzero_at rhs base a
  unfolding span up_to
  span-one a =
      let e : a + 1 - a ≡ 1 = omega arith in
      let f : a + 0 ≡ a = omega arith in
      rw e (ap (nonzero_at rhs base) f)
