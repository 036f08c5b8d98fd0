-- Lists that are written from a position on. Assumes nothing.
use Rattle.std.proofs.lemmas.List.{length-replicate}
use Rattle.std.proofs.lemmas.List.Edits.{sets, sets-eq}
use Rattle.std.proofs.Common.{replicate, take, drop, drop-drop, append_assoc, ◌≤◌, ℕ, suc, ◌+◌, ◌≡◌, refl, sym, ap, ◌∙◌, List, [], ◌∷◌, ◌++◌, add-zero, arith, length, set}
use lib.Seq.{length-sets}
use Rattle.lists.proofs.Overlay.{listed-one}
use Rattle.cells.specs.Filled.{Filled}
use Rattle.lists.specs.UpTo.{up_to, each, listed}
use Rattle.lists.proofs.Each.{each_more}
use Rattle.lists.proofs.Listed.{listed-length}

module _ {A : Type 0} where
  pub sets_append : (xs ys l : List A) (at : ℕ) → sets l at (xs ++ ys) ≡ sets (sets l at xs) (at + length xs) ys
  sets_append [] ys l at = rw add-zero
  sets_append (x ∷ xs) ys l at = let e : at + length (x ∷ xs) ≡ suc at + length xs = omega arith in rw e (sets_append xs ys (set l at x) (suc at))

  -- a loop that writes one element a turn
  pub filled_none : (f : ℕ → A) {l : List A} {at : ℕ} → Filled (listed 0 f) l at l
  unfolding up_to
  filled_none f = record { is = refl }

  pub filled_more : (f : ℕ → A) {i : ℕ} {l l₀ : List A} {at : ℕ} {v : A} → Filled (listed i f) l₀ at l → v ≡ f i → Filled (listed (i + 1) f) l₀ at (set l (at + i) v)
  filled_more f {i} {l} {l₀} {at} e q =
      let n : at + length (listed i f) ≡ at + i = ap (λ (k : ℕ). at + k) (listed-length f i) in
      record { is = rw (e.is, q, each_more (λ j. f j ∷ []) i, sets_append (listed i f) (f i ∷ []) l₀ at, n) }

  pub filled-all : (f : ℕ → A) {i n : ℕ} {l l₀ : List A} {at : ℕ} → i ≡ n → Filled (listed i f) l₀ at l → Filled (listed n f) l₀ at l
  filled-all f e h = rw (← e) h

  -- a loop that writes some elements a turn
  pub filled_empty : {l : List A} {at : ℕ} → Filled [] l at l
  filled_empty = record { is = refl }

  pub filled-nothing : (f : ℕ → List A) {l : List A} {at : ℕ} → Filled (each 0 f) l at l
  unfolding up_to
  filled-nothing f = record { is = refl }

  pub filled-whole : (f : ℕ → List A) {i n : ℕ} {l l₀ : List A} {at : ℕ} → i ≡ n → Filled (each i f) l₀ at l → Filled (each n f) l₀ at l
  filled-whole f e h = rw (← e) h

  pub kept-length : {l l₀ xs : List A} {at : ℕ} → Filled xs l₀ at l → length l ≡ length l₀
  kept-length {l₀ = l₀} {xs = xs} {at = at} e = ap length e.is ∙ length-sets l₀ at xs

  -- two writes, one after the other
  pub filled-then : {l l' l₀ xs ys : List A} {at next : ℕ} → Filled xs l₀ at l → next ≡ at + length xs → Filled ys l next l' → Filled (xs ++ ys) l₀ at l'
  filled-then {l₀ = l₀} {xs = xs} {ys = ys} {at = at} e p q = record { is = q.is ∙ rw (e.is, p) (sym (sets_append xs ys l₀ at)) }

  pub filled-turn : (f : ℕ → List A) {i : ℕ} {l l' l₀ : List A} {at next : ℕ} → Filled (each i f) l₀ at l → next ≡ at + length (each i f) → Filled (f i) l next l'
      → Filled (each (i + 1) f) l₀ at l'
  filled-turn f {i} e p q = rw (each_more f i) (filled-then e p q)

  -- one value in a stretch
  pub filled-stretch : (at n : ℕ) (v : A) {l ys : List A} → at + n ≤ length l → ys ≡ replicate n v → Filled (listed n (λ j. v)) l at (take at l ++ (ys ++ drop n (drop at l)))
  filled-stretch at n v {l} h e =
      let k : at + length (replicate n v) ≤ length l = omega (arith, length-replicate n v, h) in
      record { is = rw (e, listed-one n v, sets-eq (replicate n v) l at k, length-replicate n v, drop-drop, append_assoc) }
