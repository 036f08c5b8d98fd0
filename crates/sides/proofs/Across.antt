-- Blocks of one length filled side by side: a turn writes one element of each. A block's elements lie behind those of the blocks before it, so a turn's
-- store in one block leaves the later ones as they are. Assumes nothing.
use Rattle.std.proofs.lemmas.List.{set_comm}
use Rattle.std.proofs.lemmas.List.Edits.{sets}
use Rattle.std.proofs.Common.{ℕ, suc, ◌+◌, ◌≤◌, ◌<◌, ◌≡◌, refl, ap, ◌∙◌, List, [], ◌∷◌, map, arith, length, set, Float}
use Rattle.lists.specs.UpTo.{listed}
use Rattle.cells.specs.Filled.{Filled}
use Rattle.cells.proofs.Fills.{filled_none, filled_more, filled-all, kept-length}
use Rattle.cells.specs.Runs.{run, with_runs, RunsOver}

-- what is written before a filled part could have been written first
set_sets : (xs l : List Float) (at p : ℕ) (v : Float) → p < at → set (sets l at xs) p v ≡ sets (set l p v) at xs
set_sets [] l at p v h = refl
set_sets (x ∷ xs) l at p v h =
    set_sets xs (set l at x) (suc at) p v (omega arith) ∙ ap (λ (r : List Float). sets r (suc at) xs) (set_comm l at p x v (λ e. omega arith))

pub filled-under : {xs l l' : List Float} {at : ℕ} (p : ℕ) (v : Float) → p < at → Filled xs l at l' → Filled xs (set l p v) at (set l' p v)
filled-under {xs} {l} {at = at} p v h f = record { is = ap (λ (r : List Float). set r p v) f.is ∙ set_sets xs l at p v h }

-- a block: its first position, and its elements
pub record Lane : Type 0 where
  pub start : ℕ
  pub element : ℕ → Float

abbrev pub lane : ℕ → (ℕ → Float) → Lane
lane p f = record { start = p; element = f }

-- lanes of c elements, each behind the one before it, from a position on
abbrev pub Apart : ℕ → List Lane → ℕ → Type 0
Apart c [] at = Unit
Apart c (a ∷ bs) at = (at ≤ a.start) × Apart c bs (a.start + c)

-- the first i elements of each lane
pub data Across (c i : ℕ) : List Lane → ℕ → List Float → List Float → Type 0 where
  none : {at : ℕ} {l : List Float} → Across c i [] at l l
  more : {a : Lane} {bs : List Lane} {at : ℕ} {l l₁ l₂ : List Float} → at ≤ a.start → Filled (listed i a.element) l a.start l₁
      → Across c i bs (a.start + c) l₁ l₂ → Across c i (a ∷ bs) at l l₂

pub across_none : (c : ℕ) (bs : List Lane) {at : ℕ} {l : List Float} → Apart c bs at → Across c 0 bs at l l
across_none c [] h = none
across_none c (a ∷ bs) h = more h.0 (filled_none a.element) (across_none c bs h.1)

pub across_length : {c i at : ℕ} {bs : List Lane} {l l' : List Float} → Across c i bs at l l' → length l' ≡ length l
across_length none = refl
across_length (more o f r) = across_length r ∙ kept-length f

under : {c i at : ℕ} {bs : List Lane} {l l' : List Float} (p : ℕ) (v : Float) → p < at → Across c i bs at l l' → Across c i bs at (set l p v) (set l' p v)
under p v h none = none
under p v h (more o f r) = more o (filled-under p v (omega arith) f) (under p v (omega arith) r)

-- element i of each lane
abbrev turned : ℕ → List Lane → List Float → List Float
turned i [] l = l
turned i (a ∷ bs) l = turned i bs (set l (a.start + i) (a.element i))

turn : {c i at : ℕ} (bs : List Lane) {l l' : List Float} → i < c → Across c i bs at l l' → Across c (i + 1) bs at l (turned i bs l')
turn [] h none = none
turn {c} {i} {at} (a ∷ bs) h (more o w r) = more o (filled_more a.element w refl) (turn {at = a.start + c} bs h (under (a.start + i) (a.element i) (omega arith) r))

pub across_two : {c i at p q : ℕ} (f g : ℕ → Float) {v w : Float} {l l' : List Float} → Across c i (lane p f ∷ lane q g ∷ []) at l l' → i < c → v ≡ f i → w ≡ g i
    → Across c (i + 1) (lane p f ∷ lane q g ∷ []) at l (set (set l' (p + i) v) (q + i) w)
across_two f g a h x y = rw (x, y) (turn _ h a)

pub across_four : {c i at p q r s : ℕ} (f g j k : ℕ → Float) {v w x y : Float} {l l' : List Float} → Across c i (lane p f ∷ lane q g ∷ lane r j ∷ lane s k ∷ []) at l l' → i < c
    → v ≡ f i → w ≡ g i → x ≡ j i → y ≡ k i
    → Across c (i + 1) (lane p f ∷ lane q g ∷ lane r j ∷ lane s k ∷ []) at l (set (set (set (set l' (p + i) v) (q + i) w) (r + i) x) (s + i) y)
across_four f g j k a h e₁ e₂ e₃ e₄ = rw (e₁, e₂, e₃, e₄) (turn _ h a)

-- all of each lane
pub across_all : {c i at : ℕ} {bs : List Lane} {l l' : List Float} → i ≡ c → Across c i bs at l l' → RunsOver (map (λ a. run a.start (listed c a.element)) bs) l l'
across_all e none = record { is = refl }
across_all {c} e (more {a} {bs} w f r) =
    record { is = (across_all e r).is ∙ ap (with_runs (map (λ a. run a.start (listed c a.element)) bs)) (filled-all a.element e f).is }
