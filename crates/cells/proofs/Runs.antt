-- Runs written over a list. A run that has g's values leaves a place alone or puts g's value there; so where every place below n has g's value or is in
-- some run, the front becomes g's list, in whatever order the runs are written. Assumes nothing.
use Rattle.std.proofs.lemmas.List.Edits.{sets, sets-eq}
use Rattle.std.proofs.Common.{ℕ, suc, ◌+◌, ◌-◌, ◌≤◌, ◌<◌, ◌≡◌, refl, sym, ap, ◌∙◌, ◌⊎◌, inl, inr, ⊎_elim, List, [], ◌∷◌, ◌++◌, arith, length, get_or, take, drop, set, length-append}
use Rattle.std.proofs.Common.{length-take-le, get_or-append-add, get_or-set_other, ext_get_or, Float}
use native.Mathlib.Decide.{dec_lt}
use lib.ListN.{get_or-append}
use lib.Seq.{length-sets}
use Rattle.lists.specs.UpTo.{listed, overlay}
use Rattle.lists.proofs.Listed.{listed-length, listed_at}
use Rattle.lists.proofs.Overlay.{Overlaid, overlay-length, past-written}
use Rattle.cells.specs.Filled.{Filled}
use Rattle.cells.specs.Runs.{Run, run, with_runs, RunsOver}

-- ---- runs one after the other

pub one-run : {xs l l' : List Float} {p : ℕ} → Filled xs l p l' → RunsOver (run p xs ∷ []) l l'
one-run f = record { is = f.is }

runs_append : (rs ss : List Run) (l : List Float) → with_runs (rs ++ ss) l ≡ with_runs ss (with_runs rs l)
runs_append [] ss l = refl
runs_append (r ∷ rs) ss l = runs_append rs ss (sets l r.first r.values)

infixl 40 ◌then_runs◌
pub ◌then_runs◌ : {rs ss : List Run} {l l' l'' : List Float} → RunsOver rs l l' → RunsOver ss l' l'' → RunsOver (rs ++ ss) l l''
◌then_runs◌ {rs} {ss} {l} f g = record { is = g.is ∙ ap (with_runs ss) f.is ∙ sym (runs_append rs ss l) }

with_length : (rs : List Run) (l : List Float) → length (with_runs rs l) ≡ length l
with_length [] l = refl
with_length (r ∷ rs) l = with_length rs (sets l r.first r.values) ∙ length-sets l r.first r.values

pub runs_length : {rs : List Run} {l l' : List Float} → RunsOver rs l l' → length l' ≡ length l
runs_length {rs} {l} f = ap length f.is ∙ with_length rs l

-- ---- a place outside of what is written, and one inside

pub sets_outside : (xs l : List Float) (p i : ℕ) (d : Float) → (i < p) ⊎ (p + length xs ≤ i) → get_or (sets l p xs) i d ≡ get_or l i d
sets_outside [] l p i d h = refl
sets_outside (x ∷ xs) l p i d h =
    sets_outside xs (set l p x) (suc p) i d (⊎_elim (λ a. inl (omega arith)) (λ a. inr (omega arith)) h)
    ∙ get_or-set_other l p i x d (λ e. ⊎_elim (λ a. omega arith) (λ a. omega arith) h)

sets_inside : (xs l : List Float) (p i : ℕ) (d : Float) → p + length xs ≤ length l → i < length xs → get_or (sets l p xs) (p + i) d ≡ get_or xs i d
sets_inside xs l p i d room h =
    let t : length (take p l) ≡ p = length-take-le p l (omega arith) in
    let inside : length (take p l) + i < length (take p l ++ xs) = simp length-append (omega arith) in
    let e : p + i ≡ length (take p l) + i = omega arith in
    rw (sets-eq xs l p room, e) (get_or-append (take p l ++ xs) (drop (p + length xs) l) d (length (take p l) + i) inside ∙ get_or-append-add (take p l) xs i d)

-- r is one of the runs; `search among` finds it in a list, whichever stand beside it
pub data Among (r : Run) : List Run → Type 0 where
  this : {rs : List Run} → Among r (r ∷ rs)
  later : {s : Run} {rs : List Run} → Among r rs → Among r (s ∷ rs)

pub ruleset among = (this, later)

-- place i is in one of the runs
pub record Covered (i : ℕ) (rs : List Run) : Type 0 where
  pub which : Run
  pub there : Among which rs
  pub from : which.first ≤ i
  pub to : i < which.first + length which.values

-- ---- runs of g's values, all below n
module _ (g : ℕ → Float) (n : ℕ) where
  pub data Windows : List Run → Type 0 where
    none : Windows []
    more : {r : Run} {rs : List Run} (c : ℕ) → r.values ≡ listed c (λ j. g (r.first + j)) → r.first + c ≤ n → Windows rs → Windows (r ∷ rs)

  module _ (d : Float) where
    pub window_inside : (l : List Float) (p c i : ℕ) → p + c ≤ length l → p ≤ i → i < p + c → get_or (sets l p (listed c (λ j. g (p + j)))) i d ≡ g i
    window_inside l p c i room a b =
        let e : p + (i - p) ≡ i = omega arith in
        let long = listed-length (λ j. g (p + j)) c in
        let m : i - p < c = omega arith in
        rw e at (sets_inside (listed c (λ j. g (p + j))) l p (i - p) d (omega arith) (omega arith) ∙ listed_at (λ j. g (p + j)) c (i - p) d m)

    -- g's value stays
    step_kept : (l : List Float) (p c i : ℕ) → p + c ≤ length l → get_or l i d ≡ g i → get_or (sets l p (listed c (λ j. g (p + j)))) i d ≡ g i
    step_kept l p c i room h =
        let xs = listed c (λ j. g (p + j)) in
        let long = listed-length (λ j. g (p + j)) c in
        elim (dec_lt i p) [
          | yes a ↦ sets_outside xs l p i d (inl a) ∙ h
          | no a ↦ elim (dec_lt i (p + c)) [
            | yes b ↦ window_inside l p c i room (omega arith) b
            | no b ↦ sets_outside xs l p i d (inr (omega arith)) ∙ h
          ]
        ]

    kept : {rs : List Run} → Windows rs → (l : List Float) (i : ℕ) → n ≤ length l → get_or l i d ≡ g i → get_or (with_runs rs l) i d ≡ g i
    kept none l i room h = h
    kept (more {r} c e b w) l i room h =
        let next : List Float = sets l r.first r.values in
        kept w next i (omega (arith, length-sets l r.first r.values)) (rw e (step_kept l r.first c i (omega arith) h))

    hit : {r : Run} {rs : List Run} → Windows rs → Among r rs → (l : List Float) (i : ℕ) → n ≤ length l → r.first ≤ i → i < r.first + length r.values
        → get_or (with_runs rs l) i d ≡ g i
    hit none t l i room a o = elim t [ ]
    hit (more {r} c e b w) this l i room a o =
        let long = listed-length (λ j. g (r.first + j)) c in
        let m : i < r.first + c = omega (arith, ap length e) in
        kept w (sets l r.first r.values) i (omega (arith, length-sets l r.first r.values)) (rw e (window_inside l r.first c i (omega arith) a m))
    hit (more {r} c e b w) (later t) l i room a o = hit w t (sets l r.first r.values) i (omega (arith, length-sets l r.first r.values)) a o

    past : {rs : List Run} → Windows rs → (l : List Float) (i : ℕ) → n ≤ i → get_or (with_runs rs l) i d ≡ get_or l i d
    past none l i h = refl
    past (more {r} c e b w) l i h =
        past w (sets l r.first r.values) i h
        ∙ sets_outside r.values l r.first i d (inr (omega (arith, ap length e, listed-length (λ j. g (r.first + j)) c)))

    front : (o : List Float) (i : ℕ) → i < n → get_or (overlay (listed n g) o) i d ≡ g i
    unfolding overlay
    front o i a =
        let m : i < length (listed n g) = omega (arith, listed-length g n) in
        get_or-append (listed n g) (drop (length (listed n g)) o) d i m ∙ listed_at g n i d a

    -- the front is g's list, and what is behind is as it was
    pub runs_front : {rs : List Run} (o : List Float) {l l' : List Float} → Windows rs → n ≤ length o → length l ≡ length o
        → ((i : ℕ) → i < n → Covered i rs ⊎ (get_or l i d ≡ g i)) → ((i : ℕ) → n ≤ i → get_or l i d ≡ get_or o i d)
        → RunsOver rs l l' → l' ≡ overlay (listed n g) o
    runs_front {rs} o {l} {l'} w room same here behind f =
        let long = listed-length g n in
        let fits : length (listed n g) ≤ length o = omega arith in
        let over : Overlaid (listed n g) o (overlay (listed n g) o) = record { room = fits; is = refl } in
        ext_get_or d l' (overlay (listed n g) o) (omega (arith, runs_length f, overlay-length (listed n g) o fits))
        (λ i b. rw f.is (elim (dec_lt i n) [
          | yes a ↦ ⊎_elim (λ c. hit w c.there l i (omega arith) c.from c.to) (λ v. kept w l i (omega arith) v) (here i a) ∙ sym (front o i a)
          | no a ↦ past w l i (omega arith) ∙ behind i (omega arith) ∙ sym (past-written over i d (omega arith))
        ]))
