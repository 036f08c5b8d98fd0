-- A list that is written over the front of another, one element after the other. Assumes nothing.
use Rattle.std.proofs.Common.{ℕ, suc, ◌+◌, ◌-◌, ◌≤◌, ◌<◌, ◌≡◌, refl, sym, ap, ◌∙◌, List, [], ◌∷◌, ◌++◌, append-nil, append_assoc, add-one, arith}
use Rattle.std.proofs.Common.{length, drop, set, get_or, replicate, length-append, length-drop, drop_of_length-le, drop-cons, get_or-append-add}
use Rattle.std.proofs.Common.{get_or-drop, ext_get_or}
use Rattle.std.proofs.lemmas.List.{length-replicate, get_or-replicate}
use lib.Seq.{set-append_seam}
use Rattle.lists.specs.UpTo.{up_to, listed, overlay}
use Rattle.lists.proofs.UpTo.{up_to-more}
use Rattle.lists.proofs.Listed.{listed-length, listed_at}

-- d is d₀ with xs written over its front, where there is room
pub record Overlaid {A : Type 0} (xs d₀ d : List A) : Type 0 where
  pub room : length xs ≤ length d₀
  pub is : d ≡ overlay xs d₀

module _ {A : Type 0} where
  pub overlay-length : (xs ys : List A) → length xs ≤ length ys → length (overlay xs ys) ≡ length ys
  unfolding overlay
  overlay-length xs ys h = simp (length-append, length-drop) (omega arith)

  pub overlay-whole : (xs ys : List A) → length xs ≡ length ys → overlay xs ys ≡ xs
  unfolding overlay
  overlay-whole xs ys h =
      let l : length ys ≤ length xs = omega arith in
      rw (drop_of_length-le ys l, append-nil)

  overlay-next : (xs ys : List A) (v : A) → length xs < length ys → set (overlay xs ys) (length xs) v ≡ overlay (xs ++ v ∷ []) ys
  unfolding overlay
  overlay-next xs ys v h =
      ap (λ (t : List A). set (xs ++ t) (length xs) v) (drop-cons ys (length xs) v h)
      ∙ set-append_seam xs (get_or ys (length xs) v) (drop (suc (length xs)) ys) v
      ∙ rw (length-append, add-one, append_assoc)

  module _ {xs d₀ d : List A} (o : Overlaid xs d₀ d) where
    pub long : length d ≡ length d₀
    long = rw o.is (overlay-length xs d₀ o.room)

    -- past what is written the list is as it was
    pub past-written : (i : ℕ) (z : A) → length xs ≤ i → get_or d i z ≡ get_or d₀ i z
    unfolding overlay
    past-written i z h =
        let e : i ≡ length xs + (i - length xs) = omega arith in
        rw (o.is, e) (get_or-append-add xs (drop (length xs) d₀) (i - length xs) z ∙ get_or-drop (length xs) d₀ (i - length xs) z)

    -- one element more
    pub one_more : (at : ℕ) (v : A) → at ≡ length xs → at < length d₀ → Overlaid (xs ++ v ∷ []) d₀ (set d at v)
    one_more at v e h =
        let l : length xs < length d₀ = omega arith in
        record { room = simp length-append (omega arith); is = rw (o.is, e) (overlay-next xs d₀ v l) }

-- the list f 0, f 1, .. written so
module _ {A : Type 0} (f : ℕ → A) {d₀ : List A} where
  pub front-none : Overlaid (listed 0 f) d₀ d₀
  unfolding up_to overlay
  front-none = record { room = omega arith; is = refl }

  pub front-more : {d : List A} {i : ℕ} → Overlaid (listed i f) d₀ d → (v : A) → v ≡ f i → i < length d₀ → Overlaid (listed (i + 1) f) d₀ (set d i v)
  front-more {d} {i} o v e h =
      rw (up_to-more ◌++◌ [] (λ j. f j ∷ []) i, ← e) (one_more o i v (sym (listed-length f i)) h)

-- copied from a list, and all one value
pub listed-all : {A : Type 0} (xs : List A) (d : A) → listed (length xs) (λ j. get_or xs j d) ≡ xs
listed-all xs d = ext_get_or d _ xs (listed-length _ _) (λ i l. listed_at (λ j. get_or xs j d) (length xs) i d (omega (arith, listed-length (λ j. get_or xs j d) (length xs))))

pub listed-one : {A : Type 0} (n : ℕ) (v : A) → listed n (λ j. v) ≡ replicate n v
listed-one n v =
    ext_get_or v _ _ (listed-length (λ j. v) n ∙ sym (length-replicate n v))
    (λ i l. let m : i < n = omega (arith, listed-length (λ j. v) n) in listed_at (λ j. v) n i v m ∙ sym (get_or-replicate n i v v m))
