-- Laws of blocks: each point below the total has one block, one record in it and one place there. Assumes nothing.
use Rattle.std.proofs.Common.{ℕ, zero, suc, ◌+◌, ◌-◌, ◌<◌, ◌≤◌, ◌≡◌, refl, ap, ◌∙◌, List, [], ◌∷◌, Bool, true, false, arith, mul-add, mul-one}
use Rattle.std.proofs.Common.{ltb-true, ltb-false, lt-ltb, le-ltb, length, ltb}
use native.Mathlib.Decide.{ℕ_discrete}
use Rattle.lists.specs.UpTo.{up_to, sum}
use Rattle.numbering.specs.Blocks.{Block, alike, unlike, records, points, start, size, block_at, before, total, Valid, number_of, KeyStands, placed}
use Rattle.numbering.specs.Blocks.{pick_place, find, in_block, key_in, key_at}
use Rattle.numbering.specs.declared.Place.{Place}
use Rattle.numbering.specs.declared.Key.{Key}

-- ---- n things that start at s 0 = 0, s 1, ..

-- point p is in thing q .item of n, at q.at
pub record Right (s : ℕ → ℕ) (n p : ℕ) (q : Place) : Type 0 where
  pub below : q.item < n
  pub inside : s q.item + q.at < s (suc q.item)
  pub number : s q.item + q.at ≡ p

step : (s : ℕ → ℕ) (n p : ℕ) → p < s (suc n) → (t : Bool) → ltb p (s n) ≡ t → (p < s n → Right s n p (find s n p))
    → Right s (suc n) p (pick_place t (find s n p) (placed n (p - s n)))
step s n p h true e r =
    let q = r (ltb-true _ _ e) in
    record { below = omega (arith, q.below); inside = q.inside; number = q.number }
step s n p h false e r =
    let l : s n ≤ p = ltb-false _ _ e in
    record { below = omega arith; inside = omega arith; number = omega arith }

pub right : (s : ℕ → ℕ) → s 0 ≡ 0 → (n p : ℕ) → p < s n → Right s n p (find s n p)
unfolding find
right s z zero p h = absurd (omega arith)
right s z (suc n) p h = step s n p h (ltb p (s n)) refl (right s z n p)

rising : (s : ℕ → ℕ) → ((i : ℕ) → s i ≤ s (suc i)) → (i n : ℕ) → i ≤ n → s i ≤ s n
rising s up i zero h = let e : i ≡ 0 = omega arith in rw e (omega arith)
rising s up i (suc n) h = elim (ℕ_discrete i (suc n)) [
  | yes e ↦ rw e (omega arith)
  | no d ↦ omega (arith, rising s up i n (omega arith), up n)
]

-- a point of thing i is found there
pub placed_at : (s : ℕ → ℕ) → ((i : ℕ) → s i ≤ s (suc i)) → (n i q : ℕ) → i < n → s i + q < s (suc i) → find s n (s i + q) ≡ placed i q
unfolding find
placed_at s up zero i q l h = absurd (omega arith)
placed_at s up (suc n) i q l h = elim (ℕ_discrete i n) [
  | yes e ↦
      let d : s i + q - s i ≡ q = omega arith in
      rw (← e, le-ltb (s i + q) (s i) (omega arith), d)
  | no d ↦
      let k = rising s up (suc i) n (omega arith) in
      rw (lt-ltb (s i + q) (s n) (omega arith)) (placed_at s up n i q (omega arith) h)
]

-- ---- a block, and a list of blocks
pub start-next : (B : Block) (i : ℕ) → start B (suc i) ≡ start B i + points B i
unfolding up_to start
start-next (alike n w) i = let e : suc i ≡ i + 1 = omega arith in rw (e, mul-add w i 1, mul-one w)
start-next (unlike n w f) i = mul-add w (sum i f) (f i)

pub start-zero : (B : Block) → start B 0 ≡ 0
unfolding up_to start
start-zero (alike n w) = omega arith
start-zero (unlike n w f) = omega arith

pub before-zero : (bs : List Block) → before bs 0 ≡ 0
unfolding before
before-zero [] = refl
before-zero (B ∷ bs) = refl

pub before-next : (bs : List Block) (b : ℕ) → before bs (suc b) ≡ before bs b + size (block_at bs b)
unfolding before size start
before-next [] b = omega arith
before-next (B ∷ bs) zero = omega (arith, before-zero bs)
before-next (B ∷ bs) (suc b) = omega (arith, before-next bs b)

start_up : (B : Block) (i : ℕ) → start B i ≤ start B (suc i)
start_up B i = omega (arith, start-next B i)

before-up : (bs : List Block) (b : ℕ) → before bs b ≤ before bs (suc b)
before-up bs b = omega (arith, before-next bs b)

pub among : (bs : List Block) (b i : ℕ) → i < records (block_at bs b) → b < length bs
among [] b i h = absurd (omega arith)
among (B ∷ bs) zero i h = omega arith
among (B ∷ bs) (suc b) i h = omega (arith, among bs b i h)

-- ---- the key of a point is valid, and its number is the point
pub key_right : (bs : List Block) (p : ℕ) → p < total bs → KeyStands bs p (key_at bs p)
unfolding total size key_at key_in number_of
key_right bs p h =
    let o = find (before bs) (length bs) p in
    let B = block_at bs o.item in
    let f = right (before bs) (before-zero bs) (length bs) p h in
    let g = right (start B) (start-zero B) (records B) o.at (omega (arith, f.inside, before-next bs o.item)) in
    let i = find (start B) (records B) o.at in
    record {
      valid = record { item = g.below; place = omega (arith, g.inside, start-next B i.item) };
      number = omega (arith, g.number, f.number);
    }

-- ---- a valid key is the key of its number, which is below the total
module _ (bs : List Block) (k : Key) (v : Valid bs k) where
  abbrev B : Block
  B = block_at bs k.block

  inner : start B k.item + k.place < start B (suc k.item)
  inner = omega (arith, start-next B k.item, v.place)

  in_size : start B k.item + k.place < size B
  unfolding size
  in_size = omega (arith, inner, rising (start B) (start_up B) (suc k.item) (records B) v.item)

  outer : before bs k.block + (start B k.item + k.place) < before bs (suc k.block)
  outer = omega (arith, in_size, before-next bs k.block)

  pub key-placed : key_at bs (number_of bs k) ≡ k
  unfolding key_at key_in number_of
  key-placed =
      ap (key_in bs) (placed_at (before bs) (before-up bs) (length bs) k.block _ (among bs k.block k.item v.item) outer)
      ∙ ap (in_block k.block) (placed_at (start B) (start_up B) (records B) k.item k.place v.item inner)

  pub key_below : number_of bs k < total bs
  unfolding number_of total
  key_below = omega (arith, outer, rising (before bs) (before-up bs) (suc k.block) (length bs) (among bs k.block k.item v.item))

-- ---- a key of an earlier block has a smaller number
pub block-rises : (bs : List Block) (j k : Key) → Valid bs j → Valid bs k → j.block < k.block → number_of bs j < number_of bs k
unfolding number_of
block-rises bs j k v w h =
    omega (arith, outer bs j v, rising (before bs) (before-up bs) (suc j.block) k.block (omega arith))
