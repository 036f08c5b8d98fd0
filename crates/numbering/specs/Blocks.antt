-- Document 01, `SocWrLayout`: "its number adds up the lengths of the blocks before its own and the count of names before it in its own,
-- by record, then by place." A block is a list of records, and each record has some points, one for each name in it.
use Rattle.std.specs.Prelude.{ℕ, zero, suc, ◌+◌, ◌-◌, ◌*◌, ◌<◌, ◌≡◌, Bool, true, false, List, [], ◌∷◌, length, get_or, ltb}
use Rattle.lists.specs.UpTo.{sum}
use Rattle.numbering.specs.declared.Place.{Place}
use Rattle.numbering.specs.declared.Key.{Key}

-- n records of w points each; or n records of which record i has w times f i points
pub data Block : Type 0 where
  alike : (n w : ℕ) → Block
  unlike : (n w : ℕ) (f : ℕ → ℕ) → Block

abbrev pub records : Block → ℕ
records (alike n w) = n
records (unlike n w f) = n

-- the points of record i, and of all records before it
abbrev pub points : Block → ℕ → ℕ
points (alike n w) i = w
points (unlike n w f) i = w * f i

unfoldable pub start : Block → ℕ → ℕ
start (alike n w) i = w * i
start (unlike n w f) i = w * sum i f

unfoldable pub size : Block → ℕ
size B = start B (records B)

-- block b, and the points of all blocks before it
abbrev pub block_at : List Block → ℕ → Block
block_at bs b = get_or bs b (alike 0 0)

unfoldable pub before : List Block → ℕ → ℕ
before [] b = 0
before (B ∷ bs) zero = 0
before (B ∷ bs) (suc b) = size B + before bs b

unfoldable pub total : List Block → ℕ
total bs = before bs (length bs)

abbrev pub key : ℕ → ℕ → ℕ → Key
key b i q = record { block = b; item = i; place = q }

-- a key stands for a point if its record is one of the block's and its place one of the record's
pub record Valid (bs : List Block) (k : Key) : Type 0 where
  pub item : k.item < records (block_at bs k.block)
  pub place : k.place < points (block_at bs k.block) k.item

-- the points of the blocks before its own, of the records before its own in the block, and its place
unfoldable pub number_of : List Block → Key → ℕ
number_of bs k = before bs k.block + (start (block_at bs k.block) k.item + k.place)

-- a key that stands for point p
pub record KeyStands (bs : List Block) (p : ℕ) (k : Key) : Type 0 where
  pub valid : Valid bs k
  pub number : number_of bs k ≡ p

-- ---- back: of n things that start at start 0, start 1, .., the one that point p is in
abbrev pub placed : ℕ → ℕ → Place
placed i q = record { item = i; at = q }

abbrev pub pick_place : Bool → Place → Place → Place
pick_place true a b = a
pick_place false a b = b

unfoldable pub find : (ℕ → ℕ) → ℕ → ℕ → Place
find s zero p = placed 0 p
find s (suc n) p = pick_place (ltb p (s n)) (find s n p) (placed n (p - s n))

abbrev pub in_block : ℕ → Place → Key
in_block b q = key b q.item q.at

unfoldable pub key_in : List Block → Place → Key
key_in bs q = in_block q.item (find (start (block_at bs q.item)) (records (block_at bs q.item)) q.at)

-- the key of point p
unfoldable pub key_at : List Block → ℕ → Key
key_at bs p = key_in bs (find (before bs) (length bs) p)
