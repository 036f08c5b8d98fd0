-- The networks of the lettered examples, as records of 128 bytes.
use Rattle.std.specs.Prelude.{ℕ, zero, suc, ◌+◌, ◌*◌, ◌%◌, List, [], ◌∷◌, ◌++◌, eqb, replicate, set}
use Rattle.lists.specs.UpTo.{bit, listed}

-- bytes stored from a position on
abbrev pub bytes_at : ℕ → List ℕ → List ℕ → List ℕ
bytes_at at [] l = l
bytes_at at (x ∷ xs) l = bytes_at (suc at) xs (set l at x)

-- float j of a record: bytes 16 to 127 are fourteen floats
abbrev pub float_at : ℕ → ℕ → List ℕ → List ℕ → List ℕ
float_at r j xs l = bytes_at (128 * r + 16 + 8 * j) xs l

-- 0.5, 1.0, 1.5, 2.0, and π with its sign bit, as little-endian bytes
abbrev pub f05 : List ℕ
f05 = 0 ∷ 0 ∷ 0 ∷ 0 ∷ 0 ∷ 0 ∷ 0xe0 ∷ 0x3f ∷ []

abbrev pub f1 : List ℕ
f1 = 0 ∷ 0 ∷ 0 ∷ 0 ∷ 0 ∷ 0 ∷ 0xf0 ∷ 0x3f ∷ []

abbrev pub f15 : List ℕ
f15 = 0 ∷ 0 ∷ 0 ∷ 0 ∷ 0 ∷ 0 ∷ 0xf8 ∷ 0x3f ∷ []

abbrev pub f2 : List ℕ
f2 = 0 ∷ 0 ∷ 0 ∷ 0 ∷ 0 ∷ 0 ∷ 0 ∷ 0x40 ∷ []

abbrev pub fπ : ℕ → List ℕ
fπ sign = 0x18 ∷ 0x2d ∷ 0x44 ∷ 0x54 ∷ 0xfb ∷ 0x21 ∷ 0x09 ∷ (sign + 0x40) ∷ []

-- "Network Q: n 2, m 1 (from 0 to 1, thermal active), k 1, S 0": kinds 1, 1, 2, 3; the branch's flags and its second bus
unfoldable pub q : List ℕ
q = bytes_at 0 (1 ∷ []) (bytes_at 128 (1 ∷ []) (bytes_at 256 (2 ∷ 1 ∷ []) (bytes_at 268 (1 ∷ []) (bytes_at 384 (3 ∷ []) (replicate 512 0)))))

-- B: "Q without limit"
abbrev pub unlimited : List ℕ
unlimited = bytes_at 257 (0 ∷ []) q

-- D, E: "n 1, k 2, second piecewise with 3 segments", or 0
unfoldable pub curve : ℕ → List ℕ
curve s = bytes_at 0 (1 ∷ []) (bytes_at 128 (3 ∷ []) (bytes_at 256 (3 ∷ 2 ∷ s ∷ []) (replicate 384 0 ++ segment s)))
  where
    segment : ℕ → List ℕ
    segment zero = []
    segment (suc n) = 4 ∷ (replicate 127 0 ++ segment n)

-- G: "vm_max 1.5, vm_min 0.5, active", of one bus: floats 4 and 5 are vm_min and vm_max
abbrev pub bounded_bus : List ℕ
bounded_bus = bytes_at 0 (1 ∷ 1 ∷ []) (float_at 0 4 f05 (float_at 0 5 f15 (replicate 128 0)))

-- H: "angmin -π, angmax π, flag set": Q with flag bit 1, floats 9 and 10
abbrev pub wide : List ℕ
wide = bytes_at 257 (3 ∷ []) (float_at 2 9 (fπ 0x80) (float_at 2 10 (fπ 0) q))

-- K: "Tap 2, cosine 1, sine 0": Q with floats 6 and 7
abbrev pub tapped : List ℕ
tapped = float_at 2 6 f2 (float_at 2 7 f1 q)

-- I: "n 4,096 with matching bytes": n bus records, each its kind and then zeros
abbrev pub bus_byte : ℕ → ℕ
bus_byte i = bit (eqb (i % 128) 0)

unfoldable pub buses : ℕ → List ℕ
buses n = listed (128 * n) bus_byte
