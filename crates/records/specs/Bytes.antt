-- Document 01: "Numbers are little-endian and unsigned". A byte past the end counts as 0.
use Rattle.std.specs.Prelude.{ℕ, ◌+◌, ◌*◌, List, get_or}

unfoldable pub le16 : List ℕ → ℕ → ℕ
le16 b at = get_or b at 0 + 256 * get_or b (at + 1) 0

unfoldable pub le32 : List ℕ → ℕ → ℕ
le32 b at = le16 b at + 65536 * le16 b (at + 2)

unfoldable pub le64 : List ℕ → ℕ → ℕ
le64 b at = le32 b at + 4294967296 * le32 b (at + 4)
