-- Tests joined by `&&`, and tests as numbers. Assumes nothing.
use Rattle.std.proofs.Common.{ℕ, ◌<◌, ◌≡◌, refl, Bool, true, false, ◌&&◌}
use mir.Val.{bool_byte}
use Rattle.lists.specs.UpTo.{all, bit}
use Rattle.lists.proofs.UpTo.{up_to-each}

-- what `usize::from` makes of a test
pub as_bit : (b : Bool) → bool_byte b ≡ bit b
as_bit true = refl
as_bit false = refl

pub both : (a b : Bool) → a && b ≡ true → (a ≡ true) × (b ≡ true)
both true b h = (refl, h)
both false true h = (h, refl)
both false false h = (h, h)

module _ (f : ℕ → Bool) where
  -- all of them passed
  pub all-at : (n : ℕ) → all n f ≡ true → (i : ℕ) → i < n → f i ≡ true
  all-at n h i l = up_to-each ◌&&◌ true f both n h i l
