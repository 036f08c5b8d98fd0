-- Laws of `Puts`. Assumes nothing.
use Rattle.std.proofs.Common.{ℕ, ◌+◌, ◌<◌, ◌≡◌, refl, ◌∙◌, List, [], ◌++◌, length, arith}
use Rattle.lists.specs.UpTo.{up_to, each}
use Rattle.lists.specs.Entries.{Entry}
use Rattle.lists.proofs.Each.{each_more, each_next}
use Rattle.lists.proofs.Written as written
use Rattle.lists.specs.declared.Triplets.{Triplets}
use Rattle.lists.specs.Puts.{Puts}

pub none : {t : Triplets} → Puts [] t t
none = record { rows = refl; cols = refl; vals = refl; wrote = written.wrote_none }

pub then : {xs ys : List Entry} {t t' t'' : Triplets} → Puts xs t t' → Puts ys t' t'' → Puts (xs ++ ys) t t''
then p q = record { rows = q.rows ∙ p.rows; cols = q.cols ∙ p.cols; vals = q.vals ∙ p.vals; wrote = written.then p.wrote q.wrote }

pub pos : {es : List Entry} {t t' : Triplets} → Puts es t t' → t'.at ≡ t.at + length es
pos p = written.pos p.wrote

pub no-turn : (f : ℕ → List Entry) {t : Triplets} → Puts (each 0 f) t t
unfolding up_to
no-turn f = none

pub turn : (f : ℕ → List Entry) (j : ℕ) {t t' t'' : Triplets} → Puts (each j f) t t' → Puts (f j) t' t'' → Puts (each (j + 1) f) t t''
turn f j p q = rw (each_more f j) (then p q)

-- the next turn has room, where the whole has
pub room : {t t' : Triplets} {b : ℕ} (f : ℕ → List Entry) (j n : ℕ) → Puts (each j f) t t' → j < n → t.at + length (each n f) < b → t'.at + length (f j) < b
room f j n p d h = omega (arith, pos p, each_next f j n d)

-- ---- rows and columns in each other's place
