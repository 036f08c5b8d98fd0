-- The residual is that of the entries, then that of the diagonal where eps is not zero. Assumes nothing.
use Rattle.std.proofs.Common.{ℕ, ◌≡◌, true, false, List, ◌++◌, append-nil, Float}
use Rattle.std.specs.Float.Ieee.{ne}
use Rattle.lists.specs.Entries.{Entry}
use Rattle.lists.proofs.Steps.{through-append}
use Rattle.sparse.specs.Sparse.{zero64}
use Rattle.residual.specs.Residual.{subtract_entry, subtract_entries, diagonal, regular, residual}

pub joined : (dim columns : ℕ) (x : List Float) (es fs : List Entry) (r : List Float)
    → subtract_entries dim columns x (es ++ fs) r ≡ subtract_entries dim columns x fs (subtract_entries dim columns x es r)
unfolding subtract_entries
joined dim columns x es fs r = through-append (subtract_entry dim columns x) es fs r

module _ (dim columns : ℕ) (x : List Float) (es : List Entry) (eps : Float) (rhs r₁ r₂ : List Float) (p : r₁ ≡ rhs) (q : r₂ ≡ subtract_entries dim columns x es r₁) where
  pub with_diagonal : (r₃ : List Float) → ne eps zero64 ≡ true → r₃ ≡ subtract_entries dim columns x (diagonal dim eps) r₂ → r₃ ≡ residual dim columns es eps rhs x
  unfolding residual regular
  with_diagonal r₃ h s = rw (h, joined dim columns x es (diagonal dim eps) rhs, ← p, ← q) s

  pub without_diagonal : ne eps zero64 ≡ false → r₂ ≡ residual dim columns es eps rhs x
  unfolding residual regular
  without_diagonal h = rw (h, append-nil es, ← p) q
