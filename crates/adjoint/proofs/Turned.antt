-- The lists that transposed entries hold. Assumes nothing.
use Rattle.std.proofs.Common.{ℕ, ◌≡◌, refl, sym, ap, ◌∙◌, List, map, length, get_or, Float}
use Rattle.std.specs.Float.{nan}
use Rattle.lists.specs.UpTo.{listed}
use Rattle.lists.specs.Entries.{Entry, entry, row_of, col_of, val_of, turned}
use Rattle.lists.proofs.Listed.{map-listed}
use Rattle.lists.proofs.Overlay.{listed-all}
use Rattle.sparse.specs.Sparse.{entries}
use Rattle.adjoint.specs.Transposes.{transposed}

module _ (rows cols : List ℕ) (values : List Float) where
  exchanged : transposed (entries rows cols values) ≡ listed (length rows) (λ j. entry (get_or cols j 0) (get_or rows j 0) (get_or values j nan))
  unfolding transposed entries
  exchanged = map-listed turned _ (length rows)

  read : {A : Type 0} (g : Entry → A) (xs : List A) (d : A) → length xs ≡ length rows
      → listed (length rows) (λ j. g (entry (get_or cols j 0) (get_or rows j 0) (get_or values j nan))) ≡ listed (length rows) (λ j. get_or xs j d)
      → xs ≡ map g (transposed (entries rows cols values))
  read g xs d l e = sym (ap (map g) exchanged ∙ map-listed g _ (length rows) ∙ e ∙ rw (← l) (listed-all xs d))

  pub turned_rows : length cols ≡ length rows → cols ≡ map row_of (transposed (entries rows cols values))
  turned_rows l = read row_of cols 0 l refl

  pub turned-cols : rows ≡ map col_of (transposed (entries rows cols values))
  turned-cols = read col_of rows 0 refl refl

  pub turned-values : length values ≡ length rows → values ≡ map val_of (transposed (entries rows cols values))
  turned-values l = read val_of values nan l refl
