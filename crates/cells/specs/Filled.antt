-- A list written over another from a position on.
use Rattle.std.specs.Prelude.{ℕ, ◌≡◌, List}
use Rattle.std.proofs.lemmas.List.Edits.{sets}

pub record Filled {A : Type 0} (xs l₀ : List A) (at : ℕ) (l : List A) : Type 0 where
  pub is : l ≡ sets l₀ at xs
