-- Laws of a pass: one cell, two passes joined. Assumes nothing.
use Rattle.std.proofs.Common.{ℕ, ◌<◌, ◌≡◌, refl, sym, ap, ◌∙◌, ◌⊎◌, inl, inr, ⊎_elim, List, length, get_or, set, length-set, get_or-set_same, get_or-set_other, Float}
use Rattle.std.specs.Float.{nan}
use Rattle.weighing.specs.Passes.{Passed}

module _ {pos : ℕ → ℕ → ℕ} {f : ℕ → ℕ → Float → Float} where
  -- one cell
  pub passed-one : {m : List Float} (d s : ℕ) (v : Float) → pos d s < length m → v ≡ f d s (get_or m (pos d s) nan)
      → Passed pos (λ d' s'. (d' ≡ d) × (s' ≡ s)) f m (set m (pos d s) v)
  passed-one {m} d s v h e =
      record {
        long = length-set m (pos d s) v;
        done = λ d' s' p. rw (p.0, p.1) (get_or-set_same m (pos d s) v nan h ∙ e);
        kept = λ i k. get_or-set_other m (pos d s) i v nan (k d s (refl, refl));
      }

  -- two passes over cells apart
  pub passed-joined : {P Q : ℕ → ℕ → Type 0} {m m' m'' : List Float} → Passed pos P f m m' → Passed pos Q f m' m''
      → ((d s d' s' : ℕ) → P d s → Q d' s' → pos d s ≡ pos d' s' → ⊥) → Passed pos (λ d s. P d s ⊎ Q d s) f m m''
  passed-joined a b h =
      record {
        long = b.long ∙ a.long;
        done = λ d s p.
            ⊎_elim
            (λ q. b.kept (pos d s) (λ d' s' r e. h d s d' s' q r e) ∙ a.done d s q)
            (λ q. b.done d s q ∙ ap (f d s) (a.kept (pos d s) (λ d' s' r e. h d' s' d s r q (sym e))))
            p;
        kept = λ i k. b.kept i (λ d s q e. k d s (inr q) e) ∙ a.kept i (λ d s q e. k d s (inl q) e);
      }

  -- the same cells, otherwise said
  pub passed-same : {P Q : ℕ → ℕ → Type 0} {m m' : List Float} → Passed pos P f m m' → ((d s : ℕ) → Q d s → P d s) → ((d s : ℕ) → P d s → Q d s) → Passed pos Q f m m'
  passed-same a h k = record { long = a.long; done = λ d s q. a.done d s (h d s q); kept = λ i l. a.kept i (λ d s p e. l d s (k d s p) e) }
