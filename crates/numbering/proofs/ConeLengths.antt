-- The cones' lengths, each by its index. Assumes nothing.
use Rattle.std.proofs.Common.{ℕ, suc, ◌+◌, ◌-◌, ◌*◌, ◌<◌, ◌≤◌, ◌≡◌, sym, ap, ◌∙◌, arith, ◌++◌, length, get_or, replicate, length-append, get_or-append-add}
use Rattle.std.proofs.lemmas.List.{length-replicate, get_or-replicate, get_or_append_left}
use Rattle.numbering.specs.Layout.{n_eq_of, n_ineq_of}
use Rattle.numbering.specs.Lookups.{cones_of, cone_count}
use Rattle.numbering.specs.declared.SocWrLayout.{SocWrLayout}

module _ (l : SocWrLayout) where
  pub cones-count : length (cones_of l) ≡ cone_count l
  cones-count = simp (length-append, length-replicate) (omega arith)

  pub cone-zero : (i : ℕ) → i < 1 → n_eq_of l ≡ get_or (cones_of l) i 0
  cone-zero i h = let e : 0 ≡ i = omega arith in ap (λ (k : ℕ). get_or (cones_of l) k 0) e

  pub cone_nonnegative : (i : ℕ) → 1 ≤ i → i < 2 → n_ineq_of l ≡ get_or (cones_of l) i 0
  cone_nonnegative i h k = let e : 1 ≡ i = omega arith in ap (λ (k : ℕ). get_or (cones_of l) k 0) e

  second-order : (i j : ℕ) → i ≡ suc (suc j) → get_or (replicate l.m 4 ++ replicate (2 * l.t) 3) j 0 ≡ get_or (cones_of l) i 0
  second-order i j e = ap (λ (k : ℕ). get_or (cones_of l) k 0) (sym e)

  pub cone-four : (i : ℕ) → 2 ≤ i → i - 2 < l.m → 4 ≡ get_or (cones_of l) i 0
  cone-four i h k =
      sym (get_or-replicate l.m (i - 2) 4 0 k)
      ∙ sym (get_or_append_left (replicate l.m 4) (replicate (2 * l.t) 3) 0 (i - 2) (omega (arith, length-replicate {A = ℕ} l.m 4)))
      ∙ second-order i (i - 2) (omega arith)

  pub cone-three : (i : ℕ) → 2 ≤ i → l.m ≤ i - 2 → i < cone_count l → 3 ≡ get_or (cones_of l) i 0
  cone-three i h k b =
      let n = i - 2 - l.m in
      let e : length (replicate {A = ℕ} l.m 4) + n ≡ i - 2 = omega (arith, length-replicate {A = ℕ} l.m 4) in
      sym (get_or-replicate (2 * l.t) n 3 0 (omega arith))
      ∙ sym (get_or-append-add (replicate l.m 4) (replicate (2 * l.t) 3) n 0)
      ∙ ap (λ (j : ℕ). get_or (replicate l.m 4 ++ replicate (2 * l.t) 3) j 0) e
      ∙ second-order i (i - 2) (omega arith)
