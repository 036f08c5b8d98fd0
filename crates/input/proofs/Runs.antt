-- Laws of leading runs. Assumes nothing.
use Rattle.std.proofs.Common.{ℕ, zero, suc, ◌+◌, ◌-◌, ◌<◌, ◌≡◌, refl, List, arith, eq-eqb, ne_eqb}
use Rattle.records.specs.Fields.{kind_of}
use Rattle.input.specs.Input.{run_of}

module _ (b : List ℕ) (kind : ℕ) where
  pub run_end : (at : ℕ) → run_of b kind at 0 ≡ 0
  unfolding run_of
  run_end at = refl

  pub run_more : (at rest : ℕ) → 0 < rest → kind_of b at ≡ kind → run_of b kind at rest ≡ 1 + run_of b kind (at + 1) (rest - 1)
  unfolding run_of
  run_more at zero h e = absurd (omega arith)
  run_more at (suc rest) h e =
      let d : suc rest - 1 ≡ rest = omega arith in
      rw (eq-eqb (kind_of b at) kind e, d) (omega arith)

  pub run-stop : (at rest : ℕ) → 0 < rest → (kind_of b at ≡ kind → ⊥) → run_of b kind at rest ≡ 0
  unfolding run_of
  run-stop at zero h e = absurd (omega arith)
  run-stop at (suc rest) h e = rw (ne_eqb (kind_of b at) kind e)

  -- the run from the first on, after `run` records of the kind
  abbrev pub Passed : ℕ → ℕ → ℕ → Type 0
  Passed first count run = run_of b kind first count ≡ run + run_of b kind (first + run) (count - run)

  pub passed-more : (first count run : ℕ) → run < count → Passed first count run → kind_of b (first + run) ≡ kind → Passed first count (run + 1)
  passed-more first count run h p e =
      let d : first + (run + 1) ≡ first + run + 1 = omega arith in
      let f : count - (run + 1) ≡ count - run - 1 = omega arith in
      rw (d, f) (omega (arith, p, run_more (first + run) (count - run) (omega arith) e))

  pub passed-all : (first count run : ℕ) → run ≡ count → Passed first count run → run ≡ run_of b kind first count
  passed-all first count run e p =
      let d : count - run ≡ 0 = omega arith in
      let q : run_of b kind first count ≡ run + run_of b kind (first + run) 0 = rw d at p in
      omega (arith, q, run_end (first + run))

  pub passed-stop : (first count run : ℕ) → run < count → Passed first count run → (kind_of b (first + run) ≡ kind → ⊥) → run ≡ run_of b kind first count
  passed-stop first count run h p e = omega (arith, p, run-stop (first + run) (count - run) (omega arith) e)
