-- The MATPOWER User's Manual, section 'Network Equations': Ybus = C_f' Y_f + C_t' Y_t + [Y_sh], I_bus = Ybus V, S_bus = [V] conj(I_bus), and the
-- power balance S_bus(V) + S_d - C_g S_g = 0, row by row. Connection matrices hold ones and zeros (section 'Data Formats').
use Rattle.std.specs.Prelude.{ℕ, zero, suc, cond, eqb}
use Rattle.ring.specs.Ops.{Ops}
use Rattle.records.specs.AcNetwork.{AcNetwork}
use Rattle.manual.specs.Matpower.{Complex, complex, real, conj, ◌⊗◌, ◌⊕◌, minus, YbrEntry, ff, ft, tf, tt', sf, st}
use Rattle.numbering.specs.declared.ColumnName.{ColumnName}
use Rattle.numbering.specs.declared.ColumnName.TheVariants.{Pg, Qg, W, Pf, Pt, Qf, Qt}

module _ {A : Type 0} (o : Ops A) where
  infixl 60 ◌+◌
  infixl 70 ◌*◌
  infixl 60 ◌⊞◌
  infixl 70 ◌⊠◌
  open o use {◌+◌, ◌*◌}

  abbrev ◌⊞◌ : Complex A → Complex A → Complex A
  ◌⊞◌ = ◌⊕◌ o

  abbrev ◌⊠◌ : Complex A → Complex A → Complex A
  ◌⊠◌ = ◌⊗◌ o

  -- f 0 + .. + f (n - 1)
  abbrev pub sum_to : ℕ → (ℕ → A) → A
  sum_to zero f = o.zero
  sum_to (suc n) f = sum_to n f + f n

  abbrev pub complex_sum : ℕ → (ℕ → Complex A) → Complex A
  complex_sum n f = complex o (sum_to n (λ j. (f j).re)) (sum_to n (λ j. (f j).im))

  -- an entry of a connection matrix: 1 where element j is at bus i; and that entry times a number
  abbrev pub connected : (ℕ → ℕ) → ℕ → ℕ → A
  connected s i j = cond (eqb (s j) i) o.one o.zero

  abbrev pub weighed_by : A → Complex A → Complex A
  weighed_by a x = complex o (a * x.re) (a * x.im)

  -- a row of a transposed connection matrix times a column
  abbrev pub joins : (ℕ → ℕ) → ℕ → ℕ → (ℕ → Complex A) → Complex A
  joins s i n f = complex_sum n (λ j. weighed_by (connected s i j) (f j))

  module _ (G : AcNetwork A) where
    -- ysh = gs + j bs (section 'Shunt Elements')
    abbrev pub shunt : ℕ → Complex A
    shunt i = complex o (G.gs i) (G.bs i)

    -- ---- from voltages v at all buses and the elements y e of each branch's Ybr
    module _ (y : ℕ → YbrEntry → Complex A) (v : ℕ → Complex A) where
      -- row e of Y_f and of Y_t: Ybr's elements at the branch's two buses
      abbrev pub yf : ℕ → ℕ → Complex A
      yf e j = weighed_by (connected G.from j e) (y e ff) ⊞ weighed_by (connected G.to j e) (y e ft)

      abbrev pub yt : ℕ → ℕ → Complex A
      yt e j = weighed_by (connected G.from j e) (y e tf) ⊞ weighed_by (connected G.to j e) (y e tt')

      -- Ybus = C_f' Y_f + C_t' Y_t + [Y_sh]
      abbrev pub ybus : ℕ → ℕ → Complex A
      ybus i j = joins G.from i G.m (λ e. yf e j) ⊞ joins G.to i G.m (λ e. yt e j) ⊞ weighed_by (connected (λ k. k) j i) (shunt i)

      -- I_bus = Ybus V, S_bus = [V] conj(I_bus)
      abbrev pub ibus : ℕ → Complex A
      ibus i = complex_sum G.n (λ j. ybus i j ⊠ v j)

      abbrev pub sbus : ℕ → Complex A
      sbus i = v i ⊠ conj o (ibus i)

      -- the same by branches: C_f' S_f + C_t' S_t + [V] conj([Y_sh] V)
      abbrev pub by_branches : ℕ → Complex A
      by_branches i =
          joins G.from i G.m (λ e. sf o (y e) (v (G.from e)) (v (G.to e))) ⊞ joins G.to i G.m (λ e. st o (y e) (v (G.from e)) (v (G.to e)))
          ⊞ v i ⊠ conj o (shunt i ⊠ v i)

    -- ---- from the columns of the program
    module _ (x : ColumnName → A) where
      abbrev pub sg_at : ℕ → Complex A
      sg_at g = complex o (x (Pg g)) (x (Qg g))

      abbrev pub sf_at : ℕ → Complex A
      sf_at e = complex o (x (Pf e)) (x (Qf e))

      abbrev pub st_at : ℕ → Complex A
      st_at e = complex o (x (Pt e)) (x (Qt e))

      abbrev pub sd_at : ℕ → Complex A
      sd_at i = complex o (G.pd i) (G.qd i)

      -- S_bus + S_d - C_g S_g at bus i, of S_bus there
      abbrev pub left_over : Complex A → ℕ → Complex A
      left_over s i = s ⊞ sd_at i ⊞ minus o (joins G.gen_bus i G.k sg_at)

      -- S_bus of the flows and |v|²: C_f' S_f + C_t' S_t + [V] conj([Y_sh] V), where v conj(ysh v) is conj(ysh) |v|²
      abbrev pub injected : ℕ → Complex A
      injected i = joins G.from i G.m sf_at ⊞ joins G.to i G.m st_at ⊞ conj o (shunt i) ⊠ real o (x (W i))

      -- the mismatch at bus i
      abbrev pub mismatch : ℕ → Complex A
      mismatch i = left_over (injected i) i
