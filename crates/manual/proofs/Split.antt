-- S_bus by branches: V conj(Ybus V) at a bus is the sum of its branches' S_f and S_t and of its shunt's power. The sums over buses and branches
-- change places, a row of Y_f picks the branch's two buses, and a branch that is not at the bus adds nothing. Assumes nothing.
use Rattle.std.proofs.Common.{ℕ, ◌<◌, ◌≡◌, refl, sym, ◌∙◌, ap, ap₂, Bool, true, false, cond, eqb, eqb-true}
use Rattle.ring.specs.Ops.{Ops}
use Rattle.ring.specs.Laws.{CommutativeRing}
use Rattle.ring.proofs.Ring.{zeroᴱ, formal}
use Rattle.records.specs.AcNetwork.{AcNetwork}
use Rattle.manual.specs.Matpower.{Complex, YbrEntry, ff, ft, tf, tt', conj}
use Rattle.manual.specs.Balance.{complex_sum, connected, weighed_by, joins, shunt, ybus, ibus, sbus, by_branches}
use Rattle.manual.proofs.Complexes.{◌⊞◌, ◌⊠◌, nil, a_f, b_f, law, sum-times, times-conj-sum, weighed-times, times-conj-weighed, csum_ext, csum_add}
use Rattle.manual.proofs.Complexes.{csum_times, times-conj_csum, csum_weighed, csum_swap, pick}

module _ {A : Type 0} (o : Ops A) (R : CommutativeRing o) (G : AcNetwork A) (y : ℕ → YbrEntry → Complex A) (v : ℕ → Complex A) where
  -- a row of Y_f or Y_t: element a at the from bus, element b at the to bus
  abbrev row : YbrEntry → YbrEntry → ℕ → ℕ → Complex A
  row a b e j = ◌⊞◌ o (weighed_by o (connected o G.from j e) (y e a)) (weighed_by o (connected o G.to j e) (y e b))

  abbrev current : YbrEntry → YbrEntry → ℕ → Complex A
  current a b e = ◌⊞◌ o (◌⊠◌ o (y e a) (v (G.from e))) (◌⊠◌ o (y e b) (v (G.to e)))

  -- that row times V: the current of a branch's end
  row-times : (a b : YbrEntry) (e : ℕ) → G.from e < G.n → G.to e < G.n → complex_sum o G.n (λ j. ◌⊠◌ o (row a b e j) (v j)) ≡ current a b e
  row-times a b e f t =
      csum_ext o R G.n (λ j. ◌⊠◌ o (row a b e j) (v j))
      (λ j. ◌⊞◌ o (weighed_by o (connected o G.from j e) (◌⊠◌ o (y e a) (v j))) (weighed_by o (connected o G.to j e) (◌⊠◌ o (y e b) (v j))))
      (λ j l. sum-times o R (weighed_by o (connected o G.from j e) (y e a)) (weighed_by o (connected o G.to j e) (y e b)) (v j)
      ∙ ap₂ (◌⊞◌ o) (weighed-times o R (connected o G.from j e) (y e a) (v j)) (weighed-times o R (connected o G.to j e) (y e b) (v j)))
      ∙ csum_add o R G.n (λ j. weighed_by o (connected o G.from j e) (◌⊠◌ o (y e a) (v j))) (λ j. weighed_by o (connected o G.to j e) (◌⊠◌ o (y e b) (v j)))
      ∙ ap₂ (◌⊞◌ o) (pick o R G.n (G.from e) (λ j. ◌⊠◌ o (y e a) (v j)) f) (pick o R G.n (G.to e) (λ j. ◌⊠◌ o (y e b) (v j)) t)

  module _ (below : (e : ℕ) → e < G.m → (G.from e < G.n) × (G.to e < G.n)) (i : ℕ) where
    -- C' Y times V: the sum of the ends' currents at the bus
    joined-times : (s : ℕ → ℕ) (a b : YbrEntry) → complex_sum o G.n (λ j. ◌⊠◌ o (joins o s i G.m (λ e. row a b e j)) (v j)) ≡ joins o s i G.m (current a b)
    joined-times s a b =
        csum_ext o R G.n (λ j. ◌⊠◌ o (joins o s i G.m (λ e. row a b e j)) (v j))
        (λ j. complex_sum o G.m (λ e. weighed_by o (connected o s i e) (◌⊠◌ o (row a b e j) (v j))))
        (λ j l. csum_times o R G.m (λ e. weighed_by o (connected o s i e) (row a b e j)) (v j)
        ∙ csum_ext o R G.m (λ e. ◌⊠◌ o (weighed_by o (connected o s i e) (row a b e j)) (v j)) (λ e. weighed_by o (connected o s i e) (◌⊠◌ o (row a b e j) (v j)))
        (λ e m. weighed-times o R (connected o s i e) (row a b e j) (v j)))
        ∙ csum_swap o R G.n G.m (λ e j. weighed_by o (connected o s i e) (◌⊠◌ o (row a b e j) (v j)))
        ∙ csum_ext o R G.m (λ e. complex_sum o G.n (λ j. weighed_by o (connected o s i e) (◌⊠◌ o (row a b e j) (v j)))) (λ e. weighed_by o (connected o s i e) (current a b e))
        (λ e m. csum_weighed o R G.n (connected o s i e) (λ j. ◌⊠◌ o (row a b e j) (v j))
        ∙ ap (λ (t : Complex A). weighed_by o (connected o s i e) t) (row-times a b e (below e m).0 (below e m).1))

    abbrev froms : Complex A
    froms = joins o G.from i G.m (current ff ft)

    abbrev tos : Complex A
    tos = joins o G.to i G.m (current tf tt')

    currents : i < G.n → ibus o G y v i ≡ ◌⊞◌ o (◌⊞◌ o froms tos) (◌⊠◌ o (shunt o G i) (v i))
    currents h =
        let f : ℕ → Complex A = λ j. joins o G.from i G.m (λ e. row ff ft e j) in
        let t : ℕ → Complex A = λ j. joins o G.to i G.m (λ e. row tf tt' e j) in
        let d : ℕ → Complex A = λ j. weighed_by o (connected o (λ k. k) j i) (shunt o G i) in
        csum_ext o R G.n (λ j. ◌⊠◌ o (ybus o G y v i j) (v j)) (λ j. ◌⊞◌ o (◌⊞◌ o (◌⊠◌ o (f j) (v j)) (◌⊠◌ o (t j) (v j))) (weighed_by o (connected o (λ k. k) j i) (◌⊠◌ o (shunt o G i) (v j))))
        (λ j l. sum-times o R (◌⊞◌ o (f j) (t j)) (d j) (v j)
        ∙ ap₂ (◌⊞◌ o) (sum-times o R (f j) (t j) (v j)) (weighed-times o R (connected o (λ k. k) j i) (shunt o G i) (v j)))
        ∙ csum_add o R G.n (λ j. ◌⊞◌ o (◌⊠◌ o (f j) (v j)) (◌⊠◌ o (t j) (v j))) (λ j. weighed_by o (connected o (λ k. k) j i) (◌⊠◌ o (shunt o G i) (v j)))
        ∙ ap₂ (◌⊞◌ o)
        (csum_add o R G.n (λ j. ◌⊠◌ o (f j) (v j)) (λ j. ◌⊠◌ o (t j) (v j)) ∙ ap₂ (◌⊞◌ o) (joined-times G.from ff ft) (joined-times G.to tf tt'))
        (pick o R G.n i (λ j. ◌⊠◌ o (shunt o G i) (v j)) h)

    -- a branch's end is at the bus, or has the weight 0
    at_bus : (b : Bool) (s : ℕ) (z : Complex A) → (b ≡ true → s ≡ i) → weighed_by o (cond b o.one o.zero) (◌⊠◌ o (v i) z) ≡ weighed_by o (cond b o.one o.zero) (◌⊠◌ o (v s) z)
    at_bus true s z h = ap (λ (k : ℕ). weighed_by o o.one (◌⊠◌ o (v k) z)) (sym (h refl))
    at_bus false s z h =
        law o R (weighed_by formal zeroᴱ (◌⊠◌ formal a_f b_f)) (nil formal) (v i) z z z tt tt ∙ law o R (nil formal) (weighed_by formal zeroᴱ (◌⊠◌ formal a_f b_f)) (v s) z z z tt tt

    powers : (s : ℕ → ℕ) (a b : YbrEntry) → ◌⊠◌ o (v i) (conj o (joins o s i G.m (current a b))) ≡ joins o s i G.m (λ e. ◌⊠◌ o (v (s e)) (conj o (current a b e)))
    powers s a b =
        times-conj_csum o R G.m (v i) (λ e. weighed_by o (connected o s i e) (current a b e))
        ∙ csum_ext o R G.m (λ e. ◌⊠◌ o (v i) (conj o (weighed_by o (connected o s i e) (current a b e)))) (λ e. weighed_by o (connected o s i e) (◌⊠◌ o (v (s e)) (conj o (current a b e))))
        (λ e m. times-conj-weighed o R (connected o s i e) (v i) (current a b e)
        ∙ at_bus (eqb (s e) i) (s e) (conj o (current a b e)) (λ p. eqb-true (s e) i p))

    pub split : i < G.n → sbus o G y v i ≡ by_branches o G y v i
    split h =
        ap (λ (t : Complex A). ◌⊠◌ o (v i) (conj o t)) (currents h)
        ∙ times-conj-sum o R (v i) (◌⊞◌ o froms tos) (◌⊠◌ o (shunt o G i) (v i))
        ∙ ap (λ (t : Complex A). ◌⊞◌ o t (◌⊠◌ o (v i) (conj o (◌⊠◌ o (shunt o G i) (v i)))))
        (times-conj-sum o R (v i) froms tos ∙ ap₂ (◌⊞◌ o) (powers G.from ff ft) (powers G.to tf tt'))
