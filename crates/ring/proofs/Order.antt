-- The order of the whole numbers, through their differences. Assumes nothing.
use Rattle.std.proofs.Common.{zero, suc, ◌+◌, ◌≡◌, refl, sym, ◌∙◌, ap, ap₂, subst, ◌↔◌, T, ℤ, pos, negsuc, neg_ℤ, ◌+ℤ◌, ◌-ℤ◌, ◌*ℤ◌, ◌≤ℤ◌, [], ◌∷◌}
use lib.Dec.{leb-zero, leb-suc-zero, leb-suc-suc}
use lib.IntN.{suc_ℤ, pred_ℤ, +ℤ_idr, +ℤ_invr, +ℤ-suc_ℤ, +ℤ-pred_ℤ, suc-pred}
use lib.Signed.{le_z}
use Rattle.ring.proofs.Whole.{steps}
use Rattle.ring.specs.Ops.{whole}
use Rattle.ring.proofs.Laws.{whole-ring}
use Rattle.ring.proofs.Ring.{var, twoᴱ, plus, times, ring}

le_suc : (a b : ℤ) → le_z (suc_ℤ a) (suc_ℤ b) ≡ le_z a b
le_suc (pos a) (pos b) = leb-suc-suc a b
le_suc (pos a) (negsuc zero) = leb-suc-zero a
le_suc (pos a) (negsuc (suc b)) = refl
le_suc (negsuc zero) (pos b) = leb-zero (suc b)
le_suc (negsuc (suc a)) (pos b) = refl
le_suc (negsuc zero) (negsuc zero) = refl
le_suc (negsuc zero) (negsuc (suc b)) = sym (leb-suc-zero b)
le_suc (negsuc (suc a)) (negsuc zero) = sym (leb-zero (suc a))
le_suc (negsuc (suc a)) (negsuc (suc b)) = sym (leb-suc-suc b a)

le_shift : (a b k : ℤ) → le_z (a +ℤ k) (b +ℤ k) ≡ le_z a b
le_shift a b k =
    steps (λ i. le_z (a +ℤ i) (b +ℤ i) ≡ le_z a b) (ap₂ le_z (+ℤ_idr a) (+ℤ_idr b))
    (λ i h. ap₂ le_z (+ℤ-suc_ℤ a i) (+ℤ-suc_ℤ b i) ∙ le_suc (a +ℤ i) (b +ℤ i) ∙ h)
    (λ i h. ap₂ le_z (+ℤ-pred_ℤ a i) (+ℤ-pred_ℤ b i) ∙ sym (le_suc (pred_ℤ (a +ℤ i)) (pred_ℤ (b +ℤ i))) ∙ ap₂ le_z (suc-pred (a +ℤ i)) (suc-pred (b +ℤ i)) ∙ h)
    k

le-less : (a b : ℤ) → le_z (pos 0) (b -ℤ a) ≡ le_z a b
le-less a b = ap (λ i. le_z i (b -ℤ a)) (sym (+ℤ_invr a)) ∙ le_shift a b (neg_ℤ a)

twofold : (k : ℤ) → le_z (pos 0) (k +ℤ k) ≡ le_z (pos 0) k
twofold (pos n) = leb-zero (n + n) ∙ sym (leb-zero n)
twofold (negsuc n) = refl

by-test : {a b c d : ℤ} → le_z a b ≡ le_z c d → a ≤ℤ b ↔ c ≤ℤ d
by-test e = ((λ h. record { le = subst T e h.le }), (λ h. record { le = subst T (sym e) h.le }))

pub twice : (k : ℤ) → pos 2 *ℤ k ≡ k +ℤ k
twice k = ring whole whole-ring (times twoᴱ (var 0)) (plus (var 0) (var 0)) (k ∷ []) tt

-- a number is not negative exactly if two others are in order, where it is twice their difference
pub by-twice : (s a b : ℤ) → s ≡ pos 2 *ℤ (b -ℤ a) → pos 0 ≤ℤ s ↔ a ≤ℤ b
by-twice s a b e = by-test (ap (λ i. le_z (pos 0) i) (e ∙ twice (b -ℤ a)) ∙ twofold (b -ℤ a) ∙ le-less a b)

-- two pairs are in order together if one difference is four times the other
pub by_fourfold : (a b c d : ℤ) → b -ℤ a ≡ pos 2 *ℤ (pos 2 *ℤ (d -ℤ c)) → a ≤ℤ b ↔ c ≤ℤ d
by_fourfold a b c d e =
    by-test
    (sym (le-less a b) ∙ ap (λ i. le_z (pos 0) i) (e ∙ twice (pos 2 *ℤ (d -ℤ c))) ∙ twofold (pos 2 *ℤ (d -ℤ c))
    ∙ ap (λ i. le_z (pos 0) i) (twice (d -ℤ c)) ∙ twofold (d -ℤ c) ∙ le-less c d)
