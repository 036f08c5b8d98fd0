-- Two blocks of b filled side by side, and some elements a turn behind both. Assumes nothing.
use Rattle.std.proofs.Common.{ℕ, ◌+◌, ◌≤◌, ◌<◌, ◌≡◌, refl, subst, ◌∙◌, List, [], ◌∷◌, arith, length, set, Float}
use Rattle.lists.specs.UpTo.{each, listed}
use Rattle.cells.specs.Filled.{Filled}
use Rattle.cells.proofs.Fills.{filled-nothing, filled-turn, filled-whole, kept-length}
use Rattle.cells.specs.Runs.{run, RunsOver}
use Rattle.sides.proofs.Across.{lane, Across, across_none, across_two, across_all, across_length, filled-under}
use Rattle.cells.proofs.Runs.{one-run, ◌then_runs◌}

pub record Behind (c i : ℕ) (f g : ℕ → Float) (h : ℕ → List Float) (p r q : ℕ) (l l' : List Float) : Type 0 where
  pub mid : List Float
  pub first : Across c i (lane p f ∷ lane r g ∷ []) 0 l mid
  pub second : Filled (each i h) mid q l'

pub behind-none : (c : ℕ) (f g : ℕ → Float) (h : ℕ → List Float) {p r q : ℕ} {l : List Float} → p + c ≤ r → Behind c 0 f g h p r q l l
behind-none c f g h {l = l} a = record { mid = l; first = across_none c _ (omega arith, (a, tt)); second = filled-nothing h }

pub behind-length : {c i : ℕ} {f g : ℕ → Float} {h : ℕ → List Float} {p r q : ℕ} {l l' : List Float} → Behind c i f g h p r q l l' → length l' ≡ length l
behind-length a = kept-length a.second ∙ across_length a.first

pub filled-none : {xs l : List Float} {at : ℕ} → ◌≡◌ {A = List Float} [] xs → Filled xs l at l
filled-none {l = l} {at = at} e = subst (λ ys. Filled ys l at l) e (record { is = refl })

pub behind_more : (f g : ℕ → Float) (h : ℕ → List Float) {c i p q r next : ℕ} {v w : Float} {l l' l'' : List Float} → Behind c i f g h p r q l l' → i < c → p + c ≤ r → r + c ≤ q
    → v ≡ f i → w ≡ g i → next ≡ q + length (each i h) → Filled (h i) (set (set l' (p + i) v) (r + i) w) next l'' → Behind c (i + 1) f g h p r q l l''
behind_more f g h {i = i} {p = p} {r = r} {v = v} {w = w} a m n e t u o b =
    record {
      mid = set (set a.mid (p + i) v) (r + i) w;
      first = across_two f g a.first m t u;
      second = filled-turn h (filled-under (r + i) w (omega arith) (filled-under (p + i) v (omega arith) a.second)) o b;
    }

pub behind-all : (f g : ℕ → Float) (h : ℕ → List Float) {c i p r q : ℕ} {l l' : List Float} → i ≡ c → Behind c i f g h p r q l l'
    → RunsOver (run p (listed c f) ∷ run r (listed c g) ∷ run q (each c h) ∷ []) l l'
behind-all f g h {p = p} {r = r} e a = across_all e a.first then_runs one-run (filled-whole h e a.second)
