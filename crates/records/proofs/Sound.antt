-- What the proofs of the entries need of a network, and that accepted records give it. Assumes nothing.
use Rattle.std.proofs.Common.{ℕ, ◌+◌, ◌<◌, ◌≡◌, refl, Bool, true, false, cond, List, arith, Float}
use Rattle.lists.specs.UpTo.{sum}
use Rattle.records.specs.AcNetwork.{AcNetwork}
use Rattle.records.specs.Fields.{segments_of, piecewise_of, count_of}
use Rattle.records.specs.Network.{network_of, Accepted}

pub record Sound (G : AcNetwork Float) : Type 0 where
  pub from_bus : (e : ℕ) → e < G.m → G.from e < G.n
  pub to_bus : (e : ℕ) → e < G.m → G.to e < G.n
  pub apart : (e : ℕ) → e < G.m → G.from e ≡ G.to e → ⊥
  pub pieces : (g t : ℕ) → g < G.k → t < G.segments g → G.piecewise g ≡ true
  pub added : sum G.k G.segments ≡ G.s

curve : (b : List ℕ) (r t : ℕ) → t < segments_of b r → piecewise_of b r ≡ true
unfolding segments_of
curve b r t = go (piecewise_of b r)
  where
    go : (p : Bool) → t < cond p (count_of b r) 0 → p ≡ true
    go true l = refl
    go false l = absurd (omega arith)

pub sound : (n m k s : ℕ) (b : List ℕ) → Accepted n m k s b → Sound (network_of n m k s b)
sound n m k s b a =
    record {
      from_bus = a.from-below;
      to_bus = a.to_below;
      apart = a.ends_differ;
      pieces = λ g t h l. curve b (n + m + g) t l;
      added = a.counts-add;
    }
