-- The layout of accepted records: what a function relies on that works on them.
use Rattle.std.specs.Prelude.{ℕ, ◌≡◌, List, Float}
use Rattle.records.specs.AcNetwork.{AcNetwork}
use Rattle.records.specs.Network.{network_of, Accepted}
use Rattle.numbering.specs.Layout.{layout_of, InRange}
use Rattle.numbering.specs.declared.SocWrLayout.{SocWrLayout}

-- the network of a layout's counts and of records
abbrev pub net_of : SocWrLayout → List ℕ → AcNetwork Float
net_of l b = network_of l.n l.m l.k l.s b

-- l is the layout of b's network, and the record check accepts b
pub record Laid (l : SocWrLayout) (b : List ℕ) : Type 0 where
  pub accepted : Accepted l.n l.m l.k l.s b
  pub range : InRange l
  pub is : l ≡ layout_of (net_of l b)
