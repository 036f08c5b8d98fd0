-- The sizes of a network as its layout gives them. Assumes nothing.
use Rattle.std.proofs.Common.{ℕ, ◌+◌, ◌<◌, ◌^◌, ◌≡◌, ◌∙◌, List, arith}
use Rattle.numbering.specs.Numbering.{nvar, ncon}
use Rattle.numbering.specs.Layout.{nvar_of}
use Rattle.numbering.specs.Laid.{net_of, Laid}
use Rattle.numbering.specs.declared.SocWrLayout.{SocWrLayout}
use Rattle.numbering.proofs.Laid.{laid-nvar, laid-few}

module _ {l : SocWrLayout} {bytes : List ℕ} (h : Laid l bytes) where
  pub nvar-is : {v : ℕ} → v ≡ nvar_of l → v ≡ nvar (net_of l bytes)
  nvar-is e = e ∙ laid-nvar l bytes h

  -- the numbers of the KKT matrix's rows and columns fit
  pub small : nvar (net_of l bytes) + ncon (net_of l bytes) < 2 ^ 32
  small = omega (arith, laid-few l bytes h)
