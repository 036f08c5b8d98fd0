-- A branch with the products of its tap, as the formulas use it. Document 01: "Per branch, the products of tap are gathered in a struct of five floats:
-- g, b, tr, ti, tm2, with tr = tap × cosine, ti = tap × sine, tm2 = tap × tap". Over any operations.
use Rattle.std.specs.Prelude.{ℕ, List, Float}
use Rattle.ring.specs.Ops.{Ops, rounded}
use Rattle.records.specs.AcNetwork.{BranchData, AcNetwork}
use Rattle.records.specs.Network.{branch_data_of}

pub record Branch (A : Type 0) : Type 0 where
  pub g : A
  pub b : A
  pub gfr : A
  pub bfr : A
  pub gto : A
  pub bto : A
  pub tr : A
  pub ti : A
  pub tm2 : A

module _ {A : Type 0} (o : Ops A) where
  infixl 70 ◌*◌
  open o use {◌*◌}

  unfoldable pub gathered : BranchData A → Branch A
  gathered d =
      record {
        g = d.g;
        b = d.b;
        gfr = d.gfr;
        bfr = d.bfr;
        gto = d.gto;
        bto = d.bto;
        tr = d.tap * d.cosine;
        ti = d.tap * d.sine;
        tm2 = d.tap * d.tap;
      }

  -- branch e of a network
  abbrev pub branch_at : AcNetwork A → ℕ → Branch A
  branch_at G e = gathered (G.branch e)

-- the branch at record r
abbrev pub branch_of : List ℕ → ℕ → Branch Float
branch_of b r = gathered rounded (branch_data_of b r)
