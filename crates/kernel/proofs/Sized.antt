-- Sizes on a refusal. Assumes nothing.
use Rattle.std.proofs.Common.{◌≡◌, Float, Result, Err}
use Rattle.refusals.specs.Refusals.{Checked}
use Rattle.refusals.specs.declared.Refusal.{Refusal}
use Rattle.numbering.specs.declared.SocWrLayout.{SocWrLayout}
use Rattle.records.specs.AcNetwork.{AcNetwork}
use Rattle.kernel.specs.Answers.{SizesAnswer, NoSizes}
use Rattle.kernel.specs.declared.numbers.Sizes.{Sizes}

pub no_sizes : {a : Result SocWrLayout Refusal} {c : Checked} {cause : Refusal} {r : Sizes} (G : AcNetwork Float) → a ≡ Err cause → c ≡ Err cause → NoSizes cause r → SizesAnswer a c G r
no_sizes G e h z =
    rw (e, h)
    (record {
      number = z.number;
      value = z.value;
      n_eq = z.n_eq;
      n_ineq = z.n_ineq;
      nvar = z.nvar;
      ncon = z.ncon;
      t = z.t;
      cost_columns = z.cost_columns;
    })
