-- The layout of accepted records has their network's sizes.
use Rattle.std.proofs.Common.{refl, ◌∙◌}
use Rattle.numbering.proofs.Laid.{limits_are, curves_are, laid-nvar, laid-ncon}
use Rattle.kernel.proofs.numbers.SizesFromRefNetwork.from.Goals as goal

pub returns : goal.returns
returns c =
    let w = c.args.net.now in
    record {
      number = refl;
      value = refl;
      n_eq = c.zero_rows.ensures;
      n_ineq = c.nonnegative_rows.ensures;
      nvar = c.column_count.ensures ∙ laid-nvar w.layout w.bytes.now w.laid;
      ncon = c.row_count.ensures ∙ laid-ncon w.layout w.bytes.now w.laid;
      t = limits_are w.layout w.bytes.now w.laid;
      cost_columns = curves_are w.layout w.bytes.now w.laid;
    }
