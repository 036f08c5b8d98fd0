-- Refused, the lists stay as they were; else each is copied in its turn.
use Rattle.std.proofs.Common.{sym, ◌∙◌, arith}
use Rattle.refusals.proofs.Laws.{ends, left_stopped, answer-held, left_copied}
use Rattle.adjoint.proofs.Fits.{transpose_ready}
use Rattle.adjoint.proofs.Turned.{turned_rows, turned-cols, turned-values}
use Rattle.adjoint.proofs.transposes.transpose.Goals as goal

pub returns-in_err-transpose_check : goal.returns-in_err-transpose_check
returns-in_err-transpose_check c =
    let e = c.transpose_check.ensures in
    let h = c.in_err-transpose_check.was in
    record {
      value = ends _ c.from_residual.ensures.1 h e;
      out_rows_after = left_stopped e _ _ h;
      out_cols_after = left_stopped e _ _ h;
      out_values_after = left_stopped e _ _ h;
    }

pub copy-requires : goal.copy-requires
copy-requires c = let f = transpose_ready (sym c.transpose_check.ensures ∙ c.in_ok-transpose_check.was) in omega arith

pub copy-requires-2 : goal.copy-requires-2
copy-requires-2 c = let f = transpose_ready (sym c.transpose_check.ensures ∙ c.in_ok-transpose_check.was) in omega arith

pub copy-requires-3 : goal.copy-requires-3
copy-requires-3 c = let f = transpose_ready (sym c.transpose_check.ensures ∙ c.in_ok-transpose_check.was) in omega arith

pub returns : goal.returns
returns c =
    let h = sym c.transpose_check.ensures ∙ c.in_ok-transpose_check.was in
    let f = transpose_ready h in
    record {
      value = sym (answer-held _ h);
      out_rows_after = left_copied _ _ _ h c.copy.ensures (turned_rows _ _ _ f.has.same-cols);
      out_cols_after = left_copied _ _ _ h c.copy-2.ensures (turned-cols _ _ _);
      out_values_after = left_copied _ _ _ h c.copy-3.ensures (turned-values _ _ _ f.has.same-values);
    }
