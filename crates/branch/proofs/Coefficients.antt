-- What the coefficients of the five floats and a shunt are of a branch: a formula uses no more of the branch, so all is computed. Assumes nothing.
use Rattle.std.proofs.Common.{◌≡◌, Float}
use Rattle.rows.specs.Branch.{Branch}
use Rattle.rows.specs.Rows.{w, wr, wi, zero64, ohm_value}
use Rattle.rows.specs.declared.OhmRow.{OhmRow}
use Rattle.rows.specs.declared.OhmRow.TheVariants.{Pf as pf, Qf as qf, Pt as pt, Qt as qt}
use Rattle.branch.specs.Series.{series_of}
use Rattle.branch.specs.Ohm.{shunt_of, branch_with}
use Rattle.branch.specs.declared.Series.{Series}

module _ (x : Branch Float) {t : Series} where
  pub w_of : {s : Float} (r : OhmRow) → t ≡ series_of x → s ≡ shunt_of x r → ohm_value (branch_with t s) r w ≡ ohm_value x r w
  unfolding ohm_value
  w_of pf p q = rw (p, q)
  w_of qf p q = rw (p, q)
  w_of pt p q = rw (p, q)
  w_of qt p q = rw (p, q)

  pub wr_of : (r : OhmRow) → t ≡ series_of x → ohm_value (branch_with t zero64) r wr ≡ ohm_value x r wr
  unfolding ohm_value
  wr_of pf p = rw p
  wr_of qf p = rw p
  wr_of pt p = rw p
  wr_of qt p = rw p

  pub wi_of : (r : OhmRow) → t ≡ series_of x → ohm_value (branch_with t zero64) r wi ≡ ohm_value x r wi
  unfolding ohm_value
  wi_of pf p = rw p
  wi_of qf p = rw p
  wi_of pt p = rw p
  wi_of qt p = rw p
