-- `socwr_scalar` of include/socwr.h, by its fields.
use Rattle.std.specs.Prelude.{◌≡◌, Float, Result, Ok, Err}
use Rattle.rows.specs.Rows.{zero64}
use Rattle.refusals.specs.Refusals.{answer_number, answer_value}
use Rattle.refusals.specs.declared.Refusal.{Refusal}
use Rattle.kernel.specs.declared.Scalar.{Scalar}

-- C-ENTRIES: "`result` is the answer, and 0.0 on a refusal"
abbrev pub scalar_result : Result Float Refusal → Float
scalar_result (Ok v) = v
scalar_result (Err cause) = zero64

pub record ScalarAnswer (a : Result Float Refusal) (r : Scalar) : Type 0 where
  pub number : r.number ≡ answer_number a
  pub value : r.value ≡ answer_value (λ v. 0) a
  pub result : r.result ≡ scalar_result a
