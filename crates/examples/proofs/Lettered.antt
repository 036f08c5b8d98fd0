-- Every line of the table holds: F and I by laws, the others by computation. Assumes nothing.
use Rattle.std.specs.Float.Ieee.{of_bits, to_bits, div}
use Rattle.std.proofs.Common.{Err, ◌≡◌, refl, arith}
use Rattle.refusals.specs.Refusals.{refuse_unless, ◌or_else◌}
use Rattle.refusals.specs.declared.Refusal.TheVariants.{CountTooLarge}
use Rattle.records.specs.Check.{count_cause, check_of}
use Rattle.lookups.specs.Lookups.{asked, column_asked, row_asked}
use Rattle.admittance.specs.Stores.{stored_all}
use Rattle.admittance.specs.Admittance.{in_turn}
use Rattle.columns.specs.Jacobian.{stores, jacobian}
use Rattle.examples.specs.Networks.{q, curve, buses}
use Rattle.examples.specs.Table.{letter_a, letter_b, letter_c, letter_d, letter_e, letter_f, letter_g, letter_h, letter_i, letter_j, letter_k, table, Right, AllRight}
use Rattle.examples.proofs.Buses.{accepted-buses}
use Rattle.examples.proofs.Row28.{column2, column3}
use Rattle.examples.proofs.OnLiterals.{check_on_literals, numbers_on_literals, rows_on_literals}

right_a : Right letter_a
unfolding letter_a q check_on_literals numbers_on_literals
right_a x z = refl

right_b : Right letter_b
unfolding letter_b q check_on_literals numbers_on_literals
right_b x z = refl

right_c : Right letter_c
unfolding letter_c check_on_literals numbers_on_literals
right_c x z = refl

right_d : Right letter_d
unfolding letter_d curve check_on_literals numbers_on_literals asked column_asked row_asked
right_d x z = refl

right_e : Right letter_e
unfolding letter_e curve check_on_literals numbers_on_literals asked column_asked row_asked
right_e x z = refl

-- x and z are open: by the laws of row 28
right_f : Right letter_f
unfolding letter_f
right_f x z = cc (column2 x z, column3 x z)

right_g : Right letter_g
unfolding letter_g check_on_literals numbers_on_literals rows_on_literals
right_g x z = refl

right_h : Right letter_h
unfolding letter_h q check_on_literals numbers_on_literals rows_on_literals
right_h x z = refl

-- the count is refused before the bytes are looked at
too_many : check_of 4097 0 0 0 (buses 4097) ≡ Err (CountTooLarge 0)
unfolding ◌or_else◌ refuse_unless count_cause check_of
too_many = refl

-- so many bytes are not computed: by the law of bus records
right_i : Right letter_i
unfolding letter_i
right_i x z = rw (accepted-buses 4096 (omega arith), too_many)

right_j : Right letter_j
unfolding letter_j of_bits to_bits div
right_j x z = refl

right_k : Right letter_k
unfolding letter_k q check_on_literals numbers_on_literals stored_all in_turn stores jacobian rows_on_literals
right_k x z = refl

pub lettered : AllRight table
unfolding table
lettered = (right_a, (right_b, (right_c, (right_d, (right_e, (right_f, (right_g, (right_h, (right_i, (right_j, (right_k, tt)))))))))))
