-- `input::case_in` meets its contract. Assumes nothing.
use Rattle.std.proofs.Common.{refl, arith}
use Rattle.input.specs.Input.{buses_of, branches_of, generators_of, rest_of}
use Rattle.input.proofs.case_in.Goals as goal

pub returns : goal.returns
unfolding buses_of branches_of generators_of rest_of
returns c =
    let w1 = c.new.ensures in
    let w2 = c.new-2.ensures in
    let w3 = c.new-3.ensures in
    let e1 = rw (w1.bytes, w1.first, w1.count) at c.leading-n.ensures.value in
    let e2 = rw (w2.bytes, w2.first, w2.count, e1) at c.leading-m.ensures.value in
    let e3 = rw (w3.bytes, w3.first, w3.count, e1, e2) at c.leading-k.ensures.value in
    record { counts = record { n = e1; m = e2; k = e3; s = omega (arith, e1, e2, e3) }; bytes = refl }
