-- A list's columns follow each other from its first on, and all are columns of x.
use Rattle.std.proofs.Common.{◌≡◌, ◌+◌, ◌-◌, arith}
use Rattle.numbering.proofs.Numbers.{numbers-few}
use Rattle.reading.proofs.Readings.{part-long, part-fits, part-read, part-refused}
use Rattle.reading.proofs.parts.part.Goals as goal

pub returns-in_default : goal.returns-in_default
returns-in_default c = part-refused _ _ _ _ _ _ (rw c.in_default.is at c.check_part.ensures) c.args.part

pub overflow_add-end : goal.overflow_add-end
overflow_add-end c =
    let w = c.in-Ok.net in
    let r = rw c.in-Ok.is at c.check_part.ensures in
    omega (arith, part-long _ _ _ _ _ _ r, part-fits w.layout w.bytes.now c.args.part, c.start_of-start.ensures, c.count_of.ensures, numbers-few w.layout w.laid.range)

pub slice_bounds-result-end-2 : goal.slice_bounds-result-end-2
slice_bounds-result-end-2 c =
    let w = c.in-Ok.net in
    let r = rw c.in-Ok.is at c.check_part.ensures in
    omega (arith, part-long _ _ _ _ _ _ r, part-fits w.layout w.bytes.now c.args.part, c.start_of-start.ensures, c.count_of.ensures)

pub returns : goal.returns
returns c =
    let r = rw c.in-Ok.is at c.check_part.ensures in
    let e : (c.start_of-start.result + c.count_of.result) - c.start_of-start.result ≡ c.count_of.result = omega arith in
    rw e (part-read _ _ _ _ _ _ r c.args.part c.start_of-start.ensures c.count_of.ensures)
