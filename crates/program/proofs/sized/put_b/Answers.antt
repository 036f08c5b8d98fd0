-- 10 where the list is too short, and else written.
use Rattle.std.proofs.Common.{refl, sym, ◌∙◌, arith}
use Rattle.sides.proofs.RightSide.{right-length}
use Rattle.program.proofs.Answers.{floats_short, floats_written, room-short}
use Rattle.program.proofs.sized.put_b.Goals as goal

pub returns-then-b-need : goal.returns-then-b-need
returns-then-b-need c =
    let net = c.args.net.now in
    let need = c.row_count-need.ensures ∙ sym (right-length net.layout net.bytes.now net.laid) in
    floats_short refl need refl (room-short c.if-b-need.true) refl

pub fill_b-requires : goal.fill_b-requires
fill_b-requires c = omega (arith, c.if-b-need.false, c.row_count-need.ensures)

pub returns : goal.returns
returns c =
    let net = c.args.net.now in
    let need = c.row_count-need.ensures ∙ sym (right-length net.layout net.bytes.now net.laid) in
    floats_written refl need (omega (arith, need, c.if-b-need.false)) c.fill_b.ensures
