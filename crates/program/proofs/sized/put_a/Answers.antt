-- 10 by the first list that is too short, and else written.
use Rattle.std.proofs.Common.{◌≤◌, refl, sym, ◌∙◌, inl, inr, length, arith}
use Rattle.refusals.proofs.Laws.{has_room}
use Rattle.lists.specs.Compressed.{starts_from}
use Rattle.numbering.specs.Network.{grid}
use Rattle.rows.specs.Program.{matrix}
use Rattle.cells.proofs.Ends.{whole-count}
use Rattle.assembly.proofs.PartsOfA.{matrix-starts}
use Rattle.program.proofs.Answers.{short-starts, short-entries, entries-fit, passed-unless, columns-written}
use Rattle.program.proofs.sized.put_a.Goals as goal
use Rattle.program.proofs.sized.put_a.Goals.{then-is_err+in_ok-entries_room, else-is_err}

pub returns-in_err-room_for : goal.returns-in_err-room_for
returns-in_err-room_for c =
    let net = c.args.net.now in
    let hs = matrix-starts net.layout net.bytes.now net.laid in
    short-starts refl (omega (arith, hs, c.column_count.ensures)) c.room_for.ensures c.in_err-room_for.was c.from_residual.ensures.1

pub returns-in_err-entries_room : goal.returns-in_err-entries_room
returns-in_err-entries_room c =
    let net = c.args.net.now in
    let hs = matrix-starts net.layout net.bytes.now net.laid in
    let starts = has_room _ _ (sym c.room_for.ensures ∙ c.in_ok-room_for.was) in
    short-entries refl (omega (arith, hs, c.column_count.ensures, starts)) c.count_a.ensures
    c.entries_room-then-is_err.ensures c.in_err-entries_room.was c.from_residual-in_err-entries_room.ensures.1

pub fill_a-written-requires : goal.fill_a-written-requires
fill_a-written-requires c =
    let starts = has_room _ _ (sym c.room_for.ensures ∙ c.in_ok-room_for.was) in
    record {
      l_in_bounds = omega (arith, c.column_count.ensures, starts);
      roomy = elim c.if-is_err.branch [
        | then-is_err+in_ok-entries_room w ↦
            let fit = entries-fit w.entries_room-then-is_err.ensures w.in_ok-entries_room.was in
            inr (omega (arith, w.count_a.ensures, fit))
        | else-is_err w ↦
            let fit = entries-fit c.entries_room.ensures (passed-unless _ (sym c.is_err.ensures.value ∙ w.if-is_err.false)) in
            inl (omega (arith, c.most.ensures, fit))
      ];
    }

pub returns : goal.returns
returns c =
    let net = c.args.net.now in
    let hs = matrix-starts net.layout net.bytes.now net.laid in
    let starts = has_room _ _ (sym c.room_for.ensures ∙ c.in_ok-room_for.was) in
    let w = c.fill_a-written.ensures in
    let first : length (starts_from 0 (matrix (grid net))) ≤ length c.args.lists.now.starts.now = omega (arith, hs, c.column_count.ensures, starts) in
    elim c.if-is_err.branch [
      | then-is_err+in_ok-entries_room t ↦
          let fit = entries-fit t.entries_room-then-is_err.ensures t.in_ok-entries_room.was in
          columns-written refl first (omega (arith, t.count_a.ensures, fit)) (omega (arith, t.count_a.ensures, fit)) w.whole
      | else-is_err f ↦
          let fit = entries-fit c.entries_room.ensures (passed-unless _ (sym c.is_err.ensures.value ∙ f.if-is_err.false)) in
          let few = whole-count w.whole.whole in
          columns-written refl first (omega (arith, few, w.upper_bound, c.most.ensures, fit)) (omega (arith, few, w.upper_bound, c.most.ensures, fit)) w.whole
    ]
