-- 10, or else written.
use Rattle.std.proofs.Common.{sym, ◌∙◌, arith}
use Rattle.entries.proofs.Answers.{short, refused, wrote}
use Rattle.entries.proofs.kkt_written.Goals as goal

pub returns-in_err-kkt_room : goal.returns-in_err-kkt_room
returns-in_err-kkt_room c = refused (sym c.kkt_room.ensures ∙ c.in_err-kkt_room.was) c.from_residual.ensures.1

pub put_kkt-requires : goal.put_kkt-requires
put_kkt-requires c = let q = short c.args.p.now.given in omega arith

pub returns : goal.returns
returns c = let r = sym c.kkt_room.ensures ∙ c.in_ok-kkt_room.was in wrote r r c.put_kkt.ensures
