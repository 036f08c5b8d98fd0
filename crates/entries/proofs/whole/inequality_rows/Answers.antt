-- The rows of the eight kinds, then those of the segments; each part is no longer than the whole.
use Rattle.lists.specs.UpTo.{up_to, each}
use Rattle.lists.proofs.Puts.{then}
use Rattle.numbering.specs.Network.{grid}
use Rattle.numbering.specs.declared.RowName.TheVariants.{Segment}
use Rattle.rows.specs.Program.{inequalities}
use Rattle.complementarity.specs.Writes.{row_entries}
use Rattle.entries.proofs.Rooms.{shorter_whole, shorter_more, plain-start, plain-next}
use Rattle.entries.proofs.whole.inequality_rows.Goals as goal

pub kinds_rows-requires : goal.kinds_rows-requires
unfolding up_to
kinds_rows-requires c =
    let N = grid c.args.p.now.net in
    let f = row_entries N c.args.p.now.x.now c.args.p.now.z.now c.args.d in
    plain-start _ _ _ (inequalities N f) (shorter_more _ _ (each N.k (λ g. each (N.segments g) (λ t. f (Segment g t)))) (shorter_whole _)) c.requires

pub segment_rows-requires : goal.segment_rows-requires
unfolding up_to
segment_rows-requires c =
    let N = grid c.args.p.now.net in
    let f = row_entries N c.args.p.now.x.now c.args.p.now.z.now c.args.d in
    record { room = plain-next (each N.k (λ g. each (N.segments g) (λ t. f (Segment g t)))) (inequalities N f) c.kinds_rows.ensures (shorter_whole _) c.requires }

pub returns : goal.returns
unfolding up_to
returns c = then c.kinds_rows.ensures c.segment_rows.ensures
