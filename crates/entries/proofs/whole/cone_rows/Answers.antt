use Rattle.lists.specs.UpTo.{each}
use Rattle.lists.proofs.Puts.{then}
use Rattle.numbering.specs.Network.{grid}
use Rattle.numbering.specs.declared.RowName.TheVariants.{Jabr}
use Rattle.rows.specs.Program.{second_order}
use Rattle.complementarity.specs.Writes.{cone_in}
use Rattle.blocks.specs.Kinds.{thermal_in}
use Rattle.entries.proofs.Rooms.{shorter, plain-start, plain-next}
use Rattle.entries.proofs.whole.cone_rows.Goals as goal

pub jabr_rows-requires : goal.jabr_rows-requires
unfolding thermal_in
jabr_rows-requires c =
    let N = grid c.args.p.now.net in
    let f = cone_in N c.args.p.now.x.now c.args.p.now.z.now c.args.d in
    record { room = plain-start _ _ (each N.m (λ e. f 4 (Jabr e))) (second_order N f) (search shorter depth 12) c.requires }

pub thermal_rows-requires : goal.thermal_rows-requires
unfolding thermal_in
thermal_rows-requires c =
    let N = grid c.args.p.now.net in
    let f = cone_in N c.args.p.now.x.now c.args.p.now.z.now c.args.d in
    record { room = plain-next (each N.m (thermal_in N c.args.p.now.x.now c.args.p.now.z.now c.args.d)) (second_order N f) c.jabr_rows.ensures (search shorter depth 12) c.requires }

pub returns : goal.returns
unfolding thermal_in
returns c =
    then c.jabr_rows.ensures c.thermal_rows.ensures
