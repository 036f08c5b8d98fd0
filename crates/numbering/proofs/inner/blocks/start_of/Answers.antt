-- The start so far is that of the blocks passed.
use Rattle.std.proofs.Common.{◌≡◌, sym, arith, length-take-le}
use Rattle.std.proofs.lemmas.List.{get_or-take}
use Rattle.numbering.proofs.Entered.{start_none, start-more}
use Rattle.numbering.proofs.inner.blocks.start_of.Goals as goal

pub loop-size-init : goal.loop-size-init
loop-size-init c = (omega arith, sym (start_none c.args.sizes.now))

pub loop-size-preserved : goal.loop-size-preserved
loop-size-preserved c =
    let j = c.loop-size.size-index in
    let long = length-take-le c.args.block c.args.sizes.now c.requires.block_in_bounds.0 in
    let here = get_or-take c.args.block c.args.sizes.now j 0 (omega (arith, long)) in
    rw here (omega (arith, c.requires.by_index j), omega (arith, start-more c.args.sizes.now j))

pub returns : goal.returns
returns c =
    let long = length-take-le c.args.block c.args.sizes.now c.requires.block_in_bounds.0 in
    let e : c.loop-size.size-index ≡ c.args.block = omega (arith, long) in
    record { value = rw (← e) c.loop-size.invariant.1; upper_bound = omega (arith, long) }
