-- Mode Auto ends the check, then lists that don't fit; else the room decides.
use Rattle.std.proofs.Common.{sym, ◌∙◌, arith}
use Rattle.refusals.proofs.Laws.{ends, went_on, test-held}
use Rattle.combination.specs.Checks.{combination_check}
use Rattle.combination.proofs.Fits.{combined, cells}
use Rattle.combination.proofs.direction.check.Goals as goal

pub returns-in_err-refuse_unless : goal.returns-in_err-refuse_unless
unfolding combination_check
returns-in_err-refuse_unless c =
    let concrete = rw c.is_concrete.ensures at c.refuse_unless.ensures in
    ends _ c.from_residual.ensures.1 c.in_err-refuse_unless.was concrete

pub returns-in_err-refuse_unless-2 : goal.returns-in_err-refuse_unless-2
unfolding combination_check
returns-in_err-refuse_unless-2 c =
    let concrete = rw c.is_concrete.ensures at c.refuse_unless.ensures in
    let fits = rw c.fits.ensures at c.refuse_unless-2.ensures in
    went_on concrete c.in_ok-refuse_unless.was
    (ends _ c.from_residual-in_err-refuse_unless-2.ensures.1 c.in_err-refuse_unless-2.was fits)

pub overflow_mul-items : goal.overflow_mul-items
overflow_mul-items c =
    let fits = rw c.fits.ensures at c.refuse_unless-2.ensures in
    let f = combined _ _ _ _ _ _ _ c.args.mode (test-held _ _ (sym fits ∙ c.in_ok-refuse_unless-2.was)) in
    rw c.items.ensures (omega (arith, cells f))

pub returns : goal.returns
unfolding combination_check
returns c =
    let concrete = rw c.is_concrete.ensures at c.refuse_unless.ensures in
    let fits = rw c.fits.ensures at c.refuse_unless-2.ensures in
    went_on concrete c.in_ok-refuse_unless.was
    (went_on fits c.in_ok-refuse_unless-2.was (rw c.items.ensures at c.room_for.ensures))
