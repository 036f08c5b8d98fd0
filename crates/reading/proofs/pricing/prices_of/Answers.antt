-- Where nothing is refused, each half is negated from its block's first row on.
use Rattle.std.proofs.Common.{sym, ◌∙◌, arith}
use Rattle.refusals.proofs.Laws.{ends, left_stopped, answer-held}
use Rattle.numbering.specs.declared.RowName.TheVariants.{Pbal, Qbal}
use Rattle.numbering.proofs.Numbers.{layout_row_lem, layout-ncon}
use Rattle.reading.proofs.Readings.{prices_went, prices_left}
use Rattle.reading.proofs.pricing.prices_of.Goals as goal

pub returns-in_err-prices_cause : goal.returns-in_err-prices_cause
returns-in_err-prices_cause c =
    let e = c.prices_cause.ensures in
    let h = c.in_err-prices_cause.was in
    record { value = ends _ c.from_residual.ensures.1 h e; prices_after = left_stopped e _ _ h }

pub negate_both-requires : goal.negate_both-requires
negate_both-requires c =
    let w = c.args.net.now in
    let l = w.layout in
    let p = prices_went w _ _ (sym c.prices_cause.ensures ∙ c.in_ok-prices_cause.was) in (
      omega (arith, c.pbal_row-active.ensures, layout_row_lem l (Pbal 0), layout-ncon l, p.0),
      omega (arith, c.qbal_row-reactive.ensures, layout_row_lem l (Qbal 0), layout-ncon l, p.0),
      p.1,
    )

pub returns : goal.returns
returns c =
    let h = sym c.prices_cause.ensures ∙ c.in_ok-prices_cause.was in
    let after = prices_left c.args.net.now _ _ _ c.pbal_row-active.ensures c.qbal_row-reactive.ensures h c.negate_both.ensures in
    record { value = sym (answer-held _ h); prices_after = after }
