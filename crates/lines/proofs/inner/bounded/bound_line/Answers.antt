-- `lines::inner::bounded::bound_line` meets its contract: the numbers are the row's, and the right side is its b. Assumes nothing.
use Rattle.lines.proofs.Lines.{wub-stands, wlb-stands, pgub-stands, pglb-stands, qgub-stands, qglb-stands, angub-stands, anglb-stands}
use Rattle.std.proofs.Common.{refl, sym, ◌∙◌, true≢false}
use Rattle.lines.proofs.inner.bounded.bound_line.Goals.{then-s, else-s, then-s-2, else-s-2}
use Rattle.lines.proofs.inner.bounded.bound_line.Goals as goal

pub returns-in-Wub : goal.returns-in-Wub
returns-in-Wub c =
    let is = c.in-Wub.is in
    let s = rw is at c.bound_side-s.ensures in
    rw (is, c.single.ensures, c.wub_row.ensures, c.w_column.ensures, s.rhs, s.on) (wub-stands _ _ c.args.net.now.laid _ (rw is at c.requires))

pub returns-in-Wlb : goal.returns-in-Wlb
returns-in-Wlb c =
    let is = c.in-Wlb.is in
    let s = rw is at c.bound_side-s.ensures in
    rw (is, c.single-in-Wlb.ensures, c.wlb_row.ensures, c.w_column-in-Wlb.ensures, s.rhs, s.on) (wlb-stands _ _ c.args.net.now.laid _ (rw is at c.requires))

pub returns-in-Pgub : goal.returns-in-Pgub
returns-in-Pgub c =
    let is = c.in-Pgub.is in
    let s = rw is at c.bound_side-s.ensures in
    rw (is, c.single-in-Pgub.ensures, c.pgub_row.ensures, c.pg_column.ensures, s.rhs, s.on) (pgub-stands _ _ c.args.net.now.laid _ (rw is at c.requires))

pub returns-in-Pglb : goal.returns-in-Pglb
returns-in-Pglb c =
    let is = c.in-Pglb.is in
    let s = rw is at c.bound_side-s.ensures in
    rw (is, c.single-in-Pglb.ensures, c.pglb_row.ensures, c.pg_column-in-Pglb.ensures, s.rhs, s.on) (pglb-stands _ _ c.args.net.now.laid _ (rw is at c.requires))

pub returns-in-Qgub : goal.returns-in-Qgub
returns-in-Qgub c =
    let is = c.in-Qgub.is in
    let s = rw is at c.bound_side-s.ensures in
    rw (is, c.single-in-Qgub.ensures, c.qgub_row.ensures, c.qg_column.ensures, s.rhs, s.on) (qgub-stands _ _ c.args.net.now.laid _ (rw is at c.requires))

pub returns-in-Qglb : goal.returns-in-Qglb
returns-in-Qglb c =
    let is = c.in-Qglb.is in
    let s = rw is at c.bound_side-s.ensures in
    rw (is, c.single-in-Qglb.ensures, c.qglb_row.ensures, c.qg_column-in-Qglb.ensures, s.rhs, s.on) (qglb-stands _ _ c.args.net.now.laid _ (rw is at c.requires))

pub returns-after-s : goal.returns-after-s
returns-after-s c =
    let is = c.in-Angub.is in
    let s = rw is at c.bound_side-s.ensures in
    rw (is, c.angle.ensures, c.angub_row.ensures, s.rhs, s.on)
    (angub-stands _ _ c.args.net.now.laid _ c.if-s.v (rw is at c.requires)
    (elim c.if-s.branch [
      | then-s w ↦ λ h. rw (w.v-is, w.tan_angmax.ensures, w.branch-net.ensures.place, w.branch-net.ensures.bytes) refl
      | else-s w ↦ λ h. absurd (true≢false (sym h ∙ sym s.on ∙ w.if-s.false))
    ]))

pub returns-after-s-2 : goal.returns-after-s-2
returns-after-s-2 c =
    let is = c.in-Anglb.is in
    let s = rw is at c.bound_side-s.ensures in
    rw (is, c.angle-in-Anglb.ensures, c.anglb_row.ensures, s.rhs, s.on)
    (anglb-stands _ _ c.args.net.now.laid _ c.if-s-2.v (rw is at c.requires)
    (elim c.if-s-2.branch [
      | then-s-2 w ↦ λ h. rw (w.v-is, w.tan_angmin-v.ensures, w.branch-net-then-s-2.ensures.place, w.branch-net-then-s-2.ensures.bytes) refl
      | else-s-2 w ↦ λ h. absurd (true≢false (sym h ∙ sym s.on ∙ w.if-s-2.false))
    ]))
