-- `lines::inner::cones::jabr` meets its contract. Assumes nothing.
use Rattle.lines.proofs.Lines.{jabr-stands}
use Rattle.lines.proofs.inner.cones.jabr.Goals as goal

pub returns : goal.returns
returns c =
    jabr-stands _ _ c.args.net.now.laid _ c.requires _
    (rw (c.ends.ensures, c.jabr_row.ensures))
    (rw (c.single.ensures, c.wr_column.ensures, c.jabr_row-2.ensures))
    (rw (c.single-2.ensures, c.wi_column.ensures, c.jabr_row-3.ensures))
    (rw (c.ends-2.ensures, c.jabr_row-4.ensures))
