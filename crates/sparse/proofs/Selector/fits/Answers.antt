use Rattle.std.proofs.Common.{◌≡◌, true, false, arith}
use Rattle.sparse.specs.Sparse.{items_of}
use Rattle.sparse.specs.Checks.{bounded, selector_fits}
use Rattle.sparse.proofs.Fits.{bounds}
use Rattle.sparse.proofs.Selector.fits.Goals as goal

pub overflow_cast-limit : goal.overflow_cast-limit
overflow_cast-limit c =
    let h : bounded c.args.dim (items_of c.args.self.now.starts.now) ≡ true = cc in
    let b = bounds _ _ h in
    omega arith

pub returns-then-bounded : goal.returns-then-bounded
unfolding selector_fits
returns-then-bounded c =
    let h : bounded c.args.dim (items_of c.args.self.now.starts.now) ≡ true = cc in
    rw (h, c.starts_fit.ensures, c.all_below.ensures)

pub returns : goal.returns
unfolding selector_fits
returns c =
    let h : bounded c.args.dim (items_of c.args.self.now.starts.now) ≡ false = cc in
    rw h
