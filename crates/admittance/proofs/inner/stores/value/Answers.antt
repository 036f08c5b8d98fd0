use Rattle.std.proofs.Common.{◌≡◌, refl, le_refl}
use Rattle.std.specs.Float.{binary64, nan}
use Rattle.std.specs.Float.Ieee.{of_bits}
use Rattle.admittance.proofs.inner.stores.value.Goals as goal

no_number : of_bits binary64 9221120237041090560 ≡ nan
unfolding of_bits
no_number = refl

pub returns : goal.returns
returns c = rw (c.unwrap_or.ensures, c.copied.ensures, no_number) (c.get.ensures.lookup.4 (le_refl _) nan)
