-- The layout and the count that the record check's pass gives, where it accepts. Assumes nothing.
use Rattle.std.proofs.Common.{ℕ, ◌≤◌, ◌<◌, ◌≡◌, refl, sym, ap, ◌∙◌, List, arith, Result, Ok}
use native.Mathlib.Nat.{min-eq_left}
use Rattle.refusals.specs.Refusals.{passed, answer_if}
use Rattle.refusals.specs.declared.Refusal.{Refusal}
use Rattle.refusals.proofs.Laws.{held_by}
use Rattle.records.specs.Check.{check_of}
use Rattle.records.specs.Network.{network_of}
use Rattle.records.proofs.Laws.{accepted}
use Rattle.numbering.specs.Numbering.{nvar, ncon}
use Rattle.numbering.specs.Laid.{Laid}
use Rattle.numbering.specs.Layout.{layout_of, nvar_of, ncon_of}
use Rattle.numbering.specs.Lookups.{new_layout, checked_layout}
use Rattle.numbering.specs.Network.{Opened}
use Rattle.numbering.specs.Tally.{tally_of}
use Rattle.numbering.specs.declared.CheckedLayout.{CheckedLayout}
use Rattle.numbering.specs.declared.SocWrLayout.{SocWrLayout}
use Rattle.numbering.specs.declared.network.Network.{Network}
use Rattle.numbering.specs.declared.Tally.TheVariants.{Limited}
use Rattle.numbering.proofs.Laid.{laid, laid-nvar, laid-ncon}
use Rattle.numbering.proofs.Layouts.{limited-before}

-- the layout alone
module _ (n m k s : ℕ) (b : List ℕ) {r : Result SocWrLayout Refusal} {l : SocWrLayout} (p : r ≡ new_layout n m k s b) (h : r ≡ Ok l) where
  pub new-check : check_of n m k s b ≡ passed
  new-check = (held_by _ _ p h).0

  pub new-layout : l ≡ layout_of (network_of n m k s b)
  new-layout = sym (held_by _ _ p h).1

  pub new-laid : Laid l b
  new-laid = laid n m k s b (accepted n m k s b new-check) new-layout

-- the network
module _ (n m k s : ℕ) (b : List ℕ) {w : Network} (o : Opened n m k s b w) where
  pub opened-nvar : nvar_of w.layout ≡ nvar (network_of n m k s b)
  opened-nvar = laid-nvar w.layout w.bytes.now w.laid ∙ rw (o.layout, o.bytes) refl

  pub opened-ncon : ncon_of w.layout ≡ ncon (network_of n m k s b)
  opened-ncon = laid-ncon w.layout w.bytes.now w.laid ∙ rw (o.layout, o.bytes) refl

-- the layout with the limited branches before branch e
module _ (n m k s : ℕ) (b : List ℕ) (e : ℕ) {r : Result CheckedLayout Refusal} {x : CheckedLayout} (p : r ≡ answer_if (check_of n m k s b) (checked_layout n m k s b e)) (h : r ≡ Ok x) where
  pub pass-check : check_of n m k s b ≡ passed
  pass-check = (held_by _ _ p h).0

  pub pass-layout : x.layout ≡ layout_of (network_of n m k s b)
  pass-layout = sym (ap (λ (y : CheckedLayout). y.layout) (held_by _ _ p h).1)

  pub pass-laid : Laid x.layout b
  pass-laid = laid n m k s b (accepted n m k s b pass-check) pass-layout

  pub pass-before : e < m → x.before ≡ tally_of Limited b n e
  pass-before l =
      let q : e ≤ m = omega arith in
      sym (rw (min-eq_left q) at (ap (λ (y : CheckedLayout). y.before) (held_by _ _ p h).1)) ∙ sym (limited-before n m k s b e)
