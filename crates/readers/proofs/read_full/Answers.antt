-- Each read goes on where the one before it ended.
use Rattle.std.proofs.Common.{◌≡◌, ◌+◌, ◌-◌, ◌++◌, ◌∙◌, sym, ap, subst, rules, length, take, length-take-le}
use Rattle.std.proofs.lemmas.List.{take-append-le}
use Rattle.std.proofs.Math.Seq.{take-append-add}
use Rattle.std.specs.Io.KnownBytes.{Consumes}
use Rattle.std.proofs.KnownBytes.{Consumes-trans}
use borrow.Rule.Slice.PartMut.{post_of}
use Rattle.readers.proofs.read_full.Goals as goal

pub loop-done-preserved : goal.loop-done-preserved
loop-done-preserved g c =
    let at = c.loop-done.done in
    let old = c.loop-done.to in
    let n = c.in_ok-n.n in
    let part = c.read.new.buf in
    let before = take at old in
    let after = post_of at (length old - at) old in
    let long : length before ≡ at = length-take-le at old c.loop-done.invariant.1 in
    let joined =
    ap (λ l. before ++ l) (sym (take-append-le n part after c.in_ok-n.ensures.bound.0)) ∙ sym (take-append-add before (part ++ after) n)
    ∙ ap (λ k. take (k + n) (before ++ (part ++ after))) long in (
      search rules,
      search rules,
      subst (Consumes _ _) joined (Consumes-trans _ _ _ _ _ c.loop-done.invariant.2 c.in_ok-n.ensures.bytes.0),
    )
