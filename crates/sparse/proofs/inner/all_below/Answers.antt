use Rattle.std.proofs.Common.{rules, tests, ◌&&◌, true, ltb, ◌∙◌}
use Rattle.std.proofs.lemmas.Iterator.{YieldsList-from_slice}
use Rattle.std.proofs.lemmas.Iterator.Consumers.{fold_from_yields_List}
use Rattle.sparse.proofs.Folds.{folded}
use Rattle.sparse.specs.Checks.{all_below}
use Rattle.sparse.proofs.inner.all_below.Goals as goal

pub returns : goal.returns
unfolding all_below
returns c =
    fold_from_yields_List _ (λ a x. a && ltb x c.args.limit) _ _ c.fold.ensures.ran (YieldsList-from_slice c.args.s.now cc) (λ a x b q k. search (rules, tests))
    ∙ folded ◌&&◌ true (λ x. ltb x c.args.limit) c.args.s.now 0
