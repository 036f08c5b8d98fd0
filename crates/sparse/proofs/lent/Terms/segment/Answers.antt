use Rattle.sparse.specs.Sparse.{item_of}
use Rattle.sparse.proofs.Pairs.{part-segment}
use Rattle.sparse.proofs.lent.Terms.segment.Goals as goal

pub returns-clause-terms : goal.returns-clause-terms
unfolding item_of
returns-clause-terms c =
    let t = c.args.self.now in
    part-segment t.selector.rows.now t.selector.weights.now _ _ (t.held.rises _ c.requires) (t.held.rows-within _ c.requires) (t.held.weights_within _ c.requires)
