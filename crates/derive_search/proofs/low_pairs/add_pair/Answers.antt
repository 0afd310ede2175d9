use Rattle.std.proofs.lemmas.Bool.{eqb-true}
use Rattle.derive_search.proofs.pairs.LowPairLaws.{added, same_pair}
use Rattle.derive_search.proofs.low_pairs.add_pair.Goals as goal

pub returns : goal.returns
returns c = added _ (λ x y h. same_pair x y _ _ (λ e. eqb-true x.0 y.0 e) (λ e. eqb-true x.1 y.1 e) h) c.args.pairs.now.keys (c.args.state, c.args.id) c.insert.new.self.keys c.in_ok-insert.ensures.keys
