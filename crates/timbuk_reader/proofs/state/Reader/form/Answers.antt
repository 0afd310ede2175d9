use Rattle.timbuk_reader.proofs.parsing.ApproximationRules.{at_advances}
use Rattle.timbuk_reader.proofs.keeping.Approximation.{form_is}
use Rattle.timbuk_reader.proofs.state.Reader.form.Goals as goal

pub returns-clause-ok : goal.returns-clause-ok
returns-clause-ok c =
    at_advances c.args.self.now c.entry_leaf.new.self c.bind_leaf.new.self (record { whole = c.args.whole; at = c.shape.result }) c.in_ok-at.at c.shape.ensures c.in_ok-at.ensures.ok
    c.in_ok-bind_leaf.ensures.same c.in_ok-bind_leaf.ensures.bound c.in_ok-bind_leaf.ensures.tokens

pub returns-clause-form : goal.returns-clause-form
returns-clause-form c =
    form_is c.args.self.now c.entry_leaf.new.self c.bind_leaf.new.self (record { whole = c.args.whole; at = c.shape.result }) c.in_ok-at.at c.requires c.shape.ensures
    c.in_ok-bind_leaf.ensures.same.state c.in_ok-at.ensures.same.state c.in_ok-at.ensures.same.bound c.in_ok-bind_leaf.ensures.bound c.in_ok-at.ensures.leaf
