use Rattle.std.proofs.Common.{sym, subst, ◌∙◌}
use Rattle.timbuk_grammar.specs.declared.terminal.Role.TheVariants as role
use Rattle.timbuk_reader.specs.ApproximationReads.{ReadsLeaf, IsLeaf, AddsArgument}
use Rattle.timbuk_reader.proofs.parsing.ApproximationRules.{argument_closed, argument_advances}
use Rattle.timbuk_reader.proofs.keeping.Approximation.{started_more}
use Rattle.timbuk_reader.proofs.state.Reader.entry_argument.Goals as goal

pub returns-then-sees-clause-reads : goal.returns-then-sees-clause-reads
returns-then-sees-clause-reads c =
    argument_closed c.args.entry.now c.args.self.now c.refusal.result c.requires.room (sym c.sees.ensures.value ∙ c.if-sees.true) c.refusal.ensures

pub returns-clause-reads : goal.returns-clause-reads
returns-clause-reads c =
    let e = c.args.entry.now in
    let r = c.args.self.now in
    let u = c.entry_leaf.new.self in
    argument_advances e r c.requires.room (sym c.sees.ensures.value ∙ c.if-sees.false) u c.in_ok-arg.arg c.add_argument.new.self
    (subst (λ own. ReadsLeaf role.EntryArgument own r c.in_ok-arg.arg u) c.as_slice.ensures c.in_ok-arg.ensures.ok)
    (subst (λ bound. AddsArgument bound c.in_ok-arg.arg e c.add_argument.new.self) c.as_slice-2.ensures c.in_ok-add_argument.ensures)

pub returns-clause-started : goal.returns-clause-started
returns-clause-started c =
    let e = c.args.entry.now in
    let u = c.entry_leaf.new.self in
    started_more c.args.self.now u e c.add_argument.new.self c.in_ok-arg.arg c.in_ok-arg.ensures.same c.requires.started
    (subst (λ own. IsLeaf own u c.in_ok-arg.arg) c.as_slice.ensures c.in_ok-arg.ensures.leaf)
    (subst (λ bound. AddsArgument bound c.in_ok-arg.arg e c.add_argument.new.self) c.as_slice-2.ensures c.in_ok-add_argument.ensures)
