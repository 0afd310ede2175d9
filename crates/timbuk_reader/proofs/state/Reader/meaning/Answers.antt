use Rattle.std.proofs.Common.{sym, ap, ◌∙◌, Some, None}
use Rattle.std.specs.Prelude.{unwrap_or}
use Rattle.timbuk_reader.specs.View.{state_of}
use Rattle.spec_text.specs.Declarations.{a_symbol}
use Rattle.timbuk_reader.proofs.keeping.Meanings.{means_symbol, means_variable, means_state}
use Rattle.timbuk_reader.proofs.state.Reader.meaning.Goals as goal

pub returns-in-Some : goal.returns-in-Some
returns-in-Some c =
    ap (a_symbol c.in-Some.sym) (c.unwrap_or.ensures ∙ ap (λ o. unwrap_or o 0) c.arity.ensures) ∙ sym (means_symbol (state_of c.args.self.now) c.args.role c.args.name.now c.in-Some.sym (sym c.in-Some.ensures))

pub returns-in-Some-variable_at : goal.returns-in-Some-variable_at
returns-in-Some-variable_at c = sym (means_variable (state_of c.args.self.now) c.args.role c.args.name.now c.in-Some-variable_at.variable (sym c.in_default.ensures) (sym c.in-Some-variable_at.ensures))

pub returns-in-Some-state_at : goal.returns-in-Some-state_at
returns-in-Some-state_at c = sym (means_state (state_of c.args.self.now) c.args.role c.args.name.now (Some c.in-Some-state_at.state) (sym c.in_default.ensures) (sym c.in_default-variable_at.ensures) (sym c.in-Some-state_at.ensures))

pub returns-in-None : goal.returns-in-None
returns-in-None c = sym (means_state (state_of c.args.self.now) c.args.role c.args.name.now None (sym c.in_default.ensures) (sym c.in_default-variable_at.ensures) (sym c.in-None.ensures))
