use Rattle.std.proofs.Common.{◌≡◌, ℕ, Bool, false, IsTrue}
use Rattle.ranked_terms.specs.declared.term.Config.{Config, State}
use Rattle.normalise.specs.Normalising.{filled}
use Rattle.normalise.specs.AtWork.{AlsoMakes, NeverMakes}
use Rattle.normalise.proofs.Asking.{on_ok, var_yes, var_no}
use Rattle.normalise.proofs.fitting.Fitting.ask_state.Goals as goal

pub returns-in-Var-clause-yes : goal.returns-in-Var-clause-yes
returns-in-Var-clause-yes c =
    let h = c.args.self.now.places in
    let s = c.args.shape.now in
    let old = c.args.asked.now.items in
    let new = c.bind.new.asked.items in
    on_ok c.bind.result (λ (b : Bool). IsTrue b → AlsoMakes ℕ (λ τ. τ c.in-Var.var) c.args.state old new) (λ (b : Bool). IsTrue b → AlsoMakes Config (λ τ. filled h τ s) (State c.args.state) old new)
    (λ b f yes. var_yes h s c.in-Var.var c.args.state old new c.in-Var.is (f yes)) c.bind.ensures.yes

pub returns-in-Var-clause-no : goal.returns-in-Var-clause-no
returns-in-Var-clause-no c =
    let h = c.args.self.now.places in
    let s = c.args.shape.now in
    let old = c.args.asked.now.items in
    on_ok c.bind.result (λ (b : Bool). b ≡ false → NeverMakes ℕ (λ τ. τ c.in-Var.var) c.args.state old) (λ (b : Bool). b ≡ false → NeverMakes Config (λ τ. filled h τ s) (State c.args.state) old)
    (λ b f no_one. var_no h s c.in-Var.var c.args.state old c.in-Var.is (f no_one)) c.bind.ensures.no
