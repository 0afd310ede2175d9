use Rattle.std.proofs.Common.{◌≡◌, Bool, false, IsTrue, sym, ap, subst}
use Rattle.ranked_terms.specs.declared.term.Config.{Config, State}
use Rattle.normalise.specs.Normalising.{Task, Fits, filled}
use Rattle.normalise.specs.AtWork.{SomeBinds, AlsoMakes, NeverMakes}
use Rattle.normalise.proofs.Asking.{on_ok, whole_never, at_never, node_never, all_three}
use Rattle.normalise.proofs.fitting.Fitting.fits.Goals as goal

pub ask-requires : goal.ask-requires
ask-requires c = subst SomeBinds (sym c.new-asked.ensures.items) (λ v. 0, tt)

pub returns-then-not-branch-clause-no : goal.returns-then-not-branch-clause-no
returns-then-not-branch-clause-no c = λ same fit.
    let task = c.args.self.now in
    let whole = ap (λ (t : Task). t.whole) c.self.view_is in
    let e = c.args.entry.now in
    let bs = c.new-asked.result.items in
    whole_never task e c.args.node.now bs c.new-asked.ensures.items
    (subst (λ W. NeverMakes Config (λ τ. filled task.places τ e.whole) W bs) whole (c.in_ok-ask.ensures.no c.if-not-branch.true)) fit

pub returns-then-not-branch-2-clause-no : goal.returns-then-not-branch-2-clause-no
returns-then-not-branch-2-clause-no c = λ same fit.
    let task = c.args.self.now in
    let whole = ap (λ (t : Task). t.whole) c.self.view_is in
    let at = ap (λ (t : Task). t.state) c.self.view_is in
    let e = c.args.entry.now in
    let bs = c.new-asked.result.items in
    let cs = c.ask.new.asked.items in
    let a = subst (λ W. AlsoMakes Config (λ τ. filled task.places τ e.whole) W bs cs) whole (c.in_ok-ask.ensures.yes c.if-not-branch.false) in
    at_never task e c.args.node.now bs c.new-asked.ensures.items cs a
    (subst (λ q. NeverMakes Config (λ τ. filled task.places τ e.at) (State q) cs) at (c.in_ok-ask_state.ensures.no c.if-not-branch-2.true)) fit

pub returns-clause-yes : goal.returns-clause-yes
returns-clause-yes c =
    let task = c.args.self.now in
    let whole = ap (λ (t : Task). t.whole) c.self.view_is in
    let at = ap (λ (t : Task). t.state) c.self.view_is in
    let e = c.args.entry.now in
    let node = c.args.node.now in
    let bs = c.new-asked.result.items in
    let cs = c.ask.new.asked.items in
    let a = subst (λ W. AlsoMakes Config (λ τ. filled task.places τ e.whole) W bs cs) whole (c.in_ok-ask.ensures.yes c.if-not-branch.false) in
    let ds = c.ask_state.new.asked.items in
    let b = subst (λ q. AlsoMakes Config (λ τ. filled task.places τ e.at) (State q) cs ds) at (c.in_ok-ask_state.ensures.yes c.if-not-branch-2.false) in
    let es = c.ask-2.new.asked.items in
    on_ok c.ask-2.result (λ (x : Bool). IsTrue x → AlsoMakes Config (λ τ. filled task.places τ e.node) node ds es) (λ (x : Bool). IsTrue x → Fits task node e)
    (λ x g yes. all_three task e node bs c.new-asked.ensures.items cs ds es a b (g yes)) c.ask-2.ensures.yes

pub returns-clause-no : goal.returns-clause-no
returns-clause-no c =
    let task = c.args.self.now in
    let whole = ap (λ (t : Task). t.whole) c.self.view_is in
    let at = ap (λ (t : Task). t.state) c.self.view_is in
    let e = c.args.entry.now in
    let node = c.args.node.now in
    let bs = c.new-asked.result.items in
    let cs = c.ask.new.asked.items in
    let a = subst (λ W. AlsoMakes Config (λ τ. filled task.places τ e.whole) W bs cs) whole (c.in_ok-ask.ensures.yes c.if-not-branch.false) in
    let ds = c.ask_state.new.asked.items in
    let b = subst (λ q. AlsoMakes Config (λ τ. filled task.places τ e.at) (State q) cs ds) at (c.in_ok-ask_state.ensures.yes c.if-not-branch-2.false) in
    on_ok c.ask-2.result (λ (x : Bool). x ≡ false → NeverMakes Config (λ τ. filled task.places τ e.node) node ds) (λ (x : Bool). x ≡ false → Fits task node e → ⊥)
    (λ x g fails fit. node_never task e node bs c.new-asked.ensures.items cs ds a b (g fails) fit) c.ask-2.ensures.no
