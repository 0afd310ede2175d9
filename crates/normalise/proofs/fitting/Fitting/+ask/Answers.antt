use Rattle.std.proofs.Common.{◌≡◌, [], ◌∷◌, ◌++◌, ◌+◌, length, sym, ap, subst, ◌∙◌, arith}
use Rattle.std.specs.List.{Contains}
use Rattle.std.proofs.lemmas.List.{length-append}
use Rattle.std.proofs.lemmas.Slice.Zip.{zip_turn, zip_end}
use Rattle.ranked_terms.specs.declared.term.Config.{Config}
use Rattle.ranked_terms.specs.declared.term.Shape.TheVariants as shape
use Rattle.normalise.specs.Normalising.{filled}
use Rattle.normalise.specs.AtWork.{AlsoMakes, NeverMakes}
use Rattle.normalise.proofs.Asking.{AsksFirst, asks_none, asks_more, asks_never, asks_all, node_differs, shapes_of, shapes_of_app, args_of, args_of_app}
use Rattle.normalise.proofs.Parts.{argument_less}
use Rattle.normalise.proofs.fitting.Fitting.+ask.Goals.{then-named-sym-via-then-named-sym, then-named-sym-via-else-named-sym+then-len}
use Rattle.normalise.proofs.fitting.Fitting.+ask.Goals as goal

pub returns-in-State-clause-yes : goal.returns-in-State-clause-yes
returns-in-State-clause-yes t c = rw c.in-State.is c.ask_state.ensures.yes

pub returns-in-State-clause-no : goal.returns-in-State-clause-no
returns-in-State-clause-no t c = rw c.in-State.is c.ask_state.ensures.no

pub returns-then-named-sym-clause-no : goal.returns-then-named-sym-clause-no
returns-then-named-sym-clause-no t c = λ same.
    let h = c.args.self.now.places in
    let s = c.args.shape.now in
    let old = c.args.asked.now.items in
    let differ : (c.in-App-shape.named ≡ c.in-App.sym) × (length c.in-App-shape.shapes ≡ length c.in-App.args) → ⊥ = elim c.then-named-sym.branch [
      | then-named-sym-via-then-named-sym w ↦ λ p. w.if-named-sym.true p.0
      | then-named-sym-via-else-named-sym+then-len w ↦ λ p. w.if-len.true (w.len.ensures ∙ (p.1 ∙ sym w.len-else-named-sym.ensures))
    ] in
    subst (λ d. NeverMakes Config (λ τ. filled h τ s) d old) (sym c.in-App.is)
    (node_differs h s c.in-App-shape.named c.in-App.sym c.in-App-shape.shapes c.in-App.args old c.in-App-shape.is differ)

pub loop-part-init : goal.loop-part-init
loop-part-init t c = asks_none c.args.self.now.places (shapes_of c.args.shape.now) (args_of c.args.config.now) c.args.asked.now.items c.requires

pub ask-requires : goal.ask-requires
ask-requires t c =
    let shapes = c.in-App-shape.shapes in
    let args = c.in-App.args in
    let turn = zip_turn shapes args c.loop-part.yielded c.into_iter-part-iterator.result c.loop-part.part-iterator c.next.new.self c.next.result (cc) (cc) c.loop-part.yielded_by
    (c.in-Some.part, c.in-Some.arg) c.in-Some.is c.next.ensures.steps in
    let arg = c.in-Some.arg.now in
    let is : Contains args arg = (length c.loop-part.yielded, turn.1, sym (turn.3 arg)) in
    let less = argument_less c.in-App.sym args arg c.args.config.now c.in-App.is is in
    (omega (arith, c.decreases, less), c.loop-part.invariant.some)

pub returns-then-not-branch-clause-no : goal.returns-then-not-branch-clause-no
returns-then-not-branch-clause-no t c = λ same.
    let h = c.args.self.now.places in
    let s = c.args.shape.now in
    let old = c.args.asked.now.items in
    let mid = c.loop-part.asked.items in
    let shapes = c.in-App-shape.shapes in
    let args = c.in-App.args in
    let n = length c.loop-part.yielded in
    let turn = zip_turn shapes args c.loop-part.yielded c.into_iter-part-iterator.result c.loop-part.part-iterator c.next.new.self c.next.result (cc) (cc) c.loop-part.yielded_by
    (c.in-Some.part, c.in-Some.arg) c.in-Some.is c.next.ensures.steps in
    let so_far : AsksFirst h shapes args n old mid =
    subst (λ cs. AsksFirst h shapes cs n old mid) (args_of_app c.args.config.now c.in-App.sym args c.in-App.is)
    (subst (λ ss. AsksFirst h ss (args_of c.args.config.now) n old mid) (shapes_of_app s c.in-App-shape.named shapes c.in-App-shape.is) c.loop-part.invariant) in
    let root = c.in-App-shape.is ∙ ap (λ f. shape.App f shapes) (c.if-named-sym.false) in
    subst (λ d. NeverMakes Config (λ τ. filled h τ s) d old) (sym c.in-App.is)
    (asks_never h shapes args n c.in-App.sym s c.in-Some.part.now c.in-Some.arg.now old mid root turn.0 turn.1 (turn.2 c.in-Some.part.now) (turn.3 c.in-Some.arg.now) so_far (c.in_ok-ask.ensures.no c.if-not-branch.true))

pub loop-part-preserved : goal.loop-part-preserved
loop-part-preserved t c =
    let h = c.args.self.now.places in
    let s = c.args.shape.now in
    let old = c.args.asked.now.items in
    let mid = c.loop-part.asked.items in
    let new = c.ask.new.asked.items in
    let shapes = c.in-App-shape.shapes in
    let args = c.in-App.args in
    let n = length c.loop-part.yielded in
    let turn = zip_turn shapes args c.loop-part.yielded c.into_iter-part-iterator.result c.loop-part.part-iterator c.next.new.self c.next.result (cc) (cc) c.loop-part.yielded_by
    (c.in-Some.part, c.in-Some.arg) c.in-Some.is c.next.ensures.steps in
    let is-shapes = shapes_of_app s c.in-App-shape.named shapes c.in-App-shape.is in
    let is-args = args_of_app c.args.config.now c.in-App.sym args c.in-App.is in
    let so_far : AsksFirst h shapes args n old mid =
    subst (λ cs. AsksFirst h shapes cs n old mid) is-args (subst (λ ss. AsksFirst h ss (args_of c.args.config.now) n old mid) is-shapes c.loop-part.invariant) in
    let next = asks_more h shapes args n c.in-Some.part.now c.in-Some.arg.now old mid new turn.0 turn.1 (turn.2 c.in-Some.part.now) (turn.3 c.in-Some.arg.now) so_far (c.in_ok-ask.ensures.yes c.if-not-branch.false) in
    let more : n + 1 ≡ length (c.loop-part.yielded ++ (c.in-Some.part, c.in-Some.arg) ∷ []) = sym (length-append c.loop-part.yielded ((c.in-Some.part, c.in-Some.arg) ∷ [])) in
    subst (λ m. AsksFirst h (shapes_of s) (args_of c.args.config.now) m old new) more
    (subst (λ ss. AsksFirst h ss (args_of c.args.config.now) (n + 1) old new) (sym is-shapes) (subst (λ cs. AsksFirst h shapes cs (n + 1) old new) (sym is-args) next))

pub returns-clause-yes : goal.returns-clause-yes
returns-clause-yes t c = λ same.
    let h = c.args.self.now.places in
    let s = c.args.shape.now in
    let old = c.args.asked.now.items in
    let mid = c.loop-part.asked.items in
    let shapes = c.in-App-shape.shapes in
    let args = c.in-App.args in
    let n = length c.loop-part.yielded in
    let end = zip_end shapes args c.loop-part.yielded c.into_iter-part-iterator.result c.loop-part.part-iterator c.next.new.self c.next.result (cc) (cc) c.loop-part.yielded_by
    c.in-None.is c.next.ensures.steps in
    let so_far : AsksFirst h shapes args n old mid =
    subst (λ cs. AsksFirst h shapes cs n old mid) (args_of_app c.args.config.now c.in-App.sym args c.in-App.is)
    (subst (λ ss. AsksFirst h ss (args_of c.args.config.now) n old mid) (shapes_of_app s c.in-App-shape.named shapes c.in-App-shape.is) c.loop-part.invariant) in
    let root = c.in-App-shape.is ∙ ap (λ f. shape.App f shapes) (c.if-named-sym.false) in
    let long : length shapes ≡ length args = sym c.len.ensures ∙ (c.if-len.false ∙ c.len-else-named-sym.ensures) in
    subst (λ d. AlsoMakes Config (λ τ. filled h τ s) d old mid) (sym c.in-App.is)
    (asks_all h shapes args n c.in-App.sym s old mid root (omega (arith, end, long)) (omega (arith, end, long)) so_far)
