use Rattle.std.proofs.Common.{◌≡◌, ℕ, List, [], length, true, arith, sym, ap, subst, ◌∙◌}
use Rattle.std.proofs.lemmas.Grind.{common_steps}
use Rattle.ranked_terms.specs.Terms.{is_symbol}
use Rattle.timbuk_grammar.specs.Grammar.{◌then◌, name, transition}
use Rattle.timbuk_grammar.specs.declared.terminal.Role.TheVariants as role
use Rattle.spec_text.specs.Declarations.{Declared, a_symbol, state_head, symbol_head}
use Rattle.timbuk_reader.specs.Meanings.{meant_by}
use Rattle.timbuk_reader.specs.View.{closed}
use Rattle.timbuk_reader.specs.Reads.{Stops, Reads}
use Rattle.timbuk_reader.specs.Patterns.{Advanced}
use Rattle.timbuk_reader.specs.AutomatonReads.{head_arguments, target, headed, begun}
use Rattle.timbuk_reader.proofs.parsing.Parts.{then_stops, later_stops, then_reads}
use Rattle.timbuk_reader.proofs.parsing.Automaton.{closed_ready}
use Rattle.timbuk_reader.proofs.parsing.TransitionHeads.{head_state_below, head_symbol_over, state_head_advances, state_head_stops, constant_advances, constant_stops, function_advances, unknown_head_stops, no_arguments}
use Rattle.timbuk_reader.proofs.state.Reader.transition.Goals as goal
use Rattle.timbuk_reader.proofs.parsing.Arguments.{no_name_stops}

pub returns-in_err-name-clause-reads : goal.returns-in_err-name-clause-reads
returns-in_err-name-clause-reads c =
    let r = c.args.self.now in
    let e = c.in_err-name.field-0.0 in
    let stops : Stops transition closed r e =
    then_stops (name role.TransitionHead) (head_arguments then target) closed r e (no_name_stops role.TransitionHead r e closed (closed_ready r) c.in_err-name.ensures.err) in
    grind (arith, common_steps)

pub returns-in_err-leaf-in-State-clause-reads : goal.returns-in_err-leaf-in-State-clause-reads
returns-in_err-leaf-in-State-clause-reads c =
    let r = c.args.self.now in
    let e = c.in_err-leaf-in-State.field-0.0 in
    let told = c.in_err-leaf-in-State.ensures in
    let means = sym c.meaning.ensures ∙ ap meant_by c.in-State.is in
    let stops : Stops transition closed r e =
    then_stops (name role.TransitionHead) (head_arguments then target) closed r e
    (state_head_stops r c.leaf.new.self c.in_ok-name.name.now c.in_ok-name.ensures.ok told.advanced c.in-State.from means e told.seen told.told) in
    grind (arith, common_steps)

pub epsilon_target-requires-clause-below : goal.epsilon_target-requires-clause-below
epsilon_target-requires-clause-below c =
    let told = c.in_ok-leaf-in-State.ensures in
    head_state_below c.in_ok-name.name.now c.args.self.now c.leaf.new.self c.in-State.from (sym c.meaning.ensures ∙ ap meant_by c.in-State.is) told.0.state

pub returns-in_ok-leaf-in-State-clause-reads : goal.returns-in_ok-leaf-in-State-clause-reads
returns-in_ok-leaf-in-State-clause-reads c =
    let r = c.args.self.now in
    let m = c.leaf.new.self in
    let u = c.epsilon_target.new.self in
    let q = c.in-State.from in
    let o = headed (state_head q) [] in
    let told = c.in_ok-leaf-in-State.ensures in
    let means = sym c.meaning.ensures ∙ ap meant_by c.in-State.is in
    then_reads (name role.TransitionHead) (head_arguments then target) closed o closed r m u c.epsilon_target.result
    (state_head_advances r m c.in_ok-name.name.now c.in_ok-name.ensures.ok told.0 q means told.1)
    (then_reads head_arguments target o o closed m m u c.epsilon_target.result (no_arguments (state_head q) m told.1) c.epsilon_target.ensures.reads)

pub returns-in_err-leaf-in-Symbol-default-eq0-clause-reads : goal.returns-in_err-leaf-in-Symbol-default-eq0-clause-reads
returns-in_err-leaf-in-Symbol-default-eq0-clause-reads c =
    let r = c.args.self.now in
    let f = c.in-Symbol-default-eq0.sym in
    let e = c.in_err-leaf-in-Symbol-default-eq0.field-0.0 in
    let told = c.in_err-leaf-in-Symbol-default-eq0.ensures in
    let means = sym c.meaning.ensures ∙ ap meant_by c.in-Symbol-default-eq0.is ∙ ap (a_symbol f) c.in-Symbol-default-eq0.field-1-test in
    let stops : Stops transition closed r e =
    then_stops (name role.TransitionHead) (head_arguments then target) closed r e
    (constant_stops r c.leaf-in-Symbol-default-eq0.new.self c.in_ok-name.name.now c.in_ok-name.ensures.ok told.advanced f means e told.seen told.told) in
    grind (arith, common_steps)

pub transition_target-requires-clause-over : goal.transition_target-requires-clause-over
transition_target-requires-clause-over c =
    let r = c.args.self.now in
    let f = c.in-Symbol-default-eq0.sym in
    let told = c.in_ok-leaf-in-Symbol-default-eq0.ensures in
    let means = sym c.meaning.ensures ∙ ap meant_by c.in-Symbol-default-eq0.is ∙ ap (a_symbol f) c.in-Symbol-default-eq0.field-1-test in
    let over = subst (λ (d : Declared). is_symbol d.symbols f 0 ≡ true) (sym told.0.state) (head_symbol_over c.in_ok-name.name.now r f 0 means) in
    subst (λ (qs : List ℕ). is_symbol c.leaf-in-Symbol-default-eq0.new.self.signature f (length qs) ≡ true) (sym c.new.ensures) over

pub returns-in_ok-leaf-in-Symbol-default-eq0-clause-reads : goal.returns-in_ok-leaf-in-Symbol-default-eq0-clause-reads
returns-in_ok-leaf-in-Symbol-default-eq0-clause-reads c =
    let r = c.args.self.now in
    let m = c.leaf-in-Symbol-default-eq0.new.self in
    let u = c.transition_target.new.self in
    let f = c.in-Symbol-default-eq0.sym in
    let o = headed (symbol_head f) [] in
    let told = c.in_ok-leaf-in-Symbol-default-eq0.ensures in
    let means = sym c.meaning.ensures ∙ ap meant_by c.in-Symbol-default-eq0.is ∙ ap (a_symbol f) c.in-Symbol-default-eq0.field-1-test in
    let reads = subst (λ (qs : List ℕ). Reads target (headed (symbol_head f) qs) m c.transition_target.result closed u) c.new.ensures c.transition_target.ensures.reads in
    then_reads (name role.TransitionHead) (head_arguments then target) closed o closed r m u c.transition_target.result
    (constant_advances r m c.in_ok-name.name.now c.in_ok-name.ensures.ok told.0 f means told.1)
    (then_reads head_arguments target o o closed m m u c.transition_target.result (no_arguments (symbol_head f) m told.1) reads)

pub returns-in_err-args-in-Symbol-clause-reads : goal.returns-in_err-args-in-Symbol-clause-reads
returns-in_err-args-in-Symbol-clause-reads c =
    let r = c.args.self.now in
    let m = c.advance.new.self in
    let f = c.in-Symbol.sym in
    let n = c.in-Symbol.arity in
    let e = c.in_err-args-in-Symbol.field-0.0 in
    let taken : Advanced r m = record { token = c.advance.result.now; tokens = c.advance.ensures.token; state = c.advance.ensures.state; bound = c.advance.ensures.bound; end = c.advance.ensures.end } in
    let means = sym c.meaning.ensures ∙ ap meant_by c.in-Symbol.is in
    let stops : Stops transition closed r e =
    later_stops (name role.TransitionHead) (head_arguments then target) closed (begun f n) r m e
    (function_advances r m c.in_ok-name.name.now c.in_ok-name.ensures.ok taken f n c.in-Symbol.arity-test.1 means)
    (then_stops head_arguments target (begun f n) m e (c.in_err-args-in-Symbol.ensures.err.by f)) in
    grind (arith, common_steps)

pub transition_target-requires-in-Symbol-clause-over : goal.transition_target-requires-in-Symbol-clause-over
transition_target-requires-in-Symbol-clause-over c =
    let r = c.args.self.now in
    let f = c.in-Symbol.sym in
    let n = c.in-Symbol.arity in
    let means = sym c.meaning.ensures ∙ ap meant_by c.in-Symbol.is in
    let over = subst (λ (d : Declared). is_symbol d.symbols f n ≡ true) (sym (c.in_ok-args-in-Symbol.ensures.same ∙ c.advance.ensures.state)) (head_symbol_over c.in_ok-name.name.now r f n means) in
    subst (λ k. is_symbol c.transition_arguments.new.self.signature f k ≡ true) (sym c.in_ok-args-in-Symbol.ensures.count) over

pub returns-in_ok-args-in-Symbol-clause-reads : goal.returns-in_ok-args-in-Symbol-clause-reads
returns-in_ok-args-in-Symbol-clause-reads c =
    let r = c.args.self.now in
    let m = c.advance.new.self in
    let v = c.transition_arguments.new.self in
    let u = c.transition_target-in-Symbol.new.self in
    let f = c.in-Symbol.sym in
    let n = c.in-Symbol.arity in
    let args = c.in_ok-args-in-Symbol.args in
    let taken : Advanced r m = record { token = c.advance.result.now; tokens = c.advance.ensures.token; state = c.advance.ensures.state; bound = c.advance.ensures.bound; end = c.advance.ensures.end } in
    let means = sym c.meaning.ensures ∙ ap meant_by c.in-Symbol.is in
    then_reads (name role.TransitionHead) (head_arguments then target) closed (begun f n) closed r m u c.transition_target-in-Symbol.result
    (function_advances r m c.in_ok-name.name.now c.in_ok-name.ensures.ok taken f n c.in-Symbol.arity-test.1 means)
    (then_reads head_arguments target (begun f n) (headed (symbol_head f) args) closed m v u c.transition_target-in-Symbol.result (c.in_ok-args-in-Symbol.ensures.ok.by f) c.transition_target-in-Symbol.ensures.reads)

pub returns-in-Variable-clause-reads : goal.returns-in-Variable-clause-reads
returns-in-Variable-clause-reads c =
    let r = c.args.self.now in
    then_stops (name role.TransitionHead) (head_arguments then target) closed r c.refusal.result
    (unknown_head_stops r c.in_ok-name.name.now c.meaning.result c.refusal.result c.in_ok-name.ensures.ok c.meaning.ensures c.in-Variable.is c.refusal.ensures)
