use Rattle.std.proofs.Common.{◌≡◌, ◌≤◌, ◌<◌, length, refl, sym, subst, ◌∙◌, arith, Some}
use Rattle.std.specs.Option.{IsSome}
use Rattle.std.proofs.lemmas.Grind.{common_steps}
use Rattle.ranked_terms.specs.Names.{number_of}
use Rattle.timbuk_grammar.specs.Grammar.{name}
use Rattle.timbuk_grammar.specs.declared.terminal.Role.TheVariants as role
use Rattle.timbuk_grammar.specs.declared.terminal.Terminal.TheVariants as terminal
use Rattle.spec_text.specs.declared.fault.SpecKind.TheVariants as kind
use Rattle.spec_text.specs.declared.fault.LimitName.TheVariants as limit
use Rattle.timbuk_reader.specs.declared.approximation.StartedEntry.{StartedEntry}
use Rattle.timbuk_reader.specs.View.{state_of}
use Rattle.timbuk_reader.specs.Reads.{Stops}
use Rattle.timbuk_reader.specs.ApproximationReads.{formed, headed}
use Rattle.timbuk_reader.proofs.parsing.Tokens.{no_word_stops, word_stops, word_advances}
use Rattle.timbuk_reader.proofs.parsing.ApproximationNames.{formed_calm, head_full, head_unknown, head_row, head_arity, head_declared}
use Rattle.timbuk_reader.proofs.state.Reader.entry_head.Goals as goal

pub returns-in_err-name-clause-err : goal.returns-in_err-name-clause-err
returns-in_err-name-clause-err c =
    let e = c.in_err-name.field-0.0 in
    let form = c.args.form.now in
    let stops : Stops (name role.EntryHead) (formed form) c.args.self.now e = no_word_stops (terminal.Named role.EntryHead) (formed form) c.args.self.now e tt (formed_calm form) c.in_err-name.ensures.err in
    grind (arith, common_steps)

pub returns-then-len-ge-MAX_ENTRIES-clause-err : goal.returns-then-len-ge-MAX_ENTRIES-clause-err
returns-then-len-ge-MAX_ENTRIES-clause-err c =
    let r = c.args.self.now in
    let form = c.args.form.now in
    let stands = c.in_ok-name.ensures.ok in
    let many : 1024 ≤ length r.entries = omega arith in
    word_stops (terminal.Named role.EntryHead) (formed form) r c.in_ok-name.name.now (kind.Limit limit.Entries) c.refusal.result tt (formed_calm form) stands
    (head_full form r c.in_ok-name.name.now stands.short many) c.refusal.ensures

pub returns-in_default-clause-err : goal.returns-in_default-clause-err
returns-in_default-clause-err c =
    let r = c.args.self.now in
    let form = c.args.form.now in
    let stands = c.in_ok-name.ensures.ok in
    let few : length r.entries < 1024 = omega arith in
    word_stops (terminal.Named role.EntryHead) (formed form) r c.in_ok-name.name.now kind.UnknownName c.refusal-in_default.result tt (formed_calm form) stands
    (head_unknown form r c.in_ok-name.name.now stands.short few (sym c.find.ensures.value ∙ c.in_default.is)) c.refusal-in_default.ensures

pub unwrap-requires : goal.unwrap-requires
unwrap-requires c =
    let r = c.args.self.now in
    subst IsSome (sym (c.arity.ensures ∙ head_arity (state_of r) c.in_ok-name.name.now c.in-Some.sym (sym c.find.ensures.value ∙ c.in-Some.is))) refl

pub returns-clause-ok : goal.returns-clause-ok
returns-clause-ok c =
    let r = c.args.self.now in
    let u = c.advance.new.self in
    let form = c.args.form.now in
    let stands = c.in_ok-name.ensures.ok in
    let few : length r.entries < 1024 = omega arith in
    let found : number_of r.signature c.in_ok-name.name.now ≡ Some c.in-Some.sym = sym c.find.ensures.value ∙ c.in-Some.is in
    let entry : StartedEntry = record { form = c.in_ok-copy.field-0; sym = c.in-Some.sym; arity = c.unwrap.result; args = c.new.result; own = c.new-2.result } in
    word_advances (terminal.Named role.EntryHead) (formed form) (headed entry) r u c.in_ok-name.name.now c.advance.result.now tt (formed_calm form) stands
    (head_row form r c.in_ok-name.name.now stands.short few c.in-Some.sym found) c.advance.ensures.token c.advance.ensures.end
    (head_declared form r u c.in_ok-name.name.now entry c.in_ok-copy.ensures found (sym c.arity.ensures ∙ c.unwrap.ensures) c.advance.ensures.state c.advance.ensures.bound)
