use Rattle.std.proofs.Common.{◌≡◌, ◌<◌, false, sym, ◌∙◌, arith}
use Rattle.std.proofs.lemmas.Grind.{common_steps}
use Rattle.timbuk_grammar.specs.declared.terminal.Terminal.TheVariants as terminal
use Rattle.spec_text.specs.Reading.{sees}
use Rattle.timbuk_reader.specs.Meanings.{meant_by}
use Rattle.timbuk_reader.specs.Patterns.{Breaks}
use Rattle.timbuk_reader.proofs.parsing.Patterns.{close_breaks, no_name_breaks, name_breaks}
use Rattle.timbuk_reader.proofs.state.Reader.pattern_head.Goals as goal
use Rattle.timbuk_reader.proofs.state.Reader.pattern_head.Goals.{else-depth-gt0-via-then-depth-gt0+else-sees, else-depth-gt0-via-else-depth-gt0}

pub returns-then-sees-clause-err : goal.returns-then-sees-clause-err
returns-then-sees-clause-err c = close_breaks c.args.role c.requires.role c.args.self.now c.args.depth c.refusal.result c.if-depth-gt0.true (sym c.sees.ensures.value ∙ c.if-sees.true) c.refusal.ensures

pub returns-in_err-name-clause-err : goal.returns-in_err-name-clause-err
returns-in_err-name-clause-err c =
    let e = c.in_err-name.field-0.0 in
    let unclosed : 0 < c.args.depth → sees terminal.CloseParen c.args.self.now.tokens.now ≡ false = elim c.else-depth-gt0.branch [
      | else-depth-gt0-via-then-depth-gt0+else-sees w ↦ λ h. sym w.sees.ensures.value ∙ w.if-sees.false
      | else-depth-gt0-via-else-depth-gt0 w ↦ λ h. absurd (omega arith)
    ] in
    let breaks : Breaks c.args.role c.args.depth c.args.self.now e = no_name_breaks c.args.role c.requires.role c.args.self.now c.args.depth e c.in_err-name.ensures.err unclosed in
    grind (arith, common_steps)

pub returns-in-Some-clause-err : goal.returns-in-Some-clause-err
returns-in-Some-clause-err c =
    name_breaks c.args.role c.requires.role c.args.self.now c.args.depth c.in_ok-name.name.now (meant_by c.meaning-meaning.result) c.in-Some.kind c.refusal-in-Some.result
    c.in_ok-name.ensures.ok (sym c.meaning-meaning.ensures) (sym c.pattern_fault.ensures ∙ c.in-Some.is) c.refusal-in-Some.ensures

pub returns-in-None-clause-ok : goal.returns-in-None-clause-ok
returns-in-None-clause-ok c = record {
  text = c.in_ok-name.name.now;
  stands = c.in_ok-name.ensures.ok;
  means = sym c.meaning-meaning.ensures;
  fits = sym c.pattern_fault.ensures ∙ c.in-None.is;
}
