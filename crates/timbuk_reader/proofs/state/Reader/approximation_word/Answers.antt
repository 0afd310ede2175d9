use Rattle.std.proofs.Common.{sym, ◌∙◌, arith}
use Rattle.timbuk_reader.proofs.parsing.ApproximationSection.{early_stops, other_stops, second_stops, word_advances}
use Rattle.timbuk_reader.proofs.state.Reader.approximation_word.Goals as goal
use Rattle.timbuk_reader.proofs.state.Reader.approximation_word.Goals.{then-self-eq0-via-then-self-eq0, then-self-eq0-via-else-self-eq0+then-not-sees}

pub returns-then-self-eq0-clause-reads : goal.returns-then-self-eq0-clause-reads
returns-then-self-eq0-clause-reads c = elim c.then-self-eq0.branch [
  | then-self-eq0-via-then-self-eq0 w ↦ early_stops c.args.self.now c.refusal.result w.if-self-eq0.true c.refusal.ensures
  | then-self-eq0-via-else-self-eq0+then-not-sees w ↦ other_stops c.args.self.now c.refusal.result (sym w.sees.ensures.value ∙ w.if-not-sees.true) c.refusal.ensures
]

pub returns-then-self-ge-MAX_APPROXIMATIONS-clause-reads : goal.returns-then-self-ge-MAX_APPROXIMATIONS-clause-reads
returns-then-self-ge-MAX_APPROXIMATIONS-clause-reads c =
    second_stops c.args.self.now c.refusal-then-self-ge-MAX_APPROXIMATIONS.result (sym c.sees.ensures.value ∙ c.if-not-sees.false) c.if-self-eq0.false c.if-self-ge-MAX_APPROXIMATIONS.true c.refusal-then-self-ge-MAX_APPROXIMATIONS.ensures

pub returns-clause-reads : goal.returns-clause-reads
returns-clause-reads c = record {
  by = word_advances c.args.self.now c.advance.new.self c.advance.result.now (sym c.sees.ensures.value ∙ c.if-not-sees.false) c.if-self-eq0.false (omega arith) c.advance.ensures.token c.advance.ensures.state c.advance.ensures.end;
}
