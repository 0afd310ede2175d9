use Rattle.std.proofs.Common.{◌∙◌, get_or, bit_or, ap, arith}
use Rattle.reach_rows.proofs.Words.{joining_starts, joining_same, joining_more, joined_members}
use Rattle.reach_rows.proofs.bits.join_words.Goals as goal
use Rattle.reach_rows.proofs.bits.join_words.Goals.{then-both-words, else-both-words}

pub loop-at-init : goal.loop-at-init
loop-at-init c = joining_starts c.args.words.now c.args.others.now

pub loop-at-preserved : goal.loop-at-preserved
loop-at-preserved c = elim c.if-both-words.branch [
  | then-both-words w ↦ joining_more c.args.words.now c.args.others.now c.loop-at.words c.loop-at.at c.loop-at.more c.loop-at.invariant c.united-both.result (c.united-both.ensures.value ∙ ap (bit_or (get_or c.loop-at.words c.loop-at.at 0)) c.word_at.ensures) c.if-both-words.words c.if-both-words.more (omega (arith, c.loop-at.auto.words, c.loop-at-test.true)) w.if-both-words.true c.united-both.ensures.small w.words-is w.more-is
  | else-both-words w ↦ joining_same c.args.words.now c.args.others.now c.loop-at.words c.loop-at.at c.loop-at.more c.loop-at.invariant c.united-both.result (c.united-both.ensures.value ∙ ap (bit_or (get_or c.loop-at.words c.loop-at.at 0)) c.word_at.ensures) c.if-both-words.words c.if-both-words.more w.if-both-words.false w.words-is w.more-is
]

pub returns : goal.returns
returns c = record {
  members = joined_members c.args.words.now c.args.others.now c.loop-at.words (λ i l. c.loop-at.invariant.joined.done i (omega (arith, l, c.loop-at-test.false))) c.loop-at.auto.words c.requires;
  length = c.loop-at.auto.words;
  same = c.loop-at.invariant.same;
  falls = c.loop-at.invariant.falls;
}
