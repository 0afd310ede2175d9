use Rattle.std.proofs.Common.{◌-◌, length, take, drop, arith, refl, sym, subst, All}
use Rattle.timbuk_lex.specs.Lexing.{lexed}
use Rattle.timbuk_lex.specs.Pieces.{IsLength}
use Rattle.timbuk_lex.proofs.Cutting.{more_gap, more_token, more_place, more_within, shorter, all_at_end, all_at_fault}
use Rattle.timbuk_lex.proofs.Cuts.{lexed_words, lexed_slices, lexed_in_order}
use Rattle.timbuk_lex.specs.Laws.{HasWord, IsSliceOf, InOrder}
use Rattle.timbuk_lex.proofs.lex.lex_of.Goals as goal
use Rattle.timbuk_lex.proofs.lex.lex_of.Goals.{in-Gap, in-Token+in_ok-push-in-Token}

pub loop-start-init : goal.loop-start-init
unfolding lexed
loop-start-init c =
    rw (c.first-place.ensures, c.new-tokens.ensures)
    (record { within = omega arith; bounds = (omega arith, omega arith); place = record { line = refl; column = refl }; so_far = refl })

pub loop-start-preserved : goal.loop-start-preserved
loop-start-preserved c =
    let bytes = c.args.bytes.now in
    let start = c.loop-start.start in
    let before = c.loop-start.invariant in
    let len : IsLength c.match-front.len (length (take (length bytes - start) (drop start bytes))) =
    elim c.match-front.branch [ in-Gap w ↦ rw w.len-is w.in-Gap.ensures.within | in-Token+in_ok-push-in-Token w ↦ rw w.len-is w.in-Token.ensures.within ] in
    record {
      within = more_within bytes start c.match-front.len before.within len.1;
      bounds = (let s = shorter c.match-front.len (take (length bytes - start) (drop start bytes)) in omega arith, let s = shorter c.match-front.len (take (length bytes - start) (drop start bytes)) in omega arith);
      place = more_place bytes start c.match-front.len c.after-place.result (c.after-place.ensures.follows (take start bytes) before.place);
      so_far = elim c.match-front.branch [
        | in-Gap w ↦ rw (w.tokens-is, w.len-is) (more_gap bytes start w.in-Gap.len c.loop-start.tokens (sym w.in-Gap.ensures.value) w.in-Gap.ensures.within before.so_far)
        | in-Token+in_ok-push-in-Token w ↦ rw (w.tokens-is, w.len-is, w.in_ok-push-in-Token.ensures.ok, w.new.ensures)
            (more_token bytes start w.in-Token.len w.in-Token.kind c.loop-start.tokens c.loop-start.place (sym w.in-Token.ensures.value) w.in-Token.ensures.within before.within before.place before.so_far)
      ];
    }

pub returns-in-Fault-clause-words : goal.returns-in-Fault-clause-words
returns-in-Fault-clause-words c = subst (All HasWord) (all_at_fault c.args.bytes.now c.loop-start.start c.in-Fault.why c.loop-start.tokens (omega arith) c.in-Fault.ensures.value c.loop-start.invariant.so_far) (lexed_words c.args.bytes.now)

pub returns-in-Fault-clause-slices : goal.returns-in-Fault-clause-slices
returns-in-Fault-clause-slices c = subst (All (IsSliceOf c.args.bytes.now)) (all_at_fault c.args.bytes.now c.loop-start.start c.in-Fault.why c.loop-start.tokens (omega arith) c.in-Fault.ensures.value c.loop-start.invariant.so_far) (lexed_slices c.args.bytes.now)

pub returns-in-Fault-clause-in_order : goal.returns-in-Fault-clause-in_order
returns-in-Fault-clause-in_order c = subst (InOrder 0) (all_at_fault c.args.bytes.now c.loop-start.start c.in-Fault.why c.loop-start.tokens (omega arith) c.in-Fault.ensures.value c.loop-start.invariant.so_far) (lexed_in_order c.args.bytes.now)

pub returns-clause-words : goal.returns-clause-words
returns-clause-words c = subst (All HasWord) (all_at_end c.args.bytes.now c.loop-start.start c.loop-start.tokens (omega arith) c.loop-start.invariant.so_far) (lexed_words c.args.bytes.now)

pub returns-clause-slices : goal.returns-clause-slices
returns-clause-slices c = subst (All (IsSliceOf c.args.bytes.now)) (all_at_end c.args.bytes.now c.loop-start.start c.loop-start.tokens (omega arith) c.loop-start.invariant.so_far) (lexed_slices c.args.bytes.now)

pub returns-clause-in_order : goal.returns-clause-in_order
returns-clause-in_order c = subst (InOrder 0) (all_at_end c.args.bytes.now c.loop-start.start c.loop-start.tokens (omega arith) c.loop-start.invariant.so_far) (lexed_in_order c.args.bytes.now)
