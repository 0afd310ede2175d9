use Rattle.cert_text.proofs.format.Written.{claim_written}
use Rattle.cert_text.proofs.writing.push_claim.Goals as goal

pub returns : goal.returns
returns c = claim_written c.args.sig.now c.args.rounds c.args.precise c.args.automaton.now c.args.images.now c.next.result c.states.result.now c.finals.result.now c.as_slice.result.now c.trans.result.now c.eps.result.now
    c.args.out.now.items c.extend_from_slice.new.self.items c.push_number_line.new.out.items c.push_note.new.out.items c.push_number_line-2.new.out.items c.push_number_line-3.new.out.items c.push_number_line-4.new.out.items c.push_number_line-5.new.out.items c.push_all_trans.new.out.items c.push_all_eps.new.out.items
    c.next.ensures.value c.states.ensures.value c.finals.ensures.value c.as_slice.ensures c.trans.ensures.value c.eps.ensures.value
    c.in_ok-extend_from_slice.ensures.items c.in_ok-push_number_line.ensures c.in_ok-push_note.ensures c.in_ok-push_number_line-2.ensures c.in_ok-push_number_line-3.ensures c.in_ok-push_number_line-4.ensures c.in_ok-push_number_line-5.ensures c.in_ok-push_all_trans.ensures c.in_ok-push_all_eps.ensures
