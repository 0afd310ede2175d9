use Rattle.std.proofs.Common.{drop}
use Rattle.ranked_terms.specs.Texts.{IsCutAt, term_text, to_come}
use Rattle.ranked_terms.proofs.texts.TextLaws.{texts}
use Rattle.ranked_terms.proofs.term.Term.+print_into.Given as goal

abbrev pub invariant-loop-arg : goal.invariant-loop-arg
invariant-loop-arg l = IsCutAt l.fn.out.items (term_text l.sig l.self) l.out.items (to_come l.mark (texts l.sig (drop l.arg-index l.arg-items)))
