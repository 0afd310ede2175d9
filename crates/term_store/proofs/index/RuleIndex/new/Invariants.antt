use Rattle.term_store.specs.Index.{IsIndexUpTo}
use Rattle.term_store.proofs.index.RuleIndex.new.Given as goal

abbrev pub invariant-loop-i : goal.invariant-loop-i
invariant-loop-i l = IsIndexUpTo l.rules l.i l.by_root.items
