use Rattle.std.proofs.Common.{List, subst}
use Rattle.ta_core.specs.declared.trans.Trans.{Trans}
use Rattle.ta_clean.specs.Uses.{AreUsesOf}
use Rattle.ta_clean.proofs.settling.least_sizes.Goals as goal

pub new-product-requires-clause-first : goal.new-product-requires-clause-first
new-product-requires-clause-first c = subst (λ (ts : List Trans). AreUsesOf ts c.refill.new.self.uses) c.trans-3.ensures.value c.refill.ensures.uses

pub new-product-requires-clause-second : goal.new-product-requires-clause-second
new-product-requires-clause-second c = subst (λ (ts : List Trans). AreUsesOf ts c.refill-2.new.self.uses) c.trans-4.ensures.value c.refill-2.ensures.uses
