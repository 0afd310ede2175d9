use Rattle.std.proofs.Common.{List, ◌↔◌, ℕ, subst}
use Rattle.ta_core.specs.declared.trans.Trans.{Trans}
use Rattle.ta_core.specs.Meeting.{Meets}
use Rattle.ta_clean.specs.Tables.{IsMarked}
use Rattle.ta_clean.specs.Products.{TwoAutomata}
use Rattle.ta_clean.specs.Uses.{AreUsesOf}
use Rattle.ta_clean.proofs.meeting.Meetings.mark.Goals as goal

pub new-product-requires-clause-first : goal.new-product-requires-clause-first
new-product-requires-clause-first c = subst (λ (all : List Trans). AreUsesOf all c.refill.new.self.uses) c.trans.ensures.value c.refill.ensures.uses

pub new-product-requires-clause-second : goal.new-product-requires-clause-second
new-product-requires-clause-second c = subst (λ (all : List Trans). AreUsesOf all c.refill-2.new.self.uses) c.trans-2.ensures.value c.refill-2.ensures.uses

pub returns-clause-exact : goal.returns-clause-exact
returns-clause-exact c = subst (λ (both : TwoAutomata). (pair : ℕ × ℕ) → IsMarked c.mark_all.new.grid pair ↔ Meets both.first both.second pair) c.new-product.ensures c.mark_all.ensures.exact
