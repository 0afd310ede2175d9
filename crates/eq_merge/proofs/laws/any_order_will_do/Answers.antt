use Rattle.eq_merge.proofs.least.AnyOrder.{any_order_will}
use Rattle.eq_merge.proofs.laws.any_order_will_do.Goals as goal

pub returns : goal.returns
returns c = any_order_will
