use Rattle.std.proofs.Common.{length}
use Rattle.normalise.proofs.Asking.{AsksFirst, shapes_of, args_of}
use Rattle.normalise.proofs.Parts.{depth_of}
use Rattle.normalise.proofs.fitting.Fitting.+ask.Given as goal

abbrev pub decreases-ask : goal.decreases-ask
decreases-ask l = depth_of l.config.now

-- the arguments so far are asked
abbrev pub invariant-loop-part : goal.invariant-loop-part
invariant-loop-part l = AsksFirst l.self.places (shapes_of l.shape) (args_of l.config) (length l.yielded) l.fn.asked.items l.asked.items
