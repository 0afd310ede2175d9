-- The calls of an object in memory, counted from 1, and those that fail (this project's own).
use Rattle.std.specs.Prelude.{Contains}
use Rattle.tim_io.specs.Causes.{one_more}
use Rattle.tim_io.specs.declared.plan.Plan.{Plan}

-- the plan after one more call
abbrev pub after_call : Plan → Plan
after_call plan = record plan { calls = one_more plan.calls }

-- the next call is to fail
abbrev pub FailsNext : Plan → Type 0
FailsNext plan = Contains plan.fails (one_more plan.calls)
