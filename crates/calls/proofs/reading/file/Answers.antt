use Rattle.std.proofs.Common.{rules}
use Rattle.calls.specs.Files.{Never}
use Rattle.calls.proofs.Replies.{failed, too_long, no_memory, read_whole}
use Rattle.calls.proofs.reading.file.Goals as goal

pub returns-in-Err-Fault-clause-ending : goal.returns-in-Err-Fault-clause-ending
returns-in-Err-Fault-clause-ending g c =
    failed c.args.name.now c.args.limit (λ bytes. Never) _ _ c.read_all.ensures.others c.read_all.ensures.other_faults c.refusal.result c.told.result c.told.ensures c.refusal.ensures (search rules) (search rules)

pub returns-in-Err-TooLong-clause-ending : goal.returns-in-Err-TooLong-clause-ending
returns-in-Err-TooLong-clause-ending g c =
    too_long c.args.name.now c.args.limit (λ bytes. Never) _ _ c.read_all.ensures.others c.read_all.ensures.other_faults c.refusal-in-Err-TooLong.result c.told-in-Err-TooLong.result c.told-in-Err-TooLong.ensures
    c.refusal-in-Err-TooLong.ensures (search rules)

pub returns-in-Err-Memory-clause-ending : goal.returns-in-Err-Memory-clause-ending
returns-in-Err-Memory-clause-ending g c = no_memory c.args.name.now c.args.limit (λ bytes. Never) _ _ c.read_all.ensures.others c.read_all.ensures.other_faults (search rules)

pub returns-in-Ok-clause-read : goal.returns-in-Ok-clause-read
returns-in-Ok-clause-read g c = read_whole c.args.name.now c.args.limit _ _ c.in-Ok.bytes (search rules) c.read_all.ensures.others c.read_all.ensures.other_faults c.read_all.ensures.later
