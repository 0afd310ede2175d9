-- What an output in memory holds (this project's own).
use Rattle.std.specs.Prelude.{ℕ, ◌-◌, List, vec_len}
use Rattle.tim_io.specs.declared.plan.Plan.{Plan}
use Rattle.tim_io.specs.declared.mem_sink.MemSink.{MemSink}

-- the bytes written
abbrev pub written_of : MemSink → List ℕ
written_of sink = sink.bytes.items

-- how many more bytes there is room for
abbrev pub room_of : MemSink → ℕ
room_of sink = sink.room - vec_len sink.bytes

-- how often it has failed
abbrev pub faults_of : MemSink → ℕ
faults_of sink = sink.faults

-- the piece, the calls that fail, and how many calls there were
abbrev pub plan_of : MemSink → Plan
plan_of sink = sink.plan
