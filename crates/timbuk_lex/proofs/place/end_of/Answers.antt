use Rattle.std.proofs.Common.{[], refl}
use Rattle.timbuk_lex.proofs.place.end_of.Goals as goal

pub returns : goal.returns
returns c = c.after.ensures.follows [] (rw c.first.ensures (record { line = refl; column = refl }))
