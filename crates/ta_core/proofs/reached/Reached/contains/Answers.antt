use Rattle.list_laws.proofs.Members.{is_member}
use Rattle.ta_core.proofs.reached.Reached.contains.Goals as goal

pub returns : goal.returns
returns c = rw (← c.self.view_is) (is_member c.self.inside.states.keys c.args.state c.contains.result c.contains.ensures)
