use Rattle.std.proofs.Common.{◌∙◌}
use Rattle.timbuk_reader.proofs.keeping.Names.{position-texts}
use Rattle.timbuk_reader.proofs.names.NameTable.find.Goals as goal

pub returns-in_err-number : goal.returns-in_err-number
returns-in_err-number c =
    c.from_residual.ensures ∙ (c.in_err-number.ensures.index ∙ position-texts c.self.inside.names.keys c.args.self.now c.args.name.now c.self.view_is)

pub returns : goal.returns
returns c = c.in_ok-number.ensures.index ∙ position-texts c.self.inside.names.keys c.args.self.now c.args.name.now c.self.view_is
