use Rattle.std.proofs.Common.{◌==◌, sym, ap, ◌∙◌}
use Rattle.std.specs.List.{list_any}
use Rattle.spec_text.specs.lemmas.Variables.{is_some_position}
use Rattle.timbuk_reader.proofs.state.Reader.is_bound.Goals as goal

pub returns : goal.returns
returns c = c.contains.ensures ∙ ap (list_any (λ w. c.args.variable == w)) c.as_slice.ensures ∙ sym (is_some_position (λ w. c.args.variable == w) c.args.self.now.bound)
