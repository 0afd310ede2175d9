use Rattle.std.proofs.Common.{◌≡◌, sym, ap, ◌∙◌, subst}
use Rattle.ta_core.specs.SpecRules.{shape_occurrences}
use Rattle.spec_text.specs.Naming.{shape_of}
use Rattle.timbuk_reader.specs.Patterns.{Builds, IsNoVariable}
use Rattle.spec_text.specs.lemmas.Variables.{Binds}
use Rattle.spec_text.specs.lemmas.Shapes.{same_occurrences, same_over}
use Rattle.timbuk_reader.proofs.state.Reader.side.Goals as goal

pub returns-clause-reads : goal.returns-clause-reads
returns-clause-reads c =
    let r = c.args.self.now in
    let u = c.pattern.new.self in
    let side = c.in-Some.side in
    let is : shape_of side ≡ c.in_ok-shape.shape = rw c.in-Some.is at c.in_ok-side.ensures in
    let read = c.in_ok-shape.ensures in
    record {
      builds = subst (λ s. Builds c.args.role 0 r s u) (sym is) read.reads;
      over = same_over r.signature side ∙ (rw is read.fits.over);
      binds = subst (λ vs. Binds c.args.role r.bound vs u.bound) (sym (same_occurrences side ∙ ap shape_occurrences is)) read.fits.binds;
      no_variable = subst (IsNoVariable c.args.role 0) (sym is) read.left;
      same = read.fits.same;
    }
