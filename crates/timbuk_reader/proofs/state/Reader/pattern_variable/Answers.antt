use Rattle.std.proofs.Common.{sym, ◌∙◌, arith}
use Rattle.std.proofs.lemmas.Grind.{common_steps}
use Rattle.timbuk_reader.specs.Patterns.{Breaks, SameBut}
use Rattle.timbuk_reader.proofs.keeping.Fits.{same_now, same_then, fits_variable, may_stand}
use Rattle.timbuk_reader.proofs.parsing.Patterns.{variable_breaks, variable_builds}
use Rattle.timbuk_reader.proofs.state.Reader.pattern_variable.Goals as goal

pub returns-in_err-leaf-clause-reads : goal.returns-in_err-leaf-clause-reads
returns-in_err-leaf-clause-reads c =
    let r = c.args.self.now in
    let m = c.bind.new.self in
    let u = c.leaf.new.self in
    let e = c.in_err-leaf.field-0.0 in
    let head = c.requires.head in
    let paren = c.in_err-leaf.ensures in
    let same : SameBut r u = same_then r m u c.in_ok-bind.ensures.same (same_now m u paren.advanced.state paren.advanced.end) in
    let breaks : Breaks c.args.role c.args.depth r e =
    variable_breaks c.args.role c.requires.role r u c.args.depth head.text head.stands paren.advanced.token (sym c.bind.ensures.tokens ∙ paren.advanced.tokens) same c.args.variable e head.means head.fits paren.seen paren.told in
    grind (arith, common_steps)

pub returns-clause-reads : goal.returns-clause-reads
returns-clause-reads c =
    let r = c.args.self.now in
    let m = c.bind.new.self in
    let u = c.leaf.new.self in
    let head = c.requires.head in
    let advanced = c.in_ok-leaf.ensures.0 in
    let same : SameBut r u = same_then r m u c.in_ok-bind.ensures.same (same_now m u advanced.state advanced.end) in
    variable_builds c.args.role c.requires.role r u c.args.depth head.text head.stands advanced.token (sym c.bind.ensures.tokens ∙ advanced.tokens) same c.args.variable head.means head.fits
    (advanced.bound ∙ c.in_ok-bind.ensures.bound) c.in_ok-leaf.ensures.1

pub returns-clause-fits : goal.returns-clause-fits
returns-clause-fits c =
    let r = c.args.self.now in
    let m = c.bind.new.self in
    let u = c.leaf.new.self in
    let head = c.requires.head in
    let advanced = c.in_ok-leaf.ensures.0 in
    fits_variable c.args.role r u c.args.variable (may_stand c.args.role c.args.variable c.args.depth r head.fits)
    (advanced.bound ∙ c.in_ok-bind.ensures.bound) (same_then r m u c.in_ok-bind.ensures.same (same_now m u advanced.state advanced.end))
