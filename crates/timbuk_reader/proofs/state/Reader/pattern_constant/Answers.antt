use Rattle.std.proofs.Common.{refl, sym, arith, subst, []}
use Rattle.std.proofs.lemmas.Grind.{common_steps}
use Rattle.ranked_terms.specs.declared.term.Shape.TheVariants as shape
use Rattle.timbuk_reader.specs.View.{state_of}
use Rattle.timbuk_reader.specs.Patterns.{Breaks, Builds, Fits}
use Rattle.timbuk_reader.proofs.keeping.Meanings.{symbol_arity}
use Rattle.timbuk_reader.proofs.keeping.Fits.{same_now, fits_none, fits_application}
use Rattle.timbuk_reader.proofs.parsing.Patterns.{constant_breaks, constant_builds}
use Rattle.timbuk_reader.proofs.state.Reader.pattern_constant.Goals as goal

pub returns-in_err-leaf-clause-reads : goal.returns-in_err-leaf-clause-reads
returns-in_err-leaf-clause-reads c =
    let r = c.args.self.now in
    let u = c.leaf.new.self in
    let e = c.in_err-leaf.field-0.0 in
    let head = c.requires.head in
    let paren = c.in_err-leaf.ensures in
    let breaks : Breaks c.args.role c.args.depth r e =
    constant_breaks c.args.role c.requires.role r u c.args.depth head.text head.stands paren.advanced.token paren.advanced.tokens (same_now r u paren.advanced.state paren.advanced.end) c.args.sym e head.means head.fits paren.seen paren.told in
    grind (arith, common_steps)

pub returns-clause-reads : goal.returns-clause-reads
returns-clause-reads c =
    let r = c.args.self.now in
    let u = c.leaf.new.self in
    let head = c.requires.head in
    let advanced = c.in_ok-leaf.ensures.0 in
    subst (λ args. Builds c.args.role c.args.depth r (shape.App c.args.sym args) u) (sym c.new.ensures)
    (constant_builds c.args.role c.requires.role r u c.args.depth head.text head.stands advanced.token advanced.tokens (same_now r u advanced.state advanced.end) advanced.bound c.args.sym head.means head.fits c.in_ok-leaf.ensures.1)

pub returns-clause-fits : goal.returns-clause-fits
returns-clause-fits c =
    let r = c.args.self.now in
    let u = c.leaf.new.self in
    let head = c.requires.head in
    let advanced = c.in_ok-leaf.ensures.0 in
    subst (λ args. Fits c.args.role r (shape.App c.args.sym args) u) (sym c.new.ensures)
    (fits_application c.args.role r u u c.args.sym 0 [] (symbol_arity (state_of r) c.args.role head.text c.args.sym 0 head.means) refl advanced.state advanced.bound advanced.end (fits_none c.args.role u u refl (same_now u u refl refl)))
