use Rattle.std.proofs.Common.{arith}
use Rattle.std.proofs.lemmas.Grind.{common_steps}
use Rattle.timbuk_reader.specs.View.{state_of}
use Rattle.timbuk_reader.specs.Patterns.{Breaks}
use Rattle.timbuk_reader.proofs.keeping.Meanings.{state_below}
use Rattle.timbuk_reader.proofs.keeping.Fits.{same_now, fits_state, counted}
use Rattle.timbuk_reader.proofs.parsing.Patterns.{state_breaks, state_builds}
use Rattle.timbuk_reader.proofs.state.Reader.pattern_state.Goals as goal

pub returns-in_err-leaf-clause-reads : goal.returns-in_err-leaf-clause-reads
returns-in_err-leaf-clause-reads c =
    let r = c.args.self.now in
    let u = c.leaf.new.self in
    let e = c.in_err-leaf.field-0.0 in
    let head = c.requires.head in
    let paren = c.in_err-leaf.ensures in
    let breaks : Breaks c.args.role c.args.depth r e =
    state_breaks c.args.role c.requires.role r u c.args.depth head.text head.stands paren.advanced.token paren.advanced.tokens (same_now r u paren.advanced.state paren.advanced.end) c.args.state e head.means head.fits paren.seen paren.told in
    grind (arith, common_steps)

pub returns-clause-reads : goal.returns-clause-reads
returns-clause-reads c =
    let r = c.args.self.now in
    let u = c.leaf.new.self in
    let head = c.requires.head in
    let advanced = c.in_ok-leaf.ensures.0 in
    state_builds c.args.role c.requires.role r u c.args.depth head.text head.stands advanced.token advanced.tokens (same_now r u advanced.state advanced.end) advanced.bound c.args.state head.means head.fits c.in_ok-leaf.ensures.1

pub returns-clause-fits : goal.returns-clause-fits
returns-clause-fits c =
    let r = c.args.self.now in
    let u = c.leaf.new.self in
    let head = c.requires.head in
    let advanced = c.in_ok-leaf.ensures.0 in
    fits_state c.args.role r u c.args.state (counted c.args.role r c.args.state c.requires.role (state_below (state_of r) c.args.role head.text c.args.state head.means)) advanced.bound (same_now r u advanced.state advanced.end)
