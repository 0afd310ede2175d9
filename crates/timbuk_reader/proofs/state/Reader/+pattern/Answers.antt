use Rattle.std.proofs.Common.{length, [], ◌∷◌, ◌++◌, refl, ap, ◌∙◌, subst, arith, length-append}
use Rattle.std.proofs.lemmas.Grind.{common_steps}
use Rattle.timbuk_grammar.specs.declared.terminal.Terminal.TheVariants as terminal
use Rattle.spec_text.specs.Declarations.{a_symbol}
use Rattle.timbuk_reader.specs.Meanings.{meant_by}
use Rattle.timbuk_reader.specs.View.{state_of}
use Rattle.timbuk_reader.specs.Patterns.{Misapplies, Breaks, HasHead}
use Rattle.timbuk_reader.proofs.keeping.Meanings.{symbol_arity}
use Rattle.timbuk_reader.proofs.parsing.Patterns.{function_breaks, function_builds}
use Rattle.timbuk_reader.proofs.keeping.Fits.{same_now, fits_none, fits_more, fits_application}
use Rattle.timbuk_reader.proofs.parsing.PatternArguments.{took_less, first_breaks, first_builds, next_breaks, next_builds, all_applied, lacks_first, lacks_next, lacks_last}
use Rattle.timbuk_reader.proofs.state.Reader.+pattern.Goals as goal

-- ---- arguments

pub arguments-returns-in_err-first_argument-clause-reads : goal.arguments-returns-in_err-first_argument-clause-reads
arguments-returns-in_err-first_argument-clause-reads t c =
    let e = c.in_err-first_argument.field-0.0 in
    let breaks : Misapplies c.args.role c.args.sym c.args.arity c.args.depth c.args.self.now e = lacks_first c.args.role c.args.sym c.args.arity c.args.depth c.args.self.now e c.in_err-first_argument.ensures in
    grind (arith, common_steps)

pub arguments-returns-in_err-pattern-clause-reads : goal.arguments-returns-in_err-pattern-clause-reads
arguments-returns-in_err-pattern-clause-reads t c =
    let e = c.in_err-pattern.field-0.0 in
    let breaks : Misapplies c.args.role c.args.sym c.args.arity c.args.depth c.args.self.now e =
    first_breaks c.args.role c.args.sym c.args.arity c.args.depth c.requires.some c.args.self.now c.first_argument.new.self e c.in_ok-first_argument.ensures c.in_err-pattern.ensures.reads in
    grind (arith, common_steps)

pub arguments-loop-role-init : goal.arguments-loop-role-init
arguments-loop-role-init t c =
    let r = c.args.self.now in
    let m = c.first_argument.new.self in
    let u = c.pattern.new.self in
    let k = c.in_ok-first_argument.ensures in
    let less = took_less terminal.OpenParen r m k in
    let more = c.in_ok-pattern.ensures.shorter in
    let shape = c.in_ok-pattern.field-0 in
    let items = c.in_ok-push.ensures.ok ∙ ap (λ z. z ++ (shape ∷ [])) c.requires.none in
    record {
      few = let e = ap length items in omega arith;
      some = let e = ap length items in omega arith;
      shorter = omega arith;
      filled = rw items (first_builds c.args.role c.args.sym c.args.arity c.args.depth c.requires.some r m u shape k c.in_ok-pattern.ensures.reads);
      fits = rw items (fits_more c.args.role r r m u [] shape (fits_none c.args.role r r refl (same_now r r refl refl)) k.state k.bound k.end c.in_ok-pattern.ensures.fits);
    }

pub arguments-returns-in_err-next_argument-clause-reads : goal.arguments-returns-in_err-next_argument-clause-reads
arguments-returns-in_err-next_argument-clause-reads t c =
    let e = c.in_err-next_argument.field-0.0 in
    let breaks : Misapplies c.args.role c.args.sym c.args.arity c.args.depth c.args.self.now e =
    lacks_next c.args.role c.args.sym c.args.arity c.args.depth c.args.self.now c.loop-role.self c.loop-role.args e c.loop-role.invariant.filled (omega arith) c.in_err-next_argument.ensures in
    grind (arith, common_steps)

pub arguments-returns-in_err-pattern-2-clause-reads : goal.arguments-returns-in_err-pattern-2-clause-reads
arguments-returns-in_err-pattern-2-clause-reads t c =
    let e = c.in_err-pattern-2.field-0.0 in
    let breaks : Misapplies c.args.role c.args.sym c.args.arity c.args.depth c.args.self.now e =
    next_breaks c.args.role c.args.sym c.args.arity c.args.depth c.args.self.now c.loop-role.self c.next_argument.new.self c.loop-role.args e c.loop-role.invariant.filled (omega arith) c.in_ok-next_argument.ensures c.in_err-pattern-2.ensures.reads in
    grind (arith, common_steps)

pub arguments-loop-role-preserved : goal.arguments-loop-role-preserved
arguments-loop-role-preserved t c =
    let r = c.args.self.now in
    let m = c.loop-role.self in
    let v = c.next_argument.new.self in
    let u = c.pattern-in-loop-role.new.self in
    let k = c.in_ok-next_argument.ensures in
    let less = took_less terminal.Comma m v k in
    let more = c.in_ok-pattern-2.ensures.shorter in
    let shape = c.in_ok-pattern-2.field-0 in
    let before = c.loop-role.invariant in
    let items = c.in_ok-push-2.ensures.ok in
    let len = ap length items ∙ length-append c.loop-role.args (shape ∷ []) in
    record {
      few = omega arith;
      some = omega arith;
      shorter = omega arith;
      filled = rw items (next_builds c.args.role c.args.sym c.args.arity c.args.depth r m v u c.loop-role.args shape before.filled (omega arith) k c.in_ok-pattern-2.ensures.reads);
      fits = rw items (fits_more c.args.role r m v u c.loop-role.args shape before.fits k.state k.bound k.end c.in_ok-pattern-2.ensures.fits);
    }

pub arguments-returns-in_err-last_argument-clause-reads : goal.arguments-returns-in_err-last_argument-clause-reads
arguments-returns-in_err-last_argument-clause-reads t c =
    let e = c.in_err-last_argument.field-0.0 in
    let breaks : Misapplies c.args.role c.args.sym c.args.arity c.args.depth c.args.self.now e =
    lacks_last c.args.role c.args.sym c.args.arity c.args.depth c.args.self.now c.loop-role.self c.loop-role.args e c.loop-role.invariant.filled (omega arith) c.in_err-last_argument.ensures in
    grind (arith, common_steps)

pub arguments-returns-clause-reads : goal.arguments-returns-clause-reads
arguments-returns-clause-reads t c =
    all_applied c.args.role c.args.sym c.args.arity c.args.depth c.args.self.now c.loop-role.self c.last_argument.new.self c.loop-role.args c.loop-role.invariant.filled (omega arith) c.in_ok-last_argument.ensures

-- ---- a symbol with arguments

pub pattern-returns-in_err-arguments-in-Symbol-clause-reads : goal.pattern-returns-in_err-arguments-in-Symbol-clause-reads
pattern-returns-in_err-arguments-in-Symbol-clause-reads t c =
    let r = c.args.self.now in
    let u = c.advance.new.self in
    let e = c.in_err-arguments-in-Symbol.field-0.0 in
    let head : HasHead c.args.role c.args.depth r (a_symbol c.in-Symbol.sym c.in-Symbol.arity) = subst (λ z. HasHead c.args.role c.args.depth r (meant_by z)) c.in-Symbol.is c.in_ok-pattern_head.ensures.ok in
    let breaks : Breaks c.args.role c.args.depth r e =
    function_breaks c.args.role c.requires.role r u c.args.depth head.text head.stands c.advance.result.now c.advance.ensures.token (same_now r u c.advance.ensures.state c.advance.ensures.end)
    c.advance.ensures.bound c.in-Symbol.sym c.in-Symbol.arity e (omega arith) head.means head.fits c.in_err-arguments-in-Symbol.ensures.reads in
    grind (arith, common_steps)

pub pattern-returns-in_ok-arguments-in-Symbol-clause-reads : goal.pattern-returns-in_ok-arguments-in-Symbol-clause-reads
pattern-returns-in_ok-arguments-in-Symbol-clause-reads t c =
    let r = c.args.self.now in
    let u = c.advance.new.self in
    let head : HasHead c.args.role c.args.depth r (a_symbol c.in-Symbol.sym c.in-Symbol.arity) = subst (λ z. HasHead c.args.role c.args.depth r (meant_by z)) c.in-Symbol.is c.in_ok-pattern_head.ensures.ok in
    function_builds c.args.role c.requires.role r u c.args.depth head.text head.stands c.advance.result.now c.advance.ensures.token (same_now r u c.advance.ensures.state c.advance.ensures.end)
    c.advance.ensures.bound c.in-Symbol.sym c.in-Symbol.arity c.arguments.new.args c.arguments.new.self (omega arith) head.means head.fits c.in_ok-arguments-in-Symbol.ensures.reads

pub pattern-returns-in_ok-arguments-in-Symbol-clause-fits : goal.pattern-returns-in_ok-arguments-in-Symbol-clause-fits
pattern-returns-in_ok-arguments-in-Symbol-clause-fits t c =
    let r = c.args.self.now in
    let u = c.advance.new.self in
    let head : HasHead c.args.role c.args.depth r (a_symbol c.in-Symbol.sym c.in-Symbol.arity) = subst (λ z. HasHead c.args.role c.args.depth r (meant_by z)) c.in-Symbol.is c.in_ok-pattern_head.ensures.ok in
    fits_application c.args.role r u c.arguments.new.self c.in-Symbol.sym c.in-Symbol.arity c.arguments.new.args
    (symbol_arity (state_of r) c.args.role head.text c.in-Symbol.sym c.in-Symbol.arity head.means) c.in_ok-arguments-in-Symbol.ensures.count c.advance.ensures.state c.advance.ensures.bound c.advance.ensures.end c.in_ok-arguments-in-Symbol.ensures.fits
