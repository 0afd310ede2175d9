use Rattle.std.proofs.Common.{◌<◌, ◌≤◌, ◌-◌, [], ◌∷◌, length, length-append, subst, sym, ap, arith}
use Rattle.std.specs.Prelude.{MatchOption}
use Rattle.ranked_terms.specs.Texts.{BeginsNoTerm, BeginsWith}
use Rattle.ranked_terms.proofs.texts.ReadingLaws.{AreRead, no_symbol, none_read, no_mark, no_argument, one_more, not_ended, whole_read}
use Rattle.ranked_terms.proofs.reading.+read_term.Goals as goal

pub returns-in_default : goal.returns-in_default
returns-in_default t c = no_symbol c.args.sig.now c.requires c.args.text.now c.args.room c.in_default.ensures

pub loop-init : goal.loop-init
loop-init t c =
    let s = c.args.sig.now in let head = c.in-Some.head in let room = c.args.room in let behind = head.rest.now in
    let start = none_read s c.requires c.args.text.now head.sym head.arity room behind c.in-Some.ensures (omega (arith, c.if-room-eq0.false)) in
    record { count = ap length c.new-args.ensures; read = subst (λ ts. AreRead s head.arity room behind ts 40 behind (room - 1)) (sym c.new-args.ensures) start }

pub returns-in_default-after_byte : goal.returns-in_default-after_byte
returns-in_default-after_byte t c =
    let head = c.in-Some.head in let l = c.loop in
    let few : length l.args < head.arity = omega (arith, c.loop-test.true, l.invariant.count) in
    no_mark c.args.sig.now c.requires c.args.text.now head.sym head.arity c.args.room head.rest.now c.in-Some.ensures l.args l.mark l.rest.now l.left l.invariant.read few c.in_default-after_byte.ensures

pub read_term-requires : goal.read_term-requires
read_term-requires t c = (omega (arith, c.loop.invariant.read.size, c.decreases), c.requires)

pub returns-in_default-2 : goal.returns-in_default-2
returns-in_default-2 t c =
    let head = c.in-Some.head in let l = c.loop in let s = c.args.sig.now in let inner = c.in-Some-after_byte.inner.now in
    let few : length l.args < head.arity = omega (arith, c.loop-test.true, l.invariant.count) in
    let none = subst (λ o. MatchOption o (BeginsNoTerm s inner l.left) (λ read. BeginsWith s inner l.left read.term read.rest.now read.left)) c.in_default-2.is c.in_ok-read.ensures in
    no_argument s c.requires c.args.text.now head.sym head.arity c.args.room head.rest.now c.in-Some.ensures l.args l.mark l.rest.now l.left l.invariant.read inner c.in-Some-after_byte.ensures few none

pub loop-preserved : goal.loop-preserved
loop-preserved t c =
    let head = c.in-Some.head in let l = c.loop in let s = c.args.sig.now in let inner = c.in-Some-after_byte.inner.now in
    let few : length l.args < head.arity = omega (arith, c.loop-test.true, l.invariant.count) in
    let read = c.in-Some-2.read in
    let begins = subst (λ o. MatchOption o (BeginsNoTerm s inner l.left) (λ read. BeginsWith s inner l.left read.term read.rest.now read.left)) c.in-Some-2.is c.in_ok-read.ensures in
    record {
      count = omega (arith, ap length c.in_ok-push.ensures.ok, length-append l.args (read.term ∷ []), l.invariant.count);
      read = one_more s c.requires c.args.text.now head.sym head.arity c.args.room head.rest.now c.in-Some.ensures l.args l.mark l.rest.now l.left l.invariant.read inner c.in-Some-after_byte.ensures few
          read.term read.rest.now read.left c.push.new.self begins c.in_ok-push.ensures.ok;
    }

pub returns-in_default-after_args : goal.returns-in_default-after_args
returns-in_default-after_args t c =
    let head = c.in-Some.head in let l = c.loop in
    let all : head.arity ≤ length l.args = omega (arith, c.loop-test.false, l.invariant.count) in
    not_ended c.args.sig.now c.requires c.args.text.now head.sym head.arity c.args.room head.rest.now c.in-Some.ensures l.args l.mark l.rest.now l.left l.invariant.read all c.in_default-after_args.ensures

pub returns : goal.returns
returns t c =
    let head = c.in-Some.head in let l = c.loop in
    let all : head.arity ≤ length l.args = omega (arith, c.loop-test.false, l.invariant.count) in
    let few : length l.args ≤ head.arity = omega (arith, l.invariant.count, l.auto.counter-end) in
    let ended = c.in-Some-after_args.ensures in
    whole_read c.args.sig.now c.requires c.args.text.now head.sym head.arity c.args.room head.rest.now c.in-Some.ensures l.args l.mark l.rest.now l.left l.invariant.read all few c.in-Some-after_args.rest.now ended.0 ended.1
