use Rattle.std.proofs.Common.{◌≡◌, [], ◌∷◌, ap, subst, rules, arith, length, length-append, List, Some, None}
use Rattle.ta_core.specs.declared.trans.Trans.{Trans}
use Rattle.cert_text.specs.Taking.{Taken}
use Rattle.cert_text.specs.declared.entries.Entry.{Entry}
use Rattle.cert_text.specs.Entries.{AreTrans, entry_line, IsRightEntry}
use Rattle.cert_text.proofs.whole.Going.{IsLast, last_of, no_trans, one_more, cut_off, bad_next}
use Rattle.cert_text.proofs.taking.Reader.all_trans.Goals as goal

pub loop-next-init : goal.loop-next-init
loop-next-init c =
    let empty : [] ≡ c.new-trans.result.items = search rules in
    record {
      counted = c.requires.counted;
      number = (let none = ap length empty in omega (arith, none));
      are = subst (λ (ts : List Trans). AreTrans c.args.sig.now c.args.states.now c.args.self.now.rest.now c.args.self.now.rest.now ts) empty (no_trans c.args.sig.now c.args.states.now c.args.self.now.rest.now);
    }

pub loop-next-preserved : goal.loop-next-preserved
loop-next-preserved c =
    let is : IsLast c.last_trans-last.result c.loop-next.trans.items = subst (λ (ts : List Trans). IsLast c.last_trans-last.result ts) c.as_slice.ensures.value c.last_trans-last.ensures in
    record {
      counted = c.in-Ok-Trans.ensures.counted;
      number = (let a = c.loop-next.invariant.number in let b = c.in-Ok-Trans.ensures.number in let d = ap length c.in-Ok.ensures.items in let e = length-append c.loop-next.trans.items (c.in-Ok-Trans.next ∷ []) in omega (arith, a, b, d, e));
      are = one_more c.args.sig.now c.args.states.now c.args.self.now.rest.now c.loop-next.self.rest.now c.last_trans-last.result c.loop-next.trans.items c.loop-next.invariant.are is c.entry.new.self.rest.now c.in-Ok-Trans.next c.push.new.self.items
          (λ spec k at. subst (λ (e : Entry). Taken spec k c.loop-next.self.rest.now (entry_line c.args.sig.now e) c.entry.new.self.rest.now) c.in-Ok-Trans.field-0-is (c.in-Ok-Trans.ensures.taken spec k at))
          (subst (λ (e : Entry). IsRightEntry c.args.sig.now c.args.states.now (last_of c.last_trans-last.result) e) c.in-Ok-Trans.field-0-is c.in-Ok-Trans.ensures.right) c.in-Ok.ensures.items;
    }

pub returns-in-Ok-Eps-clause-taken : goal.returns-in-Ok-Eps-clause-taken
returns-in-Ok-Eps-clause-taken c =
    let is : IsLast c.last_trans-last.result c.loop-next.trans.items = subst (λ (ts : List Trans). IsLast c.last_trans-last.result ts) c.as_slice.ensures.value c.last_trans-last.ensures in
    cut_off c.args.sig.now c.args.states.now c.args.self.now.rest.now c.loop-next.self.rest.now c.last_trans-last.result c.loop-next.trans.items c.loop-next.invariant.are is c.entry.new.self.rest.now (Some (c.in-Ok-Eps.from, c.in-Ok-Eps.to))
    (λ spec k at. subst (λ (e : Entry). Taken spec k c.loop-next.self.rest.now (entry_line c.args.sig.now e) c.entry.new.self.rest.now) c.in-Ok-Eps.field-0-is (c.in-Ok-Eps.ensures.taken spec k at))
    (subst (λ (e : Entry). IsRightEntry c.args.sig.now c.args.states.now (last_of c.last_trans-last.result) e) c.in-Ok-Eps.field-0-is c.in-Ok-Eps.ensures.right)

pub returns-in-Ok-End-clause-taken : goal.returns-in-Ok-End-clause-taken
returns-in-Ok-End-clause-taken c =
    let is : IsLast c.last_trans-last.result c.loop-next.trans.items = subst (λ (ts : List Trans). IsLast c.last_trans-last.result ts) c.as_slice.ensures.value c.last_trans-last.ensures in
    cut_off c.args.sig.now c.args.states.now c.args.self.now.rest.now c.loop-next.self.rest.now c.last_trans-last.result c.loop-next.trans.items c.loop-next.invariant.are is c.entry.new.self.rest.now None
    (λ spec k at. subst (λ (e : Entry). Taken spec k c.loop-next.self.rest.now (entry_line c.args.sig.now e) c.entry.new.self.rest.now) c.in-Ok-End.field-0-is (c.in-Ok-End.ensures.taken spec k at)) tt

pub returns-in-Err-clause-refused : goal.returns-in-Err-clause-refused
returns-in-Err-clause-refused c = λ f wrong.
    let is : IsLast c.last_trans-last.result c.loop-next.trans.items = subst (λ (ts : List Trans). IsLast c.last_trans-last.result ts) c.as_slice.ensures.value c.last_trans-last.ensures in
    bad_next c.args.sig.now c.args.states.now c.args.self.now.rest.now c.loop-next.self.rest.now c.last_trans-last.result c.loop-next.trans.items c.loop-next.invariant.are is c.args.self.now.line c.entry.new.self.line f (c.in-Err.ensures.refused f (cc))
    (let a = c.loop-next.invariant.number in let b = c.in-Err.ensures.number in omega (arith, a, b))
