use Rattle.std.proofs.Common.{◌≡◌, ℕ, ◌==◌, false, cond, ◌++◌, ap, sym, subst, ◌∙◌, ne_eqb, arith}
use Rattle.std.specs.List.{All}
use Rattle.std.specs.BTreeSet.{insert_key}
use Rattle.ta_core.specs.TreeAutomaton.{TreeAutomaton, IsEpsOf, pair_cmp}
use Rattle.ta_core.specs.lemmas.Orders.{pair_total, pair_exact}
use Rattle.ta_core.specs.KeptAside.{grown_by}
use Rattle.ta_core.specs.Growth.{with_eps}
use Rattle.list_laws.specs.InOrder.{in_order}
use Rattle.list_laws.proofs.InOrder.{insert_aside, all_inserted}
use Rattle.ta_core.proofs.growing.Growing.add_eps.Goals as goal

pub invariant_of-self-2 : goal.invariant_of-self-2
invariant_of-self-2 c =
    let i = c.self.inside in
    let old = grown_by i.base.now i.fresh i.trans.keys i.eps.keys in
    let states = ap (λ (A : TreeAutomaton). A.states) c.self.view_is in
    let e : ℕ × ℕ = (c.args.from, c.args.to) in
    let sound : IsEpsOf old.states e = record { from = rw states c.requires.from; to = rw states c.requires.to; moves = λ same. omega (arith, same) } in
    let same : in_order pair_cmp (i.base.now.eps ++ c.insert.new.self.keys) ≡ insert_key pair_cmp old.eps e =
    ap (λ ks. in_order pair_cmp (i.base.now.eps ++ ks)) c.in_ok-insert.ensures.keys ∙ insert_aside pair_total pair_exact i.base.now.eps i.eps.keys e in
    let was = c.self.invariant.sound in
    let all = subst (All (IsEpsOf old.states)) (sym same) (all_inserted pair_total pair_exact (IsEpsOf old.states) old.eps e was.eps sound) in
    record { sound = record { below = was.below; finals = was.finals; trans = was.trans; eps = all }; few = c.self.invariant.few }

pub returns-clause-ok : goal.returns-clause-ok
returns-clause-ok c =
    let i = c.self.inside in
    let old = grown_by i.base.now i.fresh i.trans.keys i.eps.keys in
    let e : ℕ × ℕ = (c.args.from, c.args.to) in
    let same : in_order pair_cmp (i.base.now.eps ++ c.insert.new.self.keys) ≡ insert_key pair_cmp old.eps e =
    ap (λ ks. in_order pair_cmp (i.base.now.eps ++ ks)) c.in_ok-insert.ensures.keys ∙ insert_aside pair_total pair_exact i.base.now.eps i.eps.keys e in
    let test : (c.args.from == c.args.to) ≡ false = ne_eqb c.args.from c.args.to (λ h. omega (arith, h)) in
    (λ k. record old { eps = same k })
    ∙ (ap (λ b. cond b old (record old { eps = insert_key pair_cmp old.eps e })) (sym test) ∙ ap (λ A. with_eps A c.args.from c.args.to) c.self.view_is)
