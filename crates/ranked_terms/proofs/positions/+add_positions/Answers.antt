use Rattle.std.proofs.Common.{◌≡◌, ◌+◌, [], ◌∷◌, ◌++◌, map, ap, ◌∙◌, rules, arith}
use Rattle.std.proofs.lemmas.Grind.{common_steps}
use Rattle.ranked_terms.specs.declared.term.Term.TheViews.{the_lemmas}
use Rattle.ranked_terms.specs.Positions.{positions_of}
use Rattle.ranked_terms.proofs.places.PreorderLaws.{narrow_argument, found_more, found_all}
use Rattle.ranked_terms.proofs.positions.+add_positions.Goals as goal

pub add_positions-requires : goal.add_positions-requires
add_positions-requires t c = (search (rules, the_lemmas), narrow_argument c.args.t.now c.as_slice-args.result.now c.loop-i.i c.index-args-i.result c.requires c.as_slice-args.ensures c.loop-i-test.true c.index-args-i.is)

pub loop-i-preserved : goal.loop-i-preserved
loop-i-preserved t c =
    let old = c.args.path.now.items in let u = c.index-args-i.result in
    let down : c.push-in-loop-i.new.self.items ≡ old ++ (c.loop-i.i + 1) ∷ [] = c.in_ok-push-2.ensures.items ∙ ap (λ ks. ks ++ (c.loop-i.i + 1) ∷ []) c.loop-i.invariant.path in
    record {
      path = grind (arith, common_steps);
      found = found_more old c.args.found.now c.loop-i.found c.add_positions.new.found c.as_slice-args.result.now c.loop-i.i u c.loop-i-test.true c.index-args-i.is c.loop-i.invariant.found
          (c.in_ok-add_positions.ensures.found ∙ ap (λ ks. c.loop-i.found ++ map (λ p. ks ++ p) (positions_of u)) down);
    }

pub returns-clause-found : goal.returns-clause-found
returns-clause-found t c =
    found_all c.args.path.now.items c.args.found.now c.loop-i.found c.args.t.now c.as_slice-args.result.now c.loop-i.i c.as_slice-args.ensures c.loop-i-test.false c.loop-i.invariant.found
