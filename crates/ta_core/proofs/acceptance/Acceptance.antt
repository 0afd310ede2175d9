-- What an automaton over a signature accepts is over the signature; and where an automaton is accepted, nothing that is reachable is forbidden.
use Rattle.std.proofs.Common.{ℕ, IsTrue, List, [], ◌∷◌, map, length, refl, ◌∙◌, subst}
use Rattle.std.specs.List.{AllByRecursion, AllZip, list_all}
use Rattle.std.proofs.lemmas.Bool.{and_from}
use Rattle.std.proofs.lemmas.List.{length-map}
use Rattle.std.proofs.lemmas.List.Elements.{All-contains}
use Rattle.std.proofs.lemmas.List.Sums.{AllPass-from_list_all}
use Rattle.std.proofs.lemmas.Slice.Zip.{AllZip-long}
use Rattle.ranked_terms.specs.Names.{Symbol}
use Rattle.ranked_terms.specs.Terms.{node, config_of, is_over, is_symbol}
use Rattle.ranked_terms.specs.declared.term.Term.{Term}
use Rattle.ranked_terms.specs.lemmas.TermLaws.{config_node, is_over_node, term_induction}
use Rattle.ta_core.specs.declared.trans.Trans.{Trans}
use Rattle.ta_core.specs.TreeAutomaton.{TreeAutomaton, trans_of}
use Rattle.ta_core.specs.Runs.{Runs}
use Rattle.ta_core.specs.SpecRules.{automaton_is_over}
use Rattle.ta_core.specs.AcceptanceLaws.{AcceptedTermsAreOver, AcceptedIsSafe}
use Rattle.ta_core.proofs.closure.Closure.{closed_accepts_reached}
use Rattle.ta_core.proofs.acceptance.Containment.{contained_keeps_accepted}
use Rattle.ta_core.specs.lemmas.RunsLaws.{run_of_app, zip_from_all}

-- ---- terms over a signature

module _ (signature : List Symbol) (A : TreeAutomaton) (over : IsTrue (automaton_is_over signature A)) where
  abbrev IsOverIfRun : Term → Type 0
  IsOverIfRun t = (q : ℕ) → Runs A (config_of t) q → IsTrue (is_over signature t)

  all_over : (ts : List Term) (qs : List ℕ) → AllByRecursion IsOverIfRun ts → AllZip (Runs A) (map config_of ts) qs → IsTrue (list_all (is_over signature) ts)
  all_over [] qs each args = refl
  all_over (t ∷ ts) [] each args = absurd args
  all_over (t ∷ ts) (q ∷ qs) each args = and_from (is_over signature t) (list_all (is_over signature) ts) (each.0 q args.0) (all_over ts qs each.1 args.1)

  node_over : (f : ℕ) (ts : List Term) → AllByRecursion IsOverIfRun ts → IsOverIfRun (node f ts)
  node_over f ts each q r =
      let run = run_of_app f (map config_of ts) q (subst (λ c. Runs A c q) (config_node f ts) r) in
      let args = zip_from_all run.args in
      let passes = AllPass-from_list_all (λ (t : Trans). is_symbol signature t.sym (length t.args)) A.trans over in
      let known : IsTrue (is_symbol signature f (length run.states)) =
      All-contains (λ (t : Trans). IsTrue (is_symbol signature t.sym (length t.args))) A.trans (trans_of f run.states run.target) passes run.has in
      let symbol : IsTrue (is_symbol signature f (length ts)) = subst (λ n. IsTrue (is_symbol signature f n)) (AllZip-long (Runs A) (map config_of ts) run.states args ∙ length-map ts config_of) known in
      is_over_node signature f ts ∙ and_from (is_symbol signature f (length ts)) (list_all (is_over signature) ts) symbol (all_over ts run.states each args)

  over_if_run : (t : Term) → IsOverIfRun t
  over_if_run = term_induction IsOverIfRun node_over

pub accepted_terms_are_over : AcceptedTermsAreOver
accepted_terms_are_over signature A over t accepts = over_if_run signature A over t accepts.state accepts.runs

-- ---- safety

pub accepted_is_safe : AcceptedIsSafe
accepted_is_safe spec A h sound rules accepted t reachable forbidden =
    let start = contained_keeps_accepted spec.initial A h accepted.contained reachable.start reachable.begins.accepted in
    let end = closed_accepts_reached A spec.rules sound rules accepted.closed reachable.start t start reachable.leads in
    accepted.misses t (record { over = forbidden.over; accepted = end }) forbidden
