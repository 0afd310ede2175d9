-- What holds of a derivation that the search finds: its terms are reached within the limits, and so small.
use Rattle.std.proofs.Common.{◌≡◌, ℕ, zero, suc, ◌<◌, ◌≤◌, ◌&&◌, IsTrue, List, [], ◌∷◌, ◌++◌, map, sum, length, get_or, slice_get, option_map, Some, Option, None, All, refl, sym, ap, subst, ◌∙◌, inr, ⊎_elim, arith, length-append}
use Rattle.std.specs.List.{list_all}
use Rattle.std.specs.Cmp.{first_so, second_so}
use Rattle.std.proofs.lemmas.Bool.{and_from, cases_lt}
use Rattle.std.proofs.lemmas.List.Sums.{AllPass-from_list_all, list_all-from_AllPass, sum_by-cons}
use Rattle.std.proofs.lemmas.Option.{slice_get_within, slice_get-map, slice_get_read}
use Rattle.std.proofs.lemmas.List.{length-map}
use Rattle.std.proofs.lemmas.List.Elements.{All-cons, All-weaker}
use Rattle.std.proofs.lemmas.Map.Views.{exact_unsigned_eq}
use Rattle.list_laws.proofs.Members.{at_place, all_from_members}
use Rattle.ranked_terms.specs.Names.{Symbol}
use Rattle.ranked_terms.specs.SignatureRules.{IsSignature, IsSymbol}
use Rattle.ranked_terms.specs.Terms.{node, is_over, is_symbol, is_arity, size_of, pattern_is_over}
use Rattle.ranked_terms.specs.declared.term.Term.{Term}
use Rattle.ranked_terms.specs.declared.term.Term.TheViews.{out-Term}
use Rattle.ranked_terms.specs.lemmas.TermLaws.{size_node, is_over_node, node_out}
use Rattle.trs_rules.specs.Rules.{RewriteRule, IsRule}
use Rattle.trs_rules.specs.Steps.{StepAt, Step}
use Rattle.trs_rules.specs.Counted.{LeadsIn, NoStepStays, StepsComeLast}
use Rattle.trs_rules.specs.Laws.{PlacedStepsAreSteps, IsRuleOver, ChainsStayOver}
use Rattle.trs_rules.specs.Derivations.{terms_along, IsDerivation}
use Rattle.trs_rules.specs.declared.derivation.DStep.{DStep}
use Rattle.trs_rules.specs.declared.derivation.Derivation.{Derivation}
use Rattle.ta_core.specs.SpecRules.{rules_are_over}
use Rattle.ta_core.specs.declared.spec.Spec.{Spec}
use Rattle.ta_core.specs.declared.options.Options.{Options}
use Rattle.derive_search.specs.Search.{Reached}
use Rattle.cert_text.specs.Lines.{IsPlace}
use Rattle.cert_text.specs.Certificates.{IsCertTerm, IsCertStep, IsPath, derivation_is_over}
use Rattle.verdicts.proofs.Ends.{IsFound}

-- ---- one step

-- an argument is smaller than the term
sum_has : (before after : List Term) (u : Term) → size_of u ≤ sum (map size_of (before ++ u ∷ after))
sum_has [] after u = let e = sum_by-cons (λ n. n) (size_of u) (map size_of after) in omega (arith, e)
sum_has (t ∷ before) after u = let h = sum_has before after u in let e = sum_by-cons (λ n. n) (size_of t) (map size_of (before ++ u ∷ after)) in omega (arith, h, e)

argument_small : (f : ℕ) (before after : List Term) (u : Term) → size_of u < size_of (node f (before ++ u ∷ after))
argument_small f before after u =
    let h = sum_has before after u in
    let e = size_node f (before ++ u ∷ after) in
    omega (arith, h, e)

argument_over : (s : List Symbol) (before after : List Term) (u : Term) → IsTrue (list_all (is_over s) (before ++ u ∷ after)) → IsTrue (is_over s u)
argument_over s [] after u h = first_so (is_over s u) (list_all (is_over s) after) h
argument_over s (t ∷ before) after u h = argument_over s before after u (second_so (is_over s t) (list_all (is_over s) (before ++ u ∷ after)) h)

-- a symbol of a signature has at most 16 arguments
few_arguments : (s : List Symbol) → IsSignature s → (f n : ℕ) → IsTrue (is_symbol s f n) → n ≤ 16
few_arguments s is f n h = by (slice_get s f) refl h
  where
    by : (o : Option Symbol) → slice_get s f ≡ o → IsTrue (is_arity n (option_map (λ (x : Symbol). x.1) o)) → n ≤ 16
    by None e h = absurd (cc)
    by (Some x) e h =
        let a = (at_place IsSymbol s f x is.symbols e).arity in
        let same = exact_unsigned_eq n x.1 h in
        omega (arith, a, same)

-- of a step
pub record IsGoodStep (R : List RewriteRule) (i : ℕ) (at : List ℕ) (s : Term) : Type 0 where
  pub rule : i < length R
  pub deep : length at < size_of s
  pub places : All IsPlace at

some_size : (t : Term) → 0 < size_of t
some_size t = subst (λ u. 0 < size_of u) (node_out t) (let e = size_node (out-Term t).sym (out-Term t).args in omega (arith, e))

module _ (signature : List Symbol) (is : IsSignature signature) (R : List RewriteRule) (i : ℕ) where
  pub good_step : (at : List ℕ) (s t : Term) → IsTrue (is_over signature s) → StepAt R i at s t → IsGoodStep R i at s
  good_step [] s t over step = record { rule = slice_get_within R i step.rule step.is_rule; deep = some_size s; places = λ k d l. absurd (omega (arith, l)) }
  good_step (k ∷ at) s t over step =
      let args = step.before ++ step.u ∷ step.after in
      let h = sym (is_over_node signature step.sym args) ∙ subst (λ x. IsTrue (is_over signature x)) step.from over in
      let is_known = first_so (is_symbol signature step.sym (length args)) (list_all (is_over signature) args) h in
      let are_over = second_so (is_symbol signature step.sym (length args)) (list_all (is_over signature) args) h in
      let rest = good_step at step.u step.v (argument_over signature step.before step.after step.u are_over) step.changes in
      let few = few_arguments signature is step.sym (length args) is_known in
      let long = length-append step.before (step.u ∷ step.after) in
      let place = step.place in
      let first : IsPlace k = record { least = omega (arith, place); most = omega (arith, place, few, long) } in
      let smaller = argument_small step.sym step.before step.after step.u in
      let size = ap size_of step.from in
      let deep = rest.deep in
      record { rule = rest.rule; deep = omega (arith, deep, smaller, size); places = All-cons IsPlace k at first rest.places }

-- ---- the terms of a derivation

module _ (stays : NoStepStays) (last : StepsComeLast) (placed : PlacedStepsAreSteps) (R : List RewriteRule) (d : Derivation) (steps : IsDerivation R d) where
  pub leads_along : (n : ℕ) (t : Term) → slice_get (terms_along d) n ≡ Some t → LeadsIn R n d.start t
  leads_along zero t e = (stays R d.start t).1 (let same : d.start ≡ t = cc in same)
  leads_along (suc n) t e =
      let step = steps n (let w = slice_get_within (terms_along d) (suc n) t e in let l = length-map d.steps (λ (s : DStep). s.term) in omega (arith, w, l)) in
      let same : step.step.term ≡ t = same_term (slice_get-map (λ (s : DStep). s.term) d.steps n ∙ ap (option_map (λ (s : DStep). s.term)) step.is_step) e in
      (last R n d.start t).1 (step.before, leads_along n step.before step.is_before, subst (Step R step.before) same (placed R step.step.rule step.step.at step.before step.step.term step.steps))
    where
      same_term : {a b : Term} {o : Option Term} → o ≡ Some a → o ≡ Some b → a ≡ b
      same_term x y = cc

-- ---- a derivation that is found

-- the laws that are called for this
pub record Laws : Type 0 where
  pub stays : NoStepStays
  pub last : StepsComeLast
  pub placed : PlacedStepsAreSteps
  pub over : ChainsStayOver

rules_over : (signature : List Symbol) (R : List RewriteRule) → All IsRule R → IsTrue (rules_are_over signature R) → All (IsRuleOver signature) R
rules_over signature R are over =
    let each = AllPass-from_list_all (λ (r : RewriteRule). pattern_is_over signature r.left && pattern_is_over signature r.right) R over in
    λ k d l.
    let r = get_or R k d in
    record {
      is_rule = are k d l;
      left_is_over = first_so (pattern_is_over signature r.left) (pattern_is_over signature r.right) (each k d l);
      right_is_over = second_so (pattern_is_over signature r.left) (pattern_is_over signature r.right) (each k d l);
    }

module _ (laws : Laws) (spec : Spec) (options : Options) (d : Derivation) (f : IsFound spec options d) where
  leads : (n : ℕ) (t : Term) → slice_get (terms_along d) n ≡ Some t → LeadsIn spec.rules n d.start t
  leads = leads_along laws.stays laws.last laws.placed spec.rules d f.replays.steps

  short : (n : ℕ) (t : Term) → slice_get (terms_along d) n ≡ Some t → n ≤ length d.steps
  short n t e =
      let w = slice_get_within (terms_along d) n t e in
      let l = length-map d.steps (λ (s : DStep). s.term) in
      omega (arith, w, l)

  reached : (n : ℕ) (t : Term) → slice_get (terms_along d) n ≡ Some t → Reached spec options.height (length d.steps) t
  reached n t e =
      let h = leads n t e in
      let few = short n t e in
      let count = h.count in
      record {
        start = d.start;
        starts = record { language = f.replays.starts; low = f.low };
        terms = h.terms;
        chain = h.chain;
        begins = h.begins;
        ends = h.ends;
        short = omega (arith, few, count);
      }

  module _ (is : IsSignature spec.signature) (are : All IsRule spec.rules) (few_rules : length spec.rules ≤ 4096) where
    cert_term : (n : ℕ) (t : Term) → slice_get (terms_along d) n ≡ Some t → IsCertTerm spec.signature t
    cert_term n t e =
        let h = leads n t e in
        record {
          over = laws.over spec.signature spec.rules d.start t (rules_over spec.signature spec.rules are spec.rules_over) f.replays.starts.over
              (record { terms = h.terms; chain = h.chain; begins = h.begins; ends = h.ends });
          small = ⊎_elim (λ large. absurd (f.within (inr (inr (record { member = t; has = reached n t e; large = large }))))) (λ s. s) (cases_lt 1024 (size_of t));
        }

    cert_step : (n : ℕ) (s : DStep) → slice_get d.steps n ≡ Some s → IsCertStep spec.signature s
    cert_step n s e =
        let k = f.replays.steps n (slice_get_within d.steps n s e) in
        let same : k.step ≡ s = let h = sym k.is_step ∙ e in cc in
        let before = cert_term n k.before k.is_before in
        let good = good_step spec.signature is spec.rules s.rule s.at k.before s.term before.over (subst (λ (x : DStep). StepAt spec.rules x.rule x.at k.before x.term) same k.steps) in
        let rule = good.rule in
        let deep = good.deep in
        let small = before.small in
        record {
          rule = omega (arith, rule, few_rules);
          deep = omega (arith, deep, small);
          places = good.places;
          term = cert_term (suc n) s.term (slice_get-map (λ (x : DStep). x.term) d.steps n ∙ ap (option_map (λ (x : DStep). x.term)) e);
        }

    -- it is within the bounds of a certificate
    pub path : IsPath spec d
    path = record {
      start = cert_term 0 d.start refl;
      few = let few = f.few in let range = options.steps_range in omega (arith, few, range);
      steps = all_from_members (IsCertStep spec.signature) d.steps (λ s c. cert_step c.0 s (slice_get_read d.steps (length d.steps) c.0 s refl c.1 (sym c.2)));
    }

    -- and so over the signature
    pub path_over : IsTrue (derivation_is_over spec.signature d)
    path_over =
        and_from (is_over spec.signature d.start) (list_all (λ (s : DStep). is_over spec.signature s.term) d.steps) path.start.over
        (list_all-from_AllPass (λ (s : DStep). is_over spec.signature s.term) d.steps
        (All-weaker (IsCertStep spec.signature) (λ (s : DStep). IsTrue (is_over spec.signature s.term)) (λ s h. h.term.over) d.steps path.steps))
