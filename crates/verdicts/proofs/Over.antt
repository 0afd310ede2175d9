-- Each stage's automaton is over the signature.
use Rattle.std.proofs.Common.{◌≡◌, ℕ, suc, Bool, true, false, ◌==◌, ◌&&◌, if◌then◌else◌, IsTrue, List, [], ◌∷◌, map, length, Some, All, refl, sym, ap, subst, ◌∙◌}
use Rattle.std.specs.List.{AllByRecursion, list_all, slice_get}
use Rattle.std.specs.Cmp.{first_so, second_so}
use Rattle.std.proofs.lemmas.List.{length-map}
use Rattle.std.proofs.lemmas.List.Elements.{All-contains}
use Rattle.std.proofs.lemmas.List.Sums.{AllPass-from_list_all, list_all-from_AllPass}
use Rattle.list_laws.proofs.Members.{map_had, all_from_members, at_place}
use Rattle.list_laws.proofs.InOrder.{in_order_had, all_inserted}
use Rattle.ranked_terms.specs.Names.{Symbol}
use Rattle.ranked_terms.specs.Terms.{is_symbol, pattern_is_over, assigned}
use Rattle.ranked_terms.specs.declared.term.Pattern.{Pattern}
use Rattle.ranked_terms.specs.declared.term.Pattern.TheVariants.{App}
use Rattle.ranked_terms.specs.declared.term.Config.{Config}
use Rattle.ranked_terms.specs.declared.term.Config.TheVariants as config
use Rattle.ranked_terms.specs.declared.term.Config.TheOpen as layer
use Rattle.ranked_terms.specs.declared.term.Config.TheFolds.{fold-Config, fold-roll-Config}
use Rattle.ranked_terms.specs.lemmas.TermLaws.{pattern_induction, assigned_var, assigned_app, pattern_is_over_var, over_app}
use Rattle.trs_rules.specs.Rules.{RewriteRule, RewriteEquation}
use Rattle.trs_rules.specs.declared.sigma.Pair.{Pair}
use Rattle.std.specs.BTreeSet.{insert_key}
use Rattle.ta_core.specs.TreeAutomaton.{TreeAutomaton, trans_of, pair_cmp}
use Rattle.ta_core.specs.Growth.{with_state, with_trans, with_eps}
use Rattle.ta_core.specs.Acceptance.{image}
use Rattle.ta_core.specs.Closure.{state_in}
use Rattle.ta_core.specs.SpecRules.{rules_are_over, automaton_is_over}
use Rattle.ta_core.specs.declared.trans.Trans.{Trans}
use Rattle.ta_core.specs.declared.spec.Spec.{Spec}
use Rattle.ta_core.specs.lemmas.Orders.{trans_total, trans_exact}
use Rattle.normalise.specs.Normalising.{Task, Context, Goes, Puts, PutsAll, Normalised, NormalisedAll}
use Rattle.eq_merge.specs.Quotients.{quotient, renamed, joining}
use Rattle.eq_merge.specs.Merging.{Merged}
use Rattle.completion.specs.Stages.{IsStage}

module _ (s : List Symbol) where
  -- ---- configurations

  abbrev config_over_step : layer.Config-F Bool → Bool
  config_over_step (layer.State q) = true
  config_over_step (layer.App f bs) = is_symbol s f (length bs) && list_all (λ b. b) bs

  abbrev config_over : Config → Bool
  config_over = fold-Config Bool config_over_step

  config_over_state : (q : ℕ) → config_over (config.State q) ≡ true
  config_over_state q = ap config_over (sym (config.rolls-State q)) ∙ fold-roll-Config Bool config_over_step (layer.State q)

  config_over_app : (f : ℕ) (cs : List Config) → config_over (config.App f cs) ≡ (is_symbol s f (length cs) && list_all (λ b. b) (map config_over cs))
  config_over_app f cs =
      ap config_over (sym (config.rolls-App f cs)) ∙ fold-roll-Config Bool config_over_step (layer.App f cs)
      ∙ ap (λ n. is_symbol s f n && list_all (λ b. b) (map config_over cs)) (length-map cs config_over)

  -- a pattern over the signature stays so with states for its variables
  module _ (σ : ℕ → ℕ) where
    abbrev Stays : Pattern → Type 0
    Stays p = config_over (assigned σ p) ≡ pattern_is_over s p

    all_stay : (ps : List Pattern) → AllByRecursion Stays ps → map config_over (map (assigned σ) ps) ≡ map (pattern_is_over s) ps
    all_stay [] each = refl
    all_stay (p ∷ ps) each = λ i. each.0 i ∷ all_stay ps each.1 i

    app_stays : (f : ℕ) (ps : List Pattern) → AllByRecursion Stays ps → Stays (App f ps)
    app_stays f ps each =
        let cs = map (assigned σ) ps in
        let e = all_stay ps each in
        ap config_over (assigned_app σ f ps) ∙ (config_over_app f cs ∙ ((λ i. is_symbol s f (length-map ps (assigned σ) i) && list_all (λ b. b) (e i)) ∙ sym (over_app s f ps)))

    assigned_over : (p : Pattern) → Stays p
    assigned_over = pattern_induction Stays (λ v. ap config_over (assigned_var σ v) ∙ (config_over_state (σ v) ∙ sym (pattern_is_over_var s v))) app_stays

  -- ---- automata

  abbrev TransOver : Trans → Type 0
  TransOver t = IsTrue (is_symbol s t.sym (length t.args))

  abbrev IsOver : TreeAutomaton → Type 0
  IsOver A = All TransOver A.trans

  trans_over : (A : TreeAutomaton) (f : ℕ) (ps : List ℕ) (p : ℕ) → IsTrue (is_symbol s f (length ps)) → IsOver A → IsOver (with_trans A f ps p)
  trans_over A f ps p is a = all_inserted trans_total trans_exact TransOver A.trans (trans_of f ps p) a is

  eps_over : (A : TreeAutomaton) (p q : ℕ) → IsOver A → IsOver (with_eps A p q)
  eps_over A p q a = both (p == q)
    where
      both : (b : Bool) → IsOver (if b then A else record A { eps = insert_key pair_cmp A.eps (p, q) })
      both true = a
      both false = a

  goes_over : {task : Task} {A B : TreeAutomaton} {f p : ℕ} {ps : List ℕ} → Goes task A f ps p B → IsTrue (is_symbol s f (length ps)) → IsOver A → IsOver B
  goes_over {A = A} {f = f} {ps = ps} (Goes.entry {p = p} sent) is a = trans_over A f ps p is a
  goes_over (Goes.reuse sent has) is a = a
  goes_over {A = A} {f = f} {ps = ps} (Goes.fresh sent never) is a = trans_over (with_state A) f ps A.next is a

  put_length : {task : Task} {A B : TreeAutomaton} {cs : List Config} {ps : List ℕ} → PutsAll task A cs ps B → length cs ≡ length ps
  put_length PutsAll.none = refl
  put_length (PutsAll.more first rest) = ap suc (put_length rest)

  mutual
    put_over : {task : Task} {A B : TreeAutomaton} {c : Config} {p : ℕ} → Puts task A c p B → IsTrue (config_over c) → IsOver A → IsOver B
    put_over Puts.state over a = a
    put_over (Puts.node {f = f} {cs = cs} all goes) over a =
        let h = sym (config_over_app f cs) ∙ over in
        let is = first_so (is_symbol s f (length cs)) (list_all (λ b. b) (map config_over cs)) h in
        let each = second_so (is_symbol s f (length cs)) (list_all (λ b. b) (map config_over cs)) h in
        goes_over goes (subst (λ n. IsTrue (is_symbol s f n)) (put_length all) is) (all_over all each a)

    all_over : {task : Task} {A B : TreeAutomaton} {cs : List Config} {ps : List ℕ} → PutsAll task A cs ps B → IsTrue (list_all (λ b. b) (map config_over cs)) → IsOver A → IsOver B
    all_over PutsAll.none over a = a
    all_over (PutsAll.more {c = c} {cs = cs} first rest) over a =
        all_over rest (second_so (config_over c) (list_all (λ b. b) (map config_over cs)) over) (put_over first (first_so (config_over c) (list_all (λ b. b) (map config_over cs)) over) a)

  -- ---- rounds

  module _ (context : Context) (over : IsTrue (rules_are_over s context.rules)) where
    rule_over : (i : ℕ) (rule : RewriteRule) → slice_get context.rules i ≡ Some rule → IsTrue (pattern_is_over s rule.right)
    rule_over i rule e =
        let all = AllPass-from_list_all (λ (r : RewriteRule). pattern_is_over s r.left && pattern_is_over s r.right) context.rules over in
        second_so (pattern_is_over s rule.left) (pattern_is_over s rule.right)
        (at_place (λ (r : RewriteRule). IsTrue (pattern_is_over s r.left && pattern_is_over s r.right)) context.rules i rule all e)

    normalised_over : {A B : TreeAutomaton} {pair : Pair} {p : ℕ} → Normalised context A pair p B → IsOver A → IsOver B
    normalised_over {A = A} {pair = pair} {p = p} n a =
        let right = n.rule.right in
        let is : IsTrue (config_over (assigned (state_in n.rule.vars pair.sigma) right)) = assigned_over (state_in n.rule.vars pair.sigma) right ∙ rule_over pair.rule n.rule n.is_rule in
        subst IsOver (sym n.led) (eps_over n.put p pair.state (put_over n.puts is a))

    all_normalised_over : {A B : TreeAutomaton} {pairs : List Pair} → NormalisedAll context A pairs B → IsOver A → IsOver B
    all_normalised_over NormalisedAll.none a = a
    all_normalised_over (NormalisedAll.more first rest) a = all_normalised_over rest (normalised_over first a)

  quotient_over : (A : TreeAutomaton) (h : List ℕ) → IsOver A → IsOver (quotient A h)
  quotient_over A h a = all_from_members TransOver (quotient A h).trans (λ t c.
      let was = map_had (renamed h) A.trans t (in_order_had trans_total trans_exact (map (renamed h) A.trans) t c) in
      subst TransOver was.2 (subst (λ n. IsTrue (is_symbol s was.0.sym n)) (sym (length-map was.0.args (image h))) (All-contains TransOver A.trans was.0 a was.1)))

  merged_over : {E : List RewriteEquation} {A B : TreeAutomaton} {h : List ℕ} → Merged E A B h → IsOver A → IsOver B
  merged_over (Merged.done settled) a = a
  merged_over (Merged.join {A = A} {p = p} {q = q} forced rest) a = merged_over rest (quotient_over A (joining A.next p q) a)

-- ---- stages

stage_over : {spec : Spec} {i : ℕ} {A : TreeAutomaton} {h : List ℕ} → IsStage spec i A h → IsOver spec.signature A
stage_over {spec = spec} IsStage.start = AllPass-from_list_all (λ (t : Trans). is_symbol spec.signature t.sym (length t.args)) spec.initial.trans spec.initial_over
stage_over {spec = spec} (IsStage.round {h = h} before round) =
    merged_over spec.signature round.merged (all_normalised_over spec.signature (record { entries = spec.entries; places = h; rules = spec.rules }) spec.rules_over round.normalised (stage_over before))

pub stage_is_over : (spec : Spec) (i : ℕ) (A : TreeAutomaton) (h : List ℕ) → IsStage spec i A h → IsTrue (automaton_is_over spec.signature A)
stage_is_over spec i A h stage = list_all-from_AllPass (λ (t : Trans). is_symbol spec.signature t.sym (length t.args)) A.trans (stage_over stage)
