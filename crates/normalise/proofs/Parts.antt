-- The parts of a configuration: their states, and how deep they are.
use Rattle.std.proofs.Common.{◌≡◌, ℕ, ◌+◌, ◌<◌, ◌≤◌, List, [], ◌∷◌, map, All, Contains, sym, ap, subst, ◌∙◌, ⊎_elim, arith}
use Rattle.std.specs.List.{AllByRecursion}
use Rattle.std.proofs.lemmas.List.Elements.{All-contains, All-append, Contains-append_left, Contains-append_right}
use Rattle.ranked_terms.specs.Terms.{assigned, occurrences, joined, greatest}
use Rattle.ranked_terms.specs.declared.term.Pattern.{Pattern}
use Rattle.ranked_terms.specs.declared.term.Config.{Config}
use Rattle.ranked_terms.specs.declared.term.Config.TheVariants as config
use Rattle.ranked_terms.specs.declared.term.Config.TheOpen as layer
use Rattle.ranked_terms.specs.declared.term.Config.TheFolds.{fold-Config, fold-roll-Config}
use Rattle.ranked_terms.specs.lemmas.TermLaws.{pattern_induction, assigned_var, assigned_app, occurrences_var, occurrences_app}
use Rattle.list_laws.proofs.Members.{here, none, parts, all_from_members, all_one}
use Rattle.normalise.specs.AtWork.{states_in, states_in_step}

-- ---- states

pub states_in_state : (q : ℕ) → states_in (config.State q) ≡ q ∷ []
states_in_state q = ap states_in (sym (config.rolls-State q)) ∙ fold-roll-Config (List ℕ) states_in_step (layer.State q)

pub states_in_app : (f : ℕ) (cs : List Config) → states_in (config.App f cs) ≡ joined (map states_in cs)
states_in_app f cs = ap states_in (sym (config.rolls-App f cs)) ∙ fold-roll-Config (List ℕ) states_in_step (layer.App f cs)

pub of_state : (P : ℕ → Type 0) (q : ℕ) → All P (states_in (config.State q)) → P q
of_state P q all = All-contains P (q ∷ []) q (subst (All P) (states_in_state q) all) (here q [])

joined_has : (cs : List Config) (c : Config) (q : ℕ) → Contains cs c → Contains (states_in c) q → Contains (joined (map states_in cs)) q
joined_has [] c q at i = absurd (none c at)
joined_has (d ∷ cs) c q at i =
    ⊎_elim (λ e. Contains-append_left (states_in d) (joined (map states_in cs)) q (subst (λ x. Contains (states_in x) q) (sym e) i))
    (λ later. Contains-append_right (states_in d) (joined (map states_in cs)) q (joined_has cs c q later i)) (parts d c cs at)

-- the states of an argument are those of the node
pub of_argument : (P Q : ℕ → Type 0) (f : ℕ) (cs : List Config) (c : Config) → ((q : ℕ) → P q → Q q) → All P (states_in (config.App f cs)) → Contains cs c → All Q (states_in c)
of_argument P Q f cs c on all at =
    all_from_members Q (states_in c) (λ q i. on q (All-contains P (joined (map states_in cs)) q (subst (All P) (states_in_app f cs) all) (joined_has cs c q at i)))

-- the states of a pattern with states for its variables are those of its variables
module _ (P : ℕ → Type 0) (σ : ℕ → ℕ) where
  abbrev IsOf : Pattern → Type 0
  IsOf p = All (λ v. P (σ v)) (occurrences p) → All P (states_in (assigned σ p))

  each_of : (ps : List Pattern) → AllByRecursion IsOf ps → All (λ v. P (σ v)) (joined (map occurrences ps)) → All P (joined (map states_in (map (assigned σ) ps)))
  each_of [] each all = all_from_members P [] (λ q i. absurd (none q i))
  each_of (p ∷ ps) each all =
      let first : All P (states_in (assigned σ p)) = each.0 (all_from_members (λ v. P (σ v)) (occurrences p)
      (λ v i. All-contains (λ v. P (σ v)) (joined (map occurrences (p ∷ ps))) v all (Contains-append_left (occurrences p) (joined (map occurrences ps)) v i))) in
      let rest = each_of ps each.1 (all_from_members (λ v. P (σ v)) (joined (map occurrences ps))
      (λ v i. All-contains (λ v. P (σ v)) (joined (map occurrences (p ∷ ps))) v all (Contains-append_right (occurrences p) (joined (map occurrences ps)) v i))) in
      All-append P (states_in (assigned σ p)) (joined (map states_in (map (assigned σ) ps))) first rest

  pub of_assigned : (p : Pattern) → IsOf p
  of_assigned = pattern_induction IsOf
      (λ v all. subst (λ c. All P (states_in c)) (sym (assigned_var σ v)) (subst (All P) (sym (states_in_state (σ v)))
      (all_one P (σ v) (All-contains (λ v. P (σ v)) (v ∷ []) v (subst (All (λ v. P (σ v))) (occurrences_var v) all) (here v [])))))
      (λ f ps each all. subst (λ c. All P (states_in c)) (sym (assigned_app σ f ps)) (subst (All P) (sym (states_in_app f (map (assigned σ) ps)))
      (each_of ps each (subst (All (λ v. P (σ v))) (occurrences_app f ps) all))))

-- ---- how deep an argument is

abbrev depth_step : layer.Config-F ℕ → ℕ
depth_step (layer.State q) = 0
depth_step (layer.App f ns) = greatest ns + 1

abbrev pub depth_of : Config → ℕ
depth_of = fold-Config ℕ depth_step

depth_app : (f : ℕ) (cs : List Config) → depth_of (config.App f cs) ≡ greatest (map depth_of cs) + 1
depth_app f cs = ap depth_of (sym (config.rolls-App f cs)) ∙ fold-roll-Config ℕ depth_step (layer.App f cs)

at_most : (cs : List Config) (c : Config) → Contains cs c → depth_of c ≤ greatest (map depth_of cs)
at_most [] c i = absurd (none c i)
at_most (d ∷ cs) c i = ⊎_elim (λ e. let h : depth_of c ≡ depth_of d = ap depth_of (sym e) in omega (arith, h)) (λ later. let h = at_most cs c later in omega (arith, h)) (parts d c cs i)

pub argument_less : (f : ℕ) (cs : List Config) (c d : Config) → d ≡ config.App f cs → Contains cs c → depth_of c < depth_of d
argument_less f cs c d is i = let h = at_most cs c i in let e = ap depth_of is ∙ depth_app f cs in omega (arith, h, e)
