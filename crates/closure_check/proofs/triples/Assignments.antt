-- The assignments of a rule, state by state.
use Rattle.std.proofs.Common.{◌≡◌, ℕ, suc, ◌+◌, ◌<◌, Option, Some, None, IfNone, List, [], ◌∷◌, ◌++◌, map, length, All, sym, ap, subst, ◌∙◌, append_assoc, append-nil, length-append, is_some, true, true≢false, arith}
use Rattle.std.specs.List.{flat_map}
use Rattle.std.specs.Option.{option_to_list}
use Rattle.std.proofs.lemmas.List.{same_from_push}
use Rattle.trs_rules.specs.Rules.{RewriteRule}
use Rattle.ta_core.specs.TreeAutomaton.{TreeAutomaton}
use Rattle.ta_core.specs.Closure.{assignments}
use Rattle.closure_check.specs.Searching.{Settles, OpensFirst, with_states, going_on}
use Rattle.closure_check.proofs.sets.Lists.{flat_map-same, flat_map-append, flat_map-map, flat_map-flat_map, All-flat_map}
use Rattle.closure_check.proofs.triples.Walks.{Ends}
use Rattle.closure_check.proofs.firsts.FirstMembers.{first_amid}

-- no more states
pub going_on-none : (A : TreeAutomaton) (σ : List ℕ) → going_on A σ 0 ≡ with_states A σ
going_on-none A σ = append-nil (with_states A (σ ++ [])) ∙ ap (with_states A) (append-nil σ)

-- one more state and the others
pub going_on-more : (A : TreeAutomaton) (σ : List ℕ) (n : ℕ) → going_on A σ (suc n) ≡ flat_map (λ q. going_on A (σ ++ q ∷ []) n) A.states
going_on-more A σ n =
    let rests = assignments A.states n in
    let one : (q : ℕ) → flat_map (λ rest. with_states A (σ ++ rest)) (map (λ rest. q ∷ rest) rests) ≡ going_on A (σ ++ q ∷ []) n =
    λ q. flat_map-map (λ rest. with_states A (σ ++ rest)) (λ rest. q ∷ rest) rests
    ∙ flat_map-same (λ rest. with_states A (σ ++ q ∷ rest)) (λ rest. with_states A ((σ ++ q ∷ []) ++ rest)) (λ rest. ap (with_states A) (sym (append_assoc σ (q ∷ []) rest))) rests in
    flat_map-flat_map (λ rest. with_states A (σ ++ rest)) (λ q. map (λ rest. q ∷ rest) rests) A.states
    ∙ flat_map-same (λ q. flat_map (λ rest. with_states A (σ ++ rest)) (map (λ rest. q ∷ rest) rests)) (λ q. going_on A (σ ++ q ∷ []) n) one A.states

going_on-by : (A : TreeAutomaton) (σ : List ℕ) (n more : ℕ) → more ≡ n + 1 → going_on A σ more ≡ flat_map (λ q. going_on A (σ ++ q ∷ []) n) A.states
going_on-by A σ n more e = let one : more ≡ suc n = omega (arith, e) in ap (going_on A σ) one ∙ going_on-more A σ n

module _ (A : TreeAutomaton) (rule : RewriteRule) (σ : List ℕ) where
  pub settled_at : (slice : List ℕ) (more : ℕ) (r : Option ℕ) → slice ≡ σ → more ≡ 0 → IfNone r (All (Settles A rule) (with_states A slice)) → IfNone r (All (Settles A rule) (going_on A σ more))
  settled_at slice more (Some q) is none h = tt
  settled_at slice more None is none h =
      subst (All (Settles A rule)) (ap (with_states A) is ∙ (sym (going_on-none A σ) ∙ ap (going_on A σ) (sym none))) h

  -- each assignment that goes on by this state is settled
  abbrev pub SettledBy : ℕ → ℕ → Type 0
  SettledBy n q = All (Settles A rule) (going_on A (σ ++ q ∷ []) n)

  pub settled_all : (n more : ℕ) → more ≡ n + 1 → All (SettledBy n) A.states → All (Settles A rule) (going_on A σ more)
  settled_all n more one each = subst (All (Settles A rule)) (sym (going_on-by A σ n more one)) (All-flat_map (Settles A rule) (λ q. going_on A (σ ++ q ∷ []) n) A.states each)

  pub first_from : (n more q : ℕ) (found : List ℕ × ℕ) → more ≡ n + 1 → Ends (SettledBy n) A.states q →
      OpensFirst A rule (going_on A (σ ++ q ∷ []) n) found → OpensFirst A rule (going_on A σ more) found
  first_from n more q found one ends first =
      let from = λ (q : ℕ). going_on A (σ ++ q ∷ []) n in
      let parts : going_on A σ more ≡ flat_map from ends.before ++ (from q ++ flat_map from ends.after) =
      going_on-by A σ n more one ∙ (ap (flat_map from) ends.splits ∙ flat_map-append from ends.before (q ∷ ends.after)) in
      first_amid (going_on A σ more) (flat_map from ends.before) (from q) (flat_map from ends.after) found parts (All-flat_map (Settles A rule) from ends.before ends.earlier) first

-- an element goes on
pub pushed : {xs ys zs : List ℕ} (x : ℕ) → zs ≡ ys ++ x ∷ [] → ys ≡ xs → zs ≡ xs ++ x ∷ []
pushed x e h = e ∙ ap (λ qs. qs ++ x ∷ []) h

-- and it comes off
pub popped : {xs ys ys' zs : List ℕ} (x : ℕ) (o : Option ℕ) → ys ≡ xs ++ x ∷ [] → ys' ≡ ys → ys' ≡ zs ++ option_to_list o → (0 < length ys' → is_some o ≡ true) → zs ≡ xs
popped {xs} {ys} {ys'} {zs} x (Some y) e f h some = (same_from_push zs xs y x (sym h ∙ (f ∙ e))).0
popped {xs} {ys} {ys'} {zs} x None e f h some = absurd (true≢false (sym (some (omega (arith, ap length (f ∙ e), length-append xs (x ∷ []))))))

-- the assignments of a rule
pub of_vars : (A : TreeAutomaton) (σ vars all : List ℕ) → σ ≡ [] → vars ≡ all → going_on A σ (length vars) ≡ going_on A [] (length all)
of_vars A σ vars all none same = (λ i. going_on A (none i) (length (same i)))
