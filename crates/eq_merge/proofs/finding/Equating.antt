-- What an equation equates are the ends of its two sides with the same states for the shared variables.
use Rattle.std.proofs.Common.{◌≡◌, ◌⊎◌, ℕ, ◌≤◌, ◌<◌, ◌==◌, not, List, [], ◌∷◌, ◌++◌, map, filter, length, All, Contains, refl, sym, subst, ◌∙◌, ⊎_elim, inl, inr, arith}
use Rattle.std.proofs.lemmas.Bool.Decides.{Decides-eqb}
use Rattle.std.proofs.lemmas.List.{length-map}
use Rattle.std.proofs.lemmas.List.Elements.{All-contains, All-map, Contains-append_left, Contains-append_right, Contains-append_cases}
use Rattle.std.proofs.lemmas.Map.Made.{AllPairs-from_IsDistinct}
use Rattle.list_laws.specs.Lists.{Decided}
use Rattle.list_laws.specs.Listings.{HasMoreThan}
use Rattle.list_laws.proofs.Decided.{member}
use Rattle.list_laws.proofs.Listings.{longer_if_more}
use Rattle.list_laws.proofs.Members.{here, there, none, parts, all_from_members}
use Rattle.ranked_terms.specs.Terms.{assigned, occurrences, firsts, variables_of}
use Rattle.ranked_terms.specs.declared.term.Pattern.{Pattern}
use Rattle.ranked_terms.specs.lemmas.InstanceLaws.{assigned-agree}
use Rattle.ranked_terms.specs.lemmas.VariableLaws.{variables_of-distinct, variables_of-occurs, occurrences-in_variables_of, firsts-cons}
use Rattle.trs_rules.specs.Rules.{RewriteEquation, IsEquation}
use Rattle.ta_core.specs.TreeAutomaton.{TreeAutomaton, IsSound, IsTransOf}
use Rattle.ta_core.specs.Runs.{RunsPlain}
use Rattle.ta_core.specs.Closure.{state_in}
use Rattle.ta_core.specs.declared.trans.Trans.{Trans}
use Rattle.ta_core.specs.lemmas.Assignments.{state_in_map, each_is_state}
use Rattle.eq_merge.specs.Merging.{Equates}
use Rattle.eq_merge.specs.Ends.{AreShared, EndsAt}
use Rattle.eq_merge.proofs.quotients.Filtered.{filter_had}
use Rattle.eq_merge.proofs.least.Deciding.{firsts_has}
use Rattle.eq_merge.proofs.least.LeastMerges.{plain_ends}

-- ---- variables

pub firsts_had : (vs : List ℕ) (v : ℕ) → Contains (firsts vs) v → Contains vs v
firsts_had [] v c = absurd (none v c)
firsts_had (w ∷ vs) v c =
    ⊎_elim (λ e. subst (Contains (w ∷ vs)) e (here w vs))
    (λ i. there w v vs (firsts_had vs v (filter_had (λ x. not (w == x)) (firsts vs) v i).0))
    (parts w v (filter (λ x. not (w == x)) (firsts vs)) (subst (λ xs. Contains xs v) (firsts-cons w vs) c))

module _ (e : RewriteEquation) (is : IsEquation e) where
  pub in_left : (v : ℕ) → Contains (variables_of e.left) v → Contains e.vars v
  in_left v c =
      subst (λ xs. Contains xs v) (sym is.vars_are)
      (firsts_has (occurrences e.left ++ occurrences e.right) v (Contains-append_left (occurrences e.left) (occurrences e.right) v (variables_of-occurs e.left v c)))

  pub in_right : (v : ℕ) → Contains (variables_of e.right) v → Contains e.vars v
  in_right v c =
      subst (λ xs. Contains xs v) (sym is.vars_are)
      (firsts_has (occurrences e.left ++ occurrences e.right) v (Contains-append_right (occurrences e.left) (occurrences e.right) v (variables_of-occurs e.right v c)))

  in_either : (v : ℕ) → Contains e.vars v → Contains (variables_of e.left) v ⊎ Contains (variables_of e.right) v
  in_either v c =
      ⊎_elim (λ i. inl (occurrences-in_variables_of e.left v i)) (λ i. inr (occurrences-in_variables_of e.right v i))
      (Contains-append_cases (occurrences e.left) (occurrences e.right) v (firsts_had (occurrences e.left ++ occurrences e.right) v (subst (λ xs. Contains xs v) is.vars_are c)))

  -- a side has no more variables than the equation
  few : (p : Pattern) → ((v : ℕ) → Contains (variables_of p) v → Contains e.vars v) → 16 < length (variables_of p) → ⊥
  few p inside many =
      let more : HasMoreThan 16 (Contains (variables_of p)) = record {
        some = variables_of p;
        distinct = AllPairs-from_IsDistinct Decides-eqb (variables_of p) (variables_of-distinct p);
        each = λ v c. c;
        more = many;
      } in
      omega (arith, longer_if_more 16 e.vars inside more, is.vars_are_few)

  pub few_left : length (variables_of e.left) ≤ 16
  few_left = ⊎_elim (λ l. l) (λ m. absurd (few e.left in_left m)) (at_most (length (variables_of e.left)))
    where
      at_most : (n : ℕ) → (n ≤ 16) ⊎ (16 < n)
      at_most n = grind (arith)

  pub few_right : length (variables_of e.right) ≤ 16
  few_right = ⊎_elim (λ l. l) (λ m. absurd (few e.right in_right m)) (at_most (length (variables_of e.right)))
    where
      at_most : (n : ℕ) → (n ≤ 16) ⊎ (16 < n)
      at_most n = grind (arith)

-- ---- from ends to what is equated

mapped_same : (f g : ℕ → ℕ) (xs : List ℕ) → map f xs ≡ map g xs → (x : ℕ) → Contains xs x → f x ≡ g x
mapped_same f g [] e x c = absurd (none x c)
mapped_same f g (y ∷ xs) e x c =
    ⊎_elim (λ same. subst (λ z. f z ≡ g z) same (first e)) (λ later. mapped_same f g xs (rest e) x later) (parts y x xs c)
  where
    first : f y ∷ map f xs ≡ g y ∷ map g xs → f y ≡ g y
    first h = cc

    rest : f y ∷ map f xs ≡ g y ∷ map g xs → map f xs ≡ map g xs
    rest h = cc

map_agree : (f g : ℕ → ℕ) (xs : List ℕ) → ((x : ℕ) → Contains xs x → f x ≡ g x) → map f xs ≡ map g xs
map_agree f g [] h = refl
map_agree f g (x ∷ xs) h = λ i. h x (here x xs) i ∷ map_agree f g xs (λ y c. h y (there x y xs c)) i

module _ {A : TreeAutomaton} (e : RewriteEquation) (is : IsEquation e) {shared : List ℕ} (are : AreShared e shared) where
  module _ {states : List ℕ} {p q : ℕ} (left : EndsAt A e.left shared states p) (right : EndsAt A e.right shared states q) where
    abbrev by_left : ℕ → ℕ
    by_left = state_in (variables_of e.left) left.σ

    abbrev by_right : ℕ → ℕ
    by_right = state_in (variables_of e.right) right.σ

    abbrev choice : (v : ℕ) → Decided (Contains (variables_of e.left) v) → ℕ
    choice v d = ⊎_elim (λ i. by_left v) (λ never. by_right v) d

    -- the left side's states, and the right side's for the other variables
    abbrev both : ℕ → ℕ
    both v = choice v (member (variables_of e.left) v)

    at_left : (v : ℕ) → Contains (variables_of e.left) v → by_left v ≡ both v
    at_left v c = by (member (variables_of e.left) v)
      where
        by : (d : Decided (Contains (variables_of e.left) v)) → by_left v ≡ choice v d
        by (inl i) = refl
        by (inr never) = absurd (never c)

    at_right : (v : ℕ) → Contains (variables_of e.right) v → by_right v ≡ both v
    at_right v c = by (member (variables_of e.left) v)
      where
        by : (d : Decided (Contains (variables_of e.left) v)) → by_right v ≡ choice v d
        by (inl i) = mapped_same by_right by_left shared (sym right.same ∙ left.same) v ((are v).1 (i, c))
        by (inr never) = refl

    left_state : (v : ℕ) → Contains (variables_of e.left) v → Contains A.states (by_left v)
    left_state v c =
        All-contains (λ v. Contains A.states (by_left v)) (variables_of e.left) v (each_is_state A (variables_of e.left) left.σ left.is_match.each_variable left.is_match.are_states) c

    right_state : (v : ℕ) → Contains (variables_of e.right) v → Contains A.states (by_right v)
    right_state v c =
        All-contains (λ v. Contains A.states (by_right v)) (variables_of e.right) v (each_is_state A (variables_of e.right) right.σ right.is_match.each_variable right.is_match.are_states) c

    pub equated : Equates A e p q
    equated = record {
      σ = both;
      are_states = all_from_members (λ v. Contains A.states (both v)) e.vars (λ v c.
          ⊎_elim (λ i. subst (Contains A.states) (at_left v i) (left_state v i)) (λ i. subst (Contains A.states) (at_right v i) (right_state v i)) (in_either e is v c));
      left = subst (λ c. RunsPlain A c p)
          (assigned-agree by_left both e.left (all_from_members (λ v. by_left v ≡ both v) (occurrences e.left) (λ v c. at_left v (occurrences-in_variables_of e.left v c)))) left.is_match.runs;
      right = subst (λ c. RunsPlain A c q)
          (assigned-agree by_right both e.right (all_from_members (λ v. by_right v ≡ both v) (occurrences e.right) (λ v c. at_right v (occurrences-in_variables_of e.right v c)))) right.is_match.runs;
    }

  -- ---- and back

  side_end : (σ : ℕ → ℕ) (p : Pattern) (q : ℕ) → ((v : ℕ) → Contains (variables_of p) v → Contains e.vars v) → ((v : ℕ) → Contains shared v → Contains (variables_of p) v) →
      All (λ v. Contains A.states (σ v)) e.vars → RunsPlain A (assigned σ p) q → EndsAt A p shared (map σ shared) q
  side_end σ p q inside has states runs = record {
    σ = map σ (variables_of p);
    is_match = record {
      each_variable = length-map (variables_of p) σ;
      are_states = All-map (Contains A.states) σ (variables_of p) (all_from_members (λ v. Contains A.states (σ v)) (variables_of p) (λ v c.
          All-contains (λ v. Contains A.states (σ v)) e.vars v states (inside v c)));
      runs = subst (λ c. RunsPlain A c q)
          (assigned-agree σ (state_in (variables_of p) (map σ (variables_of p))) p (all_from_members (λ v. σ v ≡ state_in (variables_of p) (map σ (variables_of p)) v) (occurrences p) (λ v c.
          sym (state_in_map σ v (variables_of p) (occurrences-in_variables_of p v c))))) runs;
    };
    same = map_agree σ (state_in (variables_of p) (map σ (variables_of p))) shared (λ v c. sym (state_in_map σ v (variables_of p) (has v c)));
  }

  pub left_end : {p q : ℕ} (x : Equates A e p q) → EndsAt A e.left shared (map x.σ shared) p
  left_end {p = p} x = side_end x.σ e.left p (in_left e is) (λ v c. ((are v).0 c).0) x.are_states x.left

  pub right_end : {p q : ℕ} (x : Equates A e p q) → EndsAt A e.right shared (map x.σ shared) q
  right_end {q = q} x = side_end x.σ e.right q (in_right e is) (λ v c. ((are v).0 c).1) x.are_states x.right

-- ---- ends are transitions from states to a state

pub end_states : {A : TreeAutomaton} → IsSound A → (p : Pattern) (shared : List ℕ) → ((v : ℕ) → Contains shared v → Contains (variables_of p) v) → (t : Trans) →
    EndsAt A p shared t.args t.to → IsTransOf A.states t
end_states {A = A} sound p shared has t end = record {
  args = subst (All (Contains A.states)) (sym end.same)
      (All-map (Contains A.states) (state_in (variables_of p) end.σ) shared (all_from_members (λ v. Contains A.states (state_in (variables_of p) end.σ v)) shared (λ v c.
      All-contains (λ v. Contains A.states (state_in (variables_of p) end.σ v)) (variables_of p) v
      (each_is_state A (variables_of p) end.σ end.is_match.each_variable end.is_match.are_states) (has v c))));
  to = plain_ends sound end.is_match.runs;
}
