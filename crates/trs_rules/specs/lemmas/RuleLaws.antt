-- A linear pattern is one in which no variable stands a second time; a right side is bound where it has no free variable.
-- Nobody has to believe this: it is proved, for the proofs of the crates above.
use Rattle.std.proofs.Common.{◌≡◌, ◌≢◌, ℕ, Bool, true, false, not, ◌==◌, ◌||◌, cond, List, [], ◌∷◌, ◌++◌, Option, Some, None, refl, sym, ap, ◌∙◌, true≢false}
use Rattle.std.specs.List.{AllByRecursion}
use Rattle.std.specs.Option.{is_some}
use Rattle.std.proofs.lemmas.Bool.{eqb-true, eqb-false}
use Rattle.std.proofs.lemmas.Cmp.{nat_eq_equiv}
use Rattle.std.proofs.lemmas.List.Elements.{All-contains, All-from_recursion, recursion_from_All}
use Rattle.std.proofs.lemmas.List.Folds.{list_any-append}
use Rattle.std.proofs.lemmas.Map.Views.{Contains-from_any, list_any-from_Contains}
use Rattle.list_laws.proofs.Different.{AreDifferent, none_differ, first_differs, rest_differs, more_differ}
use Rattle.list_laws.proofs.Members.{all_from_members}
use Rattle.list_laws.proofs.Tests.{neither, if_none, if_false}
use Rattle.ranked_terms.specs.Terms.{occurrences}
use Rattle.ranked_terms.specs.declared.term.Pattern.{Pattern}
use Rattle.trs_rules.specs.Rules.{IsLinear, IsBound}
use Rattle.trs_rules.specs.Variables.{is_in, repeat_after, first_repeat, first_free}

-- ---- linear patterns

-- none of the variables has been seen
abbrev Fresh : List ℕ → List ℕ → Type 0
Fresh seen vs = AllByRecursion (λ v. is_in seen v ≡ false) vs

abbrev AllOther : ℕ → List ℕ → Type 0
AllOther x vs = AllByRecursion (λ v. x ≢ v) vs

fresh_tail : (seen vs : List ℕ) (x : ℕ) → Fresh (seen ++ x ∷ []) vs → Fresh seen vs × AllOther x vs
fresh_tail seen [] x h = (tt, tt)
fresh_tail seen (v ∷ vs) x h =
    let k = neither (is_in seen v) (is_in (x ∷ []) v) (sym (list_any-append (λ w. v == w) seen (x ∷ [])) ∙ h.0) in
    let l = neither (v == x) false k.1 in
    let r = fresh_tail seen vs x h.1 in
    ((k.0, r.0), ((λ e. eqb-false v x l.0 (sym e)), r.1))

both_false : (a b : Bool) → a ≡ false → b ≡ false → (a || (b || false)) ≡ false
both_false true b h k = h
both_false false true h k = k
both_false false false h k = refl

other_false : (v x : ℕ) (r : Bool) → (v == x) ≡ r → (x ≢ v) → r ≡ false
other_false v x true h k = absurd (k (sym (eqb-true v x h)))
other_false v x false h k = refl

fresh_more : (seen vs : List ℕ) (x : ℕ) → Fresh seen vs → AllOther x vs → Fresh (seen ++ x ∷ []) vs
fresh_more seen [] x h d = tt
fresh_more seen (v ∷ vs) x h d =
    (list_any-append (λ w. v == w) seen (x ∷ []) ∙ both_false (is_in seen v) (v == x) h.0 (other_false v x (v == x) refl d.0), fresh_more seen vs x h.1 d.1)

-- without a repeat all are fresh and different
different_from_none : (seen vs : List ℕ) → repeat_after seen vs ≡ None → Fresh seen vs × AreDifferent vs
different_from_none seen [] h = (tt, none_differ)
different_from_none seen (x ∷ vs) h =
    let k = if_none (is_in seen x) x (repeat_after (seen ++ x ∷ []) vs) h in
    let r = different_from_none (seen ++ x ∷ []) vs k.1 in
    let f = fresh_tail seen vs x r.0 in
    ((k.0, f.0), more_differ x vs f.1 r.1)

none_from_different : (seen vs : List ℕ) → Fresh seen vs → AreDifferent vs → repeat_after seen vs ≡ None
none_from_different seen [] h d = refl
none_from_different seen (x ∷ vs) h d =
    if_false (is_in seen x) (Some x) (repeat_after (seen ++ x ∷ []) vs) h.0
    ∙ none_from_different (seen ++ x ∷ []) vs (fresh_more seen vs x h.1 (first_differs x vs d)) (rest_differs x vs d)

none_fresh : (vs : List ℕ) → Fresh [] vs
none_fresh [] = tt
none_fresh (v ∷ vs) = (refl, none_fresh vs)

pub linear_from_none : (p : Pattern) → first_repeat (occurrences p) ≡ None → IsLinear p
linear_from_none p h = (different_from_none [] (occurrences p) h).1

pub none_from_linear : (p : Pattern) → IsLinear p → first_repeat (occurrences p) ≡ None
none_from_linear p h = none_from_different [] (occurrences p) (none_fresh (occurrences p)) h

-- ---- bound patterns

in_if_not_free : (b : Bool) (v : ℕ) (o : Option ℕ) → cond (not b) (Some v) o ≡ None → (b ≡ true) × (o ≡ None)
in_if_not_free true v o h = (refl, h)
in_if_not_free false v o h = absurd (true≢false (ap is_some h))

skips : (b : Bool) (v : ℕ) (o : Option ℕ) → b ≡ true → cond (not b) (Some v) o ≡ o
skips true v o h = refl
skips false v o h = absurd (true≢false (sym h))

each_in : (bound vs : List ℕ) → first_free bound vs ≡ None → AllByRecursion (λ v. is_in bound v ≡ true) vs
each_in bound [] h = tt
each_in bound (v ∷ vs) h =
    let k = in_if_not_free (is_in bound v) v (first_free bound vs) h in
    (k.0, each_in bound vs k.1)

none_free : (bound vs : List ℕ) → AllByRecursion (λ v. is_in bound v ≡ true) vs → first_free bound vs ≡ None
none_free bound [] h = refl
none_free bound (v ∷ vs) h = skips (is_in bound v) v (first_free bound vs) h.0 ∙ none_free bound vs h.1

pub bound_from_none : (left right : Pattern) → first_free (occurrences left) (occurrences right) ≡ None → IsBound left right
bound_from_none left right h v c =
    let each = All-from_recursion (λ x. is_in (occurrences left) x ≡ true) (occurrences right) (each_in (occurrences left) (occurrences right) h) in
    Contains-from_any {eq = λ a b. a == b} eqb-true v (occurrences left) (All-contains (λ x. is_in (occurrences left) x ≡ true) (occurrences right) v each c)

pub none_from_bound : (left right : Pattern) → IsBound left right → first_free (occurrences left) (occurrences right) ≡ None
none_from_bound left right h =
    let each = all_from_members (λ x. is_in (occurrences left) x ≡ true) (occurrences right) (λ v c. list_any-from_Contains nat_eq_equiv v (occurrences left) (h v c)) in
    none_free (occurrences left) (occurrences right) (recursion_from_All (λ x. is_in (occurrences left) x ≡ true) (occurrences right) each)
