-- There is one answer: what the answers say excludes each other.
use Rattle.std.proofs.Common.{◌≡◌, ℕ, suc, List, [], ◌∷◌, ◌++◌, length, All, Contains, refl, sym, ap, subst, ◌∙◌, ⊎_elim, arith}
use Rattle.std.proofs.lemmas.List.Elements.{All-contains}
use Rattle.list_laws.specs.Listings.{IsFirst}
use Rattle.list_laws.proofs.Members.{here, there}
use Rattle.trs_rules.specs.Rules.{RewriteRule}
use Rattle.trs_rules.specs.declared.sigma.Pair.{Pair}
use Rattle.ta_core.specs.TreeAutomaton.{TreeAutomaton}
use Rattle.ta_core.specs.Closure.{IsOpen, IsSettled, IsFirstOpen, assigned_by, triples_from}
use Rattle.ta_core.specs.Runs.{Runs}
use Rattle.ta_core.specs.Acceptance.{TransHolds, EpsHolds, FinalHolds}
use Rattle.ta_core.specs.AcceptanceLaws.{AcceptedTermsAreOver}
use Rattle.ta_core.specs.ClosureLaws.{TriplesAreAll}
use Rattle.ta_core.specs.declared.spec.Spec.{Spec}
use Rattle.ta_clean.specs.Meeting.{IsLeastMeeting}
use Rattle.closure_check.specs.Answers.{FailsFirstAt, HasOneAnswer, IsFirstMissing}
use Rattle.closure_check.specs.declared.answer.Missing.{Missing}
use Rattle.closure_check.specs.declared.answer.Missing.TheVariants as missing
use Rattle.closure_check.specs.declared.answer.Answer.TheVariants as answer
use Rattle.closure_check.proofs.firsts.Accepting.{first_member, none_missing, none_open, none_meet}

-- ---- first members

-- nothing is a first member and has the other property
module _ {X : Type 0} {Is Not : X → Type 0} (both : (x : X) → Is x → Not x → ⊥) where
  -- the same member, behind as many others
  record AreOne (x y : X) (before before' : List X) : Type 0 where
    same : x ≡ y
    place : length before ≡ length before'

  one_split : (xs ys : List X) (x y : X) (ds es : List X) → xs ++ x ∷ ds ≡ ys ++ y ∷ es → Is x → Is y → ((z : X) → Contains xs z → Not z) → ((z : X) → Contains ys z → Not z) → AreOne x y xs ys
  one_split [] [] x y ds es e i j n m = record { same = cc; place = refl }
  one_split [] (z ∷ ys) x y ds es e i j n m = absurd (both x i (m x (subst (λ w. Contains (w ∷ ys) x) (let h : x ≡ z = cc in h) (here x ys))))
  one_split (z ∷ xs) [] x y ds es e i j n m = absurd (both y j (n y (subst (λ w. Contains (w ∷ xs) y) (let h : y ≡ z = cc in h) (here y xs))))
  one_split (z ∷ xs) (w ∷ ys) x y ds es e i j n m =
      let h = one_split xs ys x y ds es (cc) i j (λ v c. n v (there z v xs c)) (λ v c. m v (there w v ys c)) in
      record { same = h.same; place = ap suc h.place }

  first_is_one : (xs : List X) (x y : X) (f : IsFirst Is Not xs x) (g : IsFirst Is Not xs y) → AreOne x y f.before g.before
  first_is_one xs x y f g = one_split f.before g.before x y f.after g.after (sym f.splits ∙ g.splits) f.is g.is (λ z c. All-contains Not f.before z f.earlier c) (λ z c. All-contains Not g.before z g.earlier c)

-- ---- the first part that isn't contained

holds_not : {X : Type 0} (P : X → Type 0) (x : X) → (¬ P x) → P x → ⊥
holds_not P x n p = n p

place_is_one : {X : Type 0} (P : X → Type 0) (xs : List X) (k l : ℕ) → FailsFirstAt P xs k → FailsFirstAt P xs l → k ≡ l
place_is_one P xs k l f g = sym f.2 ∙ ((first_is_one (holds_not P) xs f.0 g.0 f.1 g.1).place ∙ g.2)

none_at : {X : Type 0} (P : X → Type 0) (xs : List X) (k : ℕ) → FailsFirstAt P xs k → All P xs → ⊥
none_at P xs k f all = f.1.is (All-contains P xs f.0 all (first_member xs f.0 f.1))

missing_is_one : (A₀ A : TreeAutomaton) (h : List ℕ) (m n : Missing) → IsFirstMissing A₀ A h m → IsFirstMissing A₀ A h n → m ≡ n
missing_is_one A₀ A h (missing.Transition k) (missing.Transition l) a b = ap missing.Transition (place_is_one (TransHolds A h) A₀.trans k l a b)
missing_is_one A₀ A h (missing.Transition k) (missing.Epsilon l) a b = absurd (none_at (TransHolds A h) A₀.trans k a b.0)
missing_is_one A₀ A h (missing.Transition k) (missing.Final q) a b = absurd (none_at (TransHolds A h) A₀.trans k a b.0)
missing_is_one A₀ A h (missing.Epsilon k) (missing.Transition l) a b = absurd (none_at (TransHolds A h) A₀.trans l b a.0)
missing_is_one A₀ A h (missing.Epsilon k) (missing.Epsilon l) a b = ap missing.Epsilon (place_is_one (EpsHolds A h) A₀.eps k l a.1 b.1)
missing_is_one A₀ A h (missing.Epsilon k) (missing.Final q) a b = absurd (none_at (EpsHolds A h) A₀.eps k a.1 b.1)
missing_is_one A₀ A h (missing.Final p) (missing.Transition l) a b = absurd (none_at (TransHolds A h) A₀.trans l b a.0)
missing_is_one A₀ A h (missing.Final p) (missing.Epsilon l) a b = absurd (none_at (EpsHolds A h) A₀.eps l b.1 a.1)
missing_is_one A₀ A h (missing.Final p) (missing.Final q) a b = ap missing.Final (first_is_one (holds_not (FinalHolds A h)) A₀.finals p q a.2 b.2).same

-- ---- the first open pair

-- the right side runs to the state if the left side does
abbrev Follows : TreeAutomaton → RewriteRule → Pair → Type 0
Follows A rule pair = Runs A (assigned_by rule pair.sigma rule.left) pair.state → Runs A (assigned_by rule pair.sigma rule.right) pair.state

open_or_settled : (A : TreeAutomaton) (R : List RewriteRule) (pair : Pair) → IsOpen A R pair → IsSettled A R pair → ⊥
open_or_settled A R pair o s =
    let same : s.rule ≡ o.rule = let e = sym s.is_rule ∙ o.is_rule in cc in
    o.right (subst (λ (rule : RewriteRule). Follows A rule pair) same s.follows o.left)

open_is_one : (A : TreeAutomaton) (R : List RewriteRule) (x y : Pair) → IsFirstOpen A R x → IsFirstOpen A R y → x ≡ y
open_is_one A R x y f g = (first_is_one (open_or_settled A R) (triples_from A 0 R) x y f g).same

-- ---- the least pair of final states

meeting_is_one : (A B : TreeAutomaton) (p q r s : ℕ) → IsLeastMeeting A B p q → IsLeastMeeting A B r s → (p ≡ r) × (q ≡ s)
meeting_is_one A B p q r s a b = ⊎_elim
    (λ less. ⊎_elim (λ more. absurd (omega (arith, less, more))) (λ h. absurd (omega (arith, less, h.0))) (b.least p q a.meet))
    (λ h. ⊎_elim (λ more. absurd (omega (arith, h.0, more))) (λ k. (h.0, omega (arith, h.1, k.1))) (b.least p q a.meet))
    (a.least r s b.meet)

-- ---- all answers

pub one_answer : TriplesAreAll → AcceptedTermsAreOver → (spec : Spec) (A : TreeAutomaton) (h : List ℕ) → HasOneAnswer spec A h
one_answer triples over spec A h answer.Yes answer.Yes a b = refl
one_answer triples over spec A h answer.Yes (answer.NotContained m) a b = absurd (none_missing spec.initial A h m b a.contained)
one_answer triples over spec A h answer.Yes (answer.Open pair) a b = absurd (none_open triples A spec.rules pair b.1 a.closed)
one_answer triples over spec A h answer.Yes (answer.Meets p q) a b = absurd (none_meet over spec.signature A spec.forbidden p q spec.forbidden_over b.2 a.misses)
one_answer triples over spec A h (answer.NotContained m) answer.Yes a b = absurd (none_missing spec.initial A h m a b.contained)
one_answer triples over spec A h (answer.NotContained m) (answer.NotContained n) a b = ap answer.NotContained (missing_is_one spec.initial A h m n a b)
one_answer triples over spec A h (answer.NotContained m) (answer.Open pair) a b = absurd (none_missing spec.initial A h m a b.0)
one_answer triples over spec A h (answer.NotContained m) (answer.Meets p q) a b = absurd (none_missing spec.initial A h m a b.0)
one_answer triples over spec A h (answer.Open pair) answer.Yes a b = absurd (none_open triples A spec.rules pair a.1 b.closed)
one_answer triples over spec A h (answer.Open pair) (answer.NotContained m) a b = absurd (none_missing spec.initial A h m b a.0)
one_answer triples over spec A h (answer.Open pair) (answer.Open other) a b = ap answer.Open (open_is_one A spec.rules pair other a.1 b.1)
one_answer triples over spec A h (answer.Open pair) (answer.Meets p q) a b = absurd (none_open triples A spec.rules pair a.1 b.1)
one_answer triples over spec A h (answer.Meets p q) answer.Yes a b = absurd (none_meet over spec.signature A spec.forbidden p q spec.forbidden_over a.2 b.misses)
one_answer triples over spec A h (answer.Meets p q) (answer.NotContained m) a b = absurd (none_missing spec.initial A h m b a.0)
one_answer triples over spec A h (answer.Meets p q) (answer.Open pair) a b = absurd (none_open triples A spec.rules pair b.1 a.1)
one_answer triples over spec A h (answer.Meets p q) (answer.Meets r s) a b =
    let same = meeting_is_one A spec.forbidden p q r s a.2 b.2 in
    ap (λ x. answer.Meets x q) same.0 ∙ ap (answer.Meets r) same.1
