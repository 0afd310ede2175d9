-- Walks over the variables of a pattern.
use Rattle.std.proofs.Common.{◌≡◌, ℕ, ◌+◌, ◌<◌, ◌≤◌, Bool, true, false, ◌==◌, List, [], ◌∷◌, ◌++◌, map, length, drop, get_or, fold, Option, Some, None, if◌then◌else◌, refl, sym, ap, ◌∙◌, arith, length-append}
use Rattle.std.specs.List.{find, list_any}
use Rattle.std.specs.Option.{option_or}
use Rattle.std.proofs.lemmas.List.{drop_more, drop_all}
use Rattle.std.proofs.lemmas.List.Folds.{find-append}
use Rattle.std.proofs.lemmas.List.Sums.{fold-append}
use Rattle.list_laws.proofs.Tests.{if_true, if_false}
use Rattle.ranked_terms.specs.Terms.{firsts, joined, occurrences, with_variable}
use Rattle.ranked_terms.specs.declared.term.Pattern.{Pattern}
use Rattle.ranked_terms.specs.declared.term.Pattern.TheVariants.{App}
use Rattle.ranked_terms.specs.lemmas.TermLaws.{occurrences_var, occurrences_app}

-- ---- the arguments

pub occurrences_args : (p : Pattern) (f : ℕ) (ps items : List Pattern) → p ≡ App f ps → items ≡ ps → occurrences p ≡ joined (map occurrences items)
occurrences_args p f ps items e is = ap occurrences e ∙ (occurrences_app f ps ∙ ap (λ qs. joined (map occurrences qs)) (sym is))

-- ---- one argument more

pub args_more : (ps : List Pattern) (i : ℕ) (p : Pattern) → i < length ps → p ≡ get_or ps i p →
    joined (map occurrences (drop i ps)) ≡ occurrences p ++ joined (map occurrences (drop (i + 1) ps))
args_more ps i p lt is =
    ap (λ qs. joined (map occurrences qs)) (drop_more ps i p lt) ∙ ap (λ q. occurrences q ++ joined (map occurrences (drop (i + 1) ps))) (sym is)

pub args_done : (ps : List Pattern) (i : ℕ) → length ps ≤ i → joined (map occurrences (drop i ps)) ≡ []
args_done ps i h = ap (λ qs. joined (map occurrences qs)) (drop_all i ps h)

-- ---- looking for a variable

pub found_here : (test : ℕ → Bool) (ps : List Pattern) (i : ℕ) (p : Pattern) (x : ℕ) (whole : Option ℕ) → i < length ps → p ≡ get_or ps i p → Some x ≡ find test (occurrences p) →
    find test (joined (map occurrences (drop i ps))) ≡ whole → Some x ≡ whole
found_here test ps i p x whole lt is e h =
    let rest = joined (map occurrences (drop (i + 1) ps)) in
    ap (λ o. option_or o (find test rest)) e ∙ (sym (find-append test (occurrences p) rest) ∙ (ap (find test) (sym (args_more ps i p lt is)) ∙ h))

pub found_later : (test : ℕ → Bool) (ps : List Pattern) (i : ℕ) (p : Pattern) (whole : Option ℕ) → i < length ps → p ≡ get_or ps i p → None ≡ find test (occurrences p) →
    find test (joined (map occurrences (drop i ps))) ≡ whole → find test (joined (map occurrences (drop (i + 1) ps))) ≡ whole
found_later test ps i p whole lt is e h =
    let rest = joined (map occurrences (drop (i + 1) ps)) in
    ap (λ o. option_or o (find test rest)) e ∙ (sym (find-append test (occurrences p) rest) ∙ (ap (find test) (sym (args_more ps i p lt is)) ∙ h))

-- ---- adding variables

pub with_old : (vs : List ℕ) (v : ℕ) → list_any (λ w. v == w) vs ≡ true → with_variable vs v ≡ vs
with_old vs v h = if_true (list_any (λ w. v == w) vs) vs (vs ++ v ∷ []) h

pub with_new : (vs : List ℕ) (v : ℕ) → list_any (λ w. v == w) vs ≡ false → with_variable vs v ≡ vs ++ v ∷ []
with_new vs v h = if_false (list_any (λ w. v == w) vs) vs (vs ++ v ∷ []) h

pub ruleset walking = (occurrences_var, occurrences_app)

pub ruleset adding = (with_old, with_new, fold-append, occurrences_var, occurrences_app)

grows : (vs : List ℕ) (v : ℕ) (b : Bool) → length vs ≤ length (if b then vs else (vs ++ v ∷ []))
grows vs v true = omega arith
grows vs v false = omega (arith, length-append vs (v ∷ []))

pub fold_grows : (vs ws : List ℕ) → length vs ≤ length (fold with_variable vs ws)
fold_grows vs [] = omega arith
fold_grows vs (w ∷ ws) = omega (arith, grows vs w (list_any (λ u. w == u) vs), fold_grows (with_variable vs w) ws)

pub added_more : (ps : List Pattern) (i : ℕ) (p : Pattern) (vs vs' whole : List ℕ) → i < length ps → p ≡ get_or ps i p → vs' ≡ fold with_variable vs (occurrences p) →
    fold with_variable vs (joined (map occurrences (drop i ps))) ≡ whole → fold with_variable vs' (joined (map occurrences (drop (i + 1) ps))) ≡ whole
added_more ps i p vs vs' whole lt is e h =
    let rest = joined (map occurrences (drop (i + 1) ps)) in
    ap (λ us. fold with_variable us rest) e ∙ (sym (fold-append with_variable vs (occurrences p) rest) ∙ (ap (fold with_variable vs) (sym (args_more ps i p lt is)) ∙ h))

pub over_full : (ps : List Pattern) (i : ℕ) (p : Pattern) (vs whole : List ℕ) → i < length ps → p ≡ get_or ps i p → 16 < length (fold with_variable vs (occurrences p)) →
    fold with_variable vs (joined (map occurrences (drop i ps))) ≡ whole → 16 < length whole
over_full ps i p vs whole lt is e h =
    let all = fold with_variable vs (occurrences p) in
    let rest = joined (map occurrences (drop (i + 1) ps)) in
    let k : fold with_variable all rest ≡ whole = added_more ps i p vs all whole lt is refl h in
    omega (arith, fold_grows all rest, ap length k)

pub both_over_full : (vs ws : List ℕ) → 16 < length (firsts vs) → 16 < length (firsts (vs ++ ws))
both_over_full vs ws h = omega (arith, fold_grows (firsts vs) ws, ap length (fold-append with_variable [] vs ws))
