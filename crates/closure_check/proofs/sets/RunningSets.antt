-- Sets of states on the way over a pattern.
use Rattle.std.proofs.Common.{◌≡◌, ◌↔◌, ◌<◌, ◌≤◌, ℕ, zero, suc, ◌+◌, ◌-◌, Bool, true, false, not, cond, List, [], ◌∷◌, ◌++◌, length, get_or, map, take, Option, Some, None, slice_get, All, Contains, refl, sym, ap, subst, ◌∙◌, arith, length-append}
use Rattle.std.specs.List.{position_or_len}
use Rattle.std.specs.Option.{unwrap_or}
use Rattle.std.proofs.Math.Dec.{ltb}
use Rattle.std.proofs.lemmas.Bool.{ltb-false}
use Rattle.std.proofs.lemmas.List.{length-map, get_or-map, map-append, take_at, take_all, take_more, length-take-le, append_assoc, get_or_default}
use borrow.Rule.Slice.PartMut.{put_mid, mid_of, post_of, put_same}
use Rattle.std.proofs.lemmas.List.Sums.{prefix_len-le-length}
use Rattle.ranked_terms.specs.declared.term.Pattern.{Pattern}
use Rattle.ranked_terms.specs.declared.term.Pattern.TheVariants.{Var, App, rolls-Var, rolls-App}
use Rattle.ranked_terms.specs.lemmas.TermLaws.{pattern_induction, assigned_app}
use Rattle.ranked_terms.specs.Terms.{assigned}
use Rattle.ranked_terms.specs.declared.term.Config.{Config}
use Rattle.ranked_terms.specs.declared.term.Config.TheVariants as config
use Rattle.ta_core.specs.TreeAutomaton.{TreeAutomaton}
use Rattle.ta_core.specs.Runs.{Runs}
use Rattle.ta_core.specs.Reached.{EntersAndReaches}
use Rattle.ta_core.specs.lemmas.RunStates.{AreExact, exact_more, runs_of_app}
use Rattle.closure_check.specs.Marking.{Marked, HasRoom}
use Rattle.ranked_terms.specs.declared.term.Pattern.TheOpen as pattern
use Rattle.ranked_terms.specs.declared.term.Pattern.TheFolds.{fold-roll-Pattern}
use Rattle.closure_check.specs.Rooms.{sets_of, sets_from, sets_step, sets_of_sides, sets_of_rules}
use Rattle.trs_rules.specs.Rules.{RewriteRule}

-- ---- searches

place_by : (n len : ℕ) (b : Bool) → ltb n len ≡ b → n ≤ len → unwrap_or (cond b (Some n) None) len ≡ n
place_by n len true e h = refl
place_by n len false e h = omega (arith, ltb-false n len e, h)

-- the place that was found, and the length where there is none
pub place_or_length : (p : ℕ → Bool) (xs : List ℕ) (o : Option ℕ) → o ≡ cond (ltb (position_or_len p xs) (length xs)) (Some (position_or_len p xs)) None → unwrap_or o (length xs) ≡ position_or_len p xs
place_or_length p xs o e =
    let n = position_or_len p xs in
    ap (λ r. unwrap_or r (length xs)) e ∙ place_by n (length xs) (ltb n (length xs)) refl (prefix_len-le-length (λ x. not (p x)) xs)

-- ---- how many sets

-- the sets from a place on are enough for the argument there
pub enough_at : (ns : List ℕ) (m k d : ℕ) → k < length ns → sets_from ns ≤ m → get_or ns k d + k ≤ m
enough_at [] m k d l e = absurd (omega (arith, l))
enough_at (n ∷ ns) m zero d l e = omega (arith, e)
enough_at (n ∷ ns) m (suc k) d l e = omega (arith, e, enough_at ns (m - 1) k d (omega (arith, l)) (omega (arith, e)))

pub sets_of-app : (f : ℕ) (ps : List Pattern) → sets_of (App f ps) ≡ sets_from (map sets_of ps) + 1
sets_of-app f ps = ap sets_of (sym (rolls-App f ps)) ∙ fold-roll-Pattern ℕ sets_step (pattern.App f ps)

pub sets_of-var : (v : ℕ) → sets_of (Var v) ≡ 1
sets_of-var v = ap sets_of (sym (rolls-Var v)) ∙ fold-roll-Pattern ℕ sets_step (pattern.Var v)

pub sets_of-some : (p : Pattern) → 1 ≤ sets_of p
sets_of-some = pattern_induction (λ p. 1 ≤ sets_of p) (λ v. omega (arith, sets_of-var v)) (λ f ps each. omega (arith, sets_of-app f ps))

-- from the place of an argument on there are enough for it
pub enough_for : (p : Pattern) (f : ℕ) (args : List Pattern) (n k : ℕ) (arg : Pattern) → p ≡ App f args → sets_of p ≤ n + 1 → k < length args → arg ≡ get_or args k arg → sets_of arg + k ≤ n
enough_for p f args n k arg e enough l is =
    let all : sets_from (map sets_of args) ≤ n = omega (arith, enough, ap sets_of e, sets_of-app f args) in
    omega (arith, enough_at (map sets_of args) n k 0 (omega (arith, l, length-map args sets_of)) all, get_or-map sets_of args k arg 0 l, ap sets_of is)

pub within_for : (p : Pattern) (f : ℕ) (args : List Pattern) (n k : ℕ) (arg : Pattern) → p ≡ App f args → sets_of p ≤ n + 1 → k < length args → arg ≡ get_or args k arg → k < n
within_for p f args n k arg e enough l is = omega (arith, enough_for p f args n k arg e enough l is, sets_of-some arg)

-- ---- sizes

abbrev pub sizes : List Marked → List ℕ
sizes sets = map (λ (set : Marked). set.size) sets

abbrev pub lists : List Marked → List (List ℕ)
lists sets = map (λ (set : Marked). set.members) sets

pub room_by : (A : TreeAutomaton) (xs ys : List Marked) → sizes xs ≡ sizes ys → All (HasRoom A) ys → All (HasRoom A) xs
room_by A xs ys e all k d l =
    let size = λ (set : Marked). set.size in
    let long : length xs ≡ length ys = omega (arith, ap length e, length-map xs size, length-map ys size) in
    let l' : k < length ys = omega (arith, l, long) in
    let at : (get_or xs k d).size ≡ (get_or ys k d).size = sym (get_or-map size xs k d 0 l) ∙ (ap (λ s. get_or s k 0) e ∙ get_or-map size ys k d 0 l') in
    omega (arith, all k d l', at)

pub sizes_put : (a k : ℕ) (xs ys : List Marked) → sizes ys ≡ sizes (mid_of a k xs) → sizes (put_mid a k xs ys) ≡ sizes xs
sizes_put a k xs ys e =
    let size = λ (set : Marked). set.size in
    let split : (zs : List Marked) → sizes (put_mid a k xs zs) ≡ sizes (take a xs) ++ (sizes zs ++ sizes (post_of a k xs)) =
    λ zs. map-append size (take a xs) (zs ++ post_of a k xs) ∙ ap (λ l. sizes (take a xs) ++ l) (map-append size zs (post_of a k xs)) in
    split ys ∙ (ap (λ l. sizes (take a xs) ++ (l ++ sizes (post_of a k xs))) e ∙ (sym (split (mid_of a k xs)) ∙ ap sizes (put_same a k xs)))

-- ---- the sets of the arguments

pub take_seam : {X : Type 0} (xs ys : List X) (y : X) (k : ℕ) → length xs ≡ k → take (k + 1) (xs ++ y ∷ ys) ≡ xs ++ y ∷ []
take_seam xs ys y k e = ap (take (k + 1)) (sym (append_assoc xs (y ∷ []) ys)) ∙ take_at (xs ++ y ∷ []) ys (k + 1) (omega (arith, length-append xs (y ∷ []), e))

pub exact_put : (A : TreeAutomaton) (cs : List Config) (c : Config) (k m : ℕ) (xs ys : List Marked) → k ≤ length xs → 0 < length ys → AreExact A cs (lists (take k xs)) →
    ((set : Marked) → slice_get ys 0 ≡ Some set → (q : ℕ) → Contains set.members q ↔ Runs A c q) → AreExact A (cs ++ c ∷ []) (lists (take (k + 1) (put_mid k m xs ys)))
exact_put A cs c k m xs [] le some exact first = absurd (omega (arith, some))
exact_put A cs c k m xs (y ∷ ys) le some exact first =
    let seam : take (k + 1) (put_mid k m xs (y ∷ ys)) ≡ take k xs ++ y ∷ [] = take_seam (take k xs) (ys ++ post_of k m xs) y k (length-take-le k xs le) in
    let made = exact_more A cs (lists (take k xs)) c y.members exact (first y refl) in
    subst (AreExact A (cs ++ c ∷ [])) (sym (ap lists seam ∙ map-append (λ (set : Marked). set.members) (take k xs) (y ∷ []))) made

-- one argument more
pub args_more : (σ : ℕ → ℕ) (args : List Pattern) (k : ℕ) (arg : Pattern) → k < length args → arg ≡ get_or args k arg → map (assigned σ) (take (k + 1) args) ≡ map (assigned σ) (take k args) ++ assigned σ arg ∷ []
args_more σ args k arg l is =
    ap (map (assigned σ)) (take_more args k arg l ∙ ap (λ x. take k args ++ x ∷ []) (sym is)) ∙ map-append (assigned σ) (take k args) (arg ∷ [])

-- all arguments
pub runs_of_pattern : (A : TreeAutomaton) (σ : ℕ → ℕ) (f : ℕ) (args items : List Pattern) (p : Pattern) (k n : ℕ) (sets : List Marked) (set : Marked) → p ≡ App f args → items ≡ args → length items ≤ k → k ≡ n →
    AreExact A (map (assigned σ) (take k items)) (lists (take k sets)) → ((q : ℕ) → Contains set.members q ↔ EntersAndReaches A f (lists (take n sets)) q) → (q : ℕ) → Contains set.members q ↔ Runs A (assigned σ p) q
runs_of_pattern A σ f args items p k n sets set e same le is exact app q =
    let exact' : AreExact A (map (assigned σ) args) (lists (take n sets)) =
    subst (λ ps. AreExact A (map (assigned σ) ps) (lists (take n sets))) (take_all k items le ∙ same) (subst (λ j. AreExact A (map (assigned σ) (take k items)) (lists (take j sets))) is exact) in
    let runs = runs_of_app A f (map (assigned σ) args) (lists (take n sets)) exact' q in
    let config : assigned σ p ≡ config.App f (map (assigned σ) args) = ap (assigned σ) e ∙ assigned_app σ f args in
    (λ i. subst (λ c. Runs A c q) (sym config) (runs.0 ((app q).0 i)), λ r. (app q).1 (runs.1 (subst (λ c. Runs A c q) config r)))

pub args_within : (p : Pattern) (f : ℕ) (args : List Pattern) (n : ℕ) → p ≡ App f args → sets_of p ≤ n + 1 → length args ≤ n
args_within p f [] n e enough = omega arith
args_within p f (a ∷ rest) n e enough =
    let k = length rest in
    let x = get_or (a ∷ rest) k a in
    let l : k < length (a ∷ rest) = omega arith in
    omega (arith, within_for p f (a ∷ rest) n k x e enough l (get_or_default (a ∷ rest) k a x l))

-- what is enough for the rules is enough for each
pub enough_of_rule : (R : List RewriteRule) (k : ℕ) (rule : RewriteRule) (n : ℕ) → k < length R → rule ≡ get_or R k rule → sets_of_rules R ≤ n → length rule.vars + sets_of_sides rule ≤ n
enough_of_rule [] k rule n l e h = absurd (omega (arith, l))
enough_of_rule (r ∷ R) zero rule n l e h = omega (arith, ap (λ (x : RewriteRule). length x.vars + sets_of_sides x) e, h)
enough_of_rule (r ∷ R) (suc k) rule n l e h = enough_of_rule R k rule n (omega (arith, l)) e (omega (arith, h))

pub enough_among : (args : List Pattern) (k : ℕ) (arg : Pattern) (n : ℕ) → k < length args → arg ≡ get_or args k arg → sets_from (map sets_of args) ≤ n → sets_of arg + k ≤ n
enough_among args k arg n l is enough = omega (arith, enough_at (map sets_of args) n k 0 (omega (arith, l, length-map args sets_of)) enough, get_or-map sets_of args k arg 0 l, ap sets_of is)

pub same_length : (xs ys : List Marked) → sizes xs ≡ sizes ys → length xs ≡ length ys
same_length xs ys e = let size = λ (set : Marked). set.size in omega (arith, ap length e, length-map xs size, length-map ys size)

-- where each argument has enough, the arguments have
pub from_each : (args : List Pattern) (m : ℕ) → ((k : ℕ) (d : Pattern) → k < length args → sets_of (get_or args k d) + k ≤ m) → sets_from (map sets_of args) ≤ m
from_each [] m h = omega arith
from_each (a ∷ args) m h =
    let first = h 0 a (omega arith) in
    let rest = from_each args (m - 1) (λ k d l. omega (arith, h (suc k) d (omega (arith, l)))) in
    omega (arith, first, rest, sets_of-some a)

pub from_rules : (R : List RewriteRule) (n : ℕ) → All (λ (rule : RewriteRule). length rule.vars + sets_of_sides rule ≤ n) R → sets_of_rules R ≤ n
from_rules [] n h = omega arith
from_rules (rule ∷ R) n h = omega (arith, h 0 rule (omega arith), from_rules R n (λ k d l. h (suc k) d (omega (arith, l))))
