-- The first variable that stands a second time, and what it is to have none.
use Rattle.std.proofs.Common.{◌≡◌, ℕ, ◌+◌, ◌-◌, ◌<◌, ◌≤◌, Bool, true, false, ◌==◌, ◌||◌, cond, List, [], ◌∷◌, ◌++◌, map, length, take, drop, get_or, slice_get, Option, Some, None, if◌then◌else◌, refl, sym, ap, subst, ◌∙◌, arith, append_assoc, append-nil}
use Rattle.std.specs.List.{find}
use Rattle.std.proofs.lemmas.Bool.{eqb-true, eq-eqb}
use Rattle.std.proofs.lemmas.Cmp.{nat_eq_equiv}
use Rattle.std.proofs.lemmas.List.{take_more, take_all, take-append-drop}
use Rattle.std.proofs.lemmas.Option.{slice_get-get_or}
use Rattle.list_laws.proofs.Tests.{neither, if_none, if_true, if_false}
use Rattle.ranked_terms.specs.Terms.{joined, occurrences}
use Rattle.ranked_terms.specs.declared.term.Pattern.{Pattern}
use Rattle.trs_rules.specs.Variables.{is_in, repeat_after, first_repeat, IsSeen}
use Rattle.list_laws.proofs.Ends.{last_append, cut_last}
use Rattle.trs_rules.proofs.patterns.VariableLaws.{args_more}

-- ---- tests

if_some : (b : Bool) (x v : ℕ) (o p : Option ℕ) → (o ≡ Some v → p ≡ Some v) → (if b then Some x else o) ≡ Some v → (if b then Some x else p) ≡ Some v
if_some true x v o p k h = h
if_some false x v o p k h = k h

flip : (a b : ℕ) (r : Bool) → (a == b) ≡ r → (b == a) ≡ r
flip a b r h = nat_eq_equiv.symm b a ∙ h

-- ---- repeats of two lists

pub repeat_after-append : (seen xs ys : List ℕ) → repeat_after seen xs ≡ None → repeat_after seen (xs ++ ys) ≡ repeat_after (seen ++ xs) ys
repeat_after-append seen [] ys h = ap (λ zs. repeat_after zs ys) (sym (append-nil seen))
repeat_after-append seen (x ∷ xs) ys h =
    let k = if_none (is_in seen x) x (repeat_after (seen ++ x ∷ []) xs) h in
    if_false (is_in seen x) (Some x) (repeat_after (seen ++ x ∷ []) (xs ++ ys)) k.0 ∙
    (repeat_after-append (seen ++ x ∷ []) xs ys k.1 ∙ ap (λ zs. repeat_after zs ys) (append_assoc seen (x ∷ []) xs))

pub repeat_kept : (seen xs ys : List ℕ) (v : ℕ) → repeat_after seen xs ≡ Some v → repeat_after seen (xs ++ ys) ≡ Some v
repeat_kept seen [] ys v h = cc
repeat_kept seen (x ∷ xs) ys v h =
    if_some (is_in seen x) x v (repeat_after (seen ++ x ∷ []) xs) (repeat_after (seen ++ x ∷ []) (xs ++ ys)) (repeat_kept (seen ++ x ∷ []) xs ys v) h

front_none : (seen xs ys : List ℕ) → repeat_after seen (xs ++ ys) ≡ None → repeat_after seen xs ≡ None
front_none seen [] ys h = refl
front_none seen (x ∷ xs) ys h =
    let k = if_none (is_in seen x) x (repeat_after (seen ++ x ∷ []) (xs ++ ys)) h in
    if_false (is_in seen x) (Some x) (repeat_after (seen ++ x ∷ []) xs) k.0 ∙ front_none (seen ++ x ∷ []) xs ys k.1

-- one more variable
pub one_more : (seen : List ℕ) (v : ℕ) → first_repeat seen ≡ None → first_repeat (seen ++ v ∷ []) ≡ (if is_in seen v then Some v else None)
one_more seen v h = repeat_after-append [] seen (v ∷ []) h

-- ---- the first of two variables

abbrev pub either : ℕ → ℕ → ℕ → Bool
either v w x = x == v || x == w

found_at : (v w : ℕ) (rest : List ℕ) (b : Bool) → (v == w) ≡ b → (if (b || false) then Some v else Some w) ≡ Some w
found_at v w rest true h = ap Some (eqb-true v w h)
found_at v w rest false h = refl

or_true : (a : Bool) → (a || true) ≡ true
or_true true = refl
or_true false = refl

cond_yes : (b : Bool) (x : ℕ) (o : Option ℕ) → b ≡ true → cond b (Some x) o ≡ Some x
cond_yes true x o h = refl
cond_yes false x o h = cc

cond_no : (b : Bool) (x : ℕ) (o : Option ℕ) → b ≡ false → cond b (Some x) o ≡ o
cond_no true x o h = cc
cond_no false x o h = refl

passed : (x : ℕ) (front rest : List ℕ) (v w : ℕ) (b : Bool) → (v == x) ≡ b → (w == x) ≡ false → find (either v w) (front ++ w ∷ rest) ≡ (if is_in (front ++ w ∷ []) v then Some v else Some w) →
    find (either v w) (x ∷ front ++ w ∷ rest) ≡ (if (b || is_in (front ++ w ∷ []) v) then Some v else Some w)
passed x front rest v w true e n h =
    cond_yes (either v w x) x (find (either v w) (front ++ w ∷ rest)) (ap (λ b. b || x == w) (flip v x true e)) ∙ ap Some (sym (eqb-true v x e))
passed x front rest v w false e n h =
    cond_no (either v w x) x (find (either v w) (front ++ w ∷ rest)) (ap (λ b. b || x == w) (flip v x false e) ∙ flip w x false n) ∙ h

first_of_two : (front rest : List ℕ) (v w : ℕ) → is_in front w ≡ false → find (either v w) (front ++ w ∷ rest) ≡ (if is_in (front ++ w ∷ []) v then Some v else Some w)
first_of_two [] rest v w h =
    cond_yes (either v w w) w (find (either v w) rest) (ap (λ b. w == v || b) (eq-eqb w w refl) ∙ or_true (w == v)) ∙ sym (found_at v w rest (v == w) refl)
first_of_two (x ∷ front) rest v w h =
    let k = neither (w == x) (is_in front w) h in
    passed x front rest v w (v == x) refl k.0 (first_of_two front rest v w k.1)

-- ---- the next variable

last_in : (front : List ℕ) (w : ℕ) → is_in (front ++ w ∷ []) w ≡ true
last_in [] w = ap (λ b. b || false) (eq-eqb w w refl)
last_in (x ∷ front) w = ap (λ b. w == x || b) (last_in front w) ∙ or_true (w == x)

-- among the seen variables the last one stands last
record Stands (seen rest : List ℕ) (v w : ℕ) : Type 0 where
  pub finds : find (either v w) (seen ++ v ∷ rest) ≡ (if is_in seen v then Some v else Some w)
  pub has_last : is_in seen w ≡ true

stands_after : (front rest : List ℕ) (v w : ℕ) → first_repeat (front ++ w ∷ []) ≡ None → Stands (front ++ w ∷ []) rest v w
stands_after front rest v w h =
    let k = if_none (is_in front w) w None (sym (one_more front w (front_none [] front (w ∷ []) h)) ∙ h) in
    record {
      finds = ap (find (either v w)) (append_assoc front (w ∷ []) (v ∷ rest)) ∙ first_of_two front (v ∷ rest) v w k.0;
      has_last = last_in front w;
    }

stands : (seen rest : List ℕ) (v w : ℕ) → IsSeen seen (Some w) → Stands seen rest v w
stands [] rest v w h = absurd (let e = h.last_is in cc)
stands (x ∷ seen) rest v w h =
    let k = cut_last x seen w (sym h.last_is) in
    subst (λ s. Stands s rest v w) (sym k.1) (stands_after k.0 rest v w (subst (λ s. first_repeat s ≡ None) k.1 h.no_repeat))

in_if_found : (b : Bool) (v w first : ℕ) → (if b then Some v else Some w) ≡ Some first → first ≡ v → (w ≡ v → b ≡ true) → b ≡ true
in_if_found true v w first e h k = refl
in_if_found false v w first e h k = k (cc)

out_if_not : (b : Bool) (v w : ℕ) → ((first : ℕ) → (if b then Some v else Some w) ≡ Some first → first ≡ v → ⊥) → b ≡ false
out_if_not true v w h = absurd (h v refl refl)
out_if_not false v w h = refl

pub found_again : (seen rest whole : List ℕ) (v w first : ℕ) (o : Option ℕ) → whole ≡ seen ++ v ∷ rest → IsSeen seen (Some w) → o ≡ find (either v w) whole → o ≡ Some first → first ≡ v →
    Some v ≡ first_repeat (seen ++ v ∷ [])
found_again seen rest whole v w first o is h e f same =
    let k = stands seen rest v w h in
    let found : (if is_in seen v then Some v else Some w) ≡ Some first = sym k.finds ∙ (ap (find (either v w)) (sym is) ∙ (sym e ∙ f)) in
    let b = in_if_found (is_in seen v) v w first found same (λ q. subst (λ x. is_in seen x ≡ true) q k.has_last) in
    sym (one_more seen v h.no_repeat ∙ if_true (is_in seen v) (Some v) None b)

pub not_again : (seen rest whole : List ℕ) (v w : ℕ) (o : Option ℕ) → whole ≡ seen ++ v ∷ rest → IsSeen seen (Some w) → o ≡ find (either v w) whole → ((first : ℕ) → o ≡ Some first → first ≡ v → ⊥) →
    None ≡ first_repeat (seen ++ v ∷ [])
not_again seen rest whole v w o is h e none =
    let k = stands seen rest v w h in
    let found : o ≡ (if is_in seen v then Some v else Some w) = e ∙ (ap (find (either v w)) is ∙ k.finds) in
    let b = out_if_not (is_in seen v) v w (λ first f same. none first (found ∙ f) same) in
    sym (one_more seen v h.no_repeat ∙ if_false (is_in seen v) (Some v) None b)

none_seen : (seen : List ℕ) → IsSeen seen None → seen ≡ []
none_seen [] h = refl
none_seen (x ∷ seen) h =
    let e : slice_get (x ∷ seen) (length (x ∷ seen) - 1) ≡ Some (get_or (x ∷ seen) (length (x ∷ seen) - 1) x) = slice_get-get_or (x ∷ seen) (length (x ∷ seen) - 1) x (omega arith) in
    let d = h.last_is in
    cc

pub first_of_all : (seen : List ℕ) (v : ℕ) → IsSeen seen None → None ≡ first_repeat (seen ++ v ∷ [])
first_of_all seen v h = ap (λ s. first_repeat (s ++ v ∷ [])) (sym (none_seen seen h))

pub seen_more : (seen : List ℕ) (v : ℕ) → None ≡ first_repeat (seen ++ v ∷ []) → IsSeen (seen ++ v ∷ []) (Some v)
seen_more seen v h = record { no_repeat = sym h; last_is = sym (last_append seen v []) }

-- ---- one argument more

joined_map-append : (ps qs : List Pattern) → joined (map occurrences (ps ++ qs)) ≡ joined (map occurrences ps) ++ joined (map occurrences qs)
joined_map-append [] qs = refl
joined_map-append (p ∷ ps) qs = ap (λ vs. occurrences p ++ vs) (joined_map-append ps qs) ∙ sym (append_assoc (occurrences p) (joined (map occurrences ps)) (joined (map occurrences qs)))

taken_more : (ps : List Pattern) (i : ℕ) (p : Pattern) → i < length ps → p ≡ get_or ps i p → joined (map occurrences (take (i + 1) ps)) ≡ joined (map occurrences (take i ps)) ++ occurrences p
taken_more ps i p lt is =
    ap (λ qs. joined (map occurrences qs)) (take_more ps i p lt) ∙ (joined_map-append (take i ps) (get_or ps i p ∷ []) ∙
    (ap (λ vs. joined (map occurrences (take i ps)) ++ vs) (append-nil (occurrences (get_or ps i p))) ∙ ap (λ q. joined (map occurrences (take i ps)) ++ occurrences q) (sym is)))

cut_at : (ps : List Pattern) (i : ℕ) (p : Pattern) → i < length ps → p ≡ get_or ps i p →
    joined (map occurrences ps) ≡ (joined (map occurrences (take i ps)) ++ occurrences p) ++ joined (map occurrences (drop (i + 1) ps))
cut_at ps i p lt is =
    ap (λ qs. joined (map occurrences qs)) (sym (take-append-drop i ps)) ∙ (joined_map-append (take i ps) (drop i ps) ∙
    (ap (λ vs. joined (map occurrences (take i ps)) ++ vs) (args_more ps i p lt is) ∙ sym (append_assoc (joined (map occurrences (take i ps))) (occurrences p) (joined (map occurrences (drop (i + 1) ps))))))

regroup : (a b c d e : List ℕ) → a ++ (((b ++ c) ++ d) ++ e) ≡ (a ++ b) ++ (c ++ (d ++ e))
regroup a b c d e = simp append_assoc

regroup' : (a b c d : List ℕ) → ((a ++ b) ++ c) ++ d ≡ a ++ ((b ++ c) ++ d)
regroup' a b c d = simp append_assoc

pub place : (ps : List Pattern) (i : ℕ) (p : Pattern) (whole seen rest : List ℕ) → i < length ps → p ≡ get_or ps i p → whole ≡ seen ++ (joined (map occurrences ps) ++ rest) →
    whole ≡ (seen ++ joined (map occurrences (take i ps))) ++ (occurrences p ++ (joined (map occurrences (drop (i + 1) ps)) ++ rest))
place ps i p whole seen rest lt is e =
    e ∙ (ap (λ vs. seen ++ (vs ++ rest)) (cut_at ps i p lt is) ∙ regroup seen (joined (map occurrences (take i ps))) (occurrences p) (joined (map occurrences (drop (i + 1) ps))) rest)

pub repeat_here : (ps : List Pattern) (i : ℕ) (p : Pattern) (seen : List ℕ) (v : ℕ) → i < length ps → p ≡ get_or ps i p → Some v ≡ first_repeat ((seen ++ joined (map occurrences (take i ps))) ++ occurrences p) →
    Some v ≡ first_repeat (seen ++ joined (map occurrences ps))
repeat_here ps i p seen v lt is e =
    let a = joined (map occurrences (take i ps)) in
    let c = joined (map occurrences (drop (i + 1) ps)) in
    let whole : ((seen ++ a) ++ occurrences p) ++ c ≡ seen ++ joined (map occurrences ps) = regroup' seen a (occurrences p) c ∙ ap (λ vs. seen ++ vs) (sym (cut_at ps i p lt is)) in
    sym (ap first_repeat (sym whole) ∙ repeat_kept [] ((seen ++ a) ++ occurrences p) c v (sym e))

pub seen_further : (ps : List Pattern) (i : ℕ) (p : Pattern) (seen : List ℕ) (last : Option ℕ) → i < length ps → p ≡ get_or ps i p → IsSeen ((seen ++ joined (map occurrences (take i ps))) ++ occurrences p) last →
    IsSeen (seen ++ joined (map occurrences (take (i + 1) ps))) last
seen_further ps i p seen last lt is h =
    subst (λ vs. IsSeen vs last) (append_assoc seen (joined (map occurrences (take i ps))) (occurrences p) ∙ ap (λ vs. seen ++ vs) (sym (taken_more ps i p lt is))) h

pub seen_all : (ps : List Pattern) (i : ℕ) (seen : List ℕ) (last : Option ℕ) → length ps ≤ i → IsSeen (seen ++ joined (map occurrences (take i ps))) last → IsSeen (seen ++ joined (map occurrences ps)) last
seen_all ps i seen last h k = subst (λ qs. IsSeen (seen ++ joined (map occurrences qs)) last) (take_all i ps h) k
