-- How the list of reached terms grows.
use Rattle.std.proofs.Common.{◌≡◌, ◌↔◌, ◌⊎◌, ℕ, zero, suc, ◌+◌, ◌<◌, ◌≤◌, List, [], ◌∷◌, ◌++◌, map, length, get_or, slice_get, Option, Some, None, refl, sym, ap, subst, ◌∙◌, inl, inr, ⊎_elim, append_assoc, append-nil, length-append, arith}
use Rattle.std.specs.List.{All, AllZip, Contains}
use Rattle.std.proofs.Common.{reverse, take}
use Rattle.std.proofs.lemmas.List.{take_more}
use Rattle.std.proofs.lemmas.Grind.{reverse_onto}
use Rattle.std.proofs.lemmas.List.Elements.{Contains-append_left, Contains-append_right, Contains-push, Contains-push_cases, All-contains, All-head, All-tail}
use Rattle.ranked_terms.specs.declared.term.Term.{Term}
use Rattle.trs_rules.specs.Rules.{RewriteRule}
use Rattle.trs_rules.specs.Steps.{StepAt}
use Rattle.derive_search.proofs.StepLaws.{placed_steps_are_steps, steps_are_placed}
use Rattle.list_laws.proofs.Members.{parts, none}
use Rattle.list_laws.proofs.Members.{all_from_members}
use Rattle.term_store.specs.Store.{term_at, Keeps}
use Rattle.term_store.specs.Found.{turned, IsFound, AreFound, StepsToLarge}
use Rattle.derive_search.specs.Growing.{terms_in, AddsOne, IsStepOf, AreAdded, IsStepOrigin, AreGrown, AreClosed, GrowsLarge}
use Rattle.term_store.specs.declared.found.Found.{Found}
use Rattle.derive_search.specs.declared.growth.Origin.{Origin}
use Rattle.derive_search.proofs.StoreFacts.{below}
use Rattle.derive_search.proofs.StoreFacts.{length-keeps}
use Rattle.derive_search.proofs.StoreFacts.{term_at_stays}

-- ---- two lists side by side

module _ {X Y : Type 0} (P : X → Y → Type 0) where
  pub zip_append : (xs : List X) (ys : List Y) (us : List X) (vs : List Y) → AllZip P xs ys → AllZip P us vs → AllZip P (xs ++ us) (ys ++ vs)
  zip_append [] [] us vs z w = w
  zip_append [] (y ∷ ys) us vs z w = absurd z
  zip_append (x ∷ xs) [] us vs z w = absurd z
  zip_append (x ∷ xs) (y ∷ ys) us vs z w = (z.0, zip_append xs ys us vs z.1 w)

  pub zip_member : (xs : List X) (ys : List Y) → AllZip P xs ys → (x : X) → Contains xs x → (y : Y) × P x y
  zip_member [] ys z x c = absurd (none x c)
  zip_member (u ∷ xs) [] z x c = absurd z
  zip_member (u ∷ xs) (y ∷ ys) z x c = ⊎_elim (λ e. (y, subst (λ u. P u y) e z.0)) (λ t. zip_member xs ys z.1 x t) (parts u x xs c)

  pub zip_length : (xs : List X) (ys : List Y) → AllZip P xs ys → length xs ≡ length ys
  zip_length [] [] z = refl
  zip_length [] (y ∷ ys) z = absurd z
  zip_length (x ∷ xs) [] z = absurd z
  zip_length (x ∷ xs) (y ∷ ys) z = ap suc (zip_length xs ys z.1)

  pub zip_at : (xs : List X) (ys : List Y) → AllZip P xs ys → (i : ℕ) (x : X) (y : Y) → slice_get xs i ≡ Some x → slice_get ys i ≡ Some y → P x y
  zip_at [] ys z i x y e f = cc
  zip_at (u ∷ xs) [] z i x y e f = absurd z
  zip_at (u ∷ xs) (v ∷ ys) z zero x y e f = let q : u ≡ x = cc in let r : v ≡ y = cc in subst (λ y. P x y) r (subst (λ x. P x v) q z.0)
  zip_at (u ∷ xs) (v ∷ ys) z (suc i) x y e f = zip_at xs ys z.1 i x y e f

  pub zip_from : (xs : List X) (ys : List Y) → AllZip P xs ys → (Q : X → Y → Type 0) → ((x : X) (y : Y) → Contains xs x → P x y → Q x y) → AllZip Q xs ys
  zip_from [] [] z Q h = tt
  zip_from [] (y ∷ ys) z Q h = absurd z
  zip_from (x ∷ xs) [] z Q h = absurd z
  zip_from (x ∷ xs) (y ∷ ys) z Q h = (h x y (0, omega arith, refl) z.0, zip_from xs ys z.1 Q (λ u v c p. h u v (suc c.0, omega (arith, c.1), c.2) p))

pub append_cases : {X : Type 0} (xs ys : List X) (x : X) → Contains (xs ++ ys) x → Contains xs x ⊎ Contains ys x
append_cases [] ys x c = inr c
append_cases (a ∷ xs) ys x c = ⊎_elim (λ e. inl (0, omega arith, e)) (λ t. ⊎_elim (λ l. inl (suc l.0, omega (arith, l.1), l.2)) (λ r. inr r) (append_cases xs ys x t)) (parts a x (xs ++ ys) c)

-- an element of two lists one after the other
pub at_cases : {X : Type 0} (xs ys : List X) (i : ℕ) (x : X) → slice_get (xs ++ ys) i ≡ Some x → ((i < length xs) × (slice_get xs i ≡ Some x)) ⊎ ((k : ℕ) × (i ≡ length xs + k) × (slice_get ys k ≡ Some x))
at_cases [] ys i x e = inr (i, omega arith, e)
at_cases (u ∷ xs) ys zero x e = inl (omega arith, e)
at_cases (u ∷ xs) ys (suc i) x e = ⊎_elim (λ h. inl (omega (arith, h.0), h.1)) (λ h. inr (h.0, omega (arith, h.1), h.2)) (at_cases xs ys i x e)

pub at_back : {X : Type 0} (xs ys : List X) (k : ℕ) (x : X) → slice_get ys k ≡ Some x → slice_get (xs ++ ys) (length xs + k) ≡ Some x
at_back [] ys k x e = ap (slice_get ys) (zero_more k) ∙ e
  where
    zero_more : (k : ℕ) → 0 + k ≡ k
    zero_more k = omega arith
at_back (u ∷ xs) ys k x e = ap (slice_get (u ∷ (xs ++ ys))) (one_more (length xs) k) ∙ at_back xs ys k x e
  where
    one_more : (n k : ℕ) → suc n + k ≡ suc (n + k)
    one_more n k = omega arith

pub at_index : {X : Type 0} (xs : List X) (i : ℕ) (x : X) → i < length xs → x ≡ get_or xs i x → slice_get xs i ≡ Some x
at_index [] i x l e = absurd (omega (arith, l))
at_index (u ∷ xs) zero x l e = ap Some (sym e)
at_index (u ∷ xs) (suc i) x l e = at_index xs i x (omega (arith, l)) e

pub at_map : {X Y : Type 0} (f : X → Y) (xs : List X) (i : ℕ) (x : X) → slice_get xs i ≡ Some x → slice_get (map f xs) i ≡ Some (f x)
at_map f [] i x e = cc
at_map f (u ∷ xs) zero x e = let q : u ≡ x = cc in ap (λ u. Some (f u)) q
at_map f (u ∷ xs) (suc i) x e = at_map f xs i x e

pub is_member : {X : Type 0} (xs : List X) (i : ℕ) (x : X) → slice_get xs i ≡ Some x → Contains xs x
is_member [] i x e = cc
is_member (u ∷ xs) zero x e = let q : u ≡ x = cc in (0, omega arith, q)
is_member (u ∷ xs) (suc i) x e = let c = is_member xs i x e in (suc c.0, omega (arith, c.1), c.2)

pub at_member : {X : Type 0} (xs : List X) (x : X) → Contains xs x → (i : ℕ) × (slice_get xs i ≡ Some x)
at_member [] x c = absurd (none x c)
at_member (u ∷ xs) x c = ⊎_elim (λ e. (0, ap Some e)) (λ t. let r = at_member xs x t in (suc r.0, r.1)) (parts u x xs c)

pub length-terms_in : (terms : List Term) (ids : List ℕ) → length (terms_in terms ids) ≡ length ids
length-terms_in terms [] = refl
length-terms_in terms (x ∷ ids) = ap suc (length-terms_in terms ids)

pub terms_in-append : (terms : List Term) (xs ys : List ℕ) → terms_in terms (xs ++ ys) ≡ terms_in terms xs ++ terms_in terms ys
terms_in-append terms [] ys = refl
terms_in-append terms (x ∷ xs) ys = ap (λ ts. term_at terms x ∷ ts) (terms_in-append terms xs ys)

pub terms_in_stay : (a b : List Term) → Keeps a b → (ids : List ℕ) → All (λ x. x < length a) ids → terms_in b ids ≡ terms_in a ids
terms_in_stay a b k [] h = refl
terms_in_stay a b k (x ∷ ids) h =
    let e = term_at_stays a b k x (All-head (λ x. x < length a) x ids h) in
    let es = terms_in_stay a b k ids (All-tail (λ x. x < length a) x ids h) in
    λ i. e i ∷ es i

pub term_of : (terms : List Term) (ids : List ℕ) (t : Term) → Contains (terms_in terms ids) t → (id : ℕ) × Contains ids id × (term_at terms id ≡ t)
term_of terms [] t c = absurd (none t c)
term_of terms (x ∷ ids) t c = ⊎_elim (λ e. (x, (0, omega arith, refl), e)) (λ r. let h = term_of terms ids t r in (h.0, (suc h.1.0, omega (arith, h.1.1), h.1.2), h.2)) (parts (term_at terms x) t (terms_in terms ids) c)

pub in_terms : (terms : List Term) (ids : List ℕ) (id : ℕ) → Contains ids id → Contains (terms_in terms ids) (term_at terms id)
in_terms terms [] id c = absurd (none id c)
in_terms terms (x ∷ ids) id c = ⊎_elim (λ e. (0, omega arith, ap (term_at terms) e)) (λ r. let h = in_terms terms ids id r in (suc h.0, omega (arith, h.1), h.2)) (parts x id ids c)

-- ---- one identity more

pub added_is_there : (id : ℕ) (o : Option Origin) (ids : List ℕ) (os : List (Option Origin)) (ids' : List ℕ) (os' : List (Option Origin)) → AddsOne id o ids os ids' os' → Contains ids' id
added_is_there id o ids os ids' os' h = ⊎_elim (λ old. subst (λ xs. Contains xs id) (sym old.1) old.0) (λ new. subst (λ xs. Contains xs id) (sym new.0) (Contains-push ids id)) h

pub added_keeps : (id : ℕ) (o : Option Origin) (ids : List ℕ) (os : List (Option Origin)) (ids' : List ℕ) (os' : List (Option Origin)) → AddsOne id o ids os ids' os' → (x : ℕ) → Contains ids x → Contains ids' x
added_keeps id o ids os ids' os' h x c = ⊎_elim (λ old. subst (λ xs. Contains xs x) (sym old.1) c) (λ new. subst (λ xs. Contains xs x) (sym new.0) (Contains-append_left ids (id ∷ []) x c)) h

pub added_length : (id : ℕ) (o : Option Origin) (ids : List ℕ) (os : List (Option Origin)) (ids' : List ℕ) (os' : List (Option Origin)) → AddsOne id o ids os ids' os' → length ids' ≤ length ids + 1
added_length id o ids os ids' os' h = ⊎_elim (λ old. omega (arith, ap length old.1)) (λ new. omega (arith, ap length new.0, length-append ids (id ∷ []))) h

module _ (parent : ℕ) (founds : List Found) (ids : List ℕ) (os : List (Option Origin)) where
  pub nothing_added : AreAdded parent founds ids os ids os
  nothing_added = record { more = []; more_origins = []; ids_are = sym (append-nil ids); origins_are = sym (append-nil os); each = tt }

  pub one_added : (id : ℕ) (o : Option Origin) (ids₁ : List ℕ) (os₁ : List (Option Origin)) (ids₂ : List ℕ) (os₂ : List (Option Origin)) → AreAdded parent founds ids os ids₁ os₁ → AddsOne id o ids₁ os₁ ids₂ os₂ → IsStepOf parent founds id o → AreAdded parent founds ids os ids₂ os₂
  one_added id o ids₁ os₁ ids₂ os₂ h a is = ⊎_elim
      (λ old. record { more = h.more; more_origins = h.more_origins; ids_are = old.1 ∙ h.ids_are; origins_are = old.2 ∙ h.origins_are; each = h.each })
      (λ new. record {
        more = h.more ++ id ∷ [];
        more_origins = h.more_origins ++ o ∷ [];
        ids_are = new.0 ∙ (ap (λ xs. xs ++ id ∷ []) h.ids_are ∙ append_assoc ids h.more (id ∷ []));
        origins_are = new.1 ∙ (ap (λ xs. xs ++ o ∷ []) h.origins_are ∙ append_assoc os h.more_origins (o ∷ []));
        each = zip_append (IsStepOf parent founds) h.more h.more_origins (id ∷ []) (o ∷ []) h.each (is, tt);
      }) a

-- ---- the steps from one place

module _ (R : List RewriteRule) (ts : List Term) (first : ℕ) (ids₀ : List ℕ) (os₀ : List (Option Origin)) where
  pub nothing_grown : (terms : List Term) → All (λ a. a < length terms) ids₀ → AreGrown R ts first terms ids₀ os₀ ids₀ os₀
  nothing_grown terms there = record { more = []; more_origins = []; ids_are = sym (append-nil ids₀); origins_are = sym (append-nil os₀); there = there; each = tt }

  in_more : (more : List ℕ) (ids : List ℕ) → ids ≡ ids₀ ++ more → (x : ℕ) → Contains more x → Contains ids x
  in_more more ids e x c = subst (λ xs. Contains xs x) (sym e) (Contains-append_right ids₀ more x c)

  pub grown_stays : (now after : List Term) → Keeps now after → (ids : List ℕ) (os : List (Option Origin)) → AreGrown R ts first now ids₀ os₀ ids os → AreGrown R ts first after ids₀ os₀ ids os
  grown_stays now after k ids os h = record {
    more = h.more;
    more_origins = h.more_origins;
    ids_are = h.ids_are;
    origins_are = h.origins_are;
    there = below (length now) (length after) ids (length-keeps now after k) h.there;
    each = zip_from (λ id o. IsStepOrigin R ts first (term_at now id) o) h.more h.more_origins h.each (λ id o. IsStepOrigin R ts first (term_at after id) o) (λ id o c p.
        subst (λ t. IsStepOrigin R ts first t o) (sym (term_at_stays now after k id (All-contains (λ a. a < length now) ids id h.there (in_more h.more ids h.ids_are id c)))) p);
  }

  module _ (place : ℕ) (s : Term) (is_from : slice_get ts place ≡ Some s) (late : first ≤ place) (now after : List Term) (k : Keeps now after) (founds : List Found) (all : AreFound R s after founds)
      (ids : List ℕ) (os : List (Option Origin)) (ids' : List ℕ) (os' : List (Option Origin)) (added : AreAdded place founds ids os ids' os') where
    new_origin : (id : ℕ) (o : Option Origin) → IsStepOf place founds id o → IsStepOrigin R ts first (term_at after id) o
    new_origin id o h =
        let f = All-contains (IsFound R s after) founds h.found all.steps h.member in
        record {
          origin = record { parent = place; rule = h.found.rule; back = h.found.back };
          is = h.is_origin;
          late = late;
          from = s;
          is_from = is_from;
          position = f.position;
          back = f.back;
          step = subst (λ x. StepAt R h.found.rule f.position s (term_at after x)) (sym h.is_id) f.step;
        }

    new_there : (x : ℕ) → Contains added.more x → x < length after
    new_there x c =
        let p = zip_member (IsStepOf place founds) added.more added.more_origins added.each x c in
        let f = All-contains (IsFound R s after) founds p.1.found all.steps p.1.member in
        subst (λ y. y < length after) (sym p.1.is_id) f.there

    pub grown_more : AreGrown R ts first now ids₀ os₀ ids os → AreGrown R ts first after ids₀ os₀ ids' os'
    grown_more g = let h = grown_stays now after k ids os g in record {
      more = h.more ++ added.more;
      more_origins = h.more_origins ++ added.more_origins;
      ids_are = added.ids_are ∙ (ap (λ xs. xs ++ added.more) h.ids_are ∙ append_assoc ids₀ h.more added.more);
      origins_are = added.origins_are ∙ (ap (λ xs. xs ++ added.more_origins) h.origins_are ∙ append_assoc os₀ h.more_origins added.more_origins);
      there = subst (λ xs. All (λ a. a < length after) xs) (sym added.ids_are) (all_from_members (λ a. a < length after) (ids ++ added.more) (λ x c.
          ⊎_elim (λ old. All-contains (λ a. a < length after) ids x h.there old) (λ new. new_there x new) (append_cases ids added.more x c)));
      each = zip_append (λ id o. IsStepOrigin R ts first (term_at after id) o) h.more h.more_origins added.more added.more_origins h.each
          (zip_from (IsStepOf place founds) added.more added.more_origins added.each (λ id o. IsStepOrigin R ts first (term_at after id) o) (λ id o c p. new_origin id o p));
    }

    last_or : (i n : ℕ) → i < n + 1 → (i < n) ⊎ (i ≡ n)
    last_or zero zero l = inr refl
    last_or zero (suc n) l = inl (omega arith)
    last_or (suc i) zero l = absurd (omega (arith, l))
    last_or (suc i) (suc n) l = ⊎_elim (λ h. inl (omega (arith, h))) (λ e. inr (ap suc e)) (last_or i n (omega (arith, l)))

    still_there : AreGrown R ts first now ids₀ os₀ ids os → (t : Term) → Contains (terms_in now ids) t → Contains (terms_in after ids') t
    still_there g t c =
        let h = term_of now ids t c in
        subst (λ u. Contains (terms_in after ids') u) (term_at_stays now after k h.0 (All-contains (λ a. a < length now) ids h.0 g.there h.1) ∙ h.2)
        (in_terms after ids' h.0 (subst (λ xs. Contains xs h.0) (sym added.ids_are) (Contains-append_left ids added.more h.0 h.1)))

    pub closed_more : AreGrown R ts first now ids₀ os₀ ids os → ((f : Found) → Contains founds f → Contains ids' f.term) → AreClosed R ts first place (terms_in now ids) → AreClosed R ts first (place + 1) (terms_in after ids')
    closed_more g are h p u t l m is st = ⊎_elim
        (λ less. still_there g t (h p u t l less is st))
        (λ same.
        let q : s ≡ u = go (sym is_from ∙ (ap (slice_get ts) (sym same) ∙ is)) in
        let w = steps_are_placed R u t st in
        let x = all.all w.rule w.position t (subst (λ u. StepAt R w.rule w.position u t) (sym q) w.step) in
        subst (λ y. Contains (terms_in after ids') y) x.is (in_terms after ids' x.found.term (are x.found x.member)))
        (last_or p place m)
      where
        go : {x y : Term} → Some x ≡ Some y → x ≡ y
        go e = cc

  pub nothing_closed : (all : List Term) → AreClosed R ts first first all
  nothing_closed all p u t l m is st = absurd (omega (arith, l, m))

  pub large_growth : (place : ℕ) (s : Term) → slice_get ts place ≡ Some s → first ≤ place → StepsToLarge R s → GrowsLarge R ts first
  large_growth place s is l h = record { place = place; late = l; from = s; is_from = is; to = h.to; step = placed_steps_are_steps R h.rule h.position s h.to h.step; large = h.large }

-- the term of a place, in the terms as they were at the start
pub place_is : (a now : List Term) → Keeps a now → (ids₀ more ids : List ℕ) → All (λ x. x < length a) ids₀ → ids ≡ ids₀ ++ more → (place id : ℕ) → place < length ids₀ → slice_get ids place ≡ Some id → slice_get (terms_in a ids₀) place ≡ Some (term_at now id)
place_is a now k ids₀ more ids there e place id l is = ⊎_elim
    (λ h. at_map (term_at a) ids₀ place id h.1 ∙ ap Some (sym (term_at_stays a now k id (All-contains (λ x. x < length a) ids₀ id there (is_member ids₀ place id h.1)))))
    (λ h. absurd (omega (arith, l, h.1)))
    (at_cases ids₀ more place id (ap (λ xs. slice_get xs place) (sym e) ∙ is))

pub member_at : (xs ys : List Found) (x : Found) (all : List Found) → all ≡ xs ++ x ∷ ys → Contains all x
member_at xs ys x all e = subst (λ zs. Contains zs x) (sym e) (Contains-append_right xs (x ∷ ys) x (0, omega arith, refl))

turned-push : (xs : List ℕ) (k : ℕ) → turned (xs ++ k ∷ []) ≡ k ∷ turned xs
turned-push [] k = refl
turned-push (x ∷ xs) k = ap (λ ys. ys ++ x ∷ []) (turned-push xs k)

pub turned_twice : (xs : List ℕ) → turned (turned xs) ≡ xs
turned_twice [] = refl
turned_twice (x ∷ xs) = turned-push (turned xs) x ∙ ap (λ ys. x ∷ ys) (turned_twice xs)

pub reverse_turned : (xs : List ℕ) → reverse xs ≡ turned xs
reverse_turned [] = refl
reverse_turned (x ∷ xs) = reverse_onto xs x [] ∙ ap (λ ys. ys ++ x ∷ []) (reverse_turned xs)

-- the first of the starts, and one more
pub first_more : (starts : List ℕ) (i d : ℕ) → i < length starts → (ids : List ℕ) (os : List (Option Origin)) (ids' : List ℕ) (os' : List (Option Origin)) → AddsOne (get_or starts i d) None ids os ids' os'
    → ((id : ℕ) → Contains ids id ↔ Contains (take i starts) id) → length ids ≤ i → length os ≡ length ids → All (λ o. o ≡ None) os
    → ((id : ℕ) → Contains ids' id ↔ Contains (take (i + 1) starts) id) × ((length ids' ≤ i + 1) × ((length os' ≡ length ids') × All (λ o. o ≡ None) os'))
first_more starts i d l ids os ids' os' a same few count nowhere = (
  λ id. (
    λ c. subst (λ xs. Contains xs id) (sym is) (⊎_elim
        (λ old. Contains-append_left (take i starts) ((get_or starts i d) ∷ []) id ((same id).0 (subst (λ xs. Contains xs id) old.1 c)))
        (λ new. ⊎_elim
        (λ before. Contains-append_left (take i starts) ((get_or starts i d) ∷ []) id ((same id).0 before))
        (λ e. subst (λ y. Contains (take i starts ++ (get_or starts i d) ∷ []) y) e (Contains-push (take i starts) (get_or starts i d)))
        (Contains-push_cases ids (get_or starts i d) id (subst (λ xs. Contains xs id) new.0 c))) a),
    λ c. ⊎_elim
        (λ before. added_keeps (get_or starts i d) None ids os ids' os' a id ((same id).1 before))
        (λ e. subst (λ y. Contains ids' y) e (added_is_there (get_or starts i d) None ids os ids' os' a))
        (Contains-push_cases (take i starts) (get_or starts i d) id (subst (λ xs. Contains xs id) is c)),
  ),
  (
    let n = added_length (get_or starts i d) None ids os ids' os' a in omega (arith, n, few),
    (
      ⊎_elim (λ old. ap length old.2 ∙ (count ∙ ap length (sym old.1))) (λ new. ap length new.1 ∙ (length-append os (None ∷ []) ∙ (ap (λ n. n + 1) count ∙ (sym (length-append ids ((get_or starts i d) ∷ [])) ∙ ap length (sym new.0))))) a,
      ⊎_elim
          (λ old. subst (All (λ o. o ≡ None)) (sym old.2) nowhere)
          (λ new. subst (All (λ o. o ≡ None)) (sym new.1) (all_from_members (λ o. o ≡ None) (os ++ None ∷ []) (λ o c. ⊎_elim (λ m. All-contains (λ o. o ≡ None) os o nowhere m) (λ e. sym e) (Contains-push_cases os None o c)))) a,
    ),
  ),
)
  where
    is : take (i + 1) starts ≡ take i starts ++ get_or starts i d ∷ []
    is = take_more starts i d l
