-- The targets of transitions whose arguments are members of sets.
use Rattle.std.proofs.Common.{◌≡◌, ℕ, suc, zero, ◌+◌, ◌<◌, ◌≤◌, ◌↔◌, ◌⊎◌, Bool, true, false, IsTrue, List, [], ◌∷◌, ◌++◌, length, get_or, take, zip, All, refl, sym, ap, ◌∙◌, subst, inl, inr, ⊎_elim, true≢false, append_assoc, arith}
use Rattle.std.specs.Bool.{MatchBool}
use Rattle.std.specs.List.{Contains, AllZip, AllWithin, HoldsAt}
use Rattle.std.proofs.lemmas.List.{take_all, take_more}
use Rattle.std.proofs.lemmas.List.Elements.{Contains-push_cases, Contains-append_left, Contains-push, All-contains}
use Rattle.ta_core.specs.TreeAutomaton.{TreeAutomaton, IsSound, IsTransOf, trans_of}
use Rattle.ta_core.specs.Reached.{HasTransInto}
use Rattle.ta_core.specs.declared.trans.Trans.{Trans}
use Rattle.list_laws.proofs.Members.{all_from_members}
use Rattle.list_laws.proofs.Members.{none}
use Rattle.closure_check.specs.Marking.{Marked, LeadsInto, EntersFrom}
use Rattle.closure_check.proofs.sets.RunningSets.{lists}

-- ---- members at their places

abbrev IsIn : ℕ × Marked → Type 0
IsIn p = Contains p.1.members p.0

zip_from_within : (qs : List ℕ) (sets : List Marked) → length qs ≡ length sets → AllWithin IsIn (zip qs sets) 0 (length (zip qs sets)) → AllZip Contains (lists sets) qs
zip_from_within [] [] e h = tt
zip_from_within [] (s ∷ sets) e h = absurd (omega arith)
zip_from_within (q ∷ qs) [] e h = absurd (omega arith)
zip_from_within (q ∷ qs) (s ∷ sets) e h = (h 0 (q, s) (omega arith) (omega arith), zip_from_within qs sets (omega arith) (λ k d low high. h (suc k) d (omega arith) (omega arith)))

zip_fails : (qs : List ℕ) (sets : List Marked) (k : ℕ) → k < length (zip qs sets) → HoldsAt (λ (p : ℕ × Marked). ¬ IsIn p) (zip qs sets) k → AllZip Contains (lists sets) qs → ⊥
zip_fails [] sets k l h z = absurd (omega arith)
zip_fails (q ∷ qs) [] k l h z = absurd (omega arith)
zip_fails (q ∷ qs) (s ∷ sets) zero l h z = h (q, s) z.0
zip_fails (q ∷ qs) (s ∷ sets) (suc k) l h z = zip_fails qs sets k (omega arith) h z.1

pub zip_answers : (qs : List ℕ) (sets : List Marked) (r : Bool) → length qs ≡ length sets
    → MatchBool r (AllWithin IsIn (zip qs sets) 0 (length (zip qs sets))) ((k : ℕ) × (k < length (zip qs sets)) × HoldsAt (λ (p : ℕ × Marked). ¬ IsIn p) (zip qs sets) k)
    → IsTrue r ↔ AllZip Contains (lists sets) qs
zip_answers qs sets true e h = (λ _. zip_from_within qs sets e h, λ _. refl)
zip_answers qs sets false e h = (λ t. absurd (true≢false (sym t)), λ z. absurd (zip_fails qs sets h.0 h.1 h.2 z))

pub zip_length : (qs : List ℕ) (sets : List Marked) → AllZip Contains (lists sets) qs → length qs ≡ length sets
zip_length [] [] z = refl
zip_length (q ∷ qs) [] z = absurd z
zip_length [] (s ∷ sets) z = absurd z
zip_length (q ∷ qs) (s ∷ sets) z = ap suc (zip_length qs sets z.1)

-- ---- one transition more

-- what is marked: what was, and the state if this holds of it
abbrev pub Adds : List ℕ → (ℕ → Type 0) → List ℕ → Type 0
Adds old P new = (q : ℕ) → Contains new q ↔ (Contains old q ⊎ P q)

module _ (sets : List (List ℕ)) (t : Trans) (set : List ℕ) where
  pub adds_target : (next : List ℕ) → AllZip Contains sets t.args → ((q : ℕ) → Contains next q ↔ (Contains set q ⊎ (q ≡ t.to))) → Adds set (λ q. (t.to ≡ q) × AllZip Contains sets t.args) next
  adds_target next fit is q = (
    λ i. ⊎_elim (λ was. inl was) (λ same. inr (sym same, fit)) ((is q).0 i),
    λ h. (is q).1 (⊎_elim (λ was. inl was) (λ h. inr (sym h.0)) h),
  )

  pub adds_none : (AllZip Contains sets t.args → ⊥) → Adds set (λ q. (t.to ≡ q) × AllZip Contains sets t.args) set
  adds_none unfit q = (λ i. inl i, λ h. ⊎_elim (λ was. was) (λ h. absurd (unfit h.1)) h)

module _ (sets : List (List ℕ)) (old : List ℕ) where
  leads_one : (done : List Trans) (t : Trans) (q : ℕ) → LeadsInto (done ++ t ∷ []) sets q → LeadsInto done sets q ⊎ ((t.to ≡ q) × AllZip Contains sets t.args)
  leads_one done t q h = ⊎_elim
      (λ before. inl (record { by = h.by; has = before; fit = h.fit; to = h.to }))
      (λ here. inr (ap (λ (x : Trans). x.to) here ∙ h.to, subst (AllZip Contains sets) (sym (ap (λ (x : Trans). x.args) here)) h.fit))
      (Contains-push_cases done t h.by h.has)

  leads_more : (done : List Trans) (t : Trans) (set next : List ℕ) → Adds old (LeadsInto done sets) set → Adds set (λ q. (t.to ≡ q) × AllZip Contains sets t.args) next → Adds old (LeadsInto (done ++ t ∷ []) sets) next
  leads_more done t set next so_far one q = (
    λ i. ⊎_elim
        (λ was. ⊎_elim (λ w. inl w) (λ h. inr (record { by = h.by; has = Contains-append_left done (t ∷ []) h.by h.has; fit = h.fit; to = h.to })) ((so_far q).0 was))
        (λ h. inr (record { by = t; has = Contains-push done t; fit = h.1; to = h.0 }))
        ((one q).0 i),
    λ h. (one q).1 (⊎_elim (λ w. inl ((so_far q).1 (inl w))) (λ l. ⊎_elim (λ before. inl ((so_far q).1 (inr before))) (λ here. inr here) (leads_one done t q l)) h),
  )

  pub leads_at : (trans : List Trans) (k : ℕ) (t : Trans) (set next : List ℕ) → k < length trans → t ≡ get_or trans k t → Adds old (LeadsInto (take k trans) sets) set → Adds set (λ q. (t.to ≡ q) × AllZip Contains sets t.args) next → Adds old (LeadsInto (take (k + 1) trans) sets) next
  leads_at trans k t set next l is so_far one =
      subst (λ ts. Adds old (LeadsInto ts sets) next) (sym (take_more trans k t l ∙ ap (λ x. take k trans ++ x ∷ []) (sym is))) (leads_more (take k trans) t set next so_far one)

-- ---- the transitions that begin so

abbrev pub BeginSo : List Trans → ℕ → List ℕ → List Trans → Type 0
BeginSo trans f prefix range = (t : Trans) → Contains range t ↔ (Contains trans t × (t.sym ≡ f) × ((rest : List ℕ) × (t.args ≡ prefix ++ rest)))

module _ (trans range : List Trans) (f : ℕ) (sets : List (List ℕ)) (prefix : List ℕ) (begin : BeginSo trans f prefix range) where
  enters_by : (q : ℕ) → LeadsInto range sets q → EntersFrom trans f sets prefix q
  enters_by q h =
      let b = (begin h.by).0 h.has in
      record { rest = b.2.0; fit = subst (AllZip Contains sets) b.2.1 h.fit; has = subst (Contains trans) (λ i. trans_of (b.1 i) (b.2.1 i) (h.to i)) b.0 }

  leads_by : (q : ℕ) → EntersFrom trans f sets prefix q → LeadsInto range sets q
  leads_by q h = record { by = trans_of f (prefix ++ h.rest) q; has = (begin (trans_of f (prefix ++ h.rest) q)).1 (h.has, refl, (h.rest, refl)); fit = h.fit; to = refl }

  pub adds_range : (old new : List ℕ) → Adds old (LeadsInto range sets) new → Adds old (EntersFrom trans f sets prefix) new
  adds_range old new adds q = (
    λ i. ⊎_elim (λ w. inl w) (λ h. inr (enters_by q h)) ((adds q).0 i),
    λ h. (adds q).1 (⊎_elim (λ w. inl w) (λ h. inr (leads_by q h)) h),
  )

pub targets_below : (A : TreeAutomaton) (range : List Trans) (f size : ℕ) (prefix : List ℕ) → BeginSo A.trans f prefix range → IsSound A → A.next ≤ size → All (λ (t : Trans). t.to < size) range
targets_below A range f size prefix begin sound room = all_from_members (λ (t : Trans). t.to < size) range (λ t i.
    let to = (All-contains (IsTransOf A.states) A.trans t sound.trans ((begin t).0 i).0).to in
    omega (arith, All-contains (λ q. q < A.next) A.states t.to sound.below to, room))

-- ---- one argument more

pub next_of : (prefix rest : List ℕ) (sets : List (List ℕ)) → AllZip Contains sets (prefix ++ rest) → length prefix < length sets → (p : ℕ) × (others : List ℕ) × (rest ≡ p ∷ others) × Contains (get_or sets (length prefix) []) p
next_of [] [] [] z l = absurd (omega arith)
next_of [] [] (s ∷ sets) z l = absurd z
next_of [] (p ∷ others) [] z l = absurd z
next_of [] (p ∷ others) (s ∷ sets) z l = (p, others, refl, z.0)
next_of (x ∷ prefix) rest [] z l = absurd z
next_of (x ∷ prefix) rest (s ∷ sets) z l = next_of prefix rest sets z.1 (omega arith)

-- by a state of these as the next argument
abbrev pub EntersSome : List Trans → ℕ → List (List ℕ) → List ℕ → List ℕ → ℕ → Type 0
EntersSome trans f sets prefix states q = (p : ℕ) × Contains states p × EntersFrom trans f sets (prefix ++ p ∷ []) q

module _ (trans : List Trans) (f : ℕ) (sets : List (List ℕ)) (prefix : List ℕ) where
  on : (next : List ℕ) → length prefix < length sets → get_or sets (length prefix) [] ≡ next → (q : ℕ) → EntersFrom trans f sets prefix q → EntersSome trans f sets prefix next q
  on next l is q h =
      let n = next_of prefix h.rest sets h.fit l in
      let same : prefix ++ h.rest ≡ (prefix ++ n.0 ∷ []) ++ n.1 = ap (λ r. prefix ++ r) n.2 ∙ sym (append_assoc prefix (n.0 ∷ []) n.1) in
      (n.0, subst (λ s. Contains s n.0) is n.3, record { rest = n.1; fit = subst (AllZip Contains sets) same h.fit; has = subst (λ args. Contains trans (trans_of f args q)) same h.has })

  back : (states : List ℕ) (q : ℕ) → EntersSome trans f sets prefix states q → EntersFrom trans f sets prefix q
  back states q h =
      let same : (prefix ++ h.0 ∷ []) ++ h.2.rest ≡ prefix ++ (h.0 ∷ h.2.rest) = append_assoc prefix (h.0 ∷ []) h.2.rest in
      record { rest = h.0 ∷ h.2.rest; fit = subst (AllZip Contains sets) same h.2.fit; has = subst (λ args. Contains trans (trans_of f args q)) same h.2.has }

  pub adds_all : (old new states next : List ℕ) (k : ℕ) → length states ≤ k → ((p : ℕ) → Contains states p ↔ Contains next p) → length prefix < length sets → get_or sets (length prefix) [] ≡ next → Adds old (EntersSome trans f sets prefix (take k states)) new → Adds old (EntersFrom trans f sets prefix) new
  adds_all old new states next k le same l is adds q =
      let whole : take k states ≡ states = take_all k states le in (
        λ i. ⊎_elim (λ w. inl w) (λ h. inr (back (take k states) q h)) ((adds q).0 i),
        λ h. (adds q).1 (⊎_elim (λ w. inl w) (λ h. let some = on next l is q h in inr (some.0, subst (λ xs. Contains xs some.0) (sym whole) ((same some.0).1 some.1), some.2)) h),
      )

  pub adds_one : (old set new states prefix' : List ℕ) (k : ℕ) (p : ℕ) → k < length states → p ≡ get_or states k 0 → prefix' ≡ prefix ++ p ∷ []
      → Adds old (EntersSome trans f sets prefix (take k states)) set → Adds set (EntersFrom trans f sets prefix') new → Adds old (EntersSome trans f sets prefix (take (k + 1) states)) new
  adds_one old set new states prefix' k p l is pushed so_far one q =
      let more : take (k + 1) states ≡ take k states ++ p ∷ [] = take_more states k 0 l ∙ ap (λ x. take k states ++ x ∷ []) (sym is) in (
        λ i. ⊎_elim
            (λ was. ⊎_elim (λ w. inl w) (λ h. inr (h.0, subst (λ s. Contains s h.0) (sym more) (Contains-append_left (take k states) (p ∷ []) h.0 h.1), h.2)) ((so_far q).0 was))
            (λ h. inr (p, subst (λ s. Contains s p) (sym more) (Contains-push (take k states) p), subst (λ l. EntersFrom trans f sets l q) pushed h))
            ((one q).0 i),
        λ h. (one q).1 (⊎_elim
            (λ w. inl ((so_far q).1 (inl w)))
            (λ h. ⊎_elim
            (λ before. inl ((so_far q).1 (inr (h.0, before, h.2))))
            (λ here. inr (subst (λ l. EntersFrom trans f sets l q) (ap (λ x. prefix ++ x ∷ []) (sym here) ∙ sym pushed) h.2))
            (Contains-push_cases (take k states) p h.0 (subst (λ s. Contains s h.0) more h.1)))
            h),
      )

pub adds_nothing : (trans : List Trans) (f : ℕ) (sets : List (List ℕ)) (prefix states set : List ℕ) → Adds set (EntersSome trans f sets prefix (take 0 states)) set
adds_nothing trans f sets prefix states set q = (λ i. inl i, λ h. ⊎_elim (λ w. w) (λ h. absurd (none h.0 h.1)) h)

pub leads_nothing : (trans : List Trans) (sets : List (List ℕ)) (set : List ℕ) → Adds set (LeadsInto (take 0 trans) sets) set
leads_nothing trans sets set q = (λ i. inl i, λ h. ⊎_elim (λ w. w) (λ h. absurd (none h.by h.has)) h)

-- the set at a place
pub set_at : (sets : List Marked) (k : ℕ) (d : Marked) → k < length sets → (k < length (lists sets)) × (get_or (lists sets) k [] ≡ (get_or sets k d).members)
set_at [] k d l = absurd (omega (arith, l))
set_at (s ∷ sets) zero d l = (omega arith, refl)
set_at (s ∷ sets) (suc k) d l = let h = set_at sets k d (omega (arith, l)) in (omega (arith, h.0), h.1)

-- ---- the whole

module _ (trans : List Trans) (f : ℕ) (sets : List (List ℕ)) (old set prefix : List ℕ) (none_yet : (q : ℕ) → Contains old q → ⊥) (from : prefix ≡ []) (adds : Adds old (EntersFrom trans f sets prefix) set) where
  pub enters_exactly : (q : ℕ) → Contains set q ↔ HasTransInto trans f sets q
  enters_exactly q = (
    λ i. ⊎_elim
        (λ w. absurd (none_yet q w))
        (λ h. record { args = prefix ++ h.rest; fit = h.fit; has = h.has })
        ((adds q).0 i),
    λ h. let same : h.args ≡ prefix ++ h.args = ap (λ l. l ++ h.args) (sym from) in (adds q).1 (inr (record { rest = h.args; fit = subst (AllZip Contains sets) same h.fit; has = subst (λ args. Contains trans (trans_of f args q)) same h.has })),
  )

pub targets_are_states : (A : TreeAutomaton) (f : ℕ) (sets : List (List ℕ)) (set : List ℕ) → IsSound A → ((q : ℕ) → Contains set q ↔ HasTransInto A.trans f sets q) → All (Contains A.states) set
targets_are_states A f sets set sound exact = all_from_members (Contains A.states) set (λ q i.
    let h = (exact q).0 i in (All-contains (IsTransOf A.states) A.trans (trans_of f h.args q) sound.trans h.has).to)
