-- Flags for the targets of transitions, and singular automata.
use Rattle.std.proofs.Common.{◌≡◌, ◌≢◌, ◌↔◌, ℕ, ◌<◌, ◌≤◌, ◌+◌, Bool, true, false, ◌==◌, List, [], ◌∷◌, ◌++◌, length, get_or, take, replicate, slice_set, All, Contains, refl, sym, ap, ◌∙◌, subst, inl, inr, ⊎_elim, true≢false, arith}
use Rattle.std.specs.List.Sorted.{IsStrictlySortedBy}
use Rattle.std.proofs.lemmas.Bool.{cases_lt, eqb-true}
use Rattle.std.proofs.lemmas.List.{length-replicate, get_or-replicate, get_or_past, take_more, length-take-le, get_or-take, get_or-set_same, get_or-set_other, get_or_default}
use Rattle.std.proofs.lemmas.List.Elements.{All-contains, Contains-push, Contains-push_cases, Contains-append_left}
use Rattle.list_laws.proofs.Listings.{distinct_if_ascends}
use Rattle.list_laws.proofs.Decided.{same_number}
use Rattle.list_laws.proofs.Members.{all_from_members}
use Rattle.ta_core.specs.TreeAutomaton.{TreeAutomaton, IsSound, IsTransOf, trans_cmp}
use Rattle.ta_core.specs.Coherence.{IsSingular}
use Rattle.ta_core.specs.Singular.{flag, IsRising, IsTarget, AreMarked, IsSpoilt}
use Rattle.ta_core.specs.declared.trans.Trans.{Trans}
use Rattle.ta_core.specs.lemmas.Orders.{trans_total}

-- ---- a transition more

module _ (ts : List Trans) (t : Trans) (flags : List Bool) (within : t.to < length flags) (m : AreMarked ts flags) (new : flag flags t.to ≡ false) (rise : IsRising t) where
  abbrev all : List Trans
  all = ts ++ t ∷ []

  abbrev marked : List Bool
  marked = slice_set flags t.to true

  not_there : (s : Trans) → Contains ts s → s.to ≡ t.to → ⊥
  not_there s c e = true≢false (sym ((m.marks t.to).1 (record { trans = s; has = c; leads = e })) ∙ new)

  kept_target : (q : ℕ) → IsTarget ts q → IsTarget all q
  kept_target q h = record { trans = h.trans; has = Contains-append_left ts (t ∷ []) h.trans h.has; leads = h.leads }

  old_target : (q : ℕ) → q ≢ t.to → IsTarget all q → IsTarget ts q
  old_target q d h =
      ⊎_elim (λ c. record { trans = h.trans; has = c; leads = h.leads }) (λ same. absurd (d (sym h.leads ∙ ap (λ (s : Trans). s.to) (sym same)))) (Contains-push_cases ts t h.trans h.has)

  marks_more : (q : ℕ) → (flag marked q ≡ true) ↔ IsTarget all q
  marks_more q =
      ⊎_elim
      (λ same. (
        λ e. record { trans = t; has = Contains-push ts t; leads = sym same },
        λ h. subst (λ q. flag marked q ≡ true) (sym same) (get_or-set_same flags t.to true false within),
      ))
      (λ d. let is : flag marked q ≡ flag flags q = get_or-set_other flags t.to q true false d in
      (λ e. kept_target q ((m.marks q).0 (sym is ∙ e)), λ h. is ∙ (m.marks q).1 (old_target q d h)))
      (same_number q t.to)

  once_more : (s u : Trans) → Contains all s → Contains all u → s.to ≡ u.to → s ≡ u
  once_more s u c d e =
      ⊎_elim
      (λ old. ⊎_elim (λ older. m.once s u old older e) (λ same. absurd (not_there s old (e ∙ ap (λ (s : Trans). s.to) (sym same)))) (Contains-push_cases ts t u d))
      (λ is_t. ⊎_elim (λ old. absurd (not_there u old (sym e ∙ ap (λ (s : Trans). s.to) (sym is_t)))) (λ same. sym is_t ∙ same) (Contains-push_cases ts t u d))
      (Contains-push_cases ts t s c)

  marked_more : AreMarked all marked
  marked_more = record {
    marks = marks_more;
    once = once_more;
    rise = λ s c. ⊎_elim (λ old. m.rise s old) (λ same. subst IsRising same rise) (Contains-push_cases ts t s c);
  }

pub one_more : (ts : List Trans) (k : ℕ) (t : Trans) (flags : List Bool) → k < length ts → t ≡ get_or ts k t → t.to < length flags → AreMarked (take k ts) flags →
    flag flags t.to ≡ false → IsRising t → AreMarked (take (k + 1) ts) (slice_set flags t.to true)
one_more ts k t flags l is within m new rise =
    let more : take (k + 1) ts ≡ take k ts ++ t ∷ [] = take_more ts k t l ∙ ap (λ s. take k ts ++ s ∷ []) (sym is) in
    subst (λ all. AreMarked all (slice_set flags t.to true)) (sym more) (marked_more (take k ts) t flags within m new rise)

-- ---- a transition that spoils it

pub member_at : (ts : List Trans) (k : ℕ) (t : Trans) → k < length ts → t ≡ get_or ts k t → Contains ts t
member_at ts k t l is = (k, l, sym is)

pub two : (ts : List Trans) (k : ℕ) (t : Trans) (flags : List Bool) → IsStrictlySortedBy trans_cmp ts → k < length ts → t ≡ get_or ts k t → AreMarked (take k ts) flags → flag flags t.to ≡ true → IsSpoilt ts
two ts k t flags sorted l is m seen =
    let h = (m.marks t.to).0 seen in
    let s : Trans = h.trans in
    let short : length (take k ts) ≡ k = length-take-le k ts (omega (arith, l)) in
    let i : ℕ = h.has.0 in
    let i_below : i < k = subst (λ n. i < n) short h.has.1 in
    let is_s : get_or ts i s ≡ s = sym (get_or-take k ts i s i_below) ∙ h.has.2 in
    let is_t : get_or ts k s ≡ t = get_or_default ts k s t l ∙ sym is in
    inl (record {
      first = s;
      second = t;
      has_first = (i, omega (arith, i_below, l), is_s);
      has_second = member_at ts k t l is;
      same = h.leads;
      differ = λ e. distinct_if_ascends trans_total ts sorted i k s i_below l (is_s ∙ e ∙ sym is_t);
    })

pub falling : (ts : List Trans) (k : ℕ) (t : Trans) → k < length ts → t ≡ get_or ts k t → (IsRising t → ⊥) → IsSpoilt ts
falling ts k t l is falls = inr (record { trans = t; has = member_at ts k t l is; falls = falls })

-- ---- singular automata

module _ (A : TreeAutomaton) (sound : IsSound A) where
  target_is_state : (t : Trans) → Contains A.trans t → Contains A.states t.to
  target_is_state t c = let is : IsTransOf A.states t = All-contains (IsTransOf A.states) A.trans t sound.trans c in is.to

  pub spoilt_is_none : IsSpoilt A.trans → IsSingular A → ⊥
  spoilt_is_none spoilt s =
      ⊎_elim
      (λ h. let one = s.each h.second.to (target_is_state h.second h.has_second) in
      h.differ (one.only h.first h.has_first h.same ∙ sym (one.only h.second h.has_second refl)))
      (λ h. let one = s.each h.trans.to (target_is_state h.trans h.has) in
      h.falls (subst IsRising (sym (one.only h.trans h.has refl)) (subst (λ q. All (λ p. p < q) one.trans.args) (sym one.leads) one.smaller)))
      spoilt

  pub all_marked_is : (flags : List Bool) → A.eps ≡ [] → AreMarked A.trans flags → All (λ q. flag flags q ≡ true) A.states → IsSingular A
  all_marked_is flags no_eps m all = record {
    no_eps = no_eps;
    each = λ q c.
        let h = (m.marks q).0 (All-contains (λ q. flag flags q ≡ true) A.states q all c) in
        record {
          trans = h.trans;
          has = h.has;
          leads = h.leads;
          only = λ t d e. m.once t h.trans d h.has (e ∙ sym h.leads);
          smaller = subst (λ q. All (λ p. p < q) h.trans.args) h.leads (m.rise h.trans h.has);
        };
  }

  pub singular_is_marked : (flags : List Bool) → AreMarked A.trans flags → IsSingular A → All (λ q. flag flags q ≡ true) A.states
  singular_is_marked flags m s =
      all_from_members (λ q. flag flags q ≡ true) A.states (λ q c. let one = s.each q c in (m.marks q).1 (record { trans = one.trans; has = one.has; leads = one.leads }))

  pub targets_below : A.next ≤ 16384 → All (λ t. t.to < 16384) A.trans
  targets_below few =
      all_from_members (λ t. t.to < 16384) A.trans (λ t c.
      let below : t.to < A.next = All-contains (λ q. q < A.next) A.states t.to sound.below (target_is_state t c) in
      omega (arith, below, few))

-- ---- no flag

pub none_marked : (n q : ℕ) → flag (replicate n false) q ≡ false
none_marked n q = ⊎_elim (λ l. get_or-replicate n q false false l) (λ h. get_or_past (replicate n false) q false (subst (λ m. m ≤ q) (sym (length-replicate n false)) h)) (cases_lt q n)

pub no_items : {X : Type 0} (xs : List X) → (length xs == 0) ≡ true → xs ≡ []
no_items [] e = refl
no_items (x ∷ xs) e = let zero : length (x ∷ xs) ≡ 0 = eqb-true (length (x ∷ xs)) 0 e in absurd (omega (arith, zero))
