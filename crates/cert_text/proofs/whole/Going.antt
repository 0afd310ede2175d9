-- Lines behind the map that are taken one after the other.
use Rattle.std.proofs.Common.{◌≡◌, ℕ, suc, ◌+◌, ◌-◌, true, true≢false, nat_lt, get_or, length, List, [], ◌∷◌, ◌++◌, map, Option, Some, None, option_map, refl, sym, ap, subst, ◌∙◌, arith, length-append}
use Rattle.std.specs.Prelude.{All, Contains, IfSome, MatchOption}
use Rattle.std.specs.Borrow.{Bor}
use Rattle.std.specs.Cmp.{IsTotalOrder}
use Rattle.std.specs.declared.cmp.Ordering.{Ordering}
use Rattle.std.specs.declared.cmp.Ordering.TheVariants.{Less}
use Rattle.std.specs.List.{AllByRecursion}
use Rattle.std.specs.List.Sorted.{IsStrictlySortedBy}
use Rattle.std.proofs.lemmas.List.{append-nil, append_assoc, map-append, length-map}
use Rattle.std.proofs.lemmas.List.Elements.{All-append, All-contains, All-nil, Contains-append_right}
use Rattle.std.proofs.lemmas.Option.{slice_get_read}
use Rattle.list_laws.proofs.Members.{all_one, here}
use Rattle.list_laws.proofs.Ends.{cut_last}
use Rattle.ranked_terms.specs.Names.{Symbol}
use Rattle.ta_core.specs.lemmas.Orders.{pair_total, trans_total}
use Rattle.ta_core.specs.TreeAutomaton.{trans_cmp, pair_cmp, IsTransOf, IsEpsOf}
use Rattle.ta_core.specs.declared.trans.Trans.{Trans}
use Rattle.ta_core.specs.declared.spec.Spec.{Spec}
use Rattle.cert_text.specs.declared.certificate.CertFault.{CertFault}
use Rattle.ranked_terms.specs.Texts.{Text}
use Rattle.cert_text.specs.Lines.{Line, maps, eps, end}
use Rattle.cert_text.specs.Certificates.{trans_line}
use Rattle.cert_text.specs.Faults.{Known, learn, Takes, none}
use Rattle.cert_text.specs.Taking.{Taken, Refused, FaultFrom, closing, eps_lines, IsRightEps, MayTrans, at_first, behind}
use Rattle.cert_text.specs.Entries.{line_at, AreTrans, AreEps, IsCutOff, AreEpsToEnd, IsBadBody, IsBody, body_lines, IsAtTrans, IsNamed, IsNext}
use Rattle.cert_text.proofs.whole.Composed.{one, and_then, stops, stops_later}

-- ---- ascending lists

one_ascends : {X : Type 0} (c : X → X → Ordering) (x : X) → IsStrictlySortedBy c (x ∷ [])
unfolding IsStrictlySortedBy
one_ascends c x = (tt, tt)

nothing_ascends : {X : Type 0} (c : X → X → Ordering) → IsStrictlySortedBy c []
unfolding IsStrictlySortedBy
nothing_ascends c = tt

all_push : {X : Type 0} (P : X → Type 0) (front : List X) (x y : X) → AllByRecursion P (front ++ x ∷ []) → (P x → P y) → AllByRecursion P ((front ++ x ∷ []) ++ y ∷ [])
all_push P [] x y h next = (h.0, (next h.0, tt))
all_push P (z ∷ front) x y h next = (h.0, all_push P front x y h.1 next)

ascends_push : {X : Type 0} (c : X → X → Ordering) → IsTotalOrder c → (front : List X) (x y : X) → IsStrictlySortedBy c (front ++ x ∷ []) → c x y ≡ Less → IsStrictlySortedBy c ((front ++ x ∷ []) ++ y ∷ [])
unfolding IsStrictlySortedBy
ascends_push c o [] x y s less = ((less, tt), (tt, tt))
ascends_push c o (z ∷ front) x y s less = (all_push (λ w. c z w ≡ Less) front x y s.0 (λ below. o.trans z x y below less), ascends_push c o front x y s.1 less)

all_and_one : {X : Type 0} (P : X → Type 0) (xs : List X) (x : X) → All P xs → P x → All P (xs ++ x ∷ [])
all_and_one P xs x h p = All-append P xs (x ∷ []) h (all_one P x p)

-- ---- the last transition

pub last_read : (ts : List Trans) (t : Trans) → true ≡ nat_lt 0 (length ts) → t ≡ get_or ts (length ts - 1) t → (front : List Trans) × (ts ≡ front ++ t ∷ [])
last_read [] t some e = absurd (true≢false some)
last_read (x ∷ ts) t some e = cut_last x ts t (slice_get_read (x ∷ ts) (suc (length ts)) (suc (length ts) - 1) t refl (omega arith) e)

abbrev pub IsLast : Option (Bor Trans) → List Trans → Type 0
IsLast r ts = MatchOption r (ts ≡ []) (λ t. (front : List Trans) × (ts ≡ front ++ t.now ∷ []))

line_behind : (s : List Symbol) (l : Line) (front : List Trans) (t : Trans) → line_at s l (front ++ t ∷ []) ≡ trans_line s t
line_behind s l [] t = refl
line_behind s l (u ∷ front) t = line_behind s (trans_line s u) front t

abbrev pub last_of : Option (Bor Trans) → Option Trans
last_of r = option_map (λ u. u.now) r

pub may_next : (s : List Symbol) (r : Option (Bor Trans)) (ts : List Trans) (qs : List ℕ) → IsLast r ts → All (IsNamed s) ts → MayTrans s (last_of r) (Some (line_at s (maps qs) ts))
may_next s None ts qs is named = subst (λ (us : List Trans). MayTrans s None (Some (line_at s (maps qs) us))) (sym is) (at_first qs)
may_next s (Some t) ts qs is named =
    let it : IsNamed s t.now = All-contains (IsNamed s) ts t.now named (subst (λ (us : List Trans). Contains us t.now) (sym is.1) (Contains-append_right is.0 (t.now ∷ []) t.now (here t.now []))) in
    subst (λ (us : List Trans). MayTrans s (Some t.now) (Some (line_at s (maps qs) us))) (sym is.1)
    (subst (λ (l : Line). MayTrans s (Some t.now) (Some l)) (sym (line_behind s (maps qs) is.0 t.now)) (behind t.now it.named))

sorted_next : (r : Option (Bor Trans)) (ts : List Trans) (t : Trans) → IsLast r ts → IsStrictlySortedBy trans_cmp ts → IfSome (last_of r) (λ u. trans_cmp u t ≡ Less) → IsStrictlySortedBy trans_cmp (ts ++ t ∷ [])
sorted_next None ts t is s after = subst (λ (us : List Trans). IsStrictlySortedBy trans_cmp (us ++ t ∷ [])) (sym is) (one_ascends trans_cmp t)
sorted_next (Some u) ts t is s after =
    subst (λ (us : List Trans). IsStrictlySortedBy trans_cmp (us ++ t ∷ [])) (sym is.1) (ascends_push trans_cmp trans_total is.0 u.now t (subst (IsStrictlySortedBy trans_cmp) is.1 s) after)

-- ---- transitions

pub no_trans : (s : List Symbol) (states : List ℕ) (old : Text) → AreTrans s states old old []
no_trans s states old = record {
  takes = λ spec k qs same at known. subst (λ (o : Option Line). Takes spec k old [] (record k { before = o }) old) at none;
  sorted = nothing_ascends trans_cmp;
  named = All-nil (IsNamed s);
  of = All-nil (IsTransOf states);
}

module _ (s : List Symbol) (states : List ℕ) (old new : Text) (r : Option (Bor Trans)) (ts : List Trans) (are : AreTrans s states old new ts) (is : IsLast r ts) where
  abbrev reached : Known → List ℕ → Known
  reached k qs = record k { before = Some (line_at s (maps qs) ts) }

  at_next : (spec : Spec) (k : Known) (qs : List ℕ) → spec.signature ≡ s → k.states ≡ states → IsAtTrans s (last_of r) states spec (reached k qs)
  at_next spec k qs same known = record { signature = same; may = may_next s r ts qs is are.named; known = known }

  pub one_more : (newer : Text) (t : Trans) (us : List Trans) → ((spec : Spec) (k : Known) → IsAtTrans s (last_of r) states spec k → Taken spec k new (trans_line s t) newer) → IsNext s states (last_of r) t → us ≡ ts ++ t ∷ [] → AreTrans s states old newer us
  one_more newer t us taken next same_us = record {
    takes = λ spec k qs same at known.
        let lines : map (trans_line s) us ≡ map (trans_line s) ts ++ trans_line s t ∷ [] = ap (map (trans_line s)) same_us ∙ map-append (trans_line s) ts (t ∷ []) in
        let behind_is : line_at s (maps qs) us ≡ trans_line s t = ap (line_at s (maps qs)) same_us ∙ line_behind s (maps qs) ts t in
        subst (λ (ls : List Line). Takes spec k old ls (record k { before = Some (line_at s (maps qs) us) }) newer) (sym lines)
        (subst (λ (l : Line). Takes spec k old (map (trans_line s) ts ++ trans_line s t ∷ []) (record k { before = Some l }) newer) (sym behind_is)
        (and_then spec k (reached k qs) (record k { before = Some (trans_line s t) }) old new newer (map (trans_line s) ts) (trans_line s t ∷ []) (are.takes spec k qs same at known)
        (one spec (reached k qs) new newer (trans_line s t) (taken spec (reached k qs) (at_next spec k qs same known)))));
    sorted = subst (IsStrictlySortedBy trans_cmp) (sym same_us) (sorted_next r ts t is are.sorted next.after);
    named = subst (All (IsNamed s)) (sym same_us) (all_and_one (IsNamed s) ts t are.named next.named);
    of = subst (All (IsTransOf states)) (sym same_us) (all_and_one (IsTransOf states) ts t are.of next.of);
  }

  pub cut_off : (newer : Text) (o : Option (ℕ × ℕ)) → ((spec : Spec) (k : Known) → IsAtTrans s (last_of r) states spec k → Taken spec k new (closing o) newer) → IfSome o (IsEpsOf states) → IsCutOff s states old newer ts o
  cut_off newer o taken eps_of = record {
    takes = λ spec k qs same at known.
        and_then spec k (reached k qs) (record k { before = Some (closing o) }) old new newer (map (trans_line s) ts) (closing o ∷ []) (are.takes spec k qs same at known)
        (subst (λ (m : Known). Takes spec (reached k qs) new (closing o ∷ []) m newer) (learned (reached k qs) o) (one spec (reached k qs) new newer (closing o) (taken spec (reached k qs) (at_next spec k qs same known))));
    sorted = are.sorted;
    named = are.named;
    of = are.of;
    behind_of = eps_of;
  }
    where
      learned : (k : Known) (o : Option (ℕ × ℕ)) → learn (closing o) k ≡ record k { before = Some (closing o) }
      learned k None = refl
      learned k (Some e) = refl

  pub bad_next : (count number : ℕ) (f : CertFault) → ((spec : Spec) (k : Known) → IsAtTrans s (last_of r) states spec k → Refused spec k new number f) → number ≡ count + length ts + 1 → IsBadBody s states old count f
  bad_next count number f bad is_number spec k qs same at known =
      stops spec k (reached k qs) old new (map (trans_line s) ts) count number f (are.takes spec k qs same at known) (bad spec (reached k qs) (at_next spec k qs same known))
      (let many = length-map ts (trans_line s) in omega (arith, is_number, many))

-- ---- epsilon transitions

pub first_eps : (first : ℕ × ℕ) (states : List ℕ) (old : Text) (all : List (ℕ × ℕ)) → IsEpsOf states first → all ≡ first ∷ [] → AreEps first first states old old all
first_eps first states old all of is = record {
  later = [];
  all_is = is;
  front = [];
  last_is = is;
  takes = λ spec k at known. subst (λ (o : Option Line). Takes spec k old [] (record k { before = o }) old) at none;
  sorted = subst (IsStrictlySortedBy pair_cmp) (sym is) (one_ascends pair_cmp first);
  of = subst (All (IsEpsOf states)) (sym is) (all_one (IsEpsOf states) first of);
}

module _ (first last : ℕ × ℕ) (states : List ℕ) (old new : Text) (es : List (ℕ × ℕ)) (are : AreEps first last states old new es) where
  abbrev behind_last : Known → Known
  behind_last k = record k { before = Some (eps last.0 last.1) }

  pub one_more_eps : (newer : Text) (pair : ℕ × ℕ) (fs : List (ℕ × ℕ)) → ((spec : Spec) (k : Known) → k.before ≡ Some (eps last.0 last.1) → k.states ≡ states → Taken spec k new (eps pair.0 pair.1) newer) → IsRightEps states (Some last) pair → fs ≡ es ++ pair ∷ [] → AreEps first pair states old newer fs
  one_more_eps newer pair fs taken right same = record {
    later = are.later ++ pair ∷ [];
    all_is = same ∙ ap (λ xs. xs ++ pair ∷ []) are.all_is;
    front = es;
    last_is = same;
    takes = λ spec k at known.
        subst (λ (ls : List Line). Takes spec k old ls (record k { before = Some (eps pair.0 pair.1) }) newer) (sym (map-append (λ e. eps e.0 e.1) are.later (pair ∷ [])))
        (and_then spec k (behind_last k) (record k { before = Some (eps pair.0 pair.1) }) old new newer (eps_lines are.later) (eps pair.0 pair.1 ∷ []) (are.takes spec k at known)
        (one spec (behind_last k) new newer (eps pair.0 pair.1) (taken spec (behind_last k) refl known)));
    sorted = subst (IsStrictlySortedBy pair_cmp) (sym (same ∙ ap (λ xs. xs ++ pair ∷ []) are.last_is)) (ascends_push pair_cmp pair_total are.front last pair (subst (IsStrictlySortedBy pair_cmp) are.last_is are.sorted) right.after);
    of = subst (All (IsEpsOf states)) (sym same) (all_and_one (IsEpsOf states) es pair are.of (record { from = right.from; to = right.to; moves = right.moves }));
  }

  pub to_end : (newer : Text) → ((spec : Spec) (k : Known) → k.before ≡ Some (eps last.0 last.1) → k.states ≡ states → Taken spec k new end newer) → AreEpsToEnd first states old newer es
  to_end newer taken = record {
    later = are.later;
    all_is = are.all_is;
    takes = λ spec k at known. and_then spec k (behind_last k) (record k { before = Some end }) old new newer (eps_lines are.later) (end ∷ []) (are.takes spec k at known)
        (one spec (behind_last k) new newer end (taken spec (behind_last k) refl known));
    sorted = are.sorted;
    of = are.of;
  }

  pub bad_eps : (count number : ℕ) (f : CertFault) → ((spec : Spec) (k : Known) → k.before ≡ Some (eps last.0 last.1) → k.states ≡ states → Refused spec k new number f) → number + 1 ≡ count + length es + 1
      → (spec : Spec) (k : Known) → k.before ≡ Some (eps first.0 first.1) → k.states ≡ states → FaultFrom spec k old count f
  bad_eps count number f bad is spec k at known =
      stops spec k (behind_last k) old new (eps_lines are.later) count number f (are.takes spec k at known) (bad spec (behind_last k) refl known)
      (let many = length-map are.later (λ (e : ℕ × ℕ). eps e.0 e.1) in let all = ap length are.all_is in omega (arith, is, many, all))

-- ---- what stands behind a map

module _ (s : List Symbol) (states : List ℕ) (old new : Text) (ts : List Trans) where
  pub no_eps : (es : List (ℕ × ℕ)) → IsCutOff s states old new ts None → es ≡ [] → IsBody s states old new ts es
  no_eps es cut is = record {
    takes = λ spec k qs same at known. subst (λ (fs : List (ℕ × ℕ)). Takes spec k old (body_lines s ts fs) (record k { before = Some end }) new) (sym is)
        (subst (λ (ls : List Line). Takes spec k old (ls ++ end ∷ []) (record k { before = Some end }) new) (sym (append-nil (map (trans_line s) ts))) (cut.takes spec k qs same at known));
    sorted = cut.sorted;
    named = cut.named;
    of = cut.of;
    eps_sorted = subst (IsStrictlySortedBy pair_cmp) (sym is) (nothing_ascends pair_cmp);
    eps_of = subst (All (IsEpsOf states)) (sym is) (All-nil (IsEpsOf states));
  }

  module _ (first : ℕ × ℕ) (cut : IsCutOff s states old new ts (Some first)) where
    abbrev at_eps : Known → Known
    at_eps k = record k { before = Some (eps first.0 first.1) }

    pub with_eps : (newer : Text) (es : List (ℕ × ℕ)) → AreEpsToEnd first states new newer es → IsBody s states old newer ts es
    with_eps newer es all = record {
      takes = λ spec k qs same at known. subst (λ (fs : List (ℕ × ℕ)). Takes spec k old (body_lines s ts fs) (record k { before = Some end }) newer) (sym all.all_is)
          (subst (λ (ls : List Line). Takes spec k old ls (record k { before = Some end }) newer) (lines (map (trans_line s) ts) all.later)
          (and_then spec k (at_eps k) (record k { before = Some end }) old new newer (map (trans_line s) ts ++ eps first.0 first.1 ∷ []) (eps_lines all.later ++ end ∷ []) (cut.takes spec k qs same at known) (all.takes spec (at_eps k) refl known)));
      sorted = cut.sorted;
      named = cut.named;
      of = cut.of;
      eps_sorted = all.sorted;
      eps_of = all.of;
    }
      where
        lines : (ls : List Line) (later : List (ℕ × ℕ)) → (ls ++ eps first.0 first.1 ∷ []) ++ (eps_lines later ++ end ∷ []) ≡ (ls ++ eps_lines (first ∷ later)) ++ end ∷ []
        lines ls later = append_assoc ls (eps first.0 first.1 ∷ []) (eps_lines later ++ end ∷ []) ∙ sym (append_assoc ls (eps_lines (first ∷ later)) (end ∷ []))

    pub bad_behind : (count number : ℕ) (f : CertFault) → ((spec : Spec) (k : Known) → k.before ≡ Some (eps first.0 first.1) → k.states ≡ states → FaultFrom spec k new number f) → number ≡ count + length ts + 1 → IsBadBody s states old count f
    bad_behind count number f bad is spec k qs same at known =
        stops_later spec k (at_eps k) old new (map (trans_line s) ts ++ eps first.0 first.1 ∷ []) count number f (cut.takes spec k qs same at known) (bad spec (at_eps k) refl known)
        (let many = length-map ts (trans_line s) in let all = length-append (map (trans_line s) ts) (eps first.0 first.1 ∷ []) in omega (arith, is, many, all))
