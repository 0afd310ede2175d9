-- The pairs of states to which one ground term runs, as they are found.
use Rattle.std.proofs.Common.{◌≡◌, ◌↔◌, ◌⊎◌, ℕ, suc, ◌+◌, ◌<◌, ◌≤◌, ◌==◌, Bool, false, List, [], ◌∷◌, ◌++◌, length, get_or, take, map, zip, Some, slice_get, All, Contains, refl, sym, ap, subst, ◌∙◌, inl, inr, ⊎_elim, true≢false, arith}
use Rattle.std.specs.List.{AllZip, AllByRecursion}
use Rattle.std.proofs.lemmas.List.{take_more, take_all, get_or_default}
use Rattle.std.proofs.lemmas.List.Elements.{All-nil, All-cons, All-head, All-tail, All-weaker, All-contains, Contains-push_cases, Contains-get_or}
use Rattle.std.proofs.lemmas.Option.{slice_get-get_or}
use Rattle.std.proofs.lemmas.Slice.Zip.{get_or-zip, length-zip}
use Rattle.ranked_terms.specs.Terms.{node, config_of}
use Rattle.ranked_terms.specs.declared.term.Term.{Term}
use Rattle.ranked_terms.specs.lemmas.TermLaws.{config_node, term_induction}
use Rattle.ta_core.specs.TreeAutomaton.{TreeAutomaton, IsSound, IsTransOf, IsEpsOf, trans_of}
use Rattle.ta_core.specs.declared.trans.Trans.{Trans}
use Rattle.ta_core.specs.Runs.{Runs, RunsAll, Reaches}
use Rattle.list_laws.proofs.Members.{here, there}
use Rattle.ta_core.specs.lemmas.RunsLaws.{run_of_app, zip_from_all}
use Rattle.ta_core.specs.Meeting.{Meets}
use Rattle.ta_clean.specs.Tables.{Table, IsIn, IsMarked, IsTaken, Keeps, TakesOne}
use Rattle.ta_clean.specs.Products.{TwoAutomata, HasTable, AllMeet, AreAll, StepsTo, Enters, EntersBy, EntersAt}
use Rattle.ta_clean.specs.Uses.{IsUseOf, AreUsesOf}
use Rattle.ta_clean.specs.declared.meeting.uses.Use.{Use}
use Rattle.ta_clean.proofs.marking.UseLists.{use_of, same_some, used_sym}

-- the item that a loop is at
pub item_in : {X : Type 0} (items : List X) (k : ℕ) (x : X) → k < length items → x ≡ get_or items k x → Contains items x
item_in items k x l is = subst (Contains items) (sym is) (Contains-get_or items k x l)

-- it doesn't hang on the default
pub get_or_same : {X : Type 0} (items : List X) (k : ℕ) (d : X) → k < length items → get_or items k d ≡ get_or items k (get_or items k d)
get_or_same items k d l = sym (get_or_default items k (get_or items k d) d l)

-- ---- tables

pub keeps_itself : (table : Table) → Keeps table table
keeps_itself table = record { height = refl; width = refl; marked = λ p m. m; taken = λ p t. t; left = omega arith }

pub keeps_on : (old now new : Table) → Keeps old now → Keeps now new → Keeps old new
keeps_on old now new h k = record {
  height = k.height ∙ h.height;
  width = k.width ∙ h.width;
  marked = λ p m. k.marked p (h.marked p m);
  taken = λ p t. h.taken p (k.taken p t);
  left = omega (arith, h.left, k.left);
}

pub taken_is_marked : (table : Table) (pair : ℕ × ℕ) → IsTaken table pair → IsMarked table pair
taken_is_marked table pair t = record { within = t.within; marked = λ e. absurd (let f = sym t.taken ∙ e in cc) }

-- to both states of the pair, one term runs
abbrev pub MeetsIn : TwoAutomata → ℕ × ℕ → Type 0
MeetsIn both = Meets both.first both.second

next_below : (A : TreeAutomaton) → IsSound A → (q : ℕ) → Contains A.states q → q < A.next
next_below A sound q i = All-contains (λ q. q < A.next) A.states q sound.below i

module _ (both : TwoAutomata) where
  pub has_table : (old now : Table) → HasTable both old → Keeps old now → HasTable both now
  has_table old now h k = record { first = omega (arith, h.first, k.height); second = omega (arith, h.second, k.width) }

  -- ---- what is marked meets

  pub steps_meet : (pair next : ℕ × ℕ) → MeetsIn both pair → StepsTo both pair next → MeetsIn both next
  steps_meet pair next m (StepsTo.first {p = p} i) = record { term = m.term; first = Runs.step m.first i; second = m.second }
  steps_meet pair next m (StepsTo.second {q = q} i) = record { term = m.term; first = m.first; second = Runs.step m.second i }

  -- terms that run to all of these pairs
  record RunTo (ps qs : List ℕ) : Type 0 where
    pub terms : List Term
    pub first : RunsAll both.first (map config_of terms) ps
    pub second : RunsAll both.second (map config_of terms) qs

  terms_to : (ps qs : List ℕ) → length ps ≡ length qs → All (MeetsIn both) (zip ps qs) → RunTo ps qs
  terms_to [] [] e all = record { terms = []; first = RunsAll.none; second = RunsAll.none }
  terms_to [] (q ∷ qs) e all = absurd (omega arith)
  terms_to (p ∷ ps) [] e all = absurd (omega arith)
  terms_to (p ∷ ps) (q ∷ qs) e all =
      let m = All-head (MeetsIn both) (p, q) (zip ps qs) all in
      let rest = terms_to ps qs (omega arith) (All-tail (MeetsIn both) (p, q) (zip ps qs) all) in
      record { terms = m.term ∷ rest.terms; first = RunsAll.more m.first rest.first; second = RunsAll.more m.second rest.second }

  module _ (P : ℕ × ℕ → Type 0) where
    pub enters_meet : (left right : Trans) (next : ℕ × ℕ) → ((p : ℕ × ℕ) → P p → MeetsIn both p) → Enters both P left right next → MeetsIn both next
    enters_meet left right next all e =
        let meet : All (MeetsIn both) (zip left.args right.args) = All-weaker P (MeetsIn both) all (zip left.args right.args) e.all.each in
        let to = terms_to left.args right.args e.all.count meet in
        let term = node left.sym to.terms in
        let configs = map config_of to.terms in
        let is = config_node left.sym to.terms in
        let has : Contains both.second.trans (trans_of left.sym right.args right.to) = subst (λ s. Contains both.second.trans (trans_of s right.args right.to)) (sym e.same) e.second in
        let meets : MeetsIn both (left.to, right.to) = record {
          term = term;
          first = subst (λ c. Runs both.first c left.to) (sym is) (Runs.app to.first e.first);
          second = subst (λ c. Runs both.second c right.to) (sym is) (Runs.app to.second has);
        } in
        subst (MeetsIn both) (sym e.leads) meets

    -- it stands in the table
    pub enters_in : (table : Table) (left right : Trans) → IsSound both.first → IsSound both.second → HasTable both table → Contains both.first.trans left → Contains both.second.trans right → IsIn table (left.to, right.to)
    enters_in table left right first second has l r =
        let p = next_below both.first first left.to (All-contains (IsTransOf both.first.states) both.first.trans left first.trans l).to in
        let q = next_below both.second second right.to (All-contains (IsTransOf both.second.states) both.second.trans right second.trans r).to in
        record { first = omega (arith, p, has.first); second = omega (arith, q, has.second) }

    -- ---- more pairs

    module _ (Q : ℕ × ℕ → Type 0) (more : (p : ℕ × ℕ) → P p → Q p) where
      pub enters_later : (left right : Trans) (next : ℕ × ℕ) → Enters both P left right next → Enters both Q left right next
      enters_later left right next e = record { first = e.first; second = e.second; same = e.same; all = record { count = e.all.count; each = All-weaker P Q more (zip left.args right.args) e.all.each }; leads = e.leads }

      pub enters_by_later : (used : Use) (q : ℕ) (next : ℕ × ℕ) → EntersBy both P used q next → EntersBy both Q used q next
      enters_by_later used q next e = record { left = e.left; right = e.right; at = e.at; there = e.there; enters = enters_later e.left e.right next e.enters }

  -- what a loop has marked once it has passed the first of its items
  pub record IsMarking {X : Type 0} (P : X → ℕ × ℕ → Type 0) (old : Table) (done : List X) (now : Table) : Type 0 where
    pub meets : AllMeet both now
    pub kept : Keeps old now
    pub marked : (x : X) (next : ℕ × ℕ) → Contains done x → P x next → IsMarked now next

  module _ {X : Type 0} (P : X → ℕ × ℕ → Type 0) (old : Table) where
    pub marking_starts : AllMeet both old → IsMarking P old [] old
    marking_starts meets = record { meets = meets; kept = keeps_itself old; marked = λ x next i p. absurd (omega (arith, i.1)) }

    pub marking_more : (items : List X) (k : ℕ) (x : X) (now new : Table) → k < length items → x ≡ get_or items k x → IsMarking P old (take k items) now →
        AllMeet both new → Keeps now new → ((next : ℕ × ℕ) → P x next → IsMarked new next) → IsMarking P old (take (k + 1) items) new
    marking_more items k x now new l is m meets keeps marks = record {
      meets = meets;
      kept = keeps_on old now new m.kept keeps;
      marked = λ y next i p.
          let more : take (k + 1) items ≡ take k items ++ x ∷ [] = take_more items k x l ∙ ap (λ z. take k items ++ z ∷ []) (sym is) in
          ⊎_elim (λ before. keeps.marked next (m.marked y next before p)) (λ same. marks next (subst (λ z. P z next) (sym same) p))
          (Contains-push_cases (take k items) x y (subst (λ all. Contains all y) more i));
    }

    pub marking_ends : (items : List X) (k : ℕ) (now : Table) → length items ≤ k → IsMarking P old (take k items) now → IsMarking P old items now
    marking_ends items k now l m = subst (λ all. IsMarking P old all now) (take_all k items l) m

  -- ---- constants

  no_args : (ps qs : List ℕ) → AreAll (λ _. ⊥) ps qs → length ps ≡ 0
  no_args [] qs m = refl
  no_args (p ∷ ps) [] m = absurd (omega (arith, m.count))
  no_args (p ∷ ps) (q ∷ qs) m = absurd (All-head (λ (x : ℕ × ℕ). ⊥) (p, q) (zip ps qs) m.each)

  -- nothing is entered from no pair but by constants
  pub starts_at_constants : (left right : Trans) (next : ℕ × ℕ) (args : List ℕ) (r : Bool) → args ≡ left.args → r ≡ (length args == 0) → r ≡ false → Enters both (λ _. ⊥) left right next → ⊥
  starts_at_constants left right next args r is e f h =
      let nothing : length args ≡ 0 = ap length is ∙ no_args left.args right.args h.all in
      true≢false (sym (ap (λ n. n == 0) nothing) ∙ (sym e ∙ f))

  -- ---- uses

  -- what a use of the second automaton at the same slot leads to
  abbrev pub EntersWith : (ℕ × ℕ → Type 0) → Trans → Use → ℕ × ℕ → Type 0
  EntersWith P left other next = (right : Trans) × (slice_get both.second.trans other.position ≡ Some right) × Enters both P left right next

  pub enters_with : (P : ℕ × ℕ → Type 0) (left right : Trans) (other : Use) (next : ℕ × ℕ) → slice_get both.second.trans other.position ≡ Some right → EntersWith P left other next → Enters both P left right next
  enters_with P left right other next at e = subst (λ t. Enters both P left t next) (same_some e.0 right e.1 at) e.2

  -- all that is entered by a use is entered with one of these
  pub entered_by : (P : ℕ × ℕ → Type 0) (now : Table) (left : Trans) (used : Use) (q : ℕ) (uses items : List Use) → IsUseOf both.first.trans used → slice_get both.first.trans used.position ≡ Some left → AreUsesOf both.second.trans uses →
      ((other : Use) → Contains items other ↔ (Contains uses other × (other.slot ≡ (use_of q used.slot.sym used.slot.place 0).slot))) →
      ((other : Use) (next : ℕ × ℕ) → Contains items other → EntersWith P left other next → IsMarked now next) → (next : ℕ × ℕ) → EntersBy both P used q next → IsMarked now next
  entered_by P now left used q uses items is at are members marked next e =
      let right = e.right in
      let second = e.enters.second in
      let position : slice_get both.second.trans second.0 ≡ Some right = slice_get-get_or both.second.trans second.0 right second.1 ∙ ap Some second.2 in
      let other = use_of q used.slot.sym used.slot.place second.0 in
      let sym_is : right.sym ≡ used.slot.sym = sym e.enters.same ∙ used_sym both.first.trans used e.left is e.at in
      let has = (are other).1 (record { trans = right; at = position; is = record { sym = sym_is; state = e.there } }) in
      marked other next ((members other).1 (has, refl)) (right, position, subst (λ t. Enters both P t right next) (same_some e.left left e.at at) e.enters)

  -- all that is entered at a pair is entered by a use of its first state
  pub entered_at : (P : ℕ × ℕ → Type 0) (now : Table) (p q : ℕ) (uses items : List Use) → AreUsesOf both.first.trans uses → ((used : Use) → Contains items used ↔ (Contains uses used × (used.slot.state ≡ p))) →
      ((used : Use) (next : ℕ × ℕ) → Contains items used → EntersBy both P used q next → IsMarked now next) → (next : ℕ × ℕ) → EntersAt both P (p, q) next → IsMarked now next
  entered_at P now p q uses items are members marked next e =
      let left = e.left in
      let right = e.right in
      let i = e.there.0 in
      let in_left : i < length left.args = omega (arith, e.there.1, length-zip left.args right.args) in
      let in_right : i < length right.args = omega (arith, e.there.1, length-zip left.args right.args) in
      let pair : ◌≡◌ {A = ℕ × ℕ} (get_or left.args i p, get_or right.args i q) (p, q) = sym (get_or-zip left.args right.args i (p, q) in_left in_right) ∙ e.there.2 in
      let at_left : slice_get left.args i ≡ Some p = slice_get-get_or left.args i p in_left ∙ ap (λ (x : ℕ × ℕ). Some x.0) pair in
      let at_right : slice_get right.args i ≡ Some q = slice_get-get_or right.args i q in_right ∙ ap (λ (x : ℕ × ℕ). Some x.1) pair in
      let first = e.enters.first in
      let position : slice_get both.first.trans first.0 ≡ Some left = slice_get-get_or both.first.trans first.0 left first.1 ∙ ap Some first.2 in
      let used = use_of p left.sym i first.0 in
      let has = (are used).1 (record { trans = left; at = position; is = record { sym = refl; state = at_left } }) in
      marked used next ((members used).1 (has, refl)) (record { left = left; right = right; at = position; there = at_right; enters = e.enters })

  -- ---- the work list

  -- what holds once the pairs that are taken were followed
  pub record IsFollowing (table : Table) : Type 0 where
    pub has : HasTable both table
    pub meets : AllMeet both table
    pub steps : (pair next : ℕ × ℕ) → IsTaken table pair → StepsTo both pair next → IsMarked table next
    pub enters : (left right : Trans) (next : ℕ × ℕ) → Enters both (IsTaken table) left right next → IsMarked table next

  -- pairs of which each is such or this one
  all_or_one : (P : ℕ × ℕ → Type 0) (pair : ℕ × ℕ) (xs : List (ℕ × ℕ)) → All (λ p. P p ⊎ (p ≡ pair)) xs → All P xs ⊎ Contains xs pair
  all_or_one P pair [] all = inl (All-nil P)
  all_or_one P pair (x ∷ xs) all =
      ⊎_elim
      (λ i. ⊎_elim (λ rest. inl (All-cons P x xs i rest)) (λ found. inr (there x pair xs found)) (all_or_one P pair xs (All-tail (λ p. P p ⊎ (p ≡ pair)) x xs all)))
      (λ same. inr (subst (λ y. Contains (x ∷ xs) y) same (here x xs)))
      (All-head (λ p. P p ⊎ (p ≡ pair)) x xs all)

  module _ (old taken mid new : Table) (pair : ℕ × ℕ) (f : IsFollowing old) (takes : TakesOne old taken pair) (to_mid : Keeps taken mid) (to_new : Keeps mid new) where
    pub meets_taken : AllMeet both taken
    meets_taken p m = f.meets p (takes.no_more p m)

    pub table_taken : HasTable both taken
    table_taken = record { first = omega (arith, f.has.first, takes.height); second = omega (arith, f.has.second, takes.width) }

    pub pair_taken : IsMarked taken pair
    pair_taken = takes.marked pair takes.was

    stays : (p : ℕ × ℕ) → IsMarked old p → IsMarked new p
    stays p m = to_new.marked p (to_mid.marked p (takes.marked p m))

    cases : (p : ℕ × ℕ) → IsTaken new p → IsTaken old p ⊎ (p ≡ pair)
    cases p t = takes.taken p (to_mid.taken p (to_new.taken p t))

    pub following_more : AllMeet both new → ((n : ℕ × ℕ) → StepsTo both pair n → IsMarked mid n) → ((n : ℕ × ℕ) → EntersAt both (IsMarked mid) pair n → IsMarked new n) → IsFollowing new
    following_more meets steps enters = record {
      has = has_table mid new (has_table taken mid table_taken to_mid) to_new;
      meets = meets;
      steps = λ p n t s. ⊎_elim
          (λ before. stays n (f.steps p n before s))
          (λ is. to_new.marked n (steps n (subst (λ x. StepsTo both x n) is s)))
          (cases p t);
      enters = λ left right n e.
          ⊎_elim
          (λ before. stays n (f.enters left right n (record { first = e.first; second = e.second; same = e.same; all = record { count = e.all.count; each = before }; leads = e.leads })))
          (λ there. enters n (record {
            left = left;
            right = right;
            there = there;
            enters = enters_later (IsTaken new) (IsMarked mid) (λ p t. to_mid.marked p (taken_is_marked taken p (to_mid.taken p (to_new.taken p t)))) left right n e;
          }))
          (all_or_one (IsTaken old) pair (zip left.args right.args) (All-weaker (IsTaken new) (λ p. IsTaken old p ⊎ (p ≡ pair)) cases (zip left.args right.args) e.all.each));
    }

  -- ---- all that meets is marked

  module _ (P : ℕ × ℕ → Type 0) (steps : (pair next : ℕ × ℕ) → P pair → StepsTo both pair next → P next)
      (enters : (left right : Trans) (next : ℕ × ℕ) → Enters both P left right next → P next) where
    first_reached : {p q r : ℕ} → P (p, r) → Reaches both.first p q → P (q, r)
    first_reached c Reaches.here = c
    first_reached c (Reaches.on h i) = steps _ _ (first_reached c h) (StepsTo.first i)

    second_reached : {p q r : ℕ} → P (r, p) → Reaches both.second p q → P (r, q)
    second_reached c Reaches.here = c
    second_reached c (Reaches.on h i) = steps _ _ (second_reached c h) (StepsTo.second i)

    abbrev HasAll : Term → Type 0
    HasAll t = (p q : ℕ) → Runs both.first (config_of t) p → Runs both.second (config_of t) q → P (p, q)

    args_marked : (ts : List Term) (ps qs : List ℕ) → AllByRecursion HasAll ts → AllZip (Runs both.first) (map config_of ts) ps → AllZip (Runs both.second) (map config_of ts) qs → AreAll P ps qs
    args_marked [] [] [] each left right = record { count = refl; each = All-nil P }
    args_marked [] [] (q ∷ qs) each left right = absurd right
    args_marked [] (p ∷ ps) qs each left right = absurd left
    args_marked (t ∷ ts) [] qs each left right = absurd left
    args_marked (t ∷ ts) (p ∷ ps) [] each left right = absurd right
    args_marked (t ∷ ts) (p ∷ ps) (q ∷ qs) each left right =
        let rest = args_marked ts ps qs each.1 left.1 right.1 in
        record { count = ap suc rest.count; each = All-cons P (p, q) (zip ps qs) (each.0 p q left.0 right.0) rest.each }

    node_marked : (f : ℕ) (ts : List Term) → AllByRecursion HasAll ts → HasAll (node f ts)
    node_marked f ts each p q left right =
        let a = run_of_app f (map config_of ts) p (subst (λ c. Runs both.first c p) (config_node f ts) left) in
        let b = run_of_app f (map config_of ts) q (subst (λ c. Runs both.second c q) (config_node f ts) right) in
        let first : P (a.target, b.target) = enters (trans_of f a.states a.target) (trans_of f b.states b.target) (a.target, b.target) (record {
          first = a.has;
          second = b.has;
          same = refl;
          all = args_marked ts a.states b.states each (zip_from_all a.args) (zip_from_all b.args);
          leads = refl;
        }) in
        second_reached (first_reached first a.on) b.on

    pub all_marked : (t : Term) → HasAll t
    all_marked = term_induction HasAll node_marked

  pub following_ends : (table : Table) → IsFollowing table → ((pair : ℕ × ℕ) → IsMarked table pair → IsTaken table pair) → (pair : ℕ × ℕ) → IsMarked table pair ↔ MeetsIn both pair
  following_ends table f none pair = (
    λ m. f.meets pair m,
    λ m. all_marked (IsMarked table)
        (λ p n i s. f.steps p n (none p i) s)
        (λ left right n e. f.enters left right n (enters_later (IsMarked table) (IsTaken table) none left right n e))
        m.term pair.0 pair.1 m.first m.second,
  )

-- ---- one epsilon transition

module _ (both : TwoAutomata) (old now : Table) (p q : ℕ) (e : ℕ × ℕ) (marked : IsMarked old (p, q)) (kept : Keeps old now) (has : HasTable both old) where
  pub first_in : IsSound both.first → Contains both.first.eps e → IsIn now (e.1, q)
  first_in sound i =
      let below = next_below both.first sound e.1 (All-contains (IsEpsOf both.first.states) both.first.eps e sound.eps i).to in
      record { first = omega (arith, below, has.first, kept.height); second = omega (arith, marked.within.second, kept.width) }

  pub second_in : IsSound both.second → Contains both.second.eps e → IsIn now (p, e.1)
  second_in sound i =
      let below = next_below both.second sound e.1 (All-contains (IsEpsOf both.second.states) both.second.eps e sound.eps i).to in
      record { first = omega (arith, marked.within.first, kept.height); second = omega (arith, below, has.second, kept.width) }

  pub first_meets : AllMeet both old → Contains both.first.eps e → e.0 ≡ p → MeetsIn both (e.1, q)
  first_meets meets i from = steps_meet both (p, q) (e.1, q) (meets (p, q) marked) (StepsTo.first (subst (λ x. Contains both.first.eps (x, e.1)) from i))

  pub second_meets : AllMeet both old → Contains both.second.eps e → e.0 ≡ q → MeetsIn both (p, e.1)
  second_meets meets i from = steps_meet both (p, q) (p, e.1) (meets (p, q) marked) (StepsTo.second (subst (λ x. Contains both.second.eps (x, e.1)) from i))

-- with a pair that meets, each marked pair still does
pub meets_with : (both : TwoAutomata) (now new : Table) (pair : ℕ × ℕ) → AllMeet both now → ((next : ℕ × ℕ) → IsMarked new next → IsMarked now next ⊎ (next ≡ pair)) → MeetsIn both pair → AllMeet both new
meets_with both now new pair meets members meet next m = ⊎_elim (λ before. meets next before) (λ same. subst (MeetsIn both) (sym same) meet) (members next m)

-- nothing is taken in a table without a mark, and nothing is entered there but constants
pub following_starts : (both : TwoAutomata) (old now : Table) → ((pair : ℕ × ℕ) → IsMarked old pair → ⊥) → HasTable both old → Keeps old now → AllMeet both now → ((next : ℕ × ℕ) (left right : Trans) → Enters both (λ _. ⊥) left right next → IsMarked now next) → IsFollowing both now
following_starts both old now none has kept meets starts = record {
  has = has_table both old now has kept;
  meets = meets;
  steps = λ p n t s. absurd (untaken p t);
  enters = λ left right n e. starts n left right (enters_later both (IsTaken now) (λ _. ⊥) untaken left right n e);
}
  where
    untaken : (p : ℕ × ℕ) → IsTaken now p → ⊥
    untaken p t = none p (taken_is_marked old p (kept.taken p t))

-- epsilon transitions of one automaton after those of the other
pub steps_marked : (both : TwoAutomata) (mid new : Table) (p q : ℕ) → Keeps mid new → ((r : ℕ) → Contains both.first.eps (p, r) → IsMarked mid (r, q)) → ((r : ℕ) → Contains both.second.eps (q, r) → IsMarked new (p, r)) →
    (next : ℕ × ℕ) → StepsTo both (p, q) next → IsMarked new next
steps_marked both mid new p q kept firsts seconds next (StepsTo.first {p = r} i) = kept.marked (r, q) (firsts r i)
steps_marked both mid new p q kept firsts seconds next (StepsTo.second {q = r} i) = seconds r i
