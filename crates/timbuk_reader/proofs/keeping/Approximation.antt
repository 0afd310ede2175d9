-- What is kept of the parts of an approximation rule.
use Rattle.std.proofs.Common.{◌≡◌, ℕ, suc, ◌+◌, ◌<◌, ◌≤◌, length, arith, Bool, true, false, ◌||◌, ◌==◌, cond, List, [], ◌∷◌, ◌++◌, Some, Result, Ok, Err, MatchResult, OnOk, OnErr, refl, ap, sym, ◌∙◌, subst, length-append, ◌⊎◌, inl, inr}
use Rattle.std.specs.Prelude.{map, fold, nat_lt, nat_le}
use Rattle.std.specs.List.{list_all, list_any}
use Rattle.std.proofs.lemmas.Bool.Decides.{nat_tests}
use Rattle.timbuk_reader.specs.declared.approximation.Leaf.TheVariants as leaf
use Rattle.spec_text.specs.Declarations.{Declared, has, with_variable}
use Rattle.timbuk_reader.specs.ApproximationReads.{OnlyTokens, has_room, with_own, with_leaf, leaf_shape, are_among, IsLeaf, IsPart, IsForm, AreArguments, IsStarted, AddsArgument, node_of, entry_of}
use Rattle.timbuk_reader.specs.declared.approximation.StartedEntry.{StartedEntry}
use Rattle.timbuk_reader.specs.declared.approximation.Form.{Form}
use Rattle.timbuk_reader.specs.declared.approximation.Leaf.{Leaf}
use Rattle.std.proofs.lemmas.Bool.{and_parts, and_from}
use Rattle.std.proofs.lemmas.List.{map-append}
use Rattle.std.proofs.lemmas.List.Folds.{list_any-append, list_all-append}
use Rattle.ranked_terms.specs.Names.{arity_of}
use Rattle.ranked_terms.specs.Terms as terms
use Rattle.ranked_terms.specs.Terms.{joined, is_symbol}
use Rattle.trs_rules.specs.declared.entry.Entry.{Entry}
use Rattle.ta_core.specs.SpecRules.{shape_is_over, shape_is_below, shape_occurrences, entries_are_over, entries_are_below, entries_are_small, entry_variables}
use Rattle.ranked_terms.specs.declared.term.Shape.{Shape}
use Rattle.timbuk_grammar.specs.declared.terminal.Role.{Role}
use Rattle.timbuk_grammar.specs.declared.terminal.Role.TheVariants as role
use Rattle.timbuk_reader.specs.declared.state.Reader.{Reader}
use Rattle.timbuk_reader.specs.View.{state_of}
use Rattle.timbuk_grammar.specs.declared.terminal.Terminal.TheVariants as terminal
use Rattle.timbuk_reader.specs.declared.fault.SpecError.{SpecError}
use Rattle.timbuk_reader.specs.Reads.{Took}
use Rattle.timbuk_reader.specs.Patterns.{Fits, LacksEnd}
use Rattle.spec_text.specs.lemmas.Variables.{Binds}
use Rattle.spec_text.specs.lemmas.Variables.{is_some_position}
use Rattle.timbuk_reader.proofs.keeping.Fits.{all_on, joined_on, symbol_test}
use Rattle.spec_text.specs.lemmas.Shapes.{over_var, over_state, over_app, below_var, below_state, below_app, occurs_var, occurs_state, occurs_app}

-- ---- variables

-- the test for a variable
pub has_any : (vs : List ℕ) (v : ℕ) → has vs v ≡ list_any (λ w. v == w) vs
has_any vs v = is_some_position (λ w. v == w) vs

-- a variable that is neither bound nor the entry's own
pub own_new : (bound own : List ℕ) (v : ℕ) → list_any (λ w. v == w) bound ≡ false → list_any (λ w. v == w) own ≡ false → with_own bound (leaf.Variable v) own ≡ own ++ v ∷ []
own_new bound own v e f = rw (has_any bound v ∙ e, has_any own v ∙ f) refl

pub own_bound : (bound own : List ℕ) (v : ℕ) → list_any (λ w. v == w) bound ≡ true → with_own bound (leaf.Variable v) own ≡ own
own_bound bound own v e = rw (has_any bound v ∙ e) refl

either : {A : Type 0} (a : Bool) (own : A) → cond a own own ≡ own
either true own = refl
either false own = refl

pub own_there : (bound own : List ℕ) (v : ℕ) → list_any (λ w. v == w) own ≡ true → with_own bound (leaf.Variable v) own ≡ own
own_there bound own v e = rw (has_any own v ∙ e) (either (has bound v) own)

or_assoc : (a b c : Bool) → ((a || b) || c) ≡ (a || (b || c))
or_assoc true b c = refl
or_assoc false b c = refl

-- the test for room by the test whether the variable is there
pub room_is : (bound own : List ℕ) (v : ℕ) (seen : Bool) → seen ≡ (has bound v || has own v) → (seen || nat_lt (length bound + length own) 16) ≡ has_room bound own v
room_is bound own v seen e = ap (λ b. b || nat_lt (length bound + length own) 16) e ∙ or_assoc (has bound v) (has own v) (nat_lt (length bound + length own) 16)

-- ---- variables that are among others

turn : (a b : ℕ) → (a == b) ≡ true → b ≡ a
turn a b e = grind (arith, nat_tests)

same_number : (v : ℕ) → (v == v) ≡ true
same_number v = grind (arith, nat_tests)

or_left : (a b : Bool) → a ≡ true → (a || b) ≡ true
or_left a b e = rw e refl

or_right : (a b : Bool) → b ≡ true → (a || b) ≡ true
or_right true b e = refl
or_right false b e = e

has_append : (xs ys : List ℕ) (v : ℕ) → has (xs ++ ys) v ≡ (has xs v || has ys v)
has_append xs ys v = has_any (xs ++ ys) v ∙ list_any-append (λ w. v == w) xs ys ∙ sym (λ i. has_any xs v i || has_any ys v i)

pub has_left : (xs ys : List ℕ) (v : ℕ) → has xs v ≡ true → has (xs ++ ys) v ≡ true
has_left xs ys v e = has_append xs ys v ∙ or_left (has xs v) (has ys v) e

pub has_right : (xs ys : List ℕ) (v : ℕ) → has ys v ≡ true → has (xs ++ ys) v ≡ true
has_right xs ys v e = has_append xs ys v ∙ or_right (has xs v) (has ys v) e

has_one : (v : ℕ) → has (v ∷ []) v ≡ true
has_one v = has_any (v ∷ []) v ∙ or_left (v == v) false (same_number v)

-- these hold all that those hold
pub record Holds (old new : List ℕ) : Type 0 where
  pub by : (v : ℕ) → has old v ≡ true → has new v ≡ true

holds_by : (vs : List ℕ) (v : ℕ) (b : Bool) → Holds vs (cond b vs (vs ++ v ∷ []))
holds_by vs v true = record { by = λ w e. e }
holds_by vs v false = record { by = λ w e. has_left vs (v ∷ []) w e }

pub holds_with : (vs : List ℕ) (v : ℕ) → Holds vs (with_variable vs v)
holds_with vs v = holds_by vs v (has vs v)

with_by : (vs : List ℕ) (v : ℕ) (b : Bool) → has vs v ≡ b → has (cond b vs (vs ++ v ∷ [])) v ≡ true
with_by vs v true e = e
with_by vs v false e = has_right vs (v ∷ []) v (has_one v)

-- a variable that was added is there
pub has_with : (vs : List ℕ) (v : ℕ) → has (with_variable vs v) v ≡ true
has_with vs v = with_by vs v (has vs v) refl

pub among_more : (old new vs : List ℕ) → Holds old new → are_among old vs ≡ true → are_among new vs ≡ true
among_more old new [] h e = refl
among_more old new (v ∷ vs) h e = let k = and_parts (has old v) (are_among old vs) e in and_from (has new v) (are_among new vs) (h.by v k.0) (among_more old new vs h k.1)

-- the variables that a pattern binds
binds_hold : (p : Role) (old vs new : List ℕ) → Binds p old vs new → Holds old new
binds_hold p old [] new h = record { by = λ w e. subst (λ z. has z w ≡ true) (sym h) e }
binds_hold p old (v ∷ vs) new h = record { by = λ w e. (binds_hold p (with_variable old v) vs new h.1).by w ((holds_with old v).by w e) }

pub binds_among : (p : Role) (old vs new : List ℕ) → Binds p old vs new → are_among new vs ≡ true
binds_among p old [] new h = refl
binds_among p old (v ∷ vs) new h = and_from (has new v) (are_among new vs) ((binds_hold p (with_variable old v) vs new h.1).by v (has_with old v)) (binds_among p (with_variable old v) vs new h.1)

-- ---- parts of a form

pub part_kept : (r u : Reader) (old new : List ℕ) (s : Shape) → state_of u ≡ state_of r → Holds old new → IsPart r old s → IsPart u new s
part_kept r u old new s e h k = record {
  over = subst (λ (d : Declared). shape_is_over d.symbols s ≡ true) (sym e) k.over;
  below = subst (λ (d : Declared). shape_is_below (length d.initial.states) s ≡ true) (sym e) k.below;
  among = among_more old new (shape_occurrences s) h k.among;
}

-- the form of a right side that was read
pub whole_part : (r u : Reader) (s : Shape) → Fits role.EntryWhole r s u → IsPart u u.bound s
whole_part r u s h = record {
  over = subst (λ (d : Declared). shape_is_over d.symbols s ≡ true) (sym h.same.state) h.over;
  below = subst (λ (d : Declared). shape_is_below (length d.initial.states) s ≡ true) (sym h.same.state) h.below;
  among = binds_among role.EntryWhole r.bound (shape_occurrences s) u.bound h.binds;
}

-- a leaf with its variable among these
pub leaf_part : (r : Reader) (variables : List ℕ) (l : Leaf) → ((v : ℕ) → l ≡ leaf.Variable v → has variables v ≡ true) → ((q : ℕ) → l ≡ leaf.State q → q < length r.initial.states) → IsPart r variables (leaf_shape l)
leaf_part r variables (leaf.Variable v) h k = record {
  over = over_var r.signature v;
  below = below_var (length r.initial.states) v;
  among = ap (are_among variables) (occurs_var v) ∙ and_from (has variables v) true (h v refl) refl;
}
leaf_part r variables (leaf.State q) h k = record {
  over = over_state r.signature q;
  below = let small = k q refl in below_state (length r.initial.states) q ∙ grind (arith, nat_tests);
  among = ap (are_among variables) (occurs_state q);
}

at_part : (r u : Reader) (own : List ℕ) (l : Leaf) → state_of u ≡ state_of r → IsLeaf own r l → IsPart u (with_leaf r.bound l) (leaf_shape l)
at_part r u own (leaf.Variable v) e h = leaf_part u (with_variable r.bound v) (leaf.Variable v) (λ w f. let same : v ≡ w = cc in subst (λ z. has (with_variable r.bound v) z ≡ true) same (has_with r.bound v)) (λ q f. cc)
at_part r u own (leaf.State q) e h = leaf_part u r.bound (leaf.State q) (λ v f. cc) (λ p f. let same : q ≡ p = cc in subst (λ z. z < length u.initial.states) same (subst (λ (d : Declared). q < length d.initial.states) (sym e) h))

holds_leaf : (bound : List ℕ) (l : Leaf) → Holds bound (with_leaf bound l)
holds_leaf bound (leaf.Variable v) = holds_with bound v
holds_leaf bound (leaf.State q) = record { by = λ v e. e }

-- both parts of a form
pub form_is : (r m u : Reader) (form : Form) (l : Leaf) → IsPart r r.bound form.whole → form.at ≡ leaf_shape l → state_of u ≡ state_of m → state_of m ≡ state_of r → m.bound ≡ r.bound → u.bound ≡ with_leaf m.bound l → IsLeaf [] m l → IsForm u form
form_is r m u form l whole at e f b bound fits = record {
  whole = part_kept r u r.bound u.bound form.whole (e ∙ f) (subst (Holds r.bound) (sym (bound ∙ ap (λ z. with_leaf z l) b)) (holds_leaf r.bound l)) whole;
  at = subst (λ z. IsPart u z form.at) (sym bound) (subst (IsPart u (with_leaf m.bound l)) (sym at) (at_part m u [] l e fits));
}

-- ---- entries

-- a form in a reader of the same signature and states
pub form_kept : (r u : Reader) (form : Form) → u.signature ≡ r.signature → length u.initial.states ≡ length r.initial.states → u.bound ≡ r.bound → IsForm r form → IsForm u form
form_kept r u form e f b h = record {
  whole = record {
    over = subst (λ z. shape_is_over z form.whole ≡ true) (sym e) h.whole.over;
    below = subst (λ z. shape_is_below z form.whole ≡ true) (sym f) h.whole.below;
    among = subst (λ z. are_among z (shape_occurrences form.whole) ≡ true) (sym b) h.whole.among;
  };
  at = record {
    over = subst (λ z. shape_is_over z form.at ≡ true) (sym e) h.at.over;
    below = subst (λ z. shape_is_below z form.at ≡ true) (sym f) h.at.below;
    among = subst (λ z. are_among z (shape_occurrences form.at) ≡ true) (sym b) h.at.among;
  };
}

same_symbols : (r u : Reader) → state_of u ≡ state_of r → u.signature ≡ r.signature
same_symbols r u e = ap (λ (d : Declared). d.symbols) e

same_states : (r u : Reader) → state_of u ≡ state_of r → length u.initial.states ≡ length r.initial.states
same_states r u e = ap (λ (d : Declared). length d.initial.states) e

-- an entry of which the head was read
pub started_new : (r u : Reader) (e : StartedEntry) → OnlyTokens r u → IsForm r e.form → arity_of r.signature e.sym ≡ Some e.arity → e.args ≡ [] → e.own ≡ [] → length r.bound ≤ 16 → IsStarted u e
started_new r u e same form arity args own few = record {
  form = form_kept r u e.form (same_symbols r u same.state) (same_states r u same.state) same.bound form;
  arity = ap (λ z. arity_of z e.sym) (same_symbols r u same.state) ∙ arity;
  args = subst (AreArguments u (u.bound ++ e.own)) (sym args) (record { over = refl; below = refl; among = refl });
  few = let b = same.bound in let o = own in subst (λ z. length z + length e.own ≤ 16) (sym b) (subst (λ z. length r.bound + length z ≤ 16) (sym o) (omega arith));
}

-- an entry at a later place
pub started_kept : (r u : Reader) (e : StartedEntry) → OnlyTokens r u → IsStarted r e → IsStarted u e
started_kept r u e same h = record {
  form = form_kept r u e.form (same_symbols r u same.state) (same_states r u same.state) same.bound h.form;
  arity = ap (λ z. arity_of z e.sym) (same_symbols r u same.state) ∙ h.arity;
  args = record {
    over = subst (λ z. list_all (shape_is_over z) e.args ≡ true) (sym (same_symbols r u same.state)) h.args.over;
    below = subst (λ z. list_all (shape_is_below z) e.args ≡ true) (sym (same_states r u same.state)) h.args.below;
    among = subst (λ z. are_among (z ++ e.own) (joined (map shape_occurrences e.args)) ≡ true) (sym same.bound) h.args.among;
  };
  few = subst (λ z. length z + length e.own ≤ 16) (sym same.bound) h.few;
}

pub last_started : {X : Type 0} (r u : Reader) (e : StartedEntry) → IsStarted r e → (result : Result X SpecError) → MatchResult result (λ _. Took terminal.CloseParen r u) (LacksEnd r) → OnOk result (IsStarted u e)
last_started r u e h (Ok x) k = started_kept r u e (record { state = k.state; bound = k.bound }) h
last_started r u e h (Err x) k = tt

few_by : (bound own : List ℕ) (v : ℕ) (a b : Bool) → has bound v ≡ a → has own v ≡ b → length bound + length own ≤ 16 → has_room bound own v ≡ true → length bound + length (with_own bound (leaf.Variable v) own) ≤ 16
few_by bound own v true b e f few room = rw e few
few_by bound own v false true e f few room = rw (e, f) few
few_by bound own v false false e f few room =
    let more : nat_lt (length bound + length own) 16 ≡ true = sym (ap (λ z. z || (has own v || nat_lt (length bound + length own) 16)) e ∙ ap (λ z. z || nat_lt (length bound + length own) 16) f) ∙ room in
    let count : length (own ++ v ∷ []) ≡ length own + 1 = length-append own (v ∷ []) in
    let small : length bound + (length own + 1) ≤ 16 = grind (arith, nat_tests) in
    rw (e, f) (subst (λ n. length bound + n ≤ 16) (sym count) small)

few_more : (r : Reader) (own : List ℕ) (l : Leaf) → length r.bound + length own ≤ 16 → IsLeaf own r l → length r.bound + length (with_own r.bound l own) ≤ 16
few_more r own (leaf.Variable v) few room = few_by r.bound own v (has r.bound v) (has own v) refl refl few room
few_more r own (leaf.State q) few fits = few

own_holds_by : (own : List ℕ) (v : ℕ) (b : Bool) → Holds own (cond b own (with_variable own v))
own_holds_by own v true = record { by = λ w e. e }
own_holds_by own v false = holds_with own v

own_holds : (bound own : List ℕ) (l : Leaf) → Holds own (with_own bound l own)
own_holds bound own (leaf.Variable v) = own_holds_by own v (has bound v)
own_holds bound own (leaf.State q) = record { by = λ w e. e }

split_by : (bound old : List ℕ) (v : ℕ) (b : Bool) → has bound v ≡ b → has (bound ++ old) v ≡ true → (has bound v ≡ true) ⊎ (has old v ≡ true)
split_by bound old v true e h = inl e
split_by bound old v false e h = inr (sym (ap (λ z. z || has old v) e) ∙ sym (has_append bound old v) ∙ h)

after_bound : (bound old new : List ℕ) → Holds old new → Holds (bound ++ old) (bound ++ new)
after_bound bound old new h = record {
  by = λ v e. elim (split_by bound old v (has bound v) refl e) [
    | inl k ↦ has_left bound new v k
    | inr k ↦ has_right bound new v (h.by v k)
  ];
}

there_by : (bound own : List ℕ) (v : ℕ) (b : Bool) → has bound v ≡ b → has (bound ++ cond b own (with_variable own v)) v ≡ true
there_by bound own v true e = has_left bound own v e
there_by bound own v false e = has_right bound (with_variable own v) v (has_with own v)

argument_part : (r : Reader) (own : List ℕ) (l : Leaf) → IsLeaf own r l → IsPart r (r.bound ++ with_own r.bound l own) (leaf_shape l)
argument_part r own (leaf.Variable v) h = leaf_part r (r.bound ++ with_own r.bound (leaf.Variable v) own) (leaf.Variable v) (λ w f. let same : v ≡ w = cc in subst (λ z. has (r.bound ++ with_own r.bound (leaf.Variable v) own) z ≡ true) same (there_by r.bound own v (has r.bound v) refl)) (λ q f. cc)
argument_part r own (leaf.State q) h = leaf_part r (r.bound ++ own) (leaf.State q) (λ v f. cc) (λ p f. let same : q ≡ p = cc in subst (λ z. z < length r.initial.states) same h)

among_append : (variables xs ys : List ℕ) → are_among variables xs ≡ true → are_among variables ys ≡ true → are_among variables (xs ++ ys) ≡ true
among_append variables xs ys h k = list_all-append (has variables) xs ys ∙ and_from (are_among variables xs) (are_among variables ys) h k

-- an entry with a further argument
pub started_more : (r u : Reader) (e f : StartedEntry) (l : Leaf) → OnlyTokens r u → IsStarted r e → IsLeaf e.own u l → AddsArgument u.bound l e f → IsStarted u f
started_more r u e f l same h fits k =
    let at_u = started_kept r u e same h in
    let own = with_own u.bound l e.own in
    let part = argument_part u e.own l fits in
    let args : AreArguments u (u.bound ++ own) (e.args ++ leaf_shape l ∷ []) = record {
      over = all_on (shape_is_over u.signature) e.args (leaf_shape l) at_u.args.over part.over;
      below = all_on (shape_is_below (length u.initial.states)) e.args (leaf_shape l) at_u.args.below part.below;
      among = ap (are_among (u.bound ++ own)) (ap joined (map-append shape_occurrences e.args (leaf_shape l ∷ [])) ∙ joined_on (map shape_occurrences e.args) (shape_occurrences (leaf_shape l)))
          ∙ among_append (u.bound ++ own) (joined (map shape_occurrences e.args)) (shape_occurrences (leaf_shape l))
          (among_more (u.bound ++ e.own) (u.bound ++ own) (joined (map shape_occurrences e.args)) (after_bound u.bound e.own own (own_holds u.bound e.own l)) at_u.args.among) part.among;
    } in
    record {
      form = subst (IsForm u) (sym k.head.form) at_u.form;
      arity = (λ i. arity_of u.signature (k.head.sym i)) ∙ at_u.arity ∙ ap Some (sym k.head.arity);
      args = subst (λ z. AreArguments u (u.bound ++ z) f.args) (sym k.own) (subst (AreArguments u (u.bound ++ own)) (sym k.args) args);
      few = subst (λ z. length u.bound + length z ≤ 16) (sym k.own) (few_more u e.own l at_u.few fits);
    }

-- ---- few variables

seen_in : List ℕ → ℕ → Bool
seen_in vs v = list_any (λ w. v == w) vs

-- how many of these are not among those
unseen : List ℕ → List ℕ → ℕ
unseen vs [] = 0
unseen vs (w ∷ ws) = cond (seen_in vs w) (unseen vs ws) (suc (unseen vs ws))

fewer_by : (a b : Bool) (m n : ℕ) → m ≤ n → cond (a || (b || false)) m (suc m) ≤ cond a n (suc n)
fewer_by true b m n h = h
fewer_by false true m n h = omega arith
fewer_by false false m n h = omega arith

seen_push : (vs : List ℕ) (v w : ℕ) → seen_in (vs ++ v ∷ []) w ≡ (seen_in vs w || ((w == v) || false))
unfolding seen_in
seen_push vs v w = list_any-append (λ z. w == z) vs (v ∷ [])

fewer : (vs ws : List ℕ) (v : ℕ) → unseen (vs ++ v ∷ []) ws ≤ unseen vs ws
unfolding unseen
fewer vs [] v = omega arith
fewer vs (w ∷ ws) v = subst (λ b. cond b (unseen (vs ++ v ∷ []) ws) (suc (unseen (vs ++ v ∷ []) ws)) ≤ unseen vs (w ∷ ws)) (sym (seen_push vs v w)) (fewer_by (seen_in vs w) (w == v) _ _ (fewer vs ws v))

strictly_by : (a b : Bool) (m n : ℕ) → m + 1 ≤ n → cond (a || (b || false)) m (suc m) + 1 ≤ cond a n (suc n)
strictly_by true b m n h = h
strictly_by false true m n h = omega arith
strictly_by false false m n h = omega arith

here_by : (a b : Bool) (m n : ℕ) → a ≡ false → b ≡ true → m ≤ n → cond (a || (b || false)) m (suc m) + 1 ≤ cond a n (suc n)
here_by true b m n e f h = cc
here_by false true m n e f h = omega arith
here_by false false m n e f h = cc

unseen_at : (vs ws : List ℕ) (v w : ℕ) (here : Bool) → (v == w) ≡ here → seen_in vs v ≡ false → (here || seen_in ws v) ≡ true → unseen (vs ++ v ∷ []) ws ≤ unseen vs ws → (seen_in ws v ≡ true → unseen (vs ++ v ∷ []) ws + 1 ≤ unseen vs ws)
    → cond (seen_in vs w || ((w == v) || false)) (unseen (vs ++ v ∷ []) ws) (suc (unseen (vs ++ v ∷ []) ws)) + 1 ≤ cond (seen_in vs w) (unseen vs ws) (suc (unseen vs ws))
unseen_at vs ws v w true i e f less more =
    let same : w ≡ v = turn v w i in
    here_by (seen_in vs w) (w == v) _ _ (ap (seen_in vs) same ∙ e) (ap (λ z. w == z) (sym same) ∙ same_number w) less
unseen_at vs ws v w false i e f less more = strictly_by (seen_in vs w) (w == v) _ _ (more f)

strictly : (vs ws : List ℕ) (v : ℕ) → seen_in vs v ≡ false → seen_in ws v ≡ true → unseen (vs ++ v ∷ []) ws + 1 ≤ unseen vs ws
unfolding unseen seen_in
strictly vs [] v e f = cc
strictly vs (w ∷ ws) v e f =
    subst (λ b. cond b (unseen (vs ++ v ∷ []) ws) (suc (unseen (vs ++ v ∷ []) ws)) + 1 ≤ unseen vs (w ∷ ws)) (sym (seen_push vs v w))
    (unseen_at vs ws v w (v == w) refl e f (fewer vs ws v) (λ g. strictly vs ws v e g))

-- The variables that are not there yet are few.
firsts_by : (vs ws xs : List ℕ) (v : ℕ) (b : Bool) → seen_in vs v ≡ b → seen_in ws v ≡ true → ((us : List ℕ) → length (fold terms.with_variable us xs) ≤ length us + unseen us ws) → length (fold terms.with_variable (cond b vs (vs ++ v ∷ [])) xs) ≤ length vs + unseen vs ws
firsts_by vs ws xs v true e f h = h vs
firsts_by vs ws xs v false e f h = let k = h (vs ++ v ∷ []) in let less = strictly vs ws v e f in let count = length-append vs (v ∷ []) in omega arith

firsts_below : (ws xs vs : List ℕ) → list_all (seen_in ws) xs ≡ true → length (fold terms.with_variable vs xs) ≤ length vs + unseen vs ws
unfolding seen_in
firsts_below ws [] vs e = omega arith
firsts_below ws (v ∷ xs) vs e = let k = and_parts (seen_in ws v) (list_all (seen_in ws) xs) e in firsts_by vs ws xs v (seen_in vs v) refl k.0 (λ us. firsts_below ws xs us k.1)

unseen_few : (ws : List ℕ) → unseen [] ws ≤ length ws
unfolding unseen seen_in
unseen_few [] = omega arith
unseen_few (w ∷ ws) = let k = unseen_few ws in omega arith

seen_all : (ws xs : List ℕ) → are_among ws xs ≡ true → list_all (seen_in ws) xs ≡ true
unfolding seen_in
seen_all ws [] e = refl
seen_all ws (x ∷ xs) e = let k = and_parts (has ws x) (are_among ws xs) e in and_from (seen_in ws x) (list_all (seen_in ws) xs) (sym (has_any ws x) ∙ k.0) (seen_all ws xs k.1)

-- variables that are all among these are no more than these
pub firsts_few : (ws xs : List ℕ) → are_among ws xs ≡ true → length (terms.firsts xs) ≤ length ws
firsts_few ws xs e = let h = firsts_below ws xs [] (seen_all ws xs e) in let k = unseen_few ws in omega arith

-- ---- an entry that is whole

module _ (r : Reader) (e : StartedEntry) (target : ℕ) (h : IsStarted r e) (full : length e.args ≡ e.arity) (below : target < length r.initial.states) where
  node_over : shape_is_over r.signature (node_of e) ≡ true
  node_over = over_app r.signature e.sym e.args ∙ and_from (is_symbol r.signature e.sym (length e.args)) (list_all (shape_is_over r.signature) e.args) (ap (is_symbol r.signature e.sym) full ∙ symbol_test role.EntryHead r e.sym e.arity h.arity) h.args.over

  node_below : shape_is_below (length r.initial.states) (node_of e) ≡ true
  node_below = below_app (length r.initial.states) e.sym e.args ∙ h.args.below

  node_among : are_among (r.bound ++ e.own) (shape_occurrences (node_of e)) ≡ true
  node_among = ap (are_among (r.bound ++ e.own)) (occurs_app e.sym e.args) ∙ h.args.among

  wider : Holds r.bound (r.bound ++ e.own)
  wider = record { by = λ v k. has_left r.bound e.own v k }

  few : length (entry_variables (entry_of e target)) ≤ 16
  few =
      let whole = among_more r.bound (r.bound ++ e.own) (shape_occurrences e.form.whole) wider h.form.whole.among in
      let at = among_more r.bound (r.bound ++ e.own) (shape_occurrences e.form.at) wider h.form.at.among in
      let all = among_append (r.bound ++ e.own) (shape_occurrences e.form.whole) (shape_occurrences e.form.at ++ shape_occurrences (node_of e)) whole
      (among_append (r.bound ++ e.own) (shape_occurrences e.form.at) (shape_occurrences (node_of e)) at node_among) in
      let k = firsts_few (r.bound ++ e.own) (shape_occurrences e.form.whole ++ (shape_occurrences e.form.at ++ shape_occurrences (node_of e))) all in
      let count = length-append r.bound e.own in
      let small = h.few in
      omega arith

  pub entry_over : (entries : List Entry) → entries_are_over r.signature entries ≡ true → entries_are_over r.signature (entries ++ entry_of e target ∷ []) ≡ true
  entry_over entries k = all_on _ entries (entry_of e target) k (rw (h.form.whole.over, h.form.at.over, node_over) refl)

  pub entry_below : (entries : List Entry) → entries_are_below (length r.initial.states) entries ≡ true → entries_are_below (length r.initial.states) (entries ++ entry_of e target ∷ []) ≡ true
  entry_below entries k = let small : nat_lt target (length r.initial.states) ≡ true = grind (arith, nat_tests) in all_on _ entries (entry_of e target) k (rw (h.form.whole.below, h.form.at.below, node_below, small) refl)

  pub entry_small : (entries : List Entry) → entries_are_small entries ≡ true → entries_are_small (entries ++ entry_of e target ∷ []) ≡ true
  entry_small entries k = let small : nat_le (length (entry_variables (entry_of e target))) 16 ≡ true = let f = few in grind (arith, nat_tests) in all_on _ entries (entry_of e target) k small

-- what holds of the entries holds with a further one, or where it was not added
pub pushed : {X E : Type 0} (test : List Entry → Bool) (old new : List Entry) (e : Entry) (result : Result X E) → OnOk result (new ≡ old ++ e ∷ []) → OnErr result (new ≡ old) → test old ≡ true → test (old ++ e ∷ []) ≡ true → test new ≡ true
pushed test old new e (Ok x) ok err h k = ap test ok ∙ k
pushed test old new e (Err x) ok err h k = ap test err ∙ h
