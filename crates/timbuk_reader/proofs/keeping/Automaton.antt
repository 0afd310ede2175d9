-- What always holds of an automaton, after a further state, final state or transition.
use Rattle.std.proofs.Common.{◌≡◌, ◌≢◌, ℕ, ◌+◌, ◌-◌, ◌<◌, ◌≤◌, length, length-append, arith, Result, Ok, Err, Bool, true, false, ◌&&◌, ◌==◌, cond, nat_lt, List, [], ◌∷◌, ◌++◌, refl, ap, sym, ◌∙◌, eq-eqb, eqb-true}
use Rattle.std.specs.Prelude.{OnOk, OnErr}
use Rattle.std.specs.declared.alloc.AllocError.{AllocError}
use Rattle.std.specs.List.{list_all}
use Rattle.std.proofs.lemmas.Bool.{and_parts}
use Rattle.std.proofs.lemmas.Bool.Decides.{nat_tests}
use Rattle.std.proofs.lemmas.List.Folds.{list_all-append}
use Rattle.ranked_terms.specs.Names.{Symbol}
use Rattle.ranked_terms.specs.Terms.{is_symbol}
use Rattle.ta_core.specs.SpecRules.{entries_are_below}
use Rattle.ta_core.specs.declared.trans.Trans.{Trans}
use Rattle.trs_rules.specs.declared.entry.Entry.{Entry}
use Rattle.timbuk_reader.specs.declared.state.Reader.{Reader}
use Rattle.timbuk_grammar.specs.declared.terminal.Role.TheVariants as role
use Rattle.timbuk_grammar.specs.declared.terminal.Terminal.TheVariants as terminal
use Rattle.spec_text.specs.Declarations.{Text, Declared, any, adds}
use Rattle.timbuk_reader.specs.Kept.{states_are_below, trans_are_below, eps_are_below, trans_are_over}
use Rattle.timbuk_reader.specs.View.{state_of, started}
use Rattle.timbuk_reader.specs.AutomatonReads.{IsInAutomaton, states_of, with_initial_state}

-- ---- the automaton that is read

not_equal : (n m : ℕ) (b : Bool) → (n == m) ≡ b → n ≢ m → b ≡ false
not_equal n m true e ne = absurd (ne (eqb-true n m e))
not_equal n m false e ne = refl

pub second_is : (n : ℕ) → n ≡ 2 → (n == 2) ≡ true
second_is n e = eq-eqb n 2 e

pub first_is : (n : ℕ) → n ≢ 2 → (n == 2) ≡ false
first_is n ne = not_equal n 2 (n == 2) refl ne

abbrev states_by : Reader → Bool → List Text
states_by r b = (cond b (started r.second) (started r.initial)).states

pub states_of_second : (r : Reader) → r.automata ≡ 2 → states_of r ≡ r.second.states
states_of_second r e = ap (states_by r) (second_is r.automata e)

pub states_of_first : (r : Reader) → r.automata ≢ 2 → states_of r ≡ r.initial.states
states_of_first r ne = ap (states_by r) (first_is r.automata ne)

-- a state of the initial automaton, before there is an approximation
pub own_state : (r : Reader) (state : ℕ) → IsInAutomaton r → r.automata ≢ 2 → state < length (states_of r) → state < length r.initial.states - r.extra
own_state r state inside ne below =
    let none : r.extra ≡ 0 = r.no_extra (inside.early ne) in
    let same = ap length (states_of_first r ne) in
    omega arith

-- ---- further elements

push : {A : Type 0} (p : A → Bool) (xs : List A) (x : A) → list_all p xs ≡ true → p x ≡ true → list_all p (xs ++ x ∷ []) ≡ true
push p xs x h e = list_all-append p xs (x ∷ []) ∙ rw (h, e) refl

less : (q n : ℕ) → q < n → nat_lt q n ≡ true
less q n h = grind (arith, nat_tests)

pub below_push : (n : ℕ) (qs : List ℕ) (q : ℕ) → states_are_below n qs ≡ true → q < n → states_are_below n (qs ++ q ∷ []) ≡ true
below_push n qs q h e = push (λ q. nat_lt q n) qs q h (less q n e)

pub eps_push : (n : ℕ) (es : List (ℕ × ℕ)) (p q : ℕ) → eps_are_below n es ≡ true → p < n → q < n → eps_are_below n (es ++ (p, q) ∷ []) ≡ true
eps_push n es p q h e f = push (λ m. nat_lt m.0 n && nat_lt m.1 n) es (p, q) h (rw (less p n e, less q n f) refl)

pub trans_push : (n : ℕ) (ts : List Trans) (t : Trans) → trans_are_below n ts ≡ true → states_are_below n t.args ≡ true → t.to < n → trans_are_below n (ts ++ t ∷ []) ≡ true
trans_push n ts t h e f = push (λ t. states_are_below n t.args && nat_lt t.to n) ts t h (rw (e, less t.to n f) refl)

pub over_push : (signature : List Symbol) (ts : List Trans) (t : Trans) → trans_are_over signature ts ≡ true → is_symbol signature t.sym (length t.args) ≡ true → trans_are_over signature (ts ++ t ∷ []) ≡ true
over_push signature ts t h e = push (λ t. is_symbol signature t.sym (length t.args)) ts t h e

-- ---- a higher bound

implied : {A : Type 0} (p q : A → Bool) → ((x : A) → p x ≡ true → q x ≡ true) → (xs : List A) → list_all p xs ≡ true → list_all q xs ≡ true
implied p q h [] e = refl
implied p q h (x ∷ xs) e = let parts = and_parts (p x) (list_all p xs) e in rw (h x parts.0, implied p q h xs parts.1) refl

still_less : (q n m : ℕ) → n ≤ m → nat_lt q n ≡ true → nat_lt q m ≡ true
still_less q n m h e = grind (arith, nat_tests)

pub below_grows : (n m : ℕ) (qs : List ℕ) → n ≤ m → states_are_below n qs ≡ true → states_are_below m qs ≡ true
below_grows n m qs h e = implied (λ q. nat_lt q n) (λ q. nat_lt q m) (λ q. still_less q n m h) qs e

pub eps_grow : (n m : ℕ) (es : List (ℕ × ℕ)) → n ≤ m → eps_are_below n es ≡ true → eps_are_below m es ≡ true
eps_grow n m es h e = implied {A = ℕ × ℕ} (λ e. nat_lt e.0 n && nat_lt e.1 n) (λ e. nat_lt e.0 m && nat_lt e.1 m) (λ (p : ℕ × ℕ) k. let parts = and_parts (nat_lt p.0 n) (nat_lt p.1 n) k in rw (still_less p.0 n m h parts.0, still_less p.1 n m h parts.1) refl) es e

pub trans_grow : (n m : ℕ) (ts : List Trans) → n ≤ m → trans_are_below n ts ≡ true → trans_are_below m ts ≡ true
trans_grow n m ts h e =
    implied {A = Trans} (λ t. states_are_below n t.args && nat_lt t.to n) (λ t. states_are_below m t.args && nat_lt t.to m)
    (λ t k. let parts = and_parts (states_are_below n t.args) (nat_lt t.to n) k in rw (below_grows n m t.args h parts.0, still_less t.to n m h parts.1) refl) ts e

-- ---- a further state

-- the table after an attempt to add a name
pub longer : (result : Result (Unit {0}) AllocError) (old new : List Text) (name : Text) → OnOk result (new ≡ old ++ name ∷ []) → OnErr result (new ≡ old) → length old ≤ length new
longer (Ok u) old new name ok err = omega (arith, ap length ok, length-append old (name ∷ []))
longer (Err e) old new name ok err = omega (arith, ap length err)

-- without entries none names a state
pub no_entries_below : (n : ℕ) (entries : List Entry) → entries ≡ [] → entries_are_below n entries ≡ true
no_entries_below n entries e = ap (entries_are_below n) e

-- the initial automaton's part of the table
pub own_longer : (n m extra : ℕ) → n ≤ m → n - extra ≤ m - extra
own_longer n m extra h = omega arith

abbrev added_by : Reader → Text → Bool → Declared
added_by r name b =
    let d = state_of r in
    let a = cond b d.second d.initial in
    let grown = record a { states = a.states ++ name ∷ [] } in
    record (cond b (record d { second = grown }) (record d { initial = grown })) { last = any }

-- a state of the automaton as a token adds it
pub second_added : (r : Reader) (name : Text) → r.automata ≡ 2
    → record (state_of r) { second = record (started r.second) { states = r.second.states ++ name ∷ [] } } ≡ adds (terminal.Named role.State) name (state_of r)
unfolding adds
second_added r name e = ap (added_by r name) (sym (second_is r.automata e))

pub first_added : (r : Reader) (name : Text) → r.automata ≢ 2 → with_initial_state name (state_of r) ≡ adds (terminal.Named role.State) name (state_of r)
unfolding adds
first_added r name ne = ap (added_by r name) (sym (first_is r.automata ne))

-- a state of the approximation leaves the initial automaton's own as they are
module _ (r m : Reader) (name : Text) (e : state_of m ≡ with_initial_state name (state_of r)) where
  one_more : length m.initial.states ≡ length r.initial.states + 1
  one_more = ap (λ (d : Declared). length d.initial.states) e ∙ length-append r.initial.states (name ∷ [])

  same_extra : m.extra ≡ r.extra
  same_extra = ap (λ (d : Declared). d.extra) e

  bound : length m.initial.states - (m.extra + 1) ≡ length r.initial.states - r.extra
  bound = omega (arith, one_more, same_extra, r.own_states)

  pub extra_own : m.extra + 1 ≤ length m.initial.states
  extra_own = omega (arith, one_more, same_extra, r.own_states)

  pub extra_finals : states_are_below (length m.initial.states - (m.extra + 1)) m.initial.finals ≡ true
  extra_finals = (λ i. states_are_below (bound i) ((e i).initial.finals)) ∙ r.initial_finals

  pub extra_trans : trans_are_below (length m.initial.states - (m.extra + 1)) m.initial.trans ≡ true
  extra_trans = (λ i. trans_are_below (bound i) ((e i).initial.trans)) ∙ r.initial_trans

  pub extra_eps : eps_are_below (length m.initial.states - (m.extra + 1)) m.initial.eps ≡ true
  extra_eps = (λ i. eps_are_below (bound i) ((e i).initial.eps)) ∙ r.initial_eps
