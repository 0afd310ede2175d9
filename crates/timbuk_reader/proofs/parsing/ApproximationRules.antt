-- The parts of an approximation rule.
use Rattle.std.proofs.Common.{◌≡◌, ℕ, zero, suc, ◌<◌, ◌≤◌, length, arith, Bool, true, false, cond, List, [], ◌∷◌, ◌++◌, Ok, Err, Result, MatchResult, refl, ap, sym, ◌∙◌}
use Rattle.ranked_terms.specs.declared.term.Shape.{Shape}
use Rattle.ranked_terms.specs.declared.term.Shape.TheVariants as shape
use Rattle.timbuk_grammar.specs.declared.terminal.Role.TheVariants as role
use Rattle.timbuk_grammar.specs.declared.terminal.Terminal.{Terminal}
use Rattle.timbuk_grammar.specs.declared.terminal.Terminal.TheVariants as terminal
use Rattle.timbuk_grammar.specs.Grammar.{Part, one, ◌then◌, many, name, pattern, arguments, entry}
use Rattle.spec_text.specs.declared.fault.SpecKind.TheVariants as kind
use Rattle.timbuk_reader.specs.declared.fault.SpecError.{SpecError}
use Rattle.timbuk_reader.specs.declared.fault.SpecError.TheVariants as error
use Rattle.timbuk_reader.specs.declared.state.Reader.{Reader}
use Rattle.timbuk_reader.specs.declared.approximation.Form.{Form}
use Rattle.timbuk_reader.specs.declared.approximation.StartedEntry.{StartedEntry}
use Rattle.timbuk_reader.specs.declared.approximation.Leaf.{Leaf}
use Rattle.timbuk_reader.specs.declared.approximation.Leaf.TheVariants as leaves
use Rattle.spec_text.specs.Declarations.{Declared, Application, any, constant, function, a_state, has, with_variable, named, placed, placed_in}
use Rattle.spec_text.specs.Reading.{outcome}
use Rattle.timbuk_reader.specs.View.{closed, declared, inside, state_of, end_of, from, as_error, refusal}
use Rattle.spec_text.specs.Reading.{settled, sees}
use Rattle.timbuk_reader.specs.Reads.{Advances, Stops, Reads, IsCalm, Took, Missed}
use Rattle.timbuk_reader.specs.Patterns.{within, application, IsSpot, Builds, Breaks, SameBut, LacksArguments, LacksArgument, too_few, no_comma, LacksEnd, too_many, no_end}
use Rattle.timbuk_reader.specs.AutomatonReads.{IsReady, SameTokens}
use Rattle.timbuk_reader.specs.ApproximationReads.{formed, headed_by, headed, arguing, argued, leaf_meaning, leaf_shape, with_leaf, with_own, entry_of, ReadsName, StopsName, ReadsLeaf, StopsLeaf, OnlyTokens, OnlyEntries, SameHead, AddsArgument, HasArguments}
use Rattle.timbuk_reader.proofs.parsing.Parts.{Head, alike, both_alike, then_head, maybe_skip, many_take, many_skip, then_advances, then_stops, later_stops}
use Rattle.timbuk_reader.proofs.parsing.Tokens.{mark_advances, mark_stops}
use Rattle.spec_text.specs.lemmas.LastToken.{after, constant_whole, read_after}
use Rattle.timbuk_reader.proofs.parsing.Arguments.{calm_ready, took_run, ready_count, more_of, constant_applied, function_bare, arguments_open, argument_next, argument_lacks, argument_exceeds, argument_unmarked, arguments_close}

-- ---- the form in front of the entries

-- the form of a right side, where no variable is bound
module _ (r : Reader) (unbound : r.bound ≡ []) where
  start : (ps : List Part) → from closed ps r ≡ from (within [] []) ps r
  start ps = ap (λ bound. settled (outcome (end_of r) ps (record (declared closed r) { bound = bound }) r.tokens.now)) (sym unbound)

  spot : IsSpot role.EntryWhole 0 [] []
  spot = record { depth_is = refl; room = tt; first = tt }

  pub whole_advances : (u : Reader) (s : Shape) → Builds role.EntryWhole 0 r s u → Advances (pattern role.EntryWhole) closed r (within [] (s ∷ [])) u
  whole_advances u s h = record { by = λ ps. start (pattern role.EntryWhole ∷ ps) ∙ h.by ps [] [] spot }

  pub whole_stops : (e : SpecError) → Breaks role.EntryWhole 0 r e → Stops (pattern role.EntryWhole) closed r e
  whole_stops e h = record { by = λ ne ps. ap as_error (start (pattern role.EntryWhole ∷ ps)) ∙ h.by ne ps [] [] spot }

pub whole_calm : (s : Shape) → IsCalm (within [] (s ∷ []))
whole_calm s = record { applications = refl; last = refl }

at_declared : (whole : Shape) (m u : Reader) (l : Leaf) → state_of u ≡ state_of m → u.bound ≡ with_leaf m.bound l
    → record (named role.EntryAt (leaf_meaning l) (declared (within [] (whole ∷ [])) m)) { last = any } ≡ declared (within [] (whole ∷ leaf_shape l ∷ [])) u
at_declared whole m u (leaves.Variable v) e b = λ i. inside (within [] (whole ∷ leaf_shape (leaves.Variable v) ∷ [])) (sym b i) (sym e i)
at_declared whole m u (leaves.State q) e b = λ i. inside (within [] (whole ∷ leaf_shape (leaves.State q) ∷ [])) (sym b i) (sym e i)

-- the form of a state
pub at_advances : (r m u : Reader) (form : Form) (l : Leaf) → form.at ≡ leaf_shape l → ReadsLeaf role.EntryAt [] r l m → SameBut m u → u.bound ≡ with_leaf m.bound l → u.tokens.now ≡ m.tokens.now
    → Advances (name role.EntryAt) (within [] (form.whole ∷ [])) r (formed form) u
at_advances r m u form l at h same b t = record {
  by = λ ps.
      h.by (within [] (form.whole ∷ [])) (calm_ready (within [] (form.whole ∷ [])) r refl refl) (record { binds = refl; own_is = refl }) ps
      ∙ (λ i. settled (outcome (sym same.end i) ps ((at_declared form.whole m u l same.state b ∙ ap (λ s. declared (within [] (form.whole ∷ s ∷ [])) u) (sym at)) i) (sym t i)));
}

-- ---- one argument

-- the symbol that lacks arguments
abbrev lacking : StartedEntry → Application
lacking e = application role.EntryHead e.sym e.arity e.args

abbrev argument : Part
argument = name role.EntryArgument

-- a `)` in place of an argument
pub argument_closed : (e : StartedEntry) (r : Reader) (x : SpecError) → length e.args < e.arity → sees terminal.CloseParen r.tokens.now ≡ true → x ≡ error.Fault (refusal kind.WrongArity r) → Stops argument (arguing e) r x
argument_closed e r x less seen told = record {
  by = λ ne ps.
      ap (λ z. as_error (settled z)) (argument_lacks argument ps (end_of r) (declared (arguing e) r) (lacking e) [] refl refl (argument ∷ ps) r.tokens.now less seen) ∙ ap Err (sym told);
}

module _ (e : StartedEntry) (r : Reader) (less : length e.args < e.arity) (unclosed : sees terminal.CloseParen r.tokens.now ≡ false) where
  ready : IsReady (arguing e) r
  ready = record { last = refl; count = ready_count (lacking e) [] r.tokens.now less unclosed }

  pub argument_stops : (x : SpecError) → StopsLeaf role.EntryArgument e.own r x → Stops argument (arguing e) r x
  argument_stops x h = h.by (arguing e) ready (record { binds = refl; own_is = refl })

  -- the entry with this argument
  abbrev with_argument : Reader → Leaf → StartedEntry
  with_argument u l = record { form = e.form; sym = e.sym; arity = e.arity; args = e.args ++ leaf_shape l ∷ []; own = with_own u.bound l e.own }

  own_by : (b : Bool) (v : ℕ) (d : Declared) (a : Application) → d.applications ≡ a ∷ []
      → record (placed role.EntryArgument (shape.Var v) (cond b d (record d { own = with_variable d.own v }))) { last = any }
      ≡ record d { applications = record a { args = a.args ++ shape.Var v ∷ [] } ∷ []; own = cond b d.own (with_variable d.own v); last = any }
  own_by true v d a k = ap (λ l. record (placed_in l role.EntryArgument (shape.Var v) d) { last = any }) k
  own_by false v d a k = ap (λ l. record (placed_in l role.EntryArgument (shape.Var v) (record d { own = with_variable d.own v })) { last = any }) k

  argument_declared : (u : Reader) (l : Leaf) → record (named role.EntryArgument (leaf_meaning l) (declared (arguing e) u)) { last = any } ≡ declared (arguing (with_argument u l)) u
  argument_declared u (leaves.Variable v) = own_by (has u.bound v) v (declared (arguing e) u) (lacking e) refl
  argument_declared u (leaves.State q) = refl

  same_entry : (u : Reader) (l : Leaf) (f : StartedEntry) → AddsArgument u.bound l e f → with_argument u l ≡ f
  same_entry u l f h = λ i. record { form = sym h.head.form i; sym = sym h.head.sym i; arity = sym h.head.arity i; args = sym h.args i; own = sym h.own i }

  pub argument_advances : (u : Reader) (l : Leaf) (f : StartedEntry) → ReadsLeaf role.EntryArgument e.own r l u → AddsArgument u.bound l e f → Advances argument (arguing e) r (arguing f) u
  argument_advances u l f h k = record {
    by = λ ps.
        h.by (arguing e) ready (record { binds = refl; own_is = refl }) ps
        ∙ ap (λ d. settled (outcome (end_of u) ps d u.tokens.now)) (argument_declared u l ∙ ap (λ z. declared (arguing z) u) (same_entry u l f k));
  }

-- ---- all arguments

-- an entry of which no argument was read
pub record IsBare (e : StartedEntry) : Type 0 where
  pub args : e.args ≡ []
  pub own : e.own ≡ []

-- these arguments of the entry were read
pub record Argues (r : Reader) (e f : StartedEntry) (m : Reader) : Type 0 where
  pub by : (ps : List Part) → from (headed e) (arguments argument ∷ ps) r ≡ from (arguing f) (more_of argument ∷ ps) m

bare_by : (n : ℕ) (e : StartedEntry) (u : Reader) → e.arity ≡ n → IsBare e → 0 < n
    → ((declared (headed_by n e) u).last ≡ function) × (record (declared (headed_by n e) u) { last = any } ≡ declared (arguing e) u)
bare_by zero e u a b pos = absurd (omega arith)
bare_by (suc n) e u a b pos = (refl, λ i. declared (record (within (application role.EntryHead e.sym (sym a i) (sym b.args i) ∷ []) (e.form.whole ∷ e.form.at ∷ [])) { own = sym b.own i }) u)

none_by : (n : ℕ) (e : StartedEntry) (u : Reader) → IsBare e → n ≡ 0 → ((declared (headed_by n e) u).last ≡ constant) × (record (declared (headed_by n e) u) { last = any } ≡ declared (argued e) u)
none_by zero e u b z = (refl, λ i. declared (record (within [] (e.form.whole ∷ e.form.at ∷ shape.App e.sym (sym b.args i) ∷ [])) { own = sym b.own i }) u)
none_by (suc n) e u b z = cc

module _ (e : StartedEntry) (bare : IsBare e) where
  -- a symbol of arity 0
  module _ (r : Reader) (none : e.arity ≡ 0) where
    pub none_stops : (x : SpecError) → HasArguments r x → Stops (arguments argument) (headed e) r x
    none_stops x h = record {
      by = λ ne ps.
          ap (λ z. as_error (settled z)) (constant_applied (arguments argument ∷ ps) (end_of r) (declared (headed e) r) r.tokens.now (none_by e.arity e r bare none).0 h.seen) ∙ ap Err (sym h.told);
    }

    pub none_advances : sees terminal.OpenParen r.tokens.now ≡ false → Advances (arguments argument) (headed e) r (argued e) r
    none_advances unseen = record {
      by = λ ps.
          let k = none_by e.arity e r bare none in
          let d = declared (headed e) r in
          let after_last : after constant d ≡ d = ap (λ l. record d { last = l }) (sym k.0) in
          ap settled (maybe_skip (one terminal.OpenParen then (argument then more_of argument)) terminal.OpenParen (then_head terminal.OpenParen (argument then more_of argument)) (end_of r) d ps r.tokens.now unseen)
          ∙ sym (ap (λ z. settled (outcome (end_of r) ps z r.tokens.now)) after_last)
          ∙ read_after constant constant_whole (end_of r) ps d r.tokens.now unseen
          ∙ ap (λ z. settled (outcome (end_of r) ps z r.tokens.now)) k.1;
    }

  -- a symbol of another arity
  module _ (r : Reader) (some : 0 < e.arity) where
    pub lacks_first : (x : SpecError) → LacksArguments r x → Stops (arguments argument) (headed e) r x
    lacks_first x h = record {
      by = λ ne ps.
          ap (λ z. as_error (settled z)) (function_bare (arguments argument ∷ ps) (end_of r) (declared (headed e) r) r.tokens.now (bare_by e.arity e r refl bare some).0 h.unseen) ∙ ap Err (sym h.told);
    }

    opened : (m : Reader) (ps : List Part) → Took terminal.OpenParen r m → from (headed e) (arguments argument ∷ ps) r ≡ from (arguing e) (argument ∷ more_of argument ∷ ps) m
    opened m ps k =
        let b = bare_by e.arity e m refl bare some in
        ap settled (took_run terminal.OpenParen r m (headed e) (arguments argument ∷ ps) k
        ∙ arguments_open argument ps (end_of m) (declared (headed e) m) k.token m.tokens.now b.0 k.matched
        ∙ ap (λ z. outcome (end_of m) (argument ∷ more_of argument ∷ ps) z m.tokens.now) b.1)

    pub first_stops : (m : Reader) (x : SpecError) → Took terminal.OpenParen r m → Stops argument (arguing e) m x → Stops (arguments argument) (headed e) r x
    first_stops m x k h = record { by = λ ne ps. ap as_error (opened m ps k) ∙ h.by ne (more_of argument ∷ ps) }

    pub first_argues : (m u : Reader) (f : StartedEntry) → Took terminal.OpenParen r m → Advances argument (arguing e) m (arguing f) u → Argues r e f u
    first_argues m u f k h = record { by = λ ps. opened m ps k ∙ h.by (more_of argument ∷ ps) }

-- further arguments
module _ (r m : Reader) (e f : StartedEntry) (h : Argues r e f m) where
  module _ (less : length f.args < f.arity) where
    pub lacks_next : (x : SpecError) → LacksArgument m x → Stops (arguments argument) (headed e) r x
    lacks_next x (too_few seen told) = record {
      by = λ ne ps.
          ap as_error (h.by ps) ∙ ap (λ z. as_error (settled z)) (argument_lacks argument ps (end_of m) (declared (arguing f) m) (lacking f) [] refl refl (more_of argument ∷ ps) m.tokens.now less seen) ∙ ap Err (sym told);
    }
    lacks_next x (no_comma unseen k) = record {
      by = λ ne ps.
          ap as_error (h.by ps) ∙ ap (λ z. as_error (settled z)) (argument_unmarked argument ps (end_of m) (declared (arguing f) m) (lacking f) [] refl refl m.tokens.now unseen k.unseen) ∙ ap Err (sym k.told);
    }

    between : (v : Reader) (ps : List Part) → Took terminal.Comma m v → from (headed e) (arguments argument ∷ ps) r ≡ from (arguing f) (argument ∷ many (one terminal.Comma then argument) ∷ one terminal.CloseParen ∷ ps) v
    between v ps k =
        h.by ps ∙ ap settled (took_run terminal.Comma m v (arguing f) (more_of argument ∷ ps) k
        ∙ argument_next argument ps (end_of v) (declared (arguing f) v) (lacking f) [] refl refl k.token v.tokens.now less k.matched)

    pub next_stops : (v : Reader) (x : SpecError) → Took terminal.Comma m v → Stops argument (arguing f) v x → Stops (arguments argument) (headed e) r x
    next_stops v x k s = record { by = λ ne ps. ap as_error (between v ps k) ∙ s.by ne (many (one terminal.Comma then argument) ∷ one terminal.CloseParen ∷ ps) }

    pub next_argues : (v u : Reader) (g : StartedEntry) → Took terminal.Comma m v → Advances argument (arguing f) v (arguing g) u → Argues r e g u
    next_argues v u g k l = record {
      by = λ ps.
          let qs = many (one terminal.Comma then argument) ∷ one terminal.CloseParen ∷ ps in
          between v ps k ∙ l.by qs
          ∙ sym (ap settled (alike (more_of argument ∷ ps) qs (end_of u) (declared (arguing g) u) u.tokens.now (both_alike (many (one terminal.Comma then argument)) (one terminal.CloseParen) ps)));
    }

  module _ (full : length f.args ≡ f.arity) where
    all : f.arity ≤ length f.args
    all = omega arith

    pub lacks_last : (x : SpecError) → LacksEnd m x → Stops (arguments argument) (headed e) r x
    lacks_last x (too_many seen told) = record {
      by = λ ne ps.
          ap as_error (h.by ps) ∙ ap (λ z. as_error (settled z)) (argument_exceeds argument ps (end_of m) (declared (arguing f) m) (lacking f) [] refl refl (more_of argument ∷ ps) m.tokens.now all seen) ∙ ap Err (sym told);
    }
    lacks_last x (no_end unseen k) = record {
      by = λ ne ps.
          ap as_error (h.by ps) ∙ ap (λ z. as_error (settled z)) (argument_unmarked argument ps (end_of m) (declared (arguing f) m) (lacking f) [] refl refl m.tokens.now k.unseen unseen) ∙ ap Err (sym k.told);
    }

    pub all_advances : (u : Reader) → Took terminal.CloseParen m u → Advances (arguments argument) (headed e) r (argued f) u
    all_advances u k = record {
      by = λ ps.
          h.by ps ∙ ap settled (took_run terminal.CloseParen m u (arguing f) (more_of argument ∷ ps) k
          ∙ arguments_close argument ps (end_of u) (declared (arguing f) u) (lacking f) [] refl refl k.token u.tokens.now all k.matched);
    }

-- ---- their results, as they are handed on

pub none_reads : {X : Type 0} (e : StartedEntry) → IsBare e → (r : Reader) → e.arity ≡ 0 → (result : Result X SpecError) → MatchResult result (λ _. sees terminal.OpenParen r.tokens.now ≡ false) (HasArguments r)
    → Reads (arguments argument) (headed e) r result (argued e) r
none_reads e bare r none (Ok x) h = none_advances e bare r none h
none_reads e bare r none (Err x) h = none_stops e bare r none x h

pub last_reads : {X : Type 0} (r m u : Reader) (e f : StartedEntry) → Argues r e f m → length f.args ≡ f.arity → (result : Result X SpecError) → MatchResult result (λ _. Took terminal.CloseParen m u) (LacksEnd m)
    → Reads (arguments argument) (headed e) r result (argued f) u
last_reads r m u e f h full (Ok x) k = all_advances r m e f h full u k
last_reads r m u e f h full (Err x) k = lacks_last r m e f h full x k

-- ---- what stays

pub took_same : (t : Terminal) (r m : Reader) → Took t r m → OnlyTokens r m
took_same t r m k = record { state = k.state; bound = k.bound }

pub took_shorter : (t : Terminal) (r m : Reader) → Took t r m → length m.tokens.now < length r.tokens.now
took_shorter t r m k = omega (arith, ap length k.tokens)

pub only_then : (r m u : Reader) → OnlyTokens r m → OnlyTokens m u → OnlyTokens r u
only_then r m u h k = record { state = k.state ∙ h.state; bound = k.bound ∙ h.bound }

pub head_then : (e f g : StartedEntry) → SameHead e f → SameHead f g → SameHead e g
head_then e f g h k = record { form = k.form ∙ h.form; sym = k.sym ∙ h.sym; arity = k.arity ∙ h.arity }

-- ---- an entry

pub argued_calm : (e : StartedEntry) → IsCalm (argued e)
argued_calm e = record { applications = refl; last = refl }

target_declared : (e : StartedEntry) (q : ℕ) (u v : Reader) → v.entries ≡ u.entries ++ entry_of e q ∷ [] → OnlyEntries u v
    → record (named role.EntryTarget (a_state q) (declared (argued e) u)) { last = any } ≡ declared (formed e.form) v
target_declared e q u v added only =
    ap (λ es. record (declared (formed e.form) u) { entries = es }) (sym added)
    ∙ sym (λ i. inside (formed e.form) (only.bound i) (only.state i))

-- the target of an entry, which was added
pub target_advances : (e : StartedEntry) (form : Form) (q : ℕ) (r u v : Reader) → e.form ≡ form → ReadsName role.EntryTarget r (a_state q) u → v.entries ≡ u.entries ++ entry_of e q ∷ [] → OnlyEntries u v → SameTokens u v
    → Advances (name role.EntryTarget) (argued e) r (formed form) v
target_advances e form q r u v same h added only tokens = record {
  by = λ ps.
      h.by (argued e) (calm_ready (argued e) r refl refl) ps
      ∙ (λ i. settled (outcome (sym tokens.end i) ps ((target_declared e q u v added only ∙ ap (λ f. declared (formed f) v) same) i) (sym tokens.tokens i)));
}

pub target_fails : (e : StartedEntry) (r : Reader) (x : SpecError) → StopsName role.EntryTarget r x → Stops (name role.EntryTarget) (argued e) r x
target_fails e r x h = h.by (argued e) (calm_ready (argued e) r refl refl)

abbrev behind_arguments : Part
behind_arguments = one terminal.Arrow then name role.EntryTarget

abbrev behind_head : Part
behind_head = arguments argument then behind_arguments

-- an entry by its parts
module _ (form : Form) (r m : Reader) (e : StartedEntry) (head : Advances (name role.EntryHead) (formed form) r (headed e) m) where
  pub entry_stops_in_arguments : (x : SpecError) → Stops (arguments argument) (headed e) m x → Stops entry (formed form) r x
  entry_stops_in_arguments x h = later_stops (name role.EntryHead) behind_head (formed form) (headed e) r m x head (then_stops (arguments argument) behind_arguments (headed e) m x h)

  module _ (u : Reader) (f : StartedEntry) (args : Advances (arguments argument) (headed e) m (argued f) u) where
    pub entry_stops_at_arrow : (x : SpecError) → Missed terminal.Arrow u x → Stops entry (formed form) r x
    entry_stops_at_arrow x h =
        later_stops (name role.EntryHead) behind_head (formed form) (headed e) r m x head
        (later_stops (arguments argument) behind_arguments (headed e) (argued f) m u x args
        (then_stops (one terminal.Arrow) (name role.EntryTarget) (argued f) u x (mark_stops terminal.Arrow (argued f) u x (argued_calm f) h)))

    module _ (v : Reader) (arrow : Took terminal.Arrow u v) where
      pub entry_stops_at_target : (x : SpecError) → StopsName role.EntryTarget v x → Stops entry (formed form) r x
      entry_stops_at_target x h =
          later_stops (name role.EntryHead) behind_head (formed form) (headed e) r m x head
          (later_stops (arguments argument) behind_arguments (headed e) (argued f) m u x args
          (later_stops (one terminal.Arrow) (name role.EntryTarget) (argued f) (argued f) u v x (mark_advances terminal.Arrow (argued f) u v tt (argued_calm f) arrow) (target_fails f v x h)))

      pub entry_advances : (w : Reader) → Advances (name role.EntryTarget) (argued f) v (formed form) w → Advances entry (formed form) r (formed form) w
      entry_advances w h =
          then_advances (name role.EntryHead) behind_head (formed form) (headed e) (formed form) r m w head
          (then_advances (arguments argument) behind_arguments (headed e) (argued f) (formed form) m u w args
          (then_advances (one terminal.Arrow) (name role.EntryTarget) (argued f) (argued f) (formed form) u v w (mark_advances terminal.Arrow (argued f) u v tt (argued_calm f) arrow) h))

pub entry_stops_at_head : (form : Form) (r : Reader) (x : SpecError) → Stops (name role.EntryHead) (formed form) r x → Stops entry (formed form) r x
entry_stops_at_head form r x h = then_stops (name role.EntryHead) behind_head (formed form) r x h

-- ---- all entries

abbrev some_entries : Part
some_entries = entry then many entry

entry_begins : Head entry (terminal.Named role.EntryHead)
entry_begins = then_head (terminal.Named role.EntryHead) behind_head

-- these entries were read
pub record Enters (form : Form) (r m : Reader) : Type 0 where
  pub by : (ps : List Part) → from (formed form) (some_entries ∷ ps) r ≡ from (formed form) (many entry ∷ ps) m

pub enters_first : (form : Form) (r m : Reader) → Advances entry (formed form) r (formed form) m → Enters form r m
enters_first form r m h = record {
  by = λ ps.
      ap settled (alike (some_entries ∷ ps) (entry ∷ many entry ∷ ps) (end_of r) (declared (formed form) r) r.tokens.now (both_alike entry (many entry) ps)) ∙ h.by (many entry ∷ ps);
}

module _ (form : Form) (r m : Reader) (h : Enters form r m) where
  module _ (seen : sees (terminal.Named role.EntryHead) m.tokens.now ≡ true) where
    further : (ps : List Part) → from (formed form) (some_entries ∷ ps) r ≡ from (formed form) (entry ∷ many entry ∷ ps) m
    further ps = h.by ps ∙ ap settled (many_take entry (terminal.Named role.EntryHead) entry_begins (end_of m) (declared (formed form) m) ps m.tokens.now seen)

    pub enters_next : (u : Reader) → Advances entry (formed form) m (formed form) u → Enters form r u
    enters_next u l = record { by = λ ps. further ps ∙ l.by (many entry ∷ ps) }

    pub next_entry_stops : (x : SpecError) → Stops entry (formed form) m x → Stops some_entries (formed form) r x
    next_entry_stops x s = record { by = λ ne ps. ap as_error (further ps) ∙ s.by ne (many entry ∷ ps) }

  pub entries_advances : sees (terminal.Named role.EntryHead) m.tokens.now ≡ false → Advances some_entries (formed form) r (formed form) m
  entries_advances unseen = record { by = λ ps. h.by ps ∙ ap settled (many_skip entry (terminal.Named role.EntryHead) entry_begins (end_of m) (declared (formed form) m) ps m.tokens.now unseen) }

pub only_entries_then : (r m u : Reader) → OnlyEntries r m → OnlyEntries m u → OnlyEntries r u
only_entries_then r m u h k = record { state = k.state ∙ (λ i. record (h.state i) { entries = u.entries }); bound = k.bound ∙ h.bound }
