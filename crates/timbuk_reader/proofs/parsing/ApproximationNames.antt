-- The names in an approximation rule.
use Rattle.std.proofs.Common.{◌≡◌, ℕ, zero, suc, ◌+◌, ◌<◌, ◌≤◌, length, arith, Bool, true, false, not, ◌&&◌, ◌||◌, List, [], ◌∷◌, Option, Some, None, Err, refl, ap, sym, ◌∙◌, subst}
use Rattle.std.specs.Prelude.{option_map, nat_lt, nat_le, position, unwrap_or}
use Rattle.std.specs.Str.{bytes_eq}
use Rattle.std.proofs.lemmas.Bool.Decides.{nat_tests}
use Rattle.std.proofs.lemmas.List.Quantifiers.{position-Some}
use Rattle.ranked_terms.specs.Names.{number_of, arity_of}
use Rattle.ranked_terms.specs.declared.term.Shape.TheVariants as shape
use Rattle.timbuk_lex.specs.declared.lexeme.Lexeme.{Lexeme}
use Rattle.timbuk_grammar.specs.declared.terminal.Role.{Role}
use Rattle.timbuk_grammar.specs.declared.terminal.Role.TheVariants as role
use Rattle.timbuk_grammar.specs.declared.terminal.Terminal.TheVariants as terminal
use Rattle.timbuk_grammar.specs.Grammar.{Part, name}
use Rattle.spec_text.specs.declared.fault.SpecKind.{SpecKind}
use Rattle.spec_text.specs.declared.fault.SpecKind.TheVariants as kind
use Rattle.spec_text.specs.declared.fault.LimitName.TheVariants as limit
use Rattle.timbuk_reader.specs.declared.fault.SpecError.{SpecError}
use Rattle.timbuk_reader.specs.declared.fault.SpecError.TheVariants as error
use Rattle.timbuk_reader.specs.declared.state.Reader.{Reader}
use Rattle.spec_text.specs.Declarations.{Text, Declared, any, leaf, Meaning, unknown, a_variable, a_state, a_symbol, or_else, as_variable, as_state, meaning, has, named, placed, binds, uses, adds}
use Rattle.spec_text.specs.Rows.{or, when, passed, misnamed, too_deep, one_too_many, is_unknown}
use Rattle.spec_text.specs.Reading.{End, outcome}
use Rattle.timbuk_reader.specs.View.{Open, bound_in, declared, state_of, end_of, as_error, refusal_at, refusal}
use Rattle.spec_text.specs.Reading.{settled, sees}
use Rattle.timbuk_reader.specs.Reads.{Stops, IsCalm, Stands}
use Rattle.timbuk_reader.specs.declared.meaning.Meaning.{Meaning as Told}
use Rattle.timbuk_reader.specs.declared.meaning.Meaning.TheVariants as told
use Rattle.timbuk_reader.specs.Meanings.{meant_by}
use Rattle.timbuk_reader.specs.Patterns.{Advanced, AdvancesToParen}
use Rattle.timbuk_reader.specs.ApproximationReads.{IsBinding, IsLeafRole, IsLeaf, HasLeaf, leaf_meaning, has_room, formed, headed_by, headed, ReadsName, StopsName, ReadsLeaf, StopsLeaf}
use Rattle.timbuk_reader.specs.declared.approximation.Form.{Form}
use Rattle.timbuk_reader.specs.declared.approximation.StartedEntry.{StartedEntry}
use Rattle.timbuk_reader.specs.declared.approximation.Leaf.{Leaf}
use Rattle.timbuk_reader.specs.declared.approximation.Leaf.TheVariants as leaves
use Rattle.timbuk_reader.proofs.parsing.Parts.{one_front}
use Rattle.timbuk_reader.proofs.parsing.Tokens.{use_row, row_other, step_on, step_fault, declared_same}
use Rattle.spec_text.specs.lemmas.LastToken.{leaf_whole, read_after}
use Rattle.timbuk_reader.proofs.parsing.PatternNames.{name_quiet}
use Rattle.timbuk_reader.proofs.keeping.Meanings.{symbol_arity}
use Rattle.timbuk_reader.proofs.parsing.Arguments.{leaf_applied}

-- the places of an approximation rule in which no symbol stands
abbrev pub IsLeafOrTarget : Role → Type 0
IsLeafOrTarget role.EntryAt = Unit {0}
IsLeafOrTarget role.EntryArgument = Unit {0}
IsLeafOrTarget role.EntryTarget = Unit {0}
IsLeafOrTarget _ = ⊥

-- what is open makes no difference to what a name means
pub same_meaning : (p : Role) (text : Text) (o : Open) (r : Reader) → IsLeafOrTarget p → meaning (declared o r) p text ≡ meaning (state_of r) p text
unfolding meaning
same_meaning role.EntryAt text o r h = refl
same_meaning role.EntryArgument text o r h = refl
same_meaning role.EntryTarget text o r h = refl
same_meaning _ text o r h = absurd h

-- ---- rows

-- the rows of a name by what it means, where these variables are bound and these are the entry's own
abbrev rows_by : Meaning → Declared → Option SpecKind
rows_by m d = or (option_map kind.Limit (or (too_deep m d) (or (one_too_many m d) None))) (or (when (is_unknown m) kind.UnknownName) None)

rows_are : (p : Role) (text : Text) (d : Declared) → IsLeafOrTarget p → nat_lt 255 (length text) ≡ false → use_row (terminal.Named p) text d ≡ rows_by (meaning d p text) d
unfolding passed misnamed
rows_are role.EntryAt text d h e = rw e refl
rows_are role.EntryArgument text d h e = rw e refl
rows_are role.EntryTarget text d h e = rw e refl
rows_are _ text d h e = absurd h

short_rows : (p : Role) (text : Text) (m : Meaning) (o : Open) (r : Reader) → IsLeafOrTarget p → length text ≤ 255 → meaning (state_of r) p text ≡ m → use_row (terminal.Named p) text (declared o r) ≡ rows_by m (declared o r)
short_rows p text m o r h short is =
    let few : nat_lt 255 (length text) ≡ false = grind (arith, nat_tests) in
    rows_are p text (declared o r) h few ∙ ap (λ n. rows_by n (declared o r)) (same_meaning p text o r h ∙ is)

crowded : (a b : Bool) (n : ℕ) → (a || (b || nat_lt n 16)) ≡ false → (not (a || b) && nat_le 16 n) ≡ true
crowded true b n e = cc
crowded false true n e = cc
crowded false false n e = grind (arith, nat_tests)

roomy : (a b : Bool) (n : ℕ) → (a || (b || nat_lt n 16)) ≡ true → (not (a || b) && nat_le 16 n) ≡ false
roomy true b n e = refl
roomy false true n e = refl
roomy false false n e = grind (arith, nat_tests)

-- a variable for which there is room
pub variable_row : (v : ℕ) (d : Declared) → has_room d.bound d.own v ≡ true → rows_by (a_variable v) d ≡ None
variable_row v d e = rw (roomy (has d.bound v) (has d.own v) (length d.bound + length d.own) e) refl

-- a 17th variable
pub crowded_row : (v : ℕ) (d : Declared) → has_room d.bound d.own v ≡ false → rows_by (a_variable v) d ≡ Some (kind.Limit limit.Variables)
crowded_row v d e = rw (crowded (has d.bound v) (has d.own v) (length d.bound + length d.own) e) refl

-- ---- a name that is read

adds_used : (p : Role) (text : Text) (d : Declared) → IsLeafOrTarget p → adds (terminal.Named p) text d ≡ named p (meaning d p text) d
unfolding adds
adds_used role.EntryAt text d h = refl
adds_used role.EntryArgument text d h = refl
adds_used role.EntryTarget text d h = refl
adds_used _ text d h = absurd h

module _ (p : Role) (place_is : IsLeafOrTarget p) (text : Text) (r : Reader) (stands : Stands (terminal.Named p) r text) where
  -- a name that a row fits
  pub name_fails : (m : Meaning) (k : SpecKind) (e : SpecError) (o : Open) → o.last ≡ any → meaning (state_of r) p text ≡ m → rows_by m (declared o r) ≡ Some k → e ≡ error.Fault (refusal k r) → Stops (name p) o r e
  name_fails m k e o l is some told = record {
    by = λ ne ps.
        let d = declared o r in
        let fits = row_other (terminal.Named p) d stands.token tt stands.matched (name_quiet p stands.token stands.matched d l)
        ∙ ap (λ z. use_row (terminal.Named p) z d) stands.text_is ∙ short_rows p text m o r place_is stands.short is ∙ some in
        ap (λ z. as_error (settled z)) (ap (outcome (end_of r) (name p ∷ ps) d) stands.tokens
        ∙ step_fault (name p ∷ ps) (terminal.Named p) ps (end_of r) d stands.token stands.rest k (one_front (terminal.Named p) ps) stands.matched fits
        ∙ ap (λ xs. Err (refusal_at k (end_of r) xs)) (sym stands.tokens)) ∙ ap Err (sym told);
  }

  -- a name that no row fits
  pub name_passes : (u : Reader) (m : Meaning) (o : Open) (ps : List Part) → o.last ≡ any → meaning (state_of r) p text ≡ m → rows_by m (declared o r) ≡ None → Advanced r u
      → outcome (end_of r) (name p ∷ ps) (declared o r) r.tokens.now ≡ outcome (end_of u) ps (named p m (declared o u)) u.tokens.now
  name_passes u m o ps l is none k =
      let d = declared o r in
      let rest : stands.rest ≡ u.tokens.now = let e = sym stands.tokens ∙ k.tokens in cc in
      let fits = row_other (terminal.Named p) d stands.token tt stands.matched (name_quiet p stands.token stands.matched d l)
      ∙ ap (λ z. use_row (terminal.Named p) z d) stands.text_is ∙ short_rows p text m o r place_is stands.short is ∙ none in
      ap (outcome (end_of r) (name p ∷ ps) d) stands.tokens
      ∙ step_on (name p ∷ ps) (terminal.Named p) ps (end_of r) d stands.token stands.rest (one_front (terminal.Named p) ps) stands.matched fits
      ∙ ap (λ z. outcome (end_of r) ps (adds (terminal.Named p) z d) stands.rest) stands.text_is
      ∙ ap (λ z. outcome (end_of r) ps z stands.rest) (adds_used p text d place_is ∙ ap (λ n. named p n d) (same_meaning p text o r place_is ∙ is))
      ∙ (λ i. outcome (sym k.end i) ps (named p m (sym (declared_same o r u k.state k.bound) i)) (rest i))

-- ---- variables and states

leaf_place : (p : Role) → IsLeafRole p → IsLeafOrTarget p
leaf_place role.EntryAt h = tt
leaf_place role.EntryArgument h = tt
leaf_place _ h = absurd h

no_symbol_by : (a b : Option ℕ) (f n : ℕ) → or_else (as_variable a) (as_state b) ≡ a_symbol f n → ⊥
no_symbol_by (Some v) b f n e = cc
no_symbol_by None (Some q) f n e = cc
no_symbol_by None None f n e = cc

state_by : (a b : Option ℕ) (q : ℕ) → or_else (as_variable a) (as_state b) ≡ a_state q → b ≡ Some q
state_by (Some v) b q e = cc
state_by None (Some x) q e = cc
state_by None None q e = cc

state_there : (p : Role) (text : Text) (d : Declared) (q : ℕ) → IsLeafRole p → meaning d p text ≡ a_state q → q < length d.initial.states
unfolding meaning
state_there role.EntryAt text d q h e = (position-Some (bytes_eq text) d.initial.states q [] (state_by (position (bytes_eq text) d.variables) (position (bytes_eq text) d.initial.states) q e)).0
state_there role.EntryArgument text d q h e = (position-Some (bytes_eq text) d.initial.states q [] (state_by (position (bytes_eq text) d.variables) (position (bytes_eq text) d.initial.states) q e)).0
state_there _ text d q h e = absurd h

-- no symbol stands there
pub no_symbol_there : (p : Role) (text : Text) (d : Declared) (f n : ℕ) → IsLeafRole p → meaning d p text ≡ a_symbol f n → ⊥
unfolding meaning
no_symbol_there role.EntryAt text d f n h e = no_symbol_by (position (bytes_eq text) d.variables) (position (bytes_eq text) d.initial.states) f n e
no_symbol_there role.EntryArgument text d f n h e = no_symbol_by (position (bytes_eq text) d.variables) (position (bytes_eq text) d.initial.states) f n e
no_symbol_there _ text d f n h e = absurd h

-- nothing that the reader has for such a name
pub no_leaf : (p : Role) (text : Text) (d : Declared) (m : Told) → IsLeafRole p → ((x : ℕ) → m ≡ told.Variable x → ⊥) → ((x : ℕ) → m ≡ told.State x → ⊥) → meant_by m ≡ meaning d p text → meaning d p text ≡ unknown
no_leaf p text d told.Unknown h n k e = sym e
no_leaf p text d (told.Variable x) h n k e = absurd (n x refl)
no_leaf p text d (told.State x) h n k e = absurd (k x refl)
no_leaf p text d (told.Symbol f a) h n k e = absurd (no_symbol_there p text d f a h (sym e))

-- the room in a declaration that is open
room_in : (own : List ℕ) (r : Reader) (o : Open) (v : ℕ) → IsBinding own o → has_room (declared o r).bound o.own v ≡ has_room r.bound own v
room_in own r o v there = λ i. has_room (bound_in (there.binds i) r.bound) (there.own_is i) v

module _ (p : Role) (place_is : IsLeafRole p) (own : List ℕ) (text : Text) (r : Reader) (stands : Stands (terminal.Named p) r text) where
  -- an unknown name
  pub unknown_leaf : (e : SpecError) → meaning (state_of r) p text ≡ unknown → e ≡ error.Fault (refusal kind.UnknownName r) → StopsLeaf p own r e
  unknown_leaf e is told = record { by = λ o ready there. name_fails p (leaf_place p place_is) text r stands unknown kind.UnknownName e o ready.last is refl told }

  -- a 17th variable
  pub crowded_leaf : (v : ℕ) (e : SpecError) → meaning (state_of r) p text ≡ a_variable v → has_room r.bound own v ≡ false → e ≡ error.Fault (refusal (kind.Limit limit.Variables) r) → StopsLeaf p own r e
  crowded_leaf v e is full told = record {
    by = λ o ready there.
        name_fails p (leaf_place p place_is) text r stands (a_variable v) (kind.Limit limit.Variables) e o ready.last is (crowded_row v (declared o r) (room_in own r o v there ∙ full)) told;
  }

  -- a variable that may stand there
  pub variable_leaf : (v : ℕ) → meaning (state_of r) p text ≡ a_variable v → has_room r.bound own v ≡ true → HasLeaf p own r (leaves.Variable v)
  variable_leaf v is room = record { text = text; stands = stands; means = is; fits = room }

  -- a state
  pub state_leaf : (q : ℕ) → meaning (state_of r) p text ≡ a_state q → HasLeaf p own r (leaves.State q)
  state_leaf q is = record { text = text; stands = stands; means = is; fits = state_there p text (state_of r) q place_is is }

leaf_row : (l : Leaf) (own : List ℕ) (r : Reader) (o : Open) → IsLeaf own r l → IsBinding own o → rows_by (leaf_meaning l) (declared o r) ≡ None
leaf_row (leaves.Variable v) own r o fits there = variable_row v (declared o r) (room_in own r o v there ∙ fits)
leaf_row (leaves.State q) own r o fits there = refl

alone_by : (p : Role) (l : Leaf) (ps : List Part) (end : End) (d : Declared) (xs : List Lexeme) → sees terminal.OpenParen xs ≡ false
    → settled (outcome end ps (named p (leaf_meaning l) d) xs) ≡ settled (outcome end ps (record (named p (leaf_meaning l) d) { last = any }) xs)
alone_by p (leaves.Variable v) ps end d xs e = read_after leaf leaf_whole end ps (placed p (shape.Var v) (binds p v d)) xs e
alone_by p (leaves.State q) ps end d xs e = read_after leaf leaf_whole end ps (uses p q (placed p (shape.State q) d)) xs e

applied_by : (p : Role) (l : Leaf) (ps : List Part) (end : End) (d : Declared) (xs : List Lexeme) → sees terminal.OpenParen xs ≡ true → outcome end ps (named p (leaf_meaning l) d) xs ≡ Err (refusal_at kind.Expected end xs)
applied_by p (leaves.Variable v) ps end d xs e = leaf_applied ps end (named p (a_variable v) d) xs refl e
applied_by p (leaves.State q) ps end d xs e = leaf_applied ps end (named p (a_state q) d) xs refl e

module _ (p : Role) (place_is : IsLeafRole p) (own : List ℕ) (r u : Reader) (l : Leaf) (h : HasLeaf p own r l) where
  passes : (o : Open) (ps : List Part) → o.last ≡ any → IsBinding own o → Advanced r u → outcome (end_of r) (name p ∷ ps) (declared o r) r.tokens.now ≡ outcome (end_of u) ps (named p (leaf_meaning l) (declared o u)) u.tokens.now
  passes o ps last there k = name_passes p (leaf_place p place_is) h.text r h.stands u (leaf_meaning l) o ps last h.means (leaf_row l own r o h.fits there) k

  -- it was read
  pub leaf_reads : Advanced r u → sees terminal.OpenParen u.tokens.now ≡ false → ReadsLeaf p own r l u
  leaf_reads k alone = record { by = λ o ready there ps. ap settled (passes o ps ready.last there k) ∙ alone_by p l ps (end_of u) (declared o u) u.tokens.now alone }

  -- a `(` stands behind it
  pub leaf_stops : (e : SpecError) → AdvancesToParen kind.Expected r e u → StopsLeaf p own r e
  leaf_stops e k = record {
    by = λ o ready there. record {
      by = λ ne ps.
          ap (λ z. as_error (settled z)) (passes o ps ready.last there k.advanced ∙ applied_by p l ps (end_of u) (declared o u) u.tokens.now k.seen) ∙ ap Err (sym k.told);
    };
  }

-- it may stand there still
pub leaf_kept : (own : List ℕ) (r u : Reader) (l : Leaf) → state_of u ≡ state_of r → u.bound ≡ r.bound → IsLeaf own r l → IsLeaf own u l
leaf_kept own r u (leaves.Variable v) e b fits = subst (λ z. has_room z own v ≡ true) (sym b) fits
leaf_kept own r u (leaves.State q) e b fits = subst (λ (d : Declared). q < length d.initial.states) (sym e) fits

-- ---- targets

target_means : (d : Declared) (text : Text) (o : Option ℕ) → position (bytes_eq text) d.initial.states ≡ o → meaning d role.EntryTarget text ≡ as_state o
unfolding meaning
target_means d text o e = ap as_state e

module _ (text : Text) (r : Reader) (stands : Stands (terminal.Named role.EntryTarget) r text) where
  -- no state
  pub target_unknown : (e : SpecError) → position (bytes_eq text) r.initial.states ≡ None → e ≡ error.Fault (refusal kind.UnknownName r) → StopsName role.EntryTarget r e
  target_unknown e n told = record { by = λ o ready. name_fails role.EntryTarget tt text r stands unknown kind.UnknownName e o ready.last (target_means (state_of r) text None n) refl told }

  module _ (q : ℕ) (is : position (bytes_eq text) r.initial.states ≡ Some q) (u : Reader) where
    target_passes : (o : Open) (ps : List Part) → o.last ≡ any → Advanced r u → outcome (end_of r) (name role.EntryTarget ∷ ps) (declared o r) r.tokens.now ≡ outcome (end_of u) ps (named role.EntryTarget (a_state q) (declared o u)) u.tokens.now
    target_passes o ps last k = name_passes role.EntryTarget tt text r stands u (a_state q) o ps last (target_means (state_of r) text (Some q) is) refl k

    -- a state was read
    pub target_reads : Advanced r u → sees terminal.OpenParen u.tokens.now ≡ false → ReadsName role.EntryTarget r (a_state q) u
    target_reads k alone = record { by = λ o ready ps. ap settled (target_passes o ps ready.last k) ∙ alone_by role.EntryTarget (leaves.State q) ps (end_of u) (declared o u) u.tokens.now alone }

    -- a `(` stands behind it
    pub target_stops : (e : SpecError) → AdvancesToParen kind.Expected r e u → StopsName role.EntryTarget r e
    target_stops e k = record {
      by = λ o ready. record {
        by = λ ne ps.
            ap (λ z. as_error (settled z)) (target_passes o ps ready.last k.advanced ∙ applied_by role.EntryTarget (leaves.State q) ps (end_of u) (declared o u) u.tokens.now k.seen) ∙ ap Err (sym k.told);
      };
    }

    pub target_below : state_of u ≡ state_of r → q < length u.initial.states
    target_below e = subst (λ (d : Declared). q < length d.initial.states) (sym e) (position-Some (bytes_eq text) r.initial.states q [] is).0

-- ---- heads

-- the rows of a name at the head of an entry, by what it means
abbrev heads_by : Meaning → Declared → Option SpecKind
heads_by m d = or (option_map kind.Limit (or (too_deep m d) (or (one_too_many m d) (when (nat_le 1024 (length d.entries)) limit.Entries)))) (or (when (is_unknown m) kind.UnknownName) None)

heads_are : (text : Text) (d : Declared) → nat_lt 255 (length text) ≡ false → use_row (terminal.Named role.EntryHead) text d ≡ heads_by (meaning d role.EntryHead text) d
unfolding passed misnamed
heads_are text d e = rw e refl

means_none : (d : Declared) (text : Text) → number_of d.symbols text ≡ None → meaning d role.EntryHead text ≡ unknown
unfolding meaning
means_none d text e = rw e refl

means_head : (d : Declared) (text : Text) (f : ℕ) → number_of d.symbols text ≡ Some f → meaning d role.EntryHead text ≡ a_symbol f (unwrap_or (arity_of d.symbols f) 0)
unfolding meaning
means_head d text f e = rw e refl

-- its arity is known
pub head_arity : (d : Declared) (text : Text) (f : ℕ) → number_of d.symbols text ≡ Some f → arity_of d.symbols f ≡ Some (unwrap_or (arity_of d.symbols f) 0)
head_arity d text f e = symbol_arity d role.EntryHead text f (unwrap_or (arity_of d.symbols f) 0) (means_head d text f e)

no_nesting : (b : Bool) → (b && nat_le 100 0) ≡ false
no_nesting true = refl
no_nesting false = refl

module _ (form : Form) (r : Reader) (text : Text) (short : length text ≤ 255) where
  abbrev D : Declared
  D = declared (formed form) r

  few_bytes : nat_lt 255 (length text) ≡ false
  few_bytes = grind (arith, nat_tests)

  -- a further entry where there are 1,024
  pub head_full : 1024 ≤ length r.entries → use_row (terminal.Named role.EntryHead) text D ≡ Some (kind.Limit limit.Entries)
  head_full many = full_by (number_of r.signature text) refl where
    all : nat_le 1024 (length r.entries) ≡ true
    all = grind (arith, nat_tests)

    full_by : (o : Option ℕ) → number_of r.signature text ≡ o → use_row (terminal.Named role.EntryHead) text D ≡ Some (kind.Limit limit.Entries)
    full_by None e = heads_are text D few_bytes ∙ ap (λ m. heads_by m D) (means_none D text e) ∙ rw all refl
    full_by (Some f) e = heads_are text D few_bytes ∙ ap (λ m. heads_by m D) (means_head D text f e) ∙ rw (no_nesting (nat_lt 0 (unwrap_or (arity_of r.signature f) 0)), all) refl

  module _ (room : length r.entries < 1024) where
    not_all : nat_le 1024 (length r.entries) ≡ false
    not_all = grind (arith, nat_tests)

    -- no symbol
    pub head_unknown : number_of r.signature text ≡ None → use_row (terminal.Named role.EntryHead) text D ≡ Some kind.UnknownName
    head_unknown e = heads_are text D few_bytes ∙ ap (λ m. heads_by m D) (means_none D text e) ∙ rw not_all refl

    -- a symbol
    pub head_row : (f : ℕ) → number_of r.signature text ≡ Some f → use_row (terminal.Named role.EntryHead) text D ≡ None
    head_row f e = heads_are text D few_bytes ∙ ap (λ m. heads_by m D) (means_head D text f e) ∙ rw (no_nesting (nat_lt 0 (unwrap_or (arity_of r.signature f) 0)), not_all) refl

head_named : (n : ℕ) (e : StartedEntry) (u : Reader) → declared (headed_by n e) u ≡ named role.EntryHead (a_symbol e.sym n) (declared (formed e.form) u)
head_named zero e u = refl
head_named (suc n) e u = refl

head_adds : (d : Declared) (text : Text) → adds (terminal.Named role.EntryHead) text d ≡ named role.EntryHead (meaning d role.EntryHead text) d
unfolding adds
head_adds d text = refl

-- what a symbol at the head of an entry adds
pub head_declared : (form : Form) (r u : Reader) (text : Text) (e : StartedEntry) → e.form ≡ form → number_of r.signature text ≡ Some e.sym → arity_of r.signature e.sym ≡ Some e.arity → state_of u ≡ state_of r → u.bound ≡ r.bound
    → declared (headed e) u ≡ adds (terminal.Named role.EntryHead) text (declared (formed form) r)
head_declared form r u text e same is arity state bound =
    head_named e.arity e u ∙ ap (named role.EntryHead (a_symbol e.sym e.arity)) (ap (λ f. declared (formed f) u) same ∙ declared_same (formed form) r u state bound)
    ∙ ap (λ m. named role.EntryHead m (declared (formed form) r)) (ap (a_symbol e.sym) (sym (ap (λ o. unwrap_or o 0) arity)) ∙ sym (means_head (declared (formed form) r) text e.sym is))
    ∙ sym (head_adds (declared (formed form) r) text)

pub formed_calm : (form : Form) → IsCalm (formed form)
formed_calm form = record { applications = refl; last = refl }
