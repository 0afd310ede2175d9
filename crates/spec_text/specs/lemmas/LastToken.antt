-- The last token decides on the next alone.
-- (Nobody has to believe what stands here: it is proved, for the proofs of this crate and of those above.)
use Rattle.std.proofs.Common.{◌≡◌, ℕ, zero, suc, Bool, true, false, ◌&&◌, ◌==◌, cond, List, [], ◌∷◌, ◌++◌, Option, Some, None, refl, ap, sym, ◌∙◌}
use Rattle.std.specs.Prelude.{position, option_map}
use Rattle.std.specs.List.{list_all}
use Rattle.std.specs.Str.{bytes_eq}
use Rattle.ranked_terms.specs.Names.{number_of}
use Rattle.ta_core.specs.TreeAutomaton.{trans_of}
use Rattle.ranked_terms.specs.declared.term.Shape.{Shape}
use Rattle.ranked_terms.specs.declared.term.Shape.TheVariants as shape
use Rattle.timbuk_lex.specs.declared.lexeme.Lexeme.{Lexeme}
use Rattle.timbuk_lex.specs.declared.lex.Ending.{Ending}
use Rattle.timbuk_lex.specs.declared.lex.Ending.TheVariants.{Whole, Stopped}
use Rattle.timbuk_grammar.specs.declared.terminal.Role.{Role}
use Rattle.timbuk_grammar.specs.declared.terminal.Role.TheVariants as role
use Rattle.timbuk_grammar.specs.declared.terminal.Terminal.{Terminal}
use Rattle.timbuk_grammar.specs.declared.terminal.Terminal.TheVariants as terminal
use Rattle.timbuk_grammar.specs.Matching.{matches}
use Rattle.timbuk_grammar.specs.Grammar.{Part}
use Rattle.timbuk_grammar.specs.Next.{empties, Choice, choice_of}
use Rattle.spec_text.specs.Declarations.{states_at, or_else, if_allowed, allows_symbol, allows_variable, as_symbol, as_variable, as_state, Text, behind, added, Declared, Started, Application, Last, any, leaf, constant, function, Head, no_head, state_head, symbol_head, Meaning, unknown, a_variable, a_state, a_symbol, meaning, current, with_current, ends, add_rule, add_equation, add_transition, add_entry, uses, whole, placed_in, placed, binds, has, with_variable, begins_transition, named, closes, adds}
use Rattle.spec_text.specs.declared.fault.SpecKind.{SpecKind}
use Rattle.spec_text.specs.declared.fault.SpecKind.TheVariants as kind
use Rattle.spec_text.specs.Rows.{or, when, row, wrong_arity, expected, long_name, too_deep, one_too_many, over, meant, passed, is_use, is_unknown, is_double, variable_left, stands_twice, is_free, misnamed, end_row, at_terminal, is_closed_word}
use Rattle.spec_text.specs.Reading.{End, outcome, ends_by, end_by, unless, settled, sees, terminal_of}

-- the same declarations after another last token
abbrev pub after : Last → Declared → Declared
after l d = record d { last = l }

ends_after : (d : Declared) (l : Last) → ends (after l d) ≡ after l (ends d)
ends_after d l = refl

rule_after : (shapes : List Shape) (s : Shape) (d : Declared) (l : Last) → add_rule shapes s (after l d) ≡ after l (add_rule shapes s d)
rule_after [] s d l = refl
rule_after (left ∷ []) s d l = refl
rule_after (left ∷ more ∷ most) s d l = refl

equation_after : (shapes : List Shape) (s : Shape) (d : Declared) (l : Last) → add_equation shapes s (after l d) ≡ after l (add_equation shapes s d)
equation_after [] s d l = refl
equation_after (left ∷ []) s d l = refl
equation_after (left ∷ more ∷ most) s d l = refl

whole_after : (p : Role) (s : Shape) (d : Declared) (l : Last) → whole p s (after l d) ≡ after l (whole p s d)
whole_after role.RightSide s d l = ap ends (rule_after d.shapes s d l)
whole_after role.EquationRight s d l = ap ends (equation_after d.shapes s d l)
whole_after _ s d l = refl

placed_in_after : (open_ones : List Application) (p : Role) (s : Shape) (d : Declared) (l : Last) → placed_in open_ones p s (after l d) ≡ after l (placed_in open_ones p s d)
placed_in_after [] p s d l = whole_after p s d l
placed_in_after (a ∷ outer) p s d l = refl

pub placed_after : (p : Role) (s : Shape) (d : Declared) (l : Last) → placed p s (after l d) ≡ after l (placed p s d)
placed_after p s d l = placed_in_after d.applications p s d l

current_by : (b : Bool) (a : Started) (d : Declared) (l : Last) → cond b (record (after l d) { second = a }) (record (after l d) { initial = a }) ≡ after l (cond b (record d { second = a }) (record d { initial = a }))
current_by true a d l = refl
current_by false a d l = refl

with_after : (a : Started) (d : Declared) (l : Last) → with_current a (after l d) ≡ after l (with_current a d)
with_after a d l = current_by (d.automata == 2) a d l

transition_after : (h : Head) (q : ℕ) (d : Declared) (l : Last) → add_transition h q (after l d) ≡ after l (add_transition h q d)
transition_after no_head q d l = refl
transition_after (state_head p) q d l = with_after (record (current d) { eps = (current d).eps ++ (p, q) ∷ [] }) d l
transition_after (symbol_head f) q d l = with_after (record (current d) { trans = (current d).trans ++ trans_of f d.head_args q ∷ [] }) d l

entry_after : (shapes : List Shape) (q : ℕ) (d : Declared) (l : Last) → add_entry shapes q (after l d) ≡ after l (add_entry shapes q d)
entry_after [] q d l = refl
entry_after (a ∷ []) q d l = refl
entry_after (a ∷ b ∷ []) q d l = refl
entry_after (a ∷ b ∷ c ∷ []) q d l = refl
entry_after (a ∷ b ∷ c ∷ e ∷ more) q d l = refl

uses_after : (p : Role) (q : ℕ) (d : Declared) (l : Last) → uses p q (after l d) ≡ after l (uses p q d)
uses_after role.FinalState q d l = with_after (record (current d) { finals = (current d).finals ++ q ∷ [] }) d l
uses_after role.TransitionTarget q d l = ap (λ (z : Declared). record z { head = no_head; head_args = [] }) (transition_after d.head q d l)
uses_after role.EntryTarget q d l = entry_after d.shapes q d l
uses_after _ q d l = refl

own_by : (b : Bool) (d e : Declared) (l : Last) → cond b (after l d) (after l e) ≡ after l (cond b d e)
own_by true d e l = refl
own_by false d e l = refl

binds_after : (p : Role) (v : ℕ) (d : Declared) (l : Last) → binds p v (after l d) ≡ after l (binds p v d)
binds_after role.EntryArgument v d l = own_by (has d.bound v) d (record d { own = with_variable d.own v }) l
binds_after _ v d l = refl

begins_after : (p : Role) (f : ℕ) (d : Declared) (l : Last) → begins_transition p f (after l d) ≡ after l (begins_transition p f d)
begins_after role.TransitionHead f d l = refl
begins_after _ f d l = refl

named_after : (p : Role) (m : Meaning) (d : Declared) (l : Last) → named p m (after l d) ≡ named p m d
named_after p unknown d l = refl
named_after p (a_variable v) d l = ap (λ z. after leaf (placed p (shape.Var v) z)) (binds_after p v d l) ∙ ap (after leaf) (placed_after p (shape.Var v) (binds p v d) l)
named_after p (a_state q) d l = ap (λ z. after leaf (uses p q z)) (placed_after p (shape.State q) d l) ∙ ap (after leaf) (uses_after p q (placed p (shape.State q) d) l)
named_after p (a_symbol f zero) d l = ap (λ z. after constant (placed p (shape.App f []) z)) (begins_after p f d l) ∙ ap (after constant) (placed_after p (shape.App f []) (begins_transition p f d) l)
named_after p (a_symbol f (suc n)) d l = ap (λ (z : Declared). record z { applications = record { role = p; sym = f; arity = suc n; args = [] } ∷ d.applications; last = function }) (begins_after p f d l)

states_after : (p : Role) (d : Declared) (l : Last) → states_at (after l d) p ≡ states_at d p
states_after _ d l = refl

closes_after : (open_ones : List Application) (d : Declared) (l : Last) → closes open_ones (after l d) ≡ closes open_ones d
closes_after [] d l = refl
closes_after (a ∷ outer) d l = refl

meaning_after : (p : Role) (name : Text) (d : Declared) (l : Last) → meaning (after l d) p name ≡ meaning d p name
unfolding meaning
meaning_after p name d l = ap (λ qs. or_else (if_allowed (allows_symbol p) (as_symbol d.symbols (number_of d.symbols name))) (or_else (if_allowed (allows_variable p) (as_variable (position (bytes_eq name) d.variables))) (as_state (position (bytes_eq name) qs)))) (states_after p d l)

-- what a token adds is the same after any token
pub adds_after : (t : Terminal) (text : Text) (d : Declared) (l : Last) → adds t text (after l d) ≡ adds t text d
unfolding adds
adds_after (terminal.Named role.Symbol) text d l = refl
adds_after (terminal.Named role.Variable) text d l = refl
adds_after (terminal.Named role.Title) text d l = refl
adds_after (terminal.Named role.State) text d l = ap (after any) (with_after (record (current d) { states = (current d).states ++ text ∷ [] }) d l)
adds_after (terminal.Named role.ApproximationState) text d l = refl
adds_after (terminal.Named p) text d l = ap (λ m. named p m (after l d)) (meaning_after p text d l) ∙ named_after p (meaning d p text) d l
adds_after terminal.CloseParen text d l = closes_after d.applications d l
adds_after _ text d l = refl

-- ---- where no `(` follows

-- nothing depends on this last token, unless a `(` follows
pub data IsWhole : Last → Type 0 where
  leaf_whole : IsWhole leaf
  constant_whole : IsWhole constant

deep_after : (m : Meaning) (d : Declared) (l : Last) → too_deep m (after l d) ≡ too_deep m d
deep_after unknown d l = refl
deep_after (a_variable v) d l = refl
deep_after (a_state q) d l = refl
deep_after (a_symbol f n) d l = refl

many_after : (m : Meaning) (d : Declared) (l : Last) → one_too_many m (after l d) ≡ one_too_many m d
many_after unknown d l = refl
many_after (a_variable v) d l = refl
many_after (a_state q) d l = refl
many_after (a_symbol f n) d l = refl

over_after : (t : Terminal) (text : Text) (d : Declared) (l : Last) → over t text (after l d) ≡ over t text d
over_after (terminal.Named role.Symbol) text d l = refl
over_after (terminal.Named _) text d l = refl
over_after _ text d l = refl

double_after : (t : Terminal) (text : Text) (d : Declared) (l : Last) → is_double t text (after l d) ≡ is_double t text d
double_after (terminal.Named role.Symbol) text d l = refl
double_after (terminal.Named _) text d l = refl
double_after _ text d l = refl

left_after : (t : Terminal) (m : Meaning) (d : Declared) (l : Last) → variable_left t m (after l d) ≡ variable_left t m d
left_after (terminal.Named role.LeftSide) (a_variable v) d l = refl
left_after (terminal.Named role.LeftSide) _ d l = refl
left_after (terminal.Named _) m d l = refl
left_after _ m d l = refl

twice_after : (t : Terminal) (m : Meaning) (d : Declared) (l : Last) → stands_twice t m (after l d) ≡ stands_twice t m d
twice_after (terminal.Named role.LeftSide) (a_variable v) d l = refl
twice_after (terminal.Named role.LeftSide) _ d l = refl
twice_after (terminal.Named _) m d l = refl
twice_after _ m d l = refl

free_after : (t : Terminal) (m : Meaning) (d : Declared) (l : Last) → is_free t m (after l d) ≡ is_free t m d
free_after (terminal.Named role.RightSide) (a_variable v) d l = refl
free_after (terminal.Named role.RightSide) _ d l = refl
free_after (terminal.Named _) m d l = refl
free_after _ m d l = refl

meant_after : (t : Terminal) (text : Text) (d : Declared) (l : Last) → meant t text (after l d) ≡ meant t text d
meant_after (terminal.Named p) text d l = meaning_after p text d l
meant_after _ text d l = refl

pub passed_after : (t : Terminal) (text : Text) (d : Declared) (l : Last) → passed t text (after l d) ≡ passed t text d
unfolding passed
passed_after t text d l = λ i. or (long_name t text) (or ((ap (λ m. too_deep m (after l d)) (meant_after t text d l) ∙ deep_after (meant t text d) d l) i)
    (or ((ap (λ m. one_too_many m (after l d)) (meant_after t text d l) ∙ many_after (meant t text d) d l) i) (over_after t text d l i)))

pub misnamed_after : (t : Terminal) (text : Text) (d : Declared) (l : Last) → misnamed t text (after l d) ≡ misnamed t text d
unfolding misnamed
misnamed_after t text d l = λ i. or (when (is_use t && is_unknown (meant_after t text d l i)) kind.UnknownName) (or (when (double_after t text d l i) kind.DoubleName)
    (or (when ((ap (λ m. variable_left t m (after l d)) (meant_after t text d l) ∙ left_after t (meant t text d) d l) i) kind.VariableLeft)
    (or (when ((ap (λ m. stands_twice t m (after l d)) (meant_after t text d l) ∙ twice_after t (meant t text d) d l) i) kind.NotLeftLinear)
    (when ((ap (λ m. is_free t m (after l d)) (meant_after t text d l) ∙ free_after t (meant t text d) d l) i) kind.FreeVariable))))

-- the rows on a terminal are the same after any token
pub terminal_after : (t : Option Terminal) (x : Lexeme) (d : Declared) (l : Last) → at_terminal t x (after l d) ≡ at_terminal t x d
terminal_after None x d l = refl
terminal_after (Some t) x d l = λ i. or (option_map kind.Limit (passed_after t x.text d l i)) (misnamed_after t x.text d l i)

same_arity : (l : Last) → IsWhole l → (d : Declared) (x : Lexeme) → matches terminal.OpenParen x ≡ false → wrong_arity (after l d) x ≡ wrong_arity (after any d) x
unfolding wrong_arity
same_arity any w d x e = elim w [ ]
same_arity function w d x e = elim w [ ]
same_arity leaf leaf_whole d x e = refl
same_arity constant constant_whole d x e = rw e refl

same_expected : (l : Last) → IsWhole l → (t : Option Terminal) (d : Declared) (x : Lexeme) → matches terminal.OpenParen x ≡ false → expected t (after l d) x ≡ expected t (after any d) x
unfolding expected
same_expected any w t d x e = elim w [ ]
same_expected function w t d x e = elim w [ ]
same_expected leaf leaf_whole t d x e = rw e refl
same_expected constant constant_whole t d x e = refl

same_row : (l : Last) → IsWhole l → (t : Option Terminal) (d : Declared) (x : Lexeme) → matches terminal.OpenParen x ≡ false → row t (after l d) x ≡ row t (after any d) x
unfolding row
same_row l w t d x e = λ i. or (when (is_closed_word x) kind.UnknownSection) (or (when (same_arity l w d x e i) kind.WrongArity)
    (or (when (same_expected l w t d x e i) kind.Expected) ((terminal_after t x d l ∙ sym (terminal_after t x d any)) i)))

none_fits : (a b : Bool) (m : Option SpecKind) → or (when a kind.UnknownSection) (or (when b kind.WrongArity) (or (when true kind.Expected) m)) ≡ None → ⊥
none_fits true b m e = cc
none_fits false true m e = cc
none_fits false false m e = cc

same_added : (l : Last) (c : Option Choice) (x : Lexeme) (d : Declared) (end : End) (xs : List Lexeme) (r : Option SpecKind) → row (terminal_of c) (after any d) x ≡ r
    → unless r x (outcome end (behind c) (added c x (after l d)) xs) ≡ unless r x (outcome end (behind c) (added c x (after any d)) xs)
unfolding row expected
same_added l (Some c) x d end xs r e = ap (λ z. unless r x (outcome end c.behind z xs)) (adds_after c.terminal x.text d l ∙ sym (adds_after c.terminal x.text d any))
same_added l None x d end xs None e = absurd (none_fits (is_closed_word x) (wrong_arity (after any d) x) None e)
same_added l None x d end xs (Some k) e = refl

same_end_row : (l : Last) → IsWhole l → (b : Bool) (d : Declared) → end_row b (after l d) ≡ end_row b (after any d)
unfolding end_row
same_end_row any w b d = elim w [ ]
same_end_row function w b d = elim w [ ]
same_end_row leaf leaf_whole b d = refl
same_end_row constant constant_whole b d = refl

same_end_by : (k : Option SpecKind) (end : End) (l : Last) (d : Declared) → settled (end_by k end (after l d)) ≡ settled (end_by k end (after any d))
same_end_by None end l d = refl
same_end_by (Some k) end l d = refl

same_ends_by : (ending : Ending) (l : Last) → IsWhole l → (end : End) (ps : List Part) (d : Declared) → settled (ends_by ending end ps (after l d)) ≡ settled (ends_by ending end ps (after any d))
same_ends_by Whole l w end ps d = ap (λ k. settled (end_by k end (after l d))) (same_end_row l w (list_all empties ps) d) ∙ same_end_by (end_row (list_all empties ps) (after any d)) end l d
same_ends_by (Stopped why line column) l w end ps d = refl

-- The next token is read as after any other.
pub read_after : (l : Last) → IsWhole l → (end : End) (ps : List Part) (d : Declared) (xs : List Lexeme) → sees terminal.OpenParen xs ≡ false → settled (outcome end ps (after l d) xs) ≡ settled (outcome end ps (after any d) xs)
read_after l w end ps d [] e = same_ends_by end.ending l w end ps d
read_after l w end ps d (x ∷ xs) e =
    let c = choice_of ps x in
    ap settled (ap (λ k. unless k x (outcome end (behind c) (added c x (after l d)) xs)) (same_row l w (terminal_of c) d x e)
    ∙ same_added l c x d end xs (row (terminal_of c) (after any d) x) refl)
