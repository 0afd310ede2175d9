-- The head, the arrow and the target of a transition, and the rows that fit at another number of arguments.
use Rattle.std.proofs.Common.{◌≡◌, ℕ, zero, suc, Bool, true, false, not, nat_lt, nat_le, List, [], ◌∷◌, length, position, Some, None, All, Contains, refl, sym, ap, subst, ◌∙◌, true≢false}
use Rattle.std.specs.Str.{bytes_eq}
use Rattle.std.proofs.lemmas.Bool.{or_from, or_parts, and_right, le-ltb}
use Rattle.ranked_terms.specs.Names.{Symbol, number_of}
use Rattle.timbuk_lex.specs.declared.lexeme.Lexeme.{Lexeme}
use Rattle.timbuk_grammar.specs.declared.terminal.Role.TheVariants as role
use Rattle.timbuk_grammar.specs.declared.terminal.Terminal.TheVariants as terminal
use Rattle.timbuk_grammar.specs.Matching.{matches}
use Rattle.timbuk_grammar.specs.Trees.{Token}
use Rattle.spec_text.specs.Declarations.{Text, Declared, Started, Application, Last, any, leaf, constant, function, Head, no_head, state_head, symbol_head, current, Meaning, unknown, a_variable, a_state, a_symbol, or_else, as_symbol, as_state, meaning, named, adds}
use Rattle.spec_text.specs.Source.{text_of}
use Rattle.spec_text.specs.Naming.{IsShort, place_in}
use Rattle.spec_text.specs.Rows.{or, wrong_after, wrong_arity, expected, too_deep, one_too_many, passed, is_unknown, misnamed, row}
use Rattle.spec_text.proofs.agreement.tokens.Labels.{label}
use Rattle.spec_text.proofs.agreement.tokens.Runs.{or-none, or_parts_none, when-false, when_none, row-none, row_parts}
use Rattle.spec_text.proofs.agreement.names.Rows.{IsResting, IsAtRest, arity_at_rest, no_opening, is_expected, passed_plain, misnamed_plain}
use Rattle.spec_text.proofs.agreement.names.States.{between}
use Rattle.spec_text.proofs.agreement.tokens.Paths.{Path, path_by}
use Rattle.spec_text.proofs.agreement.automata.States.{put, current-put, changed, put-at_rest}
use Rattle.spec_text.proofs.agreement.automata.Names.{use_path}
use Rattle.spec_text.proofs.agreement.automata.Heads.{behind_head, inside, added}

-- ---- the head

-- what the head of a transition means
abbrev pub head_meaning : List Symbol → List Text → Text → Meaning
head_meaning symbols states text = or_else (as_symbol symbols (number_of symbols text)) (as_state (position (bytes_eq text) states))

head_means : (d : Declared) (text : Text) → meaning d role.TransitionHead text ≡ head_meaning d.symbols (current d).states text
unfolding meaning
head_means d text = refl

-- a symbol or a state
abbrev pub is_head : Meaning → Bool
is_head (a_state q) = true
is_head (a_symbol f n) = true
is_head _ = false

head_limits : (m : Meaning) (d : Declared) → is_head m ≡ true → d.applications ≡ [] → or (too_deep m d) (or (one_too_many m d) None) ≡ None
head_limits unknown d h e = cc
head_limits (a_variable v) d h e = cc
head_limits (a_state q) d h e = refl
head_limits (a_symbol f zero) d h e = refl
head_limits (a_symbol f (suc n)) d h e = or-none _ _ (when-false _ _ (and_right (nat_lt 0 (suc n)) _ (ap (λ (l : List Application). nat_le 100 (length l)) e))) refl

head_known : (m : Meaning) → is_head m ≡ true → is_unknown m ≡ false
head_known unknown h = cc
head_known (a_variable v) h = refl
head_known (a_state q) h = refl
head_known (a_symbol f n) h = refl

head_passed : (d : Declared) (text : Text) (m : Meaning) → IsShort text → meaning d role.TransitionHead text ≡ m → is_head m ≡ true → d.applications ≡ [] → passed (terminal.Named role.TransitionHead) text d ≡ None
unfolding passed
head_passed d text m s e h k = or-none _ _ (when-false _ _ (le-ltb _ _ s)) (subst (λ n. or (too_deep n d) (or (one_too_many n d) None) ≡ None) (sym e) (head_limits m d h k))

head_named : (d : Declared) (text : Text) (m : Meaning) → meaning d role.TransitionHead text ≡ m → is_head m ≡ true → misnamed (terminal.Named role.TransitionHead) text d ≡ None
unfolding misnamed
head_named d text m e h = or-none _ _ (when-false _ _ (ap is_unknown e ∙ head_known m h)) refl

-- a head that means a symbol or a state
head_path_by : (d e : Declared) (v : Token (terminal.Named role.TransitionHead)) (m : Meaning) → IsAtRest d → IsShort (text_of v) → meaning d role.TransitionHead (text_of v) ≡ m → is_head m ≡ true → named role.TransitionHead m d ≡ e → Path d (label v ∷ []) (Unit {0}) e
unfolding adds
head_path_by d e v m rest s means h same = path_by (terminal.Named role.TransitionHead) v.lexeme d e (Unit {0})
    (λ k. row-none (terminal.Named role.TransitionHead) d v.lexeme v.matched (arity_at_rest d v.lexeme rest) (is_expected (terminal.Named role.TransitionHead) d v.lexeme refl refl v.matched)
    (head_passed d (text_of v) m s means h rest.applications) (head_named d (text_of v) m means h))
    (λ k. tt)
    (λ k. ap (λ n. named role.TransitionHead n d) means ∙ same)

unknown_head : (d : Declared) (x : Lexeme) → meaning d role.TransitionHead x.text ≡ unknown → row (Some (terminal.Named role.TransitionHead)) d x ≡ None → ⊥
unfolding misnamed
unknown_head d x e h = true≢false (sym (ap is_unknown e) ∙ when_none _ _ (or_parts_none _ _ (row_parts (terminal.Named role.TransitionHead) d x h).names).0)

module _ (a : Started) (l : Last) (resting : IsResting l) (d : Declared) (v : Token (terminal.Named role.TransitionHead)) where
  there : (m : Meaning) → head_meaning d.symbols a.states (text_of v) ≡ m → meaning (put a (between l d)) role.TransitionHead (text_of v) ≡ m
  there m e = head_means (put a (between l d)) (text_of v) ∙ (ap (λ (b : Started). head_meaning d.symbols b.states (text_of v)) (current-put a (between l d)) ∙ e)

  pub constant_head : (f : ℕ) → IsShort (text_of v) → head_meaning d.symbols a.states (text_of v) ≡ a_symbol f 0 → Path (put a (between l d)) (label v ∷ []) (Unit {0}) (behind_head (symbol_head f) [] constant a d)
  constant_head f s e = head_path_by (put a (between l d)) (behind_head (symbol_head f) [] constant a d) v (a_symbol f 0) (put-at_rest a l d resting) s (there (a_symbol f 0) e) refl refl

  pub function_head : (f n : ℕ) → IsShort (text_of v) → head_meaning d.symbols a.states (text_of v) ≡ a_symbol f (suc n) → Path (put a (between l d)) (label v ∷ []) (Unit {0}) (inside f (suc n) [] function a d)
  function_head f n s e = head_path_by (put a (between l d)) (inside f (suc n) [] function a d) v (a_symbol f (suc n)) (put-at_rest a l d resting) s (there (a_symbol f (suc n)) e) refl refl

  pub state_of_head : (q : ℕ) → IsShort (text_of v) → head_meaning d.symbols a.states (text_of v) ≡ a_state q → Path (put a (between l d)) (label v ∷ []) (Unit {0}) (behind_head (state_head q) [] leaf a d)
  state_of_head q s e = head_path_by (put a (between l d)) (behind_head (state_head q) [] leaf a d) v (a_state q) (put-at_rest a l d resting) s (there (a_state q) e) refl refl

  pub no_head_here : head_meaning d.symbols a.states (text_of v) ≡ unknown → row (Some (terminal.Named role.TransitionHead)) (put a (between l d)) v.lexeme ≡ None → ⊥
  no_head_here e h = unknown_head (put a (between l d)) v.lexeme (there unknown e) h

-- ---- the arrow

-- no symbol with arguments
abbrev pub IsDone : Last → Type 0
IsDone function = ⊥
IsDone _ = Unit {0}

done_after : (l : Last) (x : Lexeme) → IsDone l → matches terminal.OpenParen x ≡ false → wrong_after l x ≡ false
done_after any x h e = refl
done_after leaf x h e = refl
done_after constant x h e = e
done_after function x h e = absurd h

arrow_arity : (h : Head) (args : List ℕ) (l : Last) (a : Started) (d : Declared) (x : Lexeme) → wrong_after l x ≡ false → wrong_arity (behind_head h args l a d) x ≡ false
unfolding wrong_arity
arrow_arity h args l a d x e = or_from _ _ e refl

pub arrow_path : (h : Head) (args : List ℕ) (l : Last) → IsDone l → (a : Started) (d : Declared) (v : Token terminal.Arrow) → Path (behind_head h args l a d) (label v ∷ []) (Unit {0}) (behind_head h args any a d)
unfolding adds
arrow_path h args l done a d v = path_by terminal.Arrow v.lexeme (behind_head h args l a d) (behind_head h args any a d) (Unit {0})
    (λ k. row-none terminal.Arrow (behind_head h args l a d) v.lexeme v.matched (arrow_arity h args l a d v.lexeme (done_after l v.lexeme done (no_opening terminal.Arrow v.lexeme refl v.matched)))
    (is_expected terminal.Arrow (behind_head h args l a d) v.lexeme refl refl v.matched) (passed_plain terminal.Arrow (text_of v) _ refl) (misnamed_plain terminal.Arrow (text_of v) _ refl))
    (λ k. tt)
    (λ k. refl)

-- ---- the target

target_same : (h : Head) (args : List ℕ) (q : ℕ) (a : Started) (d : Declared) → named role.TransitionTarget (a_state q) (behind_head h args any a d) ≡ put (added h args q a) (between leaf d)
target_same no_head args q a d = refl
target_same (state_head p) args q a d = ap (λ (w : Declared). record w { head = no_head; head_args = []; last = leaf }) (changed (λ b. added (state_head p) args q b) a (record (between any d) { head = state_head p; head_args = args }))
target_same (symbol_head f) args q a d = ap (λ (w : Declared). record w { head = no_head; head_args = []; last = leaf }) (changed (λ b. added (symbol_head f) args q b) a (record (between any d) { head = symbol_head f; head_args = args }))

pub target_path : (h : Head) (args : List ℕ) (a : Started) → All IsShort a.states → (d : Declared) (v : Token (terminal.Named role.TransitionTarget)) → Path (behind_head h args any a d) (label v ∷ []) (Contains a.states (text_of v)) (put (added h args (place_in a.states (text_of v)) a) (between leaf d))
target_path h args a short d v =
    use_path role.TransitionTarget a (behind_head h args any a d) (put (added h args (place_in a.states (text_of v)) a) (between leaf d)) v refl (arrow_arity h args any a d v.lexeme refl) short
    (current-put a (between any d)) (target_same h args (place_in a.states (text_of v)) a d)

-- ---- another number of arguments

-- a parenthesis behind a state
pub paren_behind_state : (q : ℕ) (a : Started) (d : Declared) (v : Token terminal.OpenParen) → row (Some terminal.OpenParen) (behind_head (state_head q) [] leaf a d) v.lexeme ≡ None → ⊥
unfolding expected
paren_behind_state q a d v h = true≢false (sym v.matched ∙ (or_parts _ _ (row_parts terminal.OpenParen (behind_head (state_head q) [] leaf a d) v.lexeme h).role).0)

-- a parenthesis behind a symbol of arity 0
pub paren_behind_constant : (f : ℕ) (a : Started) (d : Declared) (v : Token terminal.OpenParen) → row (Some terminal.OpenParen) (behind_head (symbol_head f) [] constant a d) v.lexeme ≡ None → ⊥
unfolding wrong_arity
paren_behind_constant f a d v h = true≢false (sym v.matched ∙ (or_parts _ _ (row_parts terminal.OpenParen (behind_head (symbol_head f) [] constant a d) v.lexeme h).arity).0)

-- an arrow behind a symbol that has arguments
pub arrow_behind_function : (f n : ℕ) (a : Started) (d : Declared) (v : Token terminal.Arrow) → row (Some terminal.Arrow) (inside f n [] function a d) v.lexeme ≡ None → ⊥
unfolding wrong_arity
arrow_behind_function f n a d v h = true≢false (sym (ap not (no_opening terminal.Arrow v.lexeme refl v.matched)) ∙ (or_parts _ _ (row_parts terminal.Arrow (inside f n [] function a d) v.lexeme h).arity).0)
