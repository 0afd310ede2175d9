-- The tokens of one transition: its head, its arguments, its arrow and its target.
use Rattle.std.proofs.Common.{◌≡◌, ℕ, suc, ◌+◌, ◌<◌, ◌≤◌, false, not, ◌&&◌, nat_lt, nat_le, List, [], ◌∷◌, ◌++◌, length, map, Some, All, Contains, refl, sym, ap, subst, ◌∙◌, append_assoc, length-append, arith}
use Rattle.std.specs.Prelude.{flat_map}
use Rattle.std.proofs.lemmas.Bool.{or_from, or_parts, and_left, and_right, le-ltb, lt-leb, ltb-false, leb-false}
use Rattle.std.proofs.lemmas.List.{append-nil, map-append, length-map}
use Rattle.std.proofs.lemmas.List.Elements.{All-nil, All-cons, All-head, All-tail}
use Rattle.ranked_terms.specs.declared.term.Shape.{Shape}
use Rattle.ranked_terms.specs.declared.term.Shape.TheVariants as shape
use Rattle.ta_core.specs.TreeAutomaton.{trans_of}
use Rattle.timbuk_lex.specs.declared.lexeme.Lexeme.{Lexeme}
use Rattle.timbuk_grammar.specs.declared.terminal.Role.TheVariants as role
use Rattle.timbuk_grammar.specs.declared.terminal.Terminal.TheVariants as terminal
use Rattle.timbuk_grammar.specs.Grammar as grammar
use Rattle.timbuk_grammar.specs.Matching.{matches}
use Rattle.timbuk_grammar.specs.Trees.{Token, Value}
use Rattle.timbuk_grammar.specs.lemmas.Differ.{apart}
use Rattle.spec_text.specs.Declarations.{Text, Declared, Started, Last, any, leaf, function, Head, no_head, state_head, symbol_head, adds}
use Rattle.spec_text.specs.Source.{text_of, arguments_of}
use Rattle.spec_text.specs.Naming.{IsShort, place_in}
use Rattle.spec_text.specs.Rows.{wrong_after, wrong_arity, expected}
use Rattle.spec_text.proofs.agreement.tokens.Labels.{label, labelled}
use Rattle.spec_text.proofs.agreement.tokens.Runs.{row-none, row_parts}
use Rattle.spec_text.proofs.agreement.names.Rows.{no_approximation, is_expected, passed_plain, misnamed_plain}
use Rattle.spec_text.proofs.agreement.names.States.{between}
use Rattle.spec_text.proofs.agreement.tokens.Paths.{Path, path_nowhere, path_by, path_on, path_also, path_before}
use Rattle.spec_text.proofs.agreement.automata.States.{put, current-put}
use Rattle.spec_text.proofs.agreement.automata.Names.{use_path}

-- ---- the states inside a transition

-- the places of states
abbrev pub places : Started → List Text → List ℕ
places a names = map (place_in a.states) names

-- behind the head of a transition, or behind its arguments
abbrev pub behind_head : Head → List ℕ → Last → Started → Declared → Declared
behind_head h args l a d = put a (record (between l d) { head = h; head_args = args })

abbrev inside_with : ℕ → ℕ → List ℕ → List Shape → Last → Started → Declared → Declared
inside_with f n args shapes l a d = put a (record (between l d) { head = symbol_head f; head_args = args; applications = record { role = role.TransitionHead; sym = f; arity = n; args = shapes } ∷ [] })

-- inside its arguments, behind these of them
abbrev pub inside : ℕ → ℕ → List Text → Last → Started → Declared → Declared
inside f n args l a d = inside_with f n (places a args) (map (λ t. shape.State (place_in a.states t)) args) l a d

-- the automaton with one transition more
abbrev pub added : Head → List ℕ → ℕ → Started → Started
added no_head args q a = a
added (state_head p) args q a = record a { eps = a.eps ++ (p, q) ∷ [] }
added (symbol_head f) args q a = record a { trans = a.trans ++ trans_of f args q ∷ [] }

-- the arguments behind the first
abbrev more_texts : List (Value (grammar.◌then◌ (grammar.one terminal.Comma) (grammar.name role.TransitionArgument))) → List Text
more_texts vs = map (λ m. text_of m.1) vs

module _ (a : Started) (short : All IsShort a.states) (d : Declared) where
  -- ---- the arguments

  -- neither a parenthesis that closes nor a comma
  not_counted : (f n : ℕ) (args : List Text) (l : Last) (x : Lexeme) → wrong_after l x ≡ false → matches terminal.CloseParen x ≡ false → matches terminal.Comma x ≡ false → wrong_arity (inside f n args l a d) x ≡ false
  unfolding wrong_arity
  not_counted f n args l x after closing comma = or_from _ _ after (or_from _ _ (and_left _ _ closing) (and_left _ _ comma))

  argument_path : (f n : ℕ) (args : List Text) (v : Token (terminal.Named role.TransitionArgument)) → Path (inside f n args any a d) (label v ∷ []) (Contains a.states (text_of v)) (inside f n (args ++ text_of v ∷ []) leaf a d)
  argument_path f n args v =
      use_path role.TransitionArgument a (inside f n args any a d) (inside f n (args ++ text_of v ∷ []) leaf a d) v refl
      (not_counted f n args any v.lexeme refl (apart (terminal.Named role.TransitionArgument) terminal.CloseParen v.lexeme refl v.matched) (apart (terminal.Named role.TransitionArgument) terminal.Comma v.lexeme refl v.matched))
      short (current-put a (between any d))
      (λ i. inside_with f n (sym (map-append (place_in a.states) args (text_of v ∷ [])) i) (sym (map-append (λ t. shape.State (place_in a.states t)) args (text_of v ∷ [])) i) leaf a d)

  mapped : (args : List Text) → length (map (λ t. shape.State (place_in a.states t)) args) ≡ length args
  mapped args = length-map args (λ t. shape.State (place_in a.states t))

  comma_path : (f n : ℕ) (args : List Text) (v : Token terminal.Comma) → Path (inside f n args leaf a d) (label v ∷ []) (length args < n) (inside f n args any a d)
  unfolding adds wrong_arity
  comma_path f n args v = path_by terminal.Comma v.lexeme (inside f n args leaf a d) (inside f n args any a d) (length args < n)
      (λ h. row-none terminal.Comma (inside f n args leaf a d) v.lexeme v.matched
      (or_from _ _ (and_left _ _ (apart terminal.Comma terminal.CloseParen v.lexeme refl v.matched)) (and_right _ _ (lt-leb _ _ (subst (λ k. k < n) (sym (mapped args)) h))))
      (is_expected terminal.Comma (inside f n args leaf a d) v.lexeme refl refl v.matched) (passed_plain terminal.Comma (text_of v) _ refl) (misnamed_plain terminal.Comma (text_of v) _ refl))
      (λ h. subst (λ k. k < n) (mapped args) (leb-false _ _ (sym (ap (λ b. b && nat_le n (length (map (λ t. shape.State (place_in a.states t)) args))) v.matched)
      ∙ (or_parts _ _ (row_parts terminal.Comma (inside f n args leaf a d) v.lexeme h).arity).1)))
      (λ h. refl)

  close_path : (f n : ℕ) (args : List Text) (v : Token terminal.CloseParen) → Path (inside f n args leaf a d) (label v ∷ []) (n ≤ length args) (behind_head (symbol_head f) (places a args) any a d)
  unfolding adds wrong_arity
  close_path f n args v = path_by terminal.CloseParen v.lexeme (inside f n args leaf a d) (behind_head (symbol_head f) (places a args) any a d) (n ≤ length args)
      (λ h. row-none terminal.CloseParen (inside f n args leaf a d) v.lexeme v.matched
      (or_from _ _ (and_right _ _ (le-ltb _ _ (subst (λ k. n ≤ k) (sym (mapped args)) h))) (and_left _ _ (apart terminal.CloseParen terminal.Comma v.lexeme refl v.matched)))
      (is_expected terminal.CloseParen (inside f n args leaf a d) v.lexeme refl refl v.matched) (passed_plain terminal.CloseParen (text_of v) _ refl) (misnamed_plain terminal.CloseParen (text_of v) _ refl))
      (λ h. subst (λ k. n ≤ k) (mapped args) (ltb-false _ _ (sym (ap (λ b. b && nat_lt (length (map (λ t. shape.State (place_in a.states t)) args)) n) v.matched)
      ∙ (or_parts _ _ (row_parts terminal.CloseParen (inside f n args leaf a d) v.lexeme h).arity).0)))
      (λ h. refl)

  open_path : (f n : ℕ) (v : Token terminal.OpenParen) → Path (inside f n [] function a d) (label v ∷ []) (Unit {0}) (inside f n [] any a d)
  unfolding adds expected
  open_path f n v = path_by terminal.OpenParen v.lexeme (inside f n [] function a d) (inside f n [] any a d) (Unit {0})
      (λ h. row-none terminal.OpenParen (inside f n [] function a d) v.lexeme v.matched
      (not_counted f n [] function v.lexeme (ap not v.matched) (apart terminal.OpenParen terminal.CloseParen v.lexeme refl v.matched) (apart terminal.OpenParen terminal.Comma v.lexeme refl v.matched))
      (and_left _ _ (no_approximation terminal.OpenParen v.lexeme refl v.matched)) (passed_plain terminal.OpenParen (text_of v) _ refl) (misnamed_plain terminal.OpenParen (text_of v) _ refl))
      (λ h. tt)
      (λ h. refl)

  more_path : (f n : ℕ) (args : List Text) (vs : List (Value (grammar.◌then◌ (grammar.one terminal.Comma) (grammar.name role.TransitionArgument)))) → length args ≤ n → Path (inside f n args leaf a d) (flat_map (labelled (grammar.◌then◌ (grammar.one terminal.Comma) (grammar.name role.TransitionArgument))) vs) (All (Contains a.states) (more_texts vs) × (length args + length vs ≤ n)) (inside f n (args ++ more_texts vs) leaf a d)
  more_path f n args [] h = path_also _ _ _ [] (Unit {0}) _ (λ k. tt) (λ k. (All-nil (Contains a.states), omega arith)) (λ k. ap (λ s. inside f n s leaf a d) (sym (append-nil args))) (path_nowhere (inside f n args leaf a d))
  more_path f n args (v ∷ vs) h =
      let t = text_of v.1 in
      let ends = inside f n ((args ++ t ∷ []) ++ more_texts vs) leaf a d in
      path_also (inside f n args leaf a d) ends _ _ ((length args < n) × (Contains a.states t × (All (Contains a.states) (more_texts vs) × (length (args ++ t ∷ []) + length vs ≤ n)))) _
      (λ k. (omega (arith, k.1), (All-head (Contains a.states) t (more_texts vs) k.0, (All-tail (Contains a.states) t (more_texts vs) k.0, omega (arith, k.1, length-append args (t ∷ []))))))
      (λ k. (All-cons (Contains a.states) t (more_texts vs) k.1.0 k.1.1.0, omega (arith, k.1.1.1, length-append args (t ∷ []))))
      (λ k. ap (λ s. inside f n s leaf a d) (append_assoc args (t ∷ []) (more_texts vs)))
      (path_on (inside f n args leaf a d) (inside f n args any a d) ends (label v.0 ∷ []) _ _ _ (comma_path f n args v.0)
      (λ room. path_on (inside f n args any a d) (inside f n (args ++ t ∷ []) leaf a d) ends (label v.1 ∷ []) _ _ _ (argument_path f n args v.1)
      (λ k. more_path f n (args ++ t ∷ []) vs (omega (arith, room, length-append args (t ∷ []))))))

  -- the arguments, of which there are as many as the arity
  pub arguments_path : (f n : ℕ) (v : Value (grammar.◌then◌ (grammar.one terminal.OpenParen) (grammar.◌then◌ (grammar.name role.TransitionArgument) (grammar.◌then◌ (grammar.many (grammar.◌then◌ (grammar.one terminal.Comma) (grammar.name role.TransitionArgument))) (grammar.one terminal.CloseParen))))) → Path (inside f (suc n) [] function a d) (labelled (grammar.arguments (grammar.name role.TransitionArgument)) (Some v)) (All (Contains a.states) (arguments_of (Some v)) × (length (arguments_of (Some v)) ≡ suc n)) (behind_head (symbol_head f) (places a (arguments_of (Some v))) any a d)
  arguments_path f n v =
      let t = text_of v.1.0 in
      let more = v.1.1.0 in
      let ts = more_texts more in
      let count : length ts ≡ length more = length-map more (λ m. text_of m.1) in
      let ends = behind_head (symbol_head f) (places a (t ∷ ts)) any a d in
      path_also (inside f (suc n) [] function a d) ends ends _ (Contains a.states t × ((All (Contains a.states) ts × (1 + length more ≤ suc n)) × (suc n ≤ length (t ∷ ts)))) _
      (λ k. (All-head (Contains a.states) t ts k.0, ((All-tail (Contains a.states) t ts k.0, omega (arith, k.1, count)), omega (arith, k.1))))
      (λ k. (All-cons (Contains a.states) t ts k.0 k.1.0.0, omega (arith, k.1.0.1, k.1.1, count)))
      (λ k. refl)
      (path_before (inside f (suc n) [] function a d) (inside f (suc n) [] any a d) ends (label v.0 ∷ []) _ _ (open_path f (suc n) v.0)
      (path_on (inside f (suc n) [] any a d) (inside f (suc n) (t ∷ []) leaf a d) ends (label v.1.0 ∷ []) _ _ _ (argument_path f (suc n) [] v.1.0)
      (λ first. path_on (inside f (suc n) (t ∷ []) leaf a d) (inside f (suc n) (t ∷ ts) leaf a d) ends _ (label v.1.1.1 ∷ []) _ _ (more_path f (suc n) (t ∷ []) more (omega arith))
      (λ k. close_path f (suc n) (t ∷ ts) v.1.1.1))))
