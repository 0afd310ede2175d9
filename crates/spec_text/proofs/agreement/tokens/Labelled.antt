-- The tokens of a derivation are read as its labels are, and what is read without a fault is a derivation.
use Rattle.std.proofs.Common.{◌≡◌, inl, inr, Bool, true, false, List, [], ◌∷◌, ◌++◌, map, refl, ap, sym, ◌∙◌, subst, append_assoc}
use Rattle.std.specs.Prelude.{Option, Some, None, Ok, flat_map}
use Rattle.std.specs.List.{list_all}
use Rattle.std.proofs.lemmas.List.{append-nil, map-append}
use Rattle.timbuk_lex.specs.declared.lexeme.Lexeme.{Lexeme}
use Rattle.timbuk_lex.specs.declared.lex.Ending.{Ending}
use Rattle.timbuk_lex.specs.declared.lex.Ending.TheVariants.{Whole, Stopped}
use Rattle.timbuk_grammar.specs.declared.terminal.Role.{Role}
use Rattle.timbuk_grammar.specs.declared.terminal.Terminal.{Terminal}
use Rattle.timbuk_grammar.specs.Matching.{matches}
use Rattle.timbuk_grammar.specs.Grammar.{Part, one, ◌then◌, ◌or◌, maybe, many, pattern, name, pattern_arguments, file}
use Rattle.timbuk_grammar.specs.Derivations.{stay, token, both, first, second, skip, take, stop, again, head, Derives}
use Rattle.timbuk_grammar.specs.Next.{empties, may_end, Choice, choices, choice_of}
use Rattle.timbuk_grammar.specs.Trees.{Token, Tree, Trees, leaf, node, none, comma, Value, pattern_spelling, more_spelling, spelling}
use Rattle.timbuk_grammar.specs.lemmas.Choices.{Among, here, through, choice_opens, all_pass}
use Rattle.timbuk_grammar.specs.lemmas.Next.{Within, told}
use Rattle.timbuk_grammar.specs.lemmas.Decided.{all_decide, file_decides, choice_decides, finds, found_fits}
use Rattle.timbuk_grammar.specs.lemmas.Derived.{next_argument, file_tree}
use Rattle.spec_text.specs.declared.fault.SpecKind.{SpecKind}
use Rattle.spec_text.specs.Declarations.{Declared, adds}
use Rattle.spec_text.specs.Rows.{row, end_row, or as earlier, when, is_closed_word, wrong_arity, expected}
use Rattle.spec_text.specs.Reading.{Outcome, End, end_by, ends_by, outcome, terminal_of, unless}
use Rattle.spec_text.specs.Declarations.{behind, added}
use Rattle.spec_text.proofs.agreement.tokens.Labels.{Label, label, labelled_pattern, labelled_more, labelled, judge}

-- ---- the tokens of labels

abbrev pub tokens_of : List Label → List Lexeme
tokens_of labels = map (λ l. l.1) labels

mutual
  pattern_tokens : (p : Role) → (v : Tree p) → tokens_of (labelled_pattern v) ≡ pattern_spelling p v
  pattern_tokens p (leaf n) = refl
  pattern_tokens p (node n opening argument more closing) =
      ap (λ z. n.lexeme ∷ opening.lexeme ∷ z)
      (map-append _ (labelled_pattern argument) (labelled_more more ++ label closing ∷ [])
      ∙ ap (λ z. z ++ tokens_of (labelled_more more ++ label closing ∷ [])) (pattern_tokens p argument)
      ∙ ap (λ z. pattern_spelling p argument ++ z) (map-append _ (labelled_more more) (label closing ∷ []) ∙ ap (λ z. z ++ closing.lexeme ∷ []) (more_tokens p more)))

  more_tokens : (p : Role) → (vs : Trees p) → tokens_of (labelled_more vs) ≡ more_spelling p vs
  more_tokens p none = refl
  more_tokens p (comma mark next more) =
      ap (λ z. mark.lexeme ∷ z)
      (map-append _ (labelled_pattern next) (labelled_more more)
      ∙ ap (λ z. z ++ tokens_of (labelled_more more)) (pattern_tokens p next)
      ∙ ap (λ z. pattern_spelling p next ++ z) (more_tokens p more))

many_tokens : (a : Part) (vs : List (Value a)) → ((v : Value a) → tokens_of (labelled a v) ≡ spelling a v) → tokens_of (flat_map (labelled a) vs) ≡ flat_map (spelling a) vs
many_tokens a [] h = refl
many_tokens a (v ∷ vs) h =
    map-append _ (labelled a v) (flat_map (labelled a) vs)
    ∙ ap (λ z. z ++ tokens_of (flat_map (labelled a) vs)) (h v)
    ∙ ap (λ z. spelling a v ++ z) (many_tokens a vs h)

-- the labels of a tree are of the tokens that it spells
pub labelled_tokens : (p : Part) (v : Value p) → tokens_of (labelled p v) ≡ spelling p v
labelled_tokens (one t) v = refl
labelled_tokens (a then b) v =
    map-append _ (labelled a v.0) (labelled b v.1)
    ∙ ap (λ z. z ++ tokens_of (labelled b v.1)) (labelled_tokens a v.0)
    ∙ ap (λ z. spelling a v.0 ++ z) (labelled_tokens b v.1)
labelled_tokens (a or b) (inl v) = labelled_tokens a v
labelled_tokens (a or b) (inr v) = labelled_tokens b v
labelled_tokens (maybe a) None = refl
labelled_tokens (maybe a) (Some v) = labelled_tokens a v
labelled_tokens (many a) vs = many_tokens a vs (labelled_tokens a)
labelled_tokens (pattern p) v = pattern_tokens p v

-- ---- labels that may stand at open parts

-- the choice of this terminal
abbrev at : Terminal → List Part → Choice
at t ps = record { terminal = t; behind = ps }

-- each label is among what may come next, and the end may come after them
pub data Ahead : List Part → List Label → Type 0 where
  done : {ps : List Part} → may_end ps ≡ true → Ahead ps []
  further : {ps qs : List Part} {x : Label} {xs : List Label} → Among (at x.0 qs) (choices ps) → matches x.0 x.1 ≡ true → Ahead qs xs → Ahead ps (x ∷ xs)

wider : {ps qs : List Part} {xs : List Label} → Within qs ps → Ahead qs xs → Ahead ps xs
wider w (done e) = done (w.ending e)
wider w (further k e h) = further (w.choice (at _ _) k) e h

one_ahead : {t : Terminal} (v : Token t) {ps : List Part} {xs : List Label} → Ahead ps xs → Ahead (one t ∷ ps) (label v ∷ xs)
one_ahead v h = further here v.matched h

both_ahead : {a b : Part} {ps : List Part} {xs : List Label} → Ahead (a ∷ b ∷ ps) xs → Ahead (a then b ∷ ps) xs
both_ahead {a = a} {b = b} {ps = ps} h = wider (told (both {a = a} {b = b} {ps = ps} stay)) h

first_ahead : {a b : Part} {ps : List Part} {xs : List Label} → Ahead (a ∷ ps) xs → Ahead (a or b ∷ ps) xs
first_ahead {a = a} {b = b} {ps = ps} h = wider (told (first {a = a} {b = b} {ps = ps} stay)) h

second_ahead : {a b : Part} {ps : List Part} {xs : List Label} → Ahead (b ∷ ps) xs → Ahead (a or b ∷ ps) xs
second_ahead {a = a} {b = b} {ps = ps} h = wider (told (second {a = a} {b = b} {ps = ps} stay)) h

skip_ahead : {a : Part} {ps : List Part} {xs : List Label} → Ahead ps xs → Ahead (maybe a ∷ ps) xs
skip_ahead {a = a} {ps = ps} h = wider (told (skip {a = a} {ps = ps} stay)) h

take_ahead : {a : Part} {ps : List Part} {xs : List Label} → Ahead (a ∷ ps) xs → Ahead (maybe a ∷ ps) xs
take_ahead {a = a} {ps = ps} h = wider (told (take {a = a} {ps = ps} stay)) h

stop_ahead : {a : Part} {ps : List Part} {xs : List Label} → Ahead ps xs → Ahead (many a ∷ ps) xs
stop_ahead {a = a} {ps = ps} h = wider (told (stop {a = a} {ps = ps} stay)) h

again_ahead : {a : Part} {ps : List Part} {xs : List Label} → Ahead (a ∷ many a ∷ ps) xs → Ahead (many a ∷ ps) xs
again_ahead {a = a} {ps = ps} h = wider (told (again {a = a} {ps = ps} stay)) h

head_ahead : {p : Role} {ps : List Part} {xs : List Label} → Ahead (name p ∷ pattern_arguments p ∷ ps) xs → Ahead (pattern p ∷ ps) xs
head_ahead {p = p} {ps = ps} h = wider (told (head {p = p} {ps = ps} stay)) h

grouped : {ps : List Part} (xs ys zs : List Label) → Ahead ps (xs ++ (ys ++ zs)) → Ahead ps ((xs ++ ys) ++ zs)
grouped {ps = ps} xs ys zs h = subst (Ahead ps) (sym (append_assoc xs ys zs)) h

mutual
  pattern_ahead : (p : Role) → (v : Tree p) → (ps : List Part) → (xs : List Label) → Ahead ps xs → Ahead (pattern p ∷ ps) (labelled_pattern v ++ xs)
  pattern_ahead p (leaf n) ps xs h = head_ahead (one_ahead n (skip_ahead h))
  pattern_ahead p (node n opening argument more closing) ps xs h =
      head_ahead (one_ahead n (take_ahead (both_ahead (one_ahead opening (both_ahead
      (grouped (labelled_pattern argument) (labelled_more more ++ label closing ∷ []) xs (pattern_ahead p argument _ _ (both_ahead
      (grouped (labelled_more more) (label closing ∷ []) xs (more_ahead p more _ _ (one_ahead closing h)))))))))))

  more_ahead : (p : Role) → (vs : Trees p) → (ps : List Part) → (xs : List Label) → Ahead ps xs → Ahead (many (next_argument p) ∷ ps) (labelled_more vs ++ xs)
  more_ahead p none ps xs h = stop_ahead h
  more_ahead p (comma mark next more) ps xs h =
      again_ahead (both_ahead (one_ahead mark (grouped (labelled_pattern next) (labelled_more more) xs (pattern_ahead p next _ _ (more_ahead p more ps xs h)))))

many_ahead : (a : Part) (vs : List (Value a)) (ps : List Part) (xs : List Label)
    → ((v : Value a) (qs : List Part) (ys : List Label) → Ahead qs ys → Ahead (a ∷ qs) (labelled a v ++ ys)) → Ahead ps xs → Ahead (many a ∷ ps) (flat_map (labelled a) vs ++ xs)
many_ahead a [] ps xs f h = stop_ahead h
many_ahead a (v ∷ vs) ps xs f h = again_ahead (grouped (labelled a v) (flat_map (labelled a) vs) xs (f v _ _ (many_ahead a vs ps xs f h)))

tree_ahead : (p : Part) (v : Value p) (ps : List Part) (xs : List Label) → Ahead ps xs → Ahead (p ∷ ps) (labelled p v ++ xs)
tree_ahead (one t) v ps xs h = one_ahead v h
tree_ahead (a then b) v ps xs h = both_ahead (grouped (labelled a v.0) (labelled b v.1) xs (tree_ahead a v.0 _ _ (tree_ahead b v.1 ps xs h)))
tree_ahead (a or b) (inl v) ps xs h = first_ahead (tree_ahead a v ps xs h)
tree_ahead (a or b) (inr v) ps xs h = second_ahead (tree_ahead b v ps xs h)
tree_ahead (maybe a) None ps xs h = skip_ahead h
tree_ahead (maybe a) (Some v) ps xs h = take_ahead (tree_ahead a v ps xs h)
tree_ahead (many a) vs ps xs h = many_ahead a vs ps xs (tree_ahead a) h
tree_ahead (pattern p) v ps xs h = pattern_ahead p v ps xs h

-- ---- a derivation is read by its labels

-- what one token gives at a choice
abbrev step : End → Declared → Lexeme → List Lexeme → Option Choice → Outcome
step end d x rest choice = unless (row (terminal_of choice) d x) x (outcome end (behind choice) (added choice x d) rest)

outcome_judge : (end : End) → end.ending ≡ Whole → {xs : List Label} {ps : List Part} (d : Declared) → all_decide ps ≡ true → Ahead ps xs → outcome end ps d (tokens_of xs) ≡ judge end d xs
outcome_judge end w d decided (done {ps = ps} e) = ap (λ z. ends_by z end ps d) w ∙ ap (λ b. end_by (end_row b d) end d) e
outcome_judge end w d decided (further {ps = ps} {x = x} {xs = xs} k e h) =
    ap (step end d x.1 (tokens_of xs)) (finds x.1 ps decided k e)
    ∙ ap (unless (row (Some x.0) d x.1) x.1) (outcome_judge end w (adds x.0 x.1.text d) (choice_decides ps k decided) h)

-- the tokens of a file's tree are read as its labels are
pub file_judge : (end : End) → end.ending ≡ Whole → (v : Value file) (d : Declared) → outcome end (file ∷ []) d (spelling file v) ≡ judge end d (labelled file v)
file_judge end w v d =
    ap (outcome end (file ∷ []) d) (sym (labelled_tokens file v))
    ∙ outcome_judge end w d file_decides (subst (Ahead (file ∷ [])) (append-nil (labelled file v)) (tree_ahead file v [] [] (done refl)))

-- ---- what is read is a derivation

or_some : {A : Type 0} (a : Option A) (k : A) → earlier a (Some k) ≡ None → ⊥
or_some None k e = cc
or_some (Some a) k e = cc

or_rest : {A : Type 0} (a b : Option A) → earlier a b ≡ None → b ≡ None
or_rest None b e = e
or_rest (Some a) b e = cc

-- where the grammar has no terminal for a token, a row fits
no_row : (d : Declared) (x : Lexeme) → row None d x ≡ None → ⊥
unfolding row expected
no_row d x e = let h = or_rest (when (wrong_arity d x) _) _ (or_rest (when (is_closed_word x) _) _ e) in cc

-- an outcome without a fault is the one after the token, at which no row fits
pub no_fault : (k : Option SpecKind) (x : Lexeme) (o : Outcome) (e : Declared) → unless k x o ≡ Ok e → (k ≡ None) × (o ≡ Ok e)
no_fault None x o e h = (refl, h)
no_fault (Some k) x o e h = cc

end_allowed : (b : Bool) (d : Declared) (end : End) (e : Declared) → end_by (end_row b d) end d ≡ Ok e → b ≡ true
unfolding end_row
end_allowed true d end e h = refl
end_allowed false d end e h = cc

-- the tokens are derived, and the text has no other bytes
abbrev IsDerived : End → List Part → List Lexeme → Type 0
IsDerived end ps xs = (end.ending ≡ Whole) × Derives ps xs

ends_derived : (end : End) (a : Ending) (ps : List Part) (d e : Declared) → ends_by a end ps d ≡ Ok e → (a ≡ Whole) × Derives ps []
ends_derived end Whole ps d e h = (refl, all_pass ps (end_allowed (list_all empties ps) d end e h))
ends_derived end (Stopped why line column) ps d e h = cc

outcome_derived : (end : End) (xs : List Lexeme) (ps : List Part) (d e : Declared) → outcome end ps d xs ≡ Ok e → IsDerived end ps xs
outcome_derived end [] ps d e h = ends_derived end end.ending ps d e h
outcome_derived end (x ∷ xs) ps d e h = by_choice (choice_of ps x) refl h (λ qs c. outcome_derived end xs qs c e)
  where
    by_choice : (o : Option Choice) → choice_of ps x ≡ o → step end d x xs o ≡ Ok e
        → ((qs : List Part) (c : Declared) → outcome end qs c xs ≡ Ok e → IsDerived end qs xs) → IsDerived end ps (x ∷ xs)
    by_choice None is g more = absurd (no_row d x (no_fault _ _ _ _ g).0)
    by_choice (Some c) is g more =
        let f = found_fits x (choices ps) c is in
        let k = more c.behind (adds c.terminal x.text d) (no_fault _ _ _ _ g).1 in
        (k.0, through (choice_opens ps f.among) (token f.matched k.1))

-- what is read to the end of the text is the tokens of a tree, and is what its labels say
pub record ReadsTree (end : End) (d : Declared) (tokens : List Lexeme) (e : Declared) : Type 0 where
  pub whole : end.ending ≡ Whole
  pub tree : Value file
  pub tokens_are : spelling file tree ≡ tokens
  pub judged : judge end d (labelled file tree) ≡ Ok e

pub file_read : (end : End) (d : Declared) (tokens : List Lexeme) (e : Declared) → outcome end (file ∷ []) d tokens ≡ Ok e → ReadsTree end d tokens e
file_read end d tokens e h =
    let k = outcome_derived end tokens (file ∷ []) d e h in
    let v = file_tree tokens k.1 in
    record { whole = k.0; tree = v.0; tokens_are = v.1; judged = sym (file_judge end k.0 v.0 d) ∙ ap (outcome end (file ∷ []) d) v.1 ∙ h }
