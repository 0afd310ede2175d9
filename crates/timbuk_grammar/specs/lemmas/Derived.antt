-- What is derived is what a tree spells.
-- (Nobody has to believe what stands here: it is proved, for the proofs of this crate and of those above.)
use Rattle.std.proofs.Common.{◌≡◌, inl, inr, List, [], ◌∷◌, ◌++◌, refl, ap, sym, ◌∙◌, subst, append_assoc}
use Rattle.std.specs.Prelude.{Some, None, flat_map}
use Rattle.std.proofs.lemmas.List.{append-nil}
use Rattle.timbuk_lex.specs.declared.lexeme.Lexeme.{Lexeme}
use Rattle.timbuk_grammar.specs.declared.terminal.Terminal.TheVariants as terminal
use Rattle.timbuk_grammar.specs.declared.terminal.Role.{Role}
use Rattle.timbuk_grammar.specs.Grammar.{Part, one, ◌then◌, ◌or◌, maybe, many, pattern, pattern_arguments, file}
use Rattle.timbuk_grammar.specs.Derivations.{Opens, stay, token, both, first, second, skip, take, stop, again, head, Derives, NextEnd}
use Rattle.timbuk_grammar.specs.Trees.{Token, Tree, leaf, node, Trees, none, comma, Value, pattern_spelling, more_spelling, spelling, IsFile}
use Rattle.timbuk_grammar.specs.lemmas.Choices.{through}

-- a comma and the argument after it
abbrev pub next_argument : Role → Part
next_argument p = one terminal.Comma then pattern p

-- ---- what a tree spells is derived

mutual
  pattern_opens : (p : Role) → (v : Tree p) → (ps : List Part) → Opens (pattern p ∷ ps) (pattern_spelling p v) ps
  pattern_opens p (leaf n) ps = head (token n.matched (skip stay))
  pattern_opens p (node n opening argument more closing) ps =
      head (token n.matched (take (both (token opening.matched (both
      (through (pattern_opens p argument _) (both (through (more_opens p more _) (token closing.matched stay)))))))))

  more_opens : (p : Role) → (vs : Trees p) → (ps : List Part) → Opens (many (next_argument p) ∷ ps) (more_spelling p vs) ps
  more_opens p none ps = stop stay
  more_opens p (comma mark next more) ps = again (both (token mark.matched (through (pattern_opens p next _) (more_opens p more ps))))

many_opens : (a : Part) (vs : List (Value a)) (ps : List Part) → ((v : Value a) (qs : List Part) → Opens (a ∷ qs) (spelling a v) qs)
    → Opens (many a ∷ ps) (flat_map (spelling a) vs) ps
many_opens a [] ps h = stop stay
many_opens a (v ∷ vs) ps h = again (through (h v (many a ∷ ps)) (many_opens a vs ps h))

pub tree_opens : (p : Part) (v : Value p) (ps : List Part) → Opens (p ∷ ps) (spelling p v) ps
tree_opens (one t) v ps = token v.matched stay
tree_opens (a then b) v ps = both (through (tree_opens a v.0 (b ∷ ps)) (tree_opens b v.1 ps))
tree_opens (a or b) (inl v) ps = first (tree_opens a v ps)
tree_opens (a or b) (inr v) ps = second (tree_opens b v ps)
tree_opens (maybe a) None ps = skip stay
tree_opens (maybe a) (Some v) ps = take (tree_opens a v ps)
tree_opens (many a) vs ps = many_opens a vs ps (tree_opens a)
tree_opens (pattern p) v ps = pattern_opens p v ps

-- ---- what is derived is spelled by a tree

abbrev Values : List Part → Type 0
Values [] = Unit {0}
Values (p ∷ ps) = Value p × Values ps

abbrev spellings : (ps : List Part) → Values ps → List Lexeme
spellings [] vs = []
spellings (p ∷ ps) vs = spelling p vs.0 ++ spellings ps vs.1

-- trees of these parts that spell these tokens
abbrev Spelled : List Part → List Lexeme → Type 0
Spelled ps xs = (vs : Values ps) × (spellings ps vs ≡ xs)

-- the arguments after the first, from a list
more_of : (p : Role) → List (Value (next_argument p)) → Trees p
more_of p [] = none
more_of p (v ∷ vs) = comma v.0 v.1 (more_of p vs)

more_spelled : (p : Role) (vs : List (Value (next_argument p))) → more_spelling p (more_of p vs) ≡ flat_map (spelling (next_argument p)) vs
unfolding more_of
more_spelled p [] = refl
more_spelled p (v ∷ vs) = ap (λ z. v.0.lexeme ∷ (pattern_spelling p v.1 ++ z)) (more_spelled p vs)

-- a pattern, from its name and its arguments
tree_of : (p : Role) → Token (terminal.Named p) → Value (pattern_arguments p) → Tree p
tree_of p n None = leaf n
tree_of p n (Some v) = node n v.0 v.1.0 (more_of p v.1.1.0) v.1.1.1

tree_spelled : (p : Role) (n : Token (terminal.Named p)) (v : Value (pattern_arguments p))
    → pattern_spelling p (tree_of p n v) ≡ n.lexeme ∷ spelling (pattern_arguments p) v
unfolding tree_of
tree_spelled p n None = refl
tree_spelled p n (Some v) = ap (λ z. n.lexeme ∷ v.0.lexeme ∷ (pattern_spelling p v.1.0 ++ (z ++ v.1.1.1.lexeme ∷ []))) (more_spelled p v.1.1.0)

pub spelled : {ps : List Part} {xs : List Lexeme} → Derives ps xs → Spelled ps xs
spelled stay = (tt, refl)
spelled (token {x = x} e d) = let h = spelled d in ((record { lexeme = x; matched = e }, h.0), ap (λ z. x ∷ z) h.1)
spelled (both {a = a} {b = b} {ps = ps} d) =
    let h = spelled d in
    (((h.0.0, h.0.1.0), h.0.1.1), append_assoc (spelling a h.0.0) (spelling b h.0.1.0) (spellings ps h.0.1.1) ∙ h.1)
spelled (first d) = let h = spelled d in ((inl h.0.0, h.0.1), h.1)
spelled (second d) = let h = spelled d in ((inr h.0.0, h.0.1), h.1)
spelled (skip d) = let h = spelled d in ((None, h.0), h.1)
spelled (take d) = let h = spelled d in ((Some h.0.0, h.0.1), h.1)
spelled (stop d) = let h = spelled d in (([], h.0), h.1)
spelled (again {a = a} {ps = ps} d) =
    let h = spelled d in
    ((h.0.0 ∷ h.0.1.0, h.0.1.1), append_assoc (spelling a h.0.0) (flat_map (spelling a) h.0.1.0) (spellings ps h.0.1.1) ∙ h.1)
spelled (head {p = p} {ps = ps} d) =
    let h = spelled d in
    ((tree_of p h.0.0 h.0.1.0, h.0.1.1), ap (λ z. z ++ spellings ps h.0.1.1) (tree_spelled p h.0.0 h.0.1.0) ∙ h.1)

-- ---- files

pub file_tree : (xs : List Lexeme) → NextEnd xs → IsFile xs
file_tree xs n = let h = spelled n in (h.0.0, sym (append-nil (spelling file h.0.0)) ∙ h.1)

pub tree_file : (xs : List Lexeme) → IsFile xs → NextEnd xs
tree_file xs h = subst (Derives (file ∷ [])) h.1 (tree_opens file h.0 [])
