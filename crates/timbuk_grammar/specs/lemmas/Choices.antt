-- The computed choices are what derivations do next.
-- (Nobody has to believe what stands here: it is proved, for the proofs of this crate and of those above.)
use Rattle.std.proofs.Common.{◌≡◌, ◌⊎◌, inl, inr, Bool, true, false, ◌||◌, cond, List, [], ◌∷◌, ◌++◌, refl}
use Rattle.std.proofs.lemmas.Bool.{and_parts}
use Rattle.timbuk_lex.specs.declared.lexeme.Lexeme.{Lexeme}
use Rattle.timbuk_grammar.specs.Grammar.{Part, one, ◌then◌, ◌or◌, maybe, many, pattern}
use Rattle.timbuk_grammar.specs.Derivations.{Opens, stay, token, both, first, second, skip, take, stop, again, head, Derives}
use Rattle.timbuk_grammar.specs.Next.{empties, may_end, Choice, begins, choices}

-- one of these
pub data Among {A : Type 0} (a : A) : List A → Type 0 where
  here : {xs : List A} → Among a (a ∷ xs)
  later : {b : A} {xs : List A} → Among a xs → Among a (b ∷ xs)

pub among_left : {A : Type 0} {a : A} {xs : List A} (ys : List A) → Among a xs → Among a (xs ++ ys)
among_left ys here = here
among_left ys (later h) = later (among_left ys h)

pub among_right : {A : Type 0} {a : A} (xs : List A) {ys : List A} → Among a ys → Among a (xs ++ ys)
among_right [] h = h
among_right (x ∷ xs) h = later (among_right xs h)

pub among_either : {A : Type 0} {a : A} (xs : List A) {ys : List A} → Among a (xs ++ ys) → Among a xs ⊎ Among a ys
among_either [] h = inr h
among_either (x ∷ xs) here = inl here
among_either (x ∷ xs) (later h) = elim (among_either xs h) [ inl a ↦ inl (later a) | inr b ↦ inr b ]

pub among_if : {A : Type 0} {a : A} (b : Bool) (xs : List A) → Among a (cond b xs []) → (b ≡ true) × Among a xs
among_if true xs h = (refl, h)
among_if false xs h = elim h [ ]

-- ---- derivations read off the choices

-- derivations that follow one another
pub through : {ps qs rs : List Part} {xs ys : List Lexeme} → Opens ps xs qs → Opens qs ys rs → Opens ps (xs ++ ys) rs
through stay d = d
through (token e h) d = token e (through h d)
through (both h) d = both (through h d)
through (first h) d = first (through h d)
through (second h) d = second (through h d)
through (skip h) d = skip (through h d)
through (take h) d = take (through h d)
through (stop h) d = stop (through h d)
through (again h) d = again (through h d)
through (head h) d = head (through h d)

empty_or : (a b : Bool) → (a || b) ≡ true → (a ≡ true) ⊎ (b ≡ true)
empty_or true b e = inl refl
empty_or false b e = inr e

passes : (p : Part) (ps : List Part) → empties p ≡ true → Opens (p ∷ ps) [] ps
passes (one t) ps e = cc
passes (a then b) ps e = let h = and_parts (empties a) (empties b) e in both (through (passes a (b ∷ ps) h.0) (passes b ps h.1))
passes (a or b) ps e = elim (empty_or (empties a) (empties b) e) [ inl h ↦ first (passes a ps h) | inr h ↦ second (passes b ps h) ]
passes (maybe a) ps e = skip stay
passes (many a) ps e = stop stay
passes (pattern p) ps e = cc

begins_opens : (p : Part) (ps : List Part) {c : Choice} → Among c (begins p ps) → Opens (p ∷ ps) [] (one c.terminal ∷ c.behind)
begins_opens (one t) ps here = stay
begins_opens (one t) ps (later h) = elim h [ ]
begins_opens (a then b) ps h = elim (among_either (begins a (b ∷ ps)) h) [
  | inl k ↦ both (begins_opens a (b ∷ ps) k)
  | inr k ↦ let e = among_if (empties a) (begins b ps) k in both (through (passes a (b ∷ ps) e.0) (begins_opens b ps e.1))
]
begins_opens (a or b) ps h = elim (among_either (begins a ps) h) [ inl k ↦ first (begins_opens a ps k) | inr k ↦ second (begins_opens b ps k) ]
begins_opens (maybe a) ps h = take (begins_opens a ps h)
begins_opens (many a) ps h = again (begins_opens a (many a ∷ ps) h)
begins_opens (pattern p) ps here = head stay
begins_opens (pattern p) ps (later h) = elim h [ ]

-- each choice is opened by a derivation of no token
pub choice_opens : (ps : List Part) {c : Choice} → Among c (choices ps) → Opens ps [] (one c.terminal ∷ c.behind)
choice_opens [] h = elim h [ ]
choice_opens (p ∷ ps) h = elim (among_either (begins p ps) h) [
  | inl k ↦ begins_opens p ps k
  | inr k ↦ let e = among_if (empties p) (choices ps) k in through (passes p ps e.0) (choice_opens ps e.1)
]

-- parts that are all empty derive no token
pub all_pass : (ps : List Part) → may_end ps ≡ true → Derives ps []
all_pass [] e = stay
all_pass (p ∷ ps) e = let h = and_parts (empties p) (may_end ps) e in through (passes p ps h.0) (all_pass ps h.1)
