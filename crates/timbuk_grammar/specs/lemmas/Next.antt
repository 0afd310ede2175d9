-- What a derivation does next is among the computed choices.
-- (Nobody has to believe what stands here: it is proved, for the proofs of this crate and of those above.)
use Rattle.std.proofs.Common.{◌≡◌, inl, inr, Bool, true, false, ◌&&◌, ◌||◌, cond, List, [], ◌∷◌, ◌++◌, refl, sym, subst, append_assoc}
use Rattle.std.proofs.lemmas.List.{append-nil}
use Rattle.timbuk_lex.specs.declared.lexeme.Lexeme.{Lexeme}
use Rattle.timbuk_grammar.specs.Matching.{matches}
use Rattle.timbuk_grammar.specs.declared.terminal.Role.{Role}
use Rattle.timbuk_grammar.specs.Grammar.{Part, ◌then◌, ◌or◌, maybe, many, pattern, name, pattern_arguments}
use Rattle.timbuk_grammar.specs.Derivations.{Opens, stay, token, both, first, second, skip, take, stop, again, head}
use Rattle.timbuk_grammar.specs.Next.{empties, may_end, Choice, begins, choices}
use Rattle.timbuk_grammar.specs.lemmas.Choices.{Among, here, among_left, among_right, among_either, among_if}

-- What may come next at the one may come at the other.
pub record Within (qs ps : List Part) : Type 0 where
  pub choice : (c : Choice) → Among c (choices qs) → Among c (choices ps)
  pub ending : may_end qs ≡ true → may_end ps ≡ true

-- The token is taken by a choice, and the others after it.
pub record Goes (ps : List Part) (x : Lexeme) (xs : List Lexeme) (rs : List Part) : Type 0 where
  pub choice : Choice
  pub among : Among choice (choices ps)
  pub matched : matches choice.terminal x ≡ true
  pub after : Opens choice.behind xs rs

-- what a derivation of these tokens does next
abbrev pub Told : List Part → List Lexeme → List Part → Type 0
Told ps [] rs = Within rs ps
Told ps (x ∷ xs) rs = Goes ps x xs rs

wider : (xs : List Lexeme) (rs : List Part) {ps qs : List Part} → Within qs ps → Told qs xs rs → Told ps xs rs
wider [] rs w h = record { choice = λ c k. w.choice c (h.choice c k); ending = λ e. w.ending (h.ending e) }
wider (x ∷ xs) rs w h = record { choice = h.choice; among = w.choice h.choice h.among; matched = h.matched; after = h.after }

-- ---- a part and what it is taken apart to

among_when : {c : Choice} (b : Bool) {cs : List Choice} → b ≡ true → Among c cs → Among c (cond b cs [])
among_when true e h = h
among_when false e h = cc

widen : {c : Choice} (xs ys zs : List Choice) (a b : Bool) → (Among c xs → Among c ys) → (a ≡ true → b ≡ true)
    → Among c (xs ++ cond a zs []) → Among c (ys ++ cond b zs [])
widen xs ys zs a b f g h = elim (among_either xs h) [
  | inl k ↦ among_left (cond b zs []) (f k)
  | inr k ↦ let e = among_if a zs k in among_right ys (among_when b (g e.0) e.1)
]

pub or_first : (a b : Bool) → a ≡ true → (a || b) ≡ true
or_first true b e = refl
or_first false b e = cc

pub or_second : (a b : Bool) → b ≡ true → (a || b) ≡ true
or_second true b e = refl
or_second false b e = e

same_within : (ps : List Part) → Within ps ps
same_within ps = record { choice = λ c h. h; ending = λ e. e }

-- what may come next at two parts, one after the other, is grouped either way
pub then_groups : {A : Type 0} (a b : Bool) (xs ys zs : List A)
    → xs ++ cond a (ys ++ cond b zs []) [] ≡ (xs ++ cond a ys []) ++ cond (a && b) zs []
then_groups true b xs ys zs = sym (append_assoc xs ys (cond b zs []))
then_groups false b xs ys zs = sym (append-nil (xs ++ []))

then_ending : (a b e : Bool) → (a && (b && e)) ≡ true → ((a && b) && e) ≡ true
then_ending true b e h = h
then_ending false b e h = h

then_within : (a b : Part) (ps : List Part) → Within (a ∷ b ∷ ps) (a then b ∷ ps)
then_within a b ps = record {
  choice = λ c h. subst (Among c) (then_groups (empties a) (empties b) (begins a (b ∷ ps)) (begins b ps) (choices ps)) h;
  ending = then_ending (empties a) (empties b) (may_end ps);
}

either_ending : (a b e : Bool) → (a ≡ true → b ≡ true) → (a && e) ≡ true → (b && e) ≡ true
either_ending true true e f h = h
either_ending true false e f h = let k = f refl in cc
either_ending false b e f h = cc

first_within : (a b : Part) (ps : List Part) → Within (a ∷ ps) (a or b ∷ ps)
first_within a b ps = record {
  choice = λ c. widen (begins a ps) (begins a ps ++ begins b ps) (choices ps) (empties a) (empties a || empties b) (among_left (begins b ps)) (or_first (empties a) (empties b));
  ending = either_ending (empties a) (empties a || empties b) (may_end ps) (or_first (empties a) (empties b));
}

second_within : (a b : Part) (ps : List Part) → Within (b ∷ ps) (a or b ∷ ps)
second_within a b ps = record {
  choice = λ c. widen (begins b ps) (begins a ps ++ begins b ps) (choices ps) (empties b) (empties a || empties b) (among_right (begins a ps)) (or_second (empties a) (empties b));
  ending = either_ending (empties b) (empties a || empties b) (may_end ps) (or_second (empties a) (empties b));
}

skip_within : (a : Part) (ps : List Part) → Within ps (maybe a ∷ ps)
skip_within a ps = record { choice = λ c h. among_right (begins a ps) h; ending = λ e. e }

take_within : (a : Part) (ps : List Part) → Within (a ∷ ps) (maybe a ∷ ps)
take_within a ps = record {
  choice = λ c. widen (begins a ps) (begins a ps) (choices ps) (empties a) true (λ h. h) (λ e. refl);
  ending = either_ending (empties a) true (may_end ps) (λ e. refl);
}

stop_within : (a : Part) (ps : List Part) → Within ps (many a ∷ ps)
stop_within a ps = record { choice = λ c h. among_right (begins a (many a ∷ ps)) h; ending = λ e. e }

again_within : (a : Part) (ps : List Part) → Within (a ∷ many a ∷ ps) (many a ∷ ps)
again_within a ps = record {
  choice = λ c h. elim (among_either (begins a (many a ∷ ps)) h) [ inl k ↦ among_left (choices ps) k | inr k ↦ (among_if (empties a) (choices (many a ∷ ps)) k).1 ];
  ending = either_ending (empties a) true (may_end ps) (λ e. refl);
}

head_within : (p : Role) (ps : List Part) → Within (name p ∷ pattern_arguments p ∷ ps) (pattern p ∷ ps)
head_within p ps = record { choice = λ c h. h; ending = λ e. e }

pub told : {ps rs : List Part} {xs : List Lexeme} → Opens ps xs rs → Told ps xs rs
told (stay {ps = ps}) = same_within ps
told (token {t = t} {ps = ps} e d) = record { choice = record { terminal = t; behind = ps }; among = here; matched = e; after = d }
told {rs = rs} {xs = xs} (both {a = a} {b = b} {ps = ps} d) = wider xs rs (then_within a b ps) (told d)
told {rs = rs} {xs = xs} (first {a = a} {b = b} {ps = ps} d) = wider xs rs (first_within a b ps) (told d)
told {rs = rs} {xs = xs} (second {a = a} {b = b} {ps = ps} d) = wider xs rs (second_within a b ps) (told d)
told {rs = rs} {xs = xs} (skip {a = a} {ps = ps} d) = wider xs rs (skip_within a ps) (told d)
told {rs = rs} {xs = xs} (take {a = a} {ps = ps} d) = wider xs rs (take_within a ps) (told d)
told {rs = rs} {xs = xs} (stop {a = a} {ps = ps} d) = wider xs rs (stop_within a ps) (told d)
told {rs = rs} {xs = xs} (again {a = a} {ps = ps} d) = wider xs rs (again_within a ps) (told d)
told {rs = rs} {xs = xs} (head {p = p} {ps = ps} d) = wider xs rs (head_within p ps) (told d)
