-- One token decides: the computed choices of the grammar are apart, whatever was read.
-- (Nobody has to believe what stands here: it is proved, for the proofs of this crate and of those above.)
use Rattle.std.proofs.Common.{◌≡◌, inl, inr, Bool, true, false, ◌&&◌, ◌||◌, not, cond, List, [], ◌∷◌, ◌++◌, map, refl, ap, ◌∙◌, subst}
use Rattle.std.specs.Prelude.{find, Some}
use Rattle.std.specs.List.{list_all}
use Rattle.std.proofs.lemmas.Bool.{and_parts, and_from}
use Rattle.std.proofs.lemmas.List.{append-nil, map-append}
use Rattle.timbuk_lex.specs.declared.lexeme.Lexeme.{Lexeme}
use Rattle.timbuk_grammar.specs.Vocabulary.{is_reserved, is_closed}
use Rattle.timbuk_grammar.specs.Matching.{matches}
use Rattle.timbuk_grammar.specs.declared.terminal.Terminal.{Terminal}
use Rattle.timbuk_grammar.specs.declared.terminal.Terminal.TheVariants as terminal
use Rattle.timbuk_grammar.specs.Grammar.{Part, one, ◌then◌, ◌or◌, maybe, many, pattern, file}
use Rattle.timbuk_grammar.specs.Next.{empties, Choice, begins, choices, choice_of}
use Rattle.timbuk_grammar.specs.lemmas.Differ.{are_apart, apart, other_way, not_true}
use Rattle.timbuk_grammar.specs.lemmas.Choices.{Among, here, later, among_either, among_if}
use Rattle.timbuk_grammar.specs.lemmas.Next.{then_groups}

-- no token fits two of these terminals
abbrev pub all_apart : List Terminal → Bool
all_apart [] = true
all_apart (t ∷ ts) = list_all (are_apart t) ts && all_apart ts

-- the terminals with which a part begins
abbrev pub firsts : Part → List Terminal
firsts (one t) = t ∷ []
firsts (a then b) = firsts a ++ cond (empties a) (firsts b) []
firsts (a or b) = firsts a ++ firsts b
firsts (maybe a) = firsts a
firsts (many a) = firsts a
firsts (pattern p) = terminal.Named p ∷ []

-- the terminals that may come next at a part, where these may come next behind it
abbrev pub ahead : Part → List Terminal → List Terminal
ahead p ts = firsts p ++ cond (empties p) ts []

-- One token decides at each place in the part, where these terminals may come next behind it.
abbrev pub decides : Part → List Terminal → Bool
decides (one t) ts = true
decides (a then b) ts = decides a (ahead b ts) && decides b ts
decides (a or b) ts = decides a ts && (decides b ts && (all_apart (firsts a ++ firsts b) && (not (empties a) && not (empties b))))
decides (maybe a) ts = decides a ts && (all_apart (firsts a ++ ts) && not (empties a))
decides (many a) ts = decides a (firsts a ++ ts) && (all_apart (firsts a ++ ts) && not (empties a))
decides (pattern p) ts = all_apart (terminal.OpenParen ∷ ts)

-- the terminals that may come next at these parts
abbrev pub nexts : List Part → List Terminal
nexts [] = []
nexts (p ∷ ps) = ahead p (nexts ps)

abbrev pub all_decide : List Part → Bool
all_decide [] = true
all_decide (p ∷ ps) = decides p (nexts ps) && all_decide ps

-- the grammar is decided by one token
pub file_decides : all_decide (file ∷ []) ≡ true
unfolding is_reserved is_closed
file_decides = refl

-- ---- what may come next is apart

or_apart : (a b : Bool) (xs ts : List Terminal) → a ≡ false → b ≡ false → all_apart xs ≡ true → all_apart (xs ++ cond (a || b) ts []) ≡ true
or_apart true b xs ts e f h = cc
or_apart false true xs ts e f h = cc
or_apart false false xs ts e f h = rw append-nil h

ahead_apart : (p : Part) (ts : List Terminal) → decides p ts ≡ true → all_apart ts ≡ true → all_apart (ahead p ts) ≡ true
ahead_apart (one t) ts d h = refl
ahead_apart (a then b) ts d h =
    let k = and_parts _ _ d in
    subst (λ z. all_apart z ≡ true) (then_groups (empties a) (empties b) (firsts a) (firsts b) ts) (ahead_apart a (ahead b ts) k.0 (ahead_apart b ts k.1 h))
ahead_apart (a or b) ts d h =
    let k = and_parts _ _ (and_parts _ _ (and_parts _ _ d).1).1 in
    let l = and_parts _ _ k.1 in
    or_apart (empties a) (empties b) (firsts a ++ firsts b) ts (not_true (empties a) l.0) (not_true (empties b) l.1) k.0
ahead_apart (maybe a) ts d h = (and_parts _ _ (and_parts _ _ d).1).0
ahead_apart (many a) ts d h = (and_parts _ _ (and_parts _ _ d).1).0
ahead_apart (pattern p) ts d h = refl

nexts_apart : (ps : List Part) → all_decide ps ≡ true → all_apart (nexts ps) ≡ true
nexts_apart [] d = refl
nexts_apart (p ∷ ps) d = let k = and_parts _ _ d in ahead_apart p (nexts ps) k.0 (nexts_apart ps k.1)

-- ---- the terminals of the choices

abbrev pub terminals : List Choice → List Terminal
terminals cs = map (λ c. c.terminal) cs

terminals_if : (b : Bool) (cs : List Choice) → terminals (cond b cs []) ≡ cond b (terminals cs) []
terminals_if true cs = refl
terminals_if false cs = refl

two_terminals : (cs ds : List Choice) (b : Bool) (ts us : List Terminal) → terminals cs ≡ ts → terminals ds ≡ us
    → terminals (cs ++ cond b ds []) ≡ ts ++ cond b us []
two_terminals cs ds b ts us e f =
    map-append _ cs (cond b ds []) ∙ ap (λ z. z ++ terminals (cond b ds [])) e
    ∙ ap (λ z. ts ++ z) (terminals_if b ds ∙ ap (λ z. cond b z []) f)

pub begins_firsts : (p : Part) (ps : List Part) → terminals (begins p ps) ≡ firsts p
begins_firsts (one t) ps = refl
begins_firsts (a then b) ps =
    two_terminals (begins a (b ∷ ps)) (begins b ps) (empties a) (firsts a) (firsts b) (begins_firsts a (b ∷ ps)) (begins_firsts b ps)
begins_firsts (a or b) ps = two_terminals (begins a ps) (begins b ps) true (firsts a) (firsts b) (begins_firsts a ps) (begins_firsts b ps)
begins_firsts (maybe a) ps = begins_firsts a ps
begins_firsts (many a) ps = begins_firsts a (many a ∷ ps)
begins_firsts (pattern p) ps = refl

choices_nexts : (ps : List Part) → terminals (choices ps) ≡ nexts ps
choices_nexts [] = refl
choices_nexts (p ∷ ps) = two_terminals (begins p ps) (choices ps) (empties p) (firsts p) (nexts ps) (begins_firsts p ps) (choices_nexts ps)

-- ---- the token finds its choice

among_terminals : (cs : List Choice) {c : Choice} → Among c cs → Among c.terminal (terminals cs)
among_terminals (c ∷ cs) here = here
among_terminals (d ∷ cs) (later h) = later (among_terminals cs h)
among_terminals [] h = elim h [ ]

pub apart_from : (t : Terminal) (ts : List Terminal) {u : Terminal} → list_all (are_apart t) ts ≡ true → Among u ts → are_apart t u ≡ true
apart_from t [] e h = elim h [ ]
apart_from t (u ∷ ts) e here = (and_parts _ _ e).0
apart_from t (v ∷ ts) e (later h) = apart_from t ts (and_parts _ _ e).1 h

found : (x : Lexeme) (cs : List Choice) {c : Choice} → all_apart (terminals cs) ≡ true → Among c cs → matches c.terminal x ≡ true
    → find (λ d. matches d.terminal x) cs ≡ Some c
found x [] e h m = elim h [ ]
found x (c ∷ cs) e here m = rw m refl
found x (d ∷ cs) {c = c} e (later h) m =
    let k = and_parts _ _ e in
    let no : matches d.terminal x ≡ false = other_way _ _ (apart d.terminal c.terminal x (apart_from d.terminal (terminals cs) k.0 (among_terminals cs h))) m in
    rw no (found x cs k.1 h m)

-- where one token decides, the choice that a token fits is the one that is found
pub finds : (x : Lexeme) (ps : List Part) {c : Choice} → all_decide ps ≡ true → Among c (choices ps) → matches c.terminal x ≡ true
    → choice_of ps x ≡ Some c
finds x ps d = found x (choices ps) (ap all_apart (choices_nexts ps) ∙ nexts_apart ps d)

pub record Fits (x : Lexeme) (cs : List Choice) (c : Choice) : Type 0 where
  pub among : Among c cs
  pub matched : matches c.terminal x ≡ true

found_by : (x : Lexeme) (d : Choice) (cs : List Choice) (c : Choice) (m : Bool) → matches d.terminal x ≡ m
    → (find (λ e. matches e.terminal x) cs ≡ Some c → Fits x cs c)
    → cond m (Some d) (find (λ e. matches e.terminal x) cs) ≡ Some c → Fits x (d ∷ cs) c
found_by x d cs c true m more e = let k : d ≡ c = cc in subst (Fits x (d ∷ cs)) k (record { among = here; matched = m })
found_by x d cs c false m more e = let h = more e in record { among = later h.among; matched = h.matched }

-- what is found fits
pub found_fits : (x : Lexeme) (cs : List Choice) (c : Choice) → find (λ d. matches d.terminal x) cs ≡ Some c → Fits x cs c
found_fits x [] c e = cc
found_fits x (d ∷ cs) c e = found_by x d cs c (matches d.terminal x) refl (found_fits x cs c) e

-- ---- one token decides further on

begins_decide : (p : Part) (ps : List Part) {c : Choice} → Among c (begins p ps) → decides p (nexts ps) ≡ true → all_decide ps ≡ true
    → all_decide c.behind ≡ true
begins_decide (one t) ps here d h = h
begins_decide (one t) ps (later k) d h = elim k [ ]
begins_decide (a then b) ps k d h =
    let e = and_parts _ _ d in
    elim (among_either (begins a (b ∷ ps)) k) [
      | inl l ↦ begins_decide a (b ∷ ps) l e.0 (and_from _ _ e.1 h)
      | inr l ↦ begins_decide b ps (among_if (empties a) (begins b ps) l).1 e.1 h
    ]
begins_decide (a or b) ps k d h =
    let e = and_parts _ _ d in
    elim (among_either (begins a ps) k) [ inl l ↦ begins_decide a ps l e.0 h | inr l ↦ begins_decide b ps l (and_parts _ _ e.1).0 h ]
begins_decide (maybe a) ps k d h = begins_decide a ps k (and_parts _ _ d).0 h
begins_decide (many a) ps k d h = begins_decide a (many a ∷ ps) k (and_parts _ _ d).0 (and_from _ _ d h)
begins_decide (pattern p) ps here d h = and_from _ _ (and_from _ _ d refl) h
begins_decide (pattern p) ps (later k) d h = elim k [ ]

pub choice_decides : (ps : List Part) {c : Choice} → Among c (choices ps) → all_decide ps ≡ true → all_decide c.behind ≡ true
choice_decides [] k d = elim k [ ]
choice_decides (p ∷ ps) k d =
    let e = and_parts _ _ d in
    elim (among_either (begins p ps) k) [ inl l ↦ begins_decide p ps l e.0 e.1 | inr l ↦ choice_decides ps (among_if (empties p) (choices ps) l).1 e.1 ]
