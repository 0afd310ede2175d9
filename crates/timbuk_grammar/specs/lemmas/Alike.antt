-- No two trees of a part that one token decides spell the same.
-- (Nobody has to believe what stands here: it is proved, for the proofs of this crate and of those above.)
use Rattle.std.proofs.Common.{◌≡◌, inl, inr, Bool, true, false, not, cond, List, [], ◌∷◌, ◌++◌, refl, ap, sym, ◌∙◌, subst, append_assoc}
use Rattle.std.proofs.Math.Bool.{Bool-set}
use Rattle.std.specs.Prelude.{Some, None, flat_map}
use Rattle.std.proofs.lemmas.Bool.{and_parts, and_from, both_ways}
use Rattle.std.proofs.lemmas.List.{append-nil}
use Rattle.timbuk_lex.specs.declared.lexeme.Lexeme.{Lexeme}
use Rattle.timbuk_grammar.specs.Matching.{matches}
use Rattle.timbuk_grammar.specs.declared.terminal.Terminal.{Terminal}
use Rattle.timbuk_grammar.specs.declared.terminal.Terminal.TheVariants as terminal
use Rattle.timbuk_grammar.specs.declared.terminal.Role.{Role}
use Rattle.timbuk_grammar.specs.Grammar.{Part, one, ◌then◌, ◌or◌, maybe, many, pattern, file}
use Rattle.timbuk_grammar.specs.Next.{empties}
use Rattle.timbuk_grammar.specs.Trees.{Token, Tree, leaf, node, Trees, none, comma, Value, pattern_spelling, more_spelling, spelling}
use Rattle.timbuk_grammar.specs.lemmas.Choices.{Among, here, later, among_left, among_right}
use Rattle.timbuk_grammar.specs.lemmas.Next.{or_first, or_second}
use Rattle.timbuk_grammar.specs.lemmas.Differ.{apart, not_true}
use Rattle.timbuk_grammar.specs.lemmas.Decided.{all_apart, apart_from, firsts, ahead, decides, file_decides}

-- ---- what the tokens of a part begin with

-- the token is one of these terminals
record Meets (x : Lexeme) (ts : List Terminal) : Type 0 where
  pub terminal : Terminal
  pub among : Among terminal ts
  pub matched : matches terminal x ≡ true

-- there is no token, or the first is one of these terminals
data Follows (ts : List Terminal) : List Lexeme → Type 0 where
  end : Follows ts []
  next : {x : Lexeme} {xs : List Lexeme} → Meets x ts → Follows ts (x ∷ xs)

-- the first token is one of these terminals
data Starts (ts : List Terminal) : List Lexeme → Type 0 where
  start : {x : Lexeme} {xs : List Lexeme} → Meets x ts → Starts ts (x ∷ xs)

-- tokens that a part may have
data Front (p : Part) : List Lexeme → Type 0 where
  empty : empties p ≡ true → Front p []
  begun : {x : Lexeme} {xs : List Lexeme} → Meets x (firsts p) → Front p (x ∷ xs)

left_meets : {x : Lexeme} {ts : List Terminal} (us : List Terminal) → Meets x ts → Meets x (ts ++ us)
left_meets us m = record { terminal = m.terminal; among = among_left us m.among; matched = m.matched }

right_meets : {x : Lexeme} (ts : List Terminal) {us : List Terminal} → Meets x us → Meets x (ts ++ us)
right_meets ts m = record { terminal = m.terminal; among = among_right ts m.among; matched = m.matched }

meets_when : {x : Lexeme} (b : Bool) {ts : List Terminal} → b ≡ true → Meets x ts → Meets x (cond b ts [])
meets_when true e m = m
meets_when false e m = cc

meets_apart : (ts us : List Terminal) (x : Lexeme) {t u : Terminal} → all_apart (ts ++ us) ≡ true → Among t ts → Among u us
    → matches t x ≡ true → matches u x ≡ true → ⊥
meets_apart [] us x e h k m n = elim h [ ]
meets_apart (t ∷ ts) us x {u = u} e here k m n = both_ways _ (apart t u x (apart_from t (ts ++ us) (and_parts _ _ e).0 (among_right ts k)) m) n
meets_apart (s ∷ ts) us x e (later h) k m n = meets_apart ts us x (and_parts _ _ e).1 h k m n

-- what starts with the ones does not follow with the others, where no token is one of both
apart_ends : (ts us : List Terminal) {xs ys : List Lexeme} → all_apart (ts ++ us) ≡ true → Starts ts xs → Follows us ys → xs ≡ ys → ⊥
apart_ends ts us e (start m) end is = cc
apart_ends ts us e (start {x = x} m) (next {x = y} n) is =
    let k : x ≡ y = cc in
    meets_apart ts us y e m.among n.among (subst (λ z. matches m.terminal z ≡ true) k m.matched) n.matched

then_front : (a b : Part) {xs ys : List Lexeme} → Front a xs → Front b ys → Front (a then b) (xs ++ ys)
then_front a b (empty e) (empty f) = empty (and_from _ _ e f)
then_front a b (empty e) (begun m) = begun (right_meets (firsts a) (meets_when (empties a) e m))
then_front a b (begun m) k = begun (left_meets (cond (empties a) (firsts b) []) m)

first_front : (a b : Part) {xs : List Lexeme} → Front a xs → Front (a or b) xs
first_front a b (empty e) = empty (or_first (empties a) (empties b) e)
first_front a b (begun m) = begun (left_meets (firsts b) m)

second_front : (a b : Part) {xs : List Lexeme} → Front b xs → Front (a or b) xs
second_front a b (empty e) = empty (or_second (empties a) (empties b) e)
second_front a b (begun m) = begun (right_meets (firsts a) m)

take_front : (a : Part) {xs : List Lexeme} → Front a xs → Front (maybe a) xs
take_front a (empty e) = empty refl
take_front a (begun m) = begun m

again_front : (a : Part) {xs ys : List Lexeme} → Front a xs → Front (many a) ys → Front (many a) (xs ++ ys)
again_front a (empty e) k = k
again_front a (begun m) k = begun m

many_front : (a : Part) (vs : List (Value a)) → ((v : Value a) → Front a (spelling a v)) → Front (many a) (flat_map (spelling a) vs)
many_front a [] h = empty refl
many_front a (v ∷ vs) h = again_front a (h v) (many_front a vs h)

is_token : {t : Terminal} (v : Token t) (ts : List Terminal) → Meets v.lexeme (t ∷ ts)
is_token {t = t} v ts = record { terminal = t; among = here; matched = v.matched }

pattern_front : (p : Role) (v : Tree p) → Front (pattern p) (pattern_spelling p v)
pattern_front p (leaf n) = begun (is_token n [])
pattern_front p (node n opening argument more closing) = begun (is_token n [])

-- what a tree spells begins as its part does
front : (p : Part) (v : Value p) → Front p (spelling p v)
front (one t) v = begun (is_token v [])
front (a then b) v = then_front a b (front a v.0) (front b v.1)
front (a or b) (inl v) = first_front a b (front a v)
front (a or b) (inr v) = second_front a b (front b v)
front (maybe a) None = empty refl
front (maybe a) (Some v) = take_front a (front a v)
front (many a) vs = many_front a vs (front a)
front (pattern p) v = pattern_front p v

ahead_follows : (p : Part) (ts : List Terminal) {xs ys : List Lexeme} → Front p xs → Follows ts ys → Follows (ahead p ts) (xs ++ ys)
ahead_follows p ts (empty e) end = end
ahead_follows p ts (empty e) (next m) = next (right_meets (firsts p) (meets_when (empties p) e m))
ahead_follows p ts (begun m) k = next (left_meets (cond (empties p) ts []) m)

starts : (p : Part) {xs : List Lexeme} (ys : List Lexeme) → not (empties p) ≡ true → Front p xs → Starts (firsts p) (xs ++ ys)
starts p ys e (empty f) = absurd (both_ways _ (not_true (empties p) e) f)
starts p ys e (begun m) = start m

begins_follows : {ts : List Terminal} {xs : List Lexeme} → Starts ts xs → Follows ts xs
begins_follows (start m) = next m

-- ---- two trees that spell the same

-- the same tree, and the same tokens behind it
abbrev Alike : {A : Type 0} → A → A → List Lexeme → List Lexeme → Type 0
Alike v w ys zs = (v ≡ w) × (ys ≡ zs)

token_path : {t : Terminal} (v w : Token t) → v.lexeme ≡ w.lexeme → v ≡ w
token_path {t = t} v w e =
    subst (λ z. (n : matches t z ≡ true) → v ≡ record { lexeme = z; matched = n }) e (λ n. ap (λ q. record { lexeme = v.lexeme; matched = q }) (Bool-set _ _ v.matched n)) w.matched

pair_path : {A B : Type 0} (v w : A × B) → v.0 ≡ w.0 → v.1 ≡ w.1 → v ≡ w
pair_path v w e f = ap (λ z. (z, v.1)) e ∙ ap (λ z. (w.0, z)) f

regroup : (xs ys zs xs' ys' zs' : List Lexeme) → (xs ++ ys) ++ zs ≡ (xs' ++ ys') ++ zs' → xs ++ (ys ++ zs) ≡ xs' ++ (ys' ++ zs')
regroup xs ys zs xs' ys' zs' e = sym (append_assoc xs ys zs) ∙ e ∙ append_assoc xs' ys' zs'

many_alike : (a : Part) (ts : List Terminal) (vs ws : List (Value a)) (ys zs : List Lexeme) → not (empties a) ≡ true
    → all_apart (firsts a ++ ts) ≡ true
    → ((v w : Value a) (ys zs : List Lexeme) → Follows (firsts a ++ ts) ys → Follows (firsts a ++ ts) zs → spelling a v ++ ys ≡ spelling a w ++ zs → Alike v w ys zs)
    → Follows ts ys → Follows ts zs → flat_map (spelling a) vs ++ ys ≡ flat_map (spelling a) ws ++ zs → Alike vs ws ys zs
many_alike a ts [] [] ys zs n d h f g e = (refl, e)
many_alike a ts [] (w ∷ ws) ys zs n d h f g e =
    absurd (apart_ends (firsts a) ts d (starts a _ n (front a w)) f (sym (e ∙ append_assoc (spelling a w) (flat_map (spelling a) ws) zs)))
many_alike a ts (v ∷ vs) [] ys zs n d h f g e =
    absurd (apart_ends (firsts a) ts d (starts a _ n (front a v)) g (sym (append_assoc (spelling a v) (flat_map (spelling a) vs) ys) ∙ e))
many_alike a ts (v ∷ vs) (w ∷ ws) ys zs n d h f g e =
    let first = h v w _ _ (ahead_follows (many a) ts (many_front a vs (front a)) f) (ahead_follows (many a) ts (many_front a ws (front a)) g)
    (regroup (spelling a v) (flat_map (spelling a) vs) ys (spelling a w) (flat_map (spelling a) ws) zs e) in
    let rest = many_alike a ts vs ws ys zs n d h f g first.1 in
    (ap (λ z. z ∷ vs) first.0 ∙ ap (λ z. w ∷ z) rest.0, rest.1)

-- the terminals that may come next at an argument of a pattern
abbrev after_argument : List Terminal
after_argument = terminal.Comma ∷ terminal.CloseParen ∷ []

more_follows : (p : Role) (vs : Trees p) (closing : Token terminal.CloseParen) (ys : List Lexeme)
    → Follows after_argument (more_spelling p vs ++ closing.lexeme ∷ ys)
more_follows p none closing ys = next (right_meets (terminal.Comma ∷ []) (is_token closing []))
more_follows p (comma mark argument more) closing ys = next (is_token mark (terminal.CloseParen ∷ []))

-- no mark is a comma and a closing parenthesis
comma_or_close : {P : Type 0} (mark : Token terminal.Comma) (closing : Token terminal.CloseParen) → mark.lexeme ≡ closing.lexeme → P
comma_or_close mark closing e =
    absurd (both_ways _ (apart terminal.Comma terminal.CloseParen closing.lexeme refl (subst (λ z. matches terminal.Comma z ≡ true) e mark.matched)) closing.matched)

-- the last argument, its closing parenthesis and what follows
inside : (xs ys zs : List Lexeme) (x : Lexeme) → (xs ++ (ys ++ x ∷ [])) ++ zs ≡ xs ++ (ys ++ x ∷ zs)
inside xs ys zs x = append_assoc xs (ys ++ x ∷ []) zs ∙ ap (λ z. xs ++ z) (append_assoc ys (x ∷ []) zs)

-- no arguments stand where none do
no_arguments : {P : Type 0} {ts : List Terminal} {x y : Lexeme} {ys zs : List Lexeme} (opening : Token terminal.OpenParen)
    → all_apart (terminal.OpenParen ∷ ts) ≡ true → Follows ts ys
    → x ∷ ys ≡ y ∷ opening.lexeme ∷ zs → P
no_arguments {ts = ts} {ys = ys} {zs = zs} opening d f e =
    let k : opening.lexeme ∷ zs ≡ ys = cc in
    absurd (apart_ends (terminal.OpenParen ∷ []) ts d (start (is_token opening [])) f k)

-- the same arguments, the same closing parenthesis and the same tokens behind it
record AlikeMore {p : Role} (vs ws : Trees p) (c k : Token terminal.CloseParen) (ys zs : List Lexeme) : Type 0 where
  pub arguments : vs ≡ ws
  pub closing : c ≡ k
  pub behind : ys ≡ zs

mutual
  tree_alike : (p : Role) → (v : Tree p) → (w : Tree p) → (ts : List Terminal) → (ys zs : List Lexeme)
      → all_apart (terminal.OpenParen ∷ ts) ≡ true
      → Follows ts ys → Follows ts zs → pattern_spelling p v ++ ys ≡ pattern_spelling p w ++ zs → Alike v w ys zs
  tree_alike p (leaf n) (leaf m) ts ys zs d f g e = let k = token_path n m (cc) in (ap leaf k, cc)
  tree_alike p (leaf n) (node m opening argument more closing) ts ys zs d f g e = no_arguments opening d f e
  tree_alike p (node n opening argument more closing) (leaf m) ts ys zs d f g e = no_arguments opening d g (sym e)
  tree_alike p (node n o a more c) (node n' o' a' more' c') ts ys zs d f g e =
      let tail : (pattern_spelling p a ++ (more_spelling p more ++ c.lexeme ∷ [])) ++ ys ≡ (pattern_spelling p a' ++ (more_spelling p more' ++ c'.lexeme ∷ [])) ++ zs = cc in
      let first = tree_alike p a a' after_argument (more_spelling p more ++ c.lexeme ∷ ys) (more_spelling p more' ++ c'.lexeme ∷ zs) refl (more_follows p more c ys) (more_follows p more' c' zs)
      (sym (inside (pattern_spelling p a) (more_spelling p more) ys c.lexeme) ∙ tail ∙ inside (pattern_spelling p a') (more_spelling p more') zs c'.lexeme) in
      let rest = more_alike p more more' c c' ys zs first.1 in
      let k : n ≡ n' = token_path n n' (cc) in
      let l : o ≡ o' = token_path o o' (cc) in
      (cc (k, l, first.0, rest.arguments, rest.closing), rest.behind)

  more_alike : (p : Role) → (vs : Trees p) → (ws : Trees p) → (c k : Token terminal.CloseParen) → (ys zs : List Lexeme)
      → more_spelling p vs ++ c.lexeme ∷ ys ≡ more_spelling p ws ++ k.lexeme ∷ zs → AlikeMore vs ws c k ys zs
  more_alike p none none c k ys zs e = record { arguments = refl; closing = token_path c k (cc); behind = cc }
  more_alike p none (comma mark argument more) c k ys zs e = comma_or_close mark c (cc)
  more_alike p (comma mark argument more) none c k ys zs e = comma_or_close mark k (cc)
  more_alike p (comma m a more) (comma m' a' more') c k ys zs e =
      let tail : (pattern_spelling p a ++ more_spelling p more) ++ c.lexeme ∷ ys ≡ (pattern_spelling p a' ++ more_spelling p more') ++ k.lexeme ∷ zs = cc in
      let first = tree_alike p a a' after_argument (more_spelling p more ++ c.lexeme ∷ ys) (more_spelling p more' ++ k.lexeme ∷ zs) refl (more_follows p more c ys) (more_follows p more' k zs)
      (regroup (pattern_spelling p a) (more_spelling p more) (c.lexeme ∷ ys) (pattern_spelling p a') (more_spelling p more') (k.lexeme ∷ zs) tail) in
      let rest = more_alike p more more' c k ys zs first.1 in
      let l : m ≡ m' = token_path m m' (cc) in
      record { arguments = cc (l, first.0, rest.arguments); closing = rest.closing; behind = rest.behind }

alike : (p : Part) (ts : List Terminal) (v w : Value p) (ys zs : List Lexeme) → decides p ts ≡ true → Follows ts ys → Follows ts zs
    → spelling p v ++ ys ≡ spelling p w ++ zs → Alike v w ys zs
alike (one t) ts v w ys zs d f g e = (token_path v w (cc), cc)
alike (a then b) ts v w ys zs d f g e =
    let k = and_parts _ _ d in
    let h = alike a (ahead b ts) v.0 w.0 _ _ k.0 (ahead_follows b ts (front b v.1) f) (ahead_follows b ts (front b w.1) g)
    (regroup (spelling a v.0) (spelling b v.1) ys (spelling a w.0) (spelling b w.1) zs e) in
    let l = alike b ts v.1 w.1 ys zs k.1 f g h.1 in
    (pair_path v w h.0 l.0, l.1)
alike (a or b) ts (inl v) (inl w) ys zs d f g e = let h = alike a ts v w ys zs (and_parts _ _ d).0 f g e in (ap inl h.0, h.1)
alike (a or b) ts (inr v) (inr w) ys zs d f g e = let h = alike b ts v w ys zs (and_parts _ _ (and_parts _ _ d).1).0 f g e in (ap inr h.0, h.1)
alike (a or b) ts (inl v) (inr w) ys zs d f g e =
    let k = and_parts _ _ (and_parts _ _ (and_parts _ _ d).1).1 in
    let n = and_parts _ _ k.1 in
    absurd (apart_ends (firsts a) (firsts b) k.0 (starts a ys n.0 (front a v)) (begins_follows (starts b zs n.1 (front b w))) e)
alike (a or b) ts (inr v) (inl w) ys zs d f g e =
    let k = and_parts _ _ (and_parts _ _ (and_parts _ _ d).1).1 in
    let n = and_parts _ _ k.1 in
    absurd (apart_ends (firsts a) (firsts b) k.0 (starts a zs n.0 (front a w)) (begins_follows (starts b ys n.1 (front b v))) (sym e))
alike (maybe a) ts None None ys zs d f g e = (refl, e)
alike (maybe a) ts None (Some w) ys zs d f g e = let k = and_parts _ _ (and_parts _ _ d).1 in absurd (apart_ends (firsts a) ts k.0 (starts a zs k.1 (front a w)) f (sym e))
alike (maybe a) ts (Some v) None ys zs d f g e = let k = and_parts _ _ (and_parts _ _ d).1 in absurd (apart_ends (firsts a) ts k.0 (starts a ys k.1 (front a v)) g e)
alike (maybe a) ts (Some v) (Some w) ys zs d f g e = let h = alike a ts v w ys zs (and_parts _ _ d).0 f g e in (ap Some h.0, h.1)
alike (many a) ts v w ys zs d f g e =
    let k = and_parts _ _ d in
    let l = and_parts _ _ k.1 in
    many_alike a ts v w ys zs l.1 l.0 (λ x y us vs. alike a (firsts a ++ ts) x y us vs k.0) f g e
alike (pattern p) ts v w ys zs d f g e = tree_alike p v w ts ys zs d f g e

-- two trees of a file that spell the same
pub only_tree : (xs : List Lexeme) (v w : Value file) → spelling file v ≡ xs → spelling file w ≡ xs → v ≡ w
only_tree xs v w e f = (alike file [] v w [] [] (and_parts _ _ file_decides).0 end end (append-nil (spelling file v) ∙ e ∙ sym f ∙ sym (append-nil (spelling file w)))).0
