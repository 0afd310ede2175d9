-- What may come next at a part, in terms of what it consists of.
use Rattle.std.proofs.Common.{◌≡◌, Bool, true, false, ◌&&◌, ◌||◌, cond, List, [], ◌∷◌, ◌++◌, refl, ap, sym, ◌∙◌, append_assoc}
use Rattle.std.specs.Prelude.{find, Option, Some, None, is_some}
use Rattle.std.specs.List.{list_any}
use Rattle.std.specs.Option.{option_or}
use Rattle.std.proofs.lemmas.List.Folds.{find-append}
use Rattle.timbuk_lex.specs.declared.lexeme.Lexeme.{Lexeme}
use Rattle.timbuk_grammar.specs.Matching.{matches}
use Rattle.timbuk_grammar.specs.Grammar.{Part, ◌then◌, ◌or◌, many}
use Rattle.timbuk_grammar.specs.Next.{empties, Choice, begins, begins_with, choices, may_end}
use Rattle.timbuk_grammar.specs.Laws.{SameNext, PartsLaw}
use Rattle.timbuk_grammar.specs.lemmas.Next.{then_groups}
use Rattle.timbuk_grammar.specs.lemmas.Decided.{terminals, begins_firsts}

abbrev matched : Lexeme → Choice → Bool
matched x c = matches c.terminal x

-- ---- a token that is found, and one that is not

found_is : (b : Bool) (c : Choice) (o : Option Choice) → is_some (cond b (Some c) o) ≡ (b || is_some o)
found_is true c o = refl
found_is false c o = refl

find_any : (x : Lexeme) (cs : List Choice) → is_some (find (matched x) cs) ≡ list_any (λ t. matches t x) (terminals cs)
find_any x [] = refl
find_any x (c ∷ cs) = found_is (matches c.terminal x) c (find (matched x) cs) ∙ ap (λ b. matches c.terminal x || b) (find_any x cs)

any_terminals : (x : Lexeme) (cs : List Choice) → list_any (matched x) cs ≡ list_any (λ t. matches t x) (terminals cs)
any_terminals x [] = refl
any_terminals x (c ∷ cs) = ap (λ b. matches c.terminal x || b) (any_terminals x cs)

-- whether a token begins a part doesn't depend on what stands behind it
begun : (x : Lexeme) (p : Part) (ps : List Part) → is_some (find (matched x) (begins p ps)) ≡ begins_with p x
begun x p ps =
    find_any x (begins p ps) ∙ ap (list_any (λ t. matches t x)) (begins_firsts p ps ∙ sym (begins_firsts p [])) ∙ sym (any_terminals x (begins p []))

or_some : {A : Type 0} (o q r : Option A) → is_some o ≡ true → option_or o q ≡ option_or o r
or_some (Some a) q r e = refl
or_some None q r e = cc

or_none : {A : Type 0} (o q : Option A) → is_some o ≡ false → option_or o q ≡ q
or_none (Some a) q e = cc
or_none None q e = refl

within : (x : Lexeme) (p : Part) (ps : List Part) (ys zs : List Choice) → begins_with p x ≡ true
    → find (matched x) (begins p ps ++ ys) ≡ find (matched x) (begins p ps ++ zs)
within x p ps ys zs e =
    find-append (matched x) (begins p ps) ys
    ∙ or_some (find (matched x) (begins p ps)) (find (matched x) ys) (find (matched x) zs) (begun x p ps ∙ e)
    ∙ sym (find-append (matched x) (begins p ps) zs)

past : (x : Lexeme) (p : Part) (ps : List Part) (zs : List Choice) → begins_with p x ≡ false
    → find (matched x) (begins p ps ++ zs) ≡ find (matched x) zs
past x p ps zs e = find-append (matched x) (begins p ps) zs ∙ or_none (find (matched x) (begins p ps)) (find (matched x) zs) (begun x p ps ∙ e)

-- ---- the parts

all_groups : (a b e : Bool) → ((a && b) && e) ≡ (a && (b && e))
all_groups true b e = refl
all_groups false b e = refl

pub then_same : (a b : Part) (ps : List Part) → SameNext (a then b ∷ ps) (a ∷ b ∷ ps)
then_same a b ps = record {
  token = λ x. ap (find (matched x)) (sym (then_groups (empties a) (empties b) (begins a (b ∷ ps)) (begins b ps) (choices ps)));
  end = all_groups (empties a) (empties b) (may_end ps);
}

either : (x : Lexeme) (a b : Part) (ps : List Part)
    → find (matched x) (choices (a or b ∷ ps)) ≡ find (matched x) (begins a ps ++ (begins b ps ++ cond (empties a || empties b) (choices ps) []))
either x a b ps = ap (find (matched x)) (append_assoc (begins a ps) (begins b ps) (cond (empties a || empties b) (choices ps) []))

pub parts_law : (ps : List Part) → PartsLaw ps
parts_law ps = record {
  both = λ a b. then_same a b ps;
  head = λ p. record { token = λ x. refl; end = refl };
  first = λ a b x e. either x a b ps ∙ within x a ps _ (cond (empties a) (choices ps) []) e;
  second = λ a b x e f. either x a b ps ∙ past x a ps _ e ∙ ap (λ k. find (matched x) (begins b ps ++ cond (k || empties b) (choices ps) [])) f;
  take = λ a x e. within x a ps (choices ps) (cond (empties a) (choices ps) []) e;
  skip = λ a x e. past x a ps (choices ps) e;
  again = λ a x e. within x a (many a ∷ ps) (choices ps) (cond (empties a) (choices (many a ∷ ps)) []) e;
  stop = λ a x e. past x a (many a ∷ ps) (choices ps) e;
}
