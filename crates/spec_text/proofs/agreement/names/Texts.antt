-- Names among names: whether one is there, its place, and when names and symbols may be declared one after another.
use Rattle.std.proofs.Common.{◌≡◌, ℕ, suc, ◌+◌, ◌<◌, Bool, true, false, not, ◌||◌, nat_lt, cond, List, [], ◌∷◌, ◌++◌, length, position, Option, Some, None, is_some, option_map, unwrap_or, slice_get, All, Contains, refl, sym, ap, subst, ◌∙◌, append_assoc, length-append, arith}
use Rattle.std.specs.List.{IsDistinct, AllByRecursion, position_or_len, list_any}
use Rattle.std.specs.Str.{bytes_eq}
use Rattle.std.proofs.lemmas.Bool.Decides.{nat_tests}
use Rattle.std.proofs.lemmas.Cmp.{nat_list_eq_equiv}
use Rattle.std.proofs.lemmas.List.{map-append, append-nil}
use Rattle.std.proofs.lemmas.List.Elements.{All-nil, All-cons, All-head, All-tail, All-push, All-contains, Contains-append_right}
use Rattle.std.proofs.lemmas.List.Quantifiers.{position-Some}
use Rattle.std.proofs.lemmas.Option.{cond_some, slice_get-get_or}
use Rattle.std.proofs.lemmas.Map.Keys.{IsDistinct-push}
use Rattle.std.proofs.lemmas.Map.Views.{list_any-from_Contains, Contains-from_any}
use Rattle.std.proofs.lemmas.Slice.Eq.{bytes_eq-Decides}
use Rattle.ranked_terms.specs.Names.{Symbol, names_of, number_of, arity_of}
use Rattle.spec_text.specs.Declarations.{Text, value_of}
use Rattle.spec_text.specs.Source.{SymbolDeclaration}
use Rattle.spec_text.specs.Naming.{IsShort, IsArity, signature_of, AreSymbols, AreNewNames, place_in}
use Rattle.spec_text.specs.Rows.{is_in}
use Rattle.spec_text.proofs.agreement.names.Rows.{IsNew}

-- ---- a name and its place

pub Contains-from_is_in : (names : List Text) (text : Text) → is_in names text ≡ true → Contains names text
Contains-from_is_in text names e = Contains-from_any (λ x y. (bytes_eq-Decides x y).0) names text e

pub is_in-from_Contains : (names : List Text) (text : Text) → Contains names text → is_in names text ≡ true
is_in-from_Contains names text h = list_any-from_Contains nat_list_eq_equiv text names h

below_by : (b : Bool) (n l : ℕ) → nat_lt (cond (not b) (1 + n) 0) (suc l) ≡ (b || nat_lt n l)
below_by true n l = grind (arith, nat_tests)
below_by false n l = grind (arith, nat_tests)

some_below : (test : Text → Bool) (names : List Text) → nat_lt (position_or_len test names) (length names) ≡ list_any test names
some_below test [] = refl
some_below test (x ∷ names) =
    below_by (test x) (position_or_len test names) (length names) ∙ ap (λ b. test x || b) (some_below test names)

-- the place of a name that is there
pub position_found : (names : List Text) (text : Text) → Contains names text → position (bytes_eq text) names ≡ Some (place_in names text)
position_found names text h =
    ap (λ b. cond b (Some (place_in names text)) None) (some_below (bytes_eq text) names ∙ is_in-from_Contains names text h)

pub position_absent : (names : List Text) (text : Text) → is_in names text ≡ false → position (bytes_eq text) names ≡ None
position_absent names text h = ap (λ b. cond b (Some (place_in names text)) None) (some_below (bytes_eq text) names ∙ h)

pub Contains-position : (names : List Text) (text : Text) (q : ℕ) → position (bytes_eq text) names ≡ Some q → Contains names text
Contains-position names text q e =
    Contains-from_is_in names text (sym (some_below (bytes_eq text) names) ∙ (cond_some (nat_lt (place_in names text) (length names)) (place_in names text) q e).0)

pub place-position : (names : List Text) (text : Text) (q : ℕ) → position (bytes_eq text) names ≡ Some q → place_in names text ≡ q
place-position names text q e = (cond_some (nat_lt (place_in names text) (length names)) (place_in names text) q e).1

-- the arity of a symbol's number
length_names : (symbols : List Symbol) → length (names_of symbols) ≡ length symbols
length_names [] = refl
length_names (s ∷ symbols) = ap suc (length_names symbols)

arity_read : (symbols : List Symbol) (f : ℕ) (o : Option Symbol) → slice_get symbols f ≡ o → is_some o ≡ true → arity_of symbols f ≡ Some (unwrap_or (arity_of symbols f) 0)
arity_read symbols f None e h = cc
arity_read symbols f (Some s) e h = let k : arity_of symbols f ≡ Some s.1 = ap (option_map (λ y. y.1)) e in k ∙ ap (λ o. Some (unwrap_or o 0)) (sym k)

pub arity_found : (symbols : List Symbol) (name : Text) (f : ℕ) → number_of symbols name ≡ Some f → arity_of symbols f ≡ Some (unwrap_or (arity_of symbols f) 0)
arity_found symbols name f e =
    let within : f < length symbols = subst (λ n. f < n) (length_names symbols) (position-Some (bytes_eq name) (names_of symbols) f [] e).0 in
    arity_read symbols f _ (slice_get-get_or symbols f ([], 0) within) refl

-- ---- names apart

not_first : (x y : Text) (xs ys : List Text) → AllByRecursion (λ z. bytes_eq x z ≡ false) (xs ++ y ∷ ys) → bytes_eq x y ≡ false
not_first x y [] ys h = h.0
not_first x y (z ∷ xs) ys h = not_first x y xs ys h.1

-- a name is not among those before it
pub new-before : (xs ys : List Text) (y : Text) → IsDistinct bytes_eq (xs ++ y ∷ ys) → is_in xs y ≡ false
unfolding IsDistinct
new-before [] ys y d = refl
new-before (x ∷ xs) ys y d =
    (λ i. (nat_list_eq_equiv.symm y x ∙ not_first x y xs ys d.0) i || new-before xs ys y d.1 i)

pub at_middle : {X : Type 0} (P : X → Type 0) (xs ys : List X) (x : X) → All P (xs ++ x ∷ ys) → P x
at_middle P xs ys x h = All-contains P (xs ++ x ∷ ys) x h (Contains-append_right xs (x ∷ ys) x (0, omega arith, refl))

-- ---- new names

-- a name in the middle was new
pub IsNew-middle : (taken : List Text) (most : ℕ) (names more : List Text) (name : Text) → AreNewNames taken most (names ++ name ∷ more) → IsNew (taken ++ names) (length names) most name
IsNew-middle taken most names more name h = record {
  short = at_middle IsShort names more name h.short;
  room = omega (arith, h.few, length-append names (name ∷ more));
  new = new-before (taken ++ names) more name (subst (IsDistinct bytes_eq) (sym (append_assoc taken names (name ∷ more))) h.distinct);
}

-- one more new name
pub AreNewNames-push : (taken : List Text) (most : ℕ) (names : List Text) (name : Text) → AreNewNames taken most names → IsNew (taken ++ names) (length names) most name → AreNewNames taken most (names ++ name ∷ [])
AreNewNames-push taken most names name h k = record {
  short = All-push IsShort names name h.short k.short;
  distinct = subst (IsDistinct bytes_eq) (append_assoc taken names (name ∷ [])) (IsDistinct-push nat_list_eq_equiv (taken ++ names) name h.distinct k.new);
  few = omega (arith, k.room, length-append names (name ∷ []));
}

pub AreNewNames-nil : (taken : List Text) (most : ℕ) → IsDistinct bytes_eq taken → AreNewNames taken most []
AreNewNames-nil taken most d = record {
  short = All-nil IsShort;
  distinct = subst (IsDistinct bytes_eq) (sym (append-nil taken)) d;
  few = omega arith;
}

all_front : (P : Text → Type 0) (xs ys : List Text) → AllByRecursion P (xs ++ ys) → AllByRecursion P xs
all_front P [] ys h = tt
all_front P (x ∷ xs) ys h = (h.0, all_front P xs ys h.1)

distinct_front : (xs ys : List Text) → IsDistinct bytes_eq (xs ++ ys) → IsDistinct bytes_eq xs
unfolding IsDistinct
distinct_front [] ys h = tt
distinct_front (x ∷ xs) ys h = (all_front (λ y. bytes_eq x y ≡ false) xs ys h.0, distinct_front xs ys h.1)

pub all_left : {X : Type 0} (P : X → Type 0) (xs ys : List X) → All P (xs ++ ys) → All P xs × All P ys
all_left P [] ys h = (All-nil P, h)
all_left P (x ∷ xs) ys h = let k = all_left P xs ys (All-tail P x (xs ++ ys) h) in (All-cons P x xs (All-head P x (xs ++ ys) h) k.0, k.1)

-- the first of new names
pub AreNewNames-front : (taken : List Text) (most : ℕ) (xs ys : List Text) → AreNewNames taken most (xs ++ ys) → AreNewNames taken most xs
AreNewNames-front taken most xs ys h = record {
  short = (all_left IsShort xs ys h.short).0;
  distinct = distinct_front (taken ++ xs) ys (subst (IsDistinct bytes_eq) (sym (append_assoc taken xs ys)) h.distinct);
  few = omega (arith, h.few, length-append xs ys);
}

-- ---- new symbols

pub signature_of-append : (ds es : List SymbolDeclaration) → signature_of (ds ++ es) ≡ signature_of ds ++ signature_of es
signature_of-append ds es = map-append (λ d. (d.name, value_of d.arity)) ds es

names_of-append : (ds es : List SymbolDeclaration) → names_of (signature_of (ds ++ es)) ≡ names_of (signature_of ds) ++ names_of (signature_of es)
names_of-append [] es = refl
names_of-append (d ∷ ds) es = ap (λ l. d.name ∷ l) (names_of-append ds es)

lengths : (ds : List SymbolDeclaration) → length (signature_of ds) ≡ length ds
lengths [] = refl
lengths (d ∷ ds) = ap suc (lengths ds)

-- a symbol whose name is new, with its arity
pub record IsNewSymbol (symbols : List Symbol) (d : SymbolDeclaration) : Type 0 where
  pub name : IsNew (names_of symbols) (length symbols) 4096 d.name
  pub arity : IsArity d.arity

-- a symbol in the middle was new
pub IsNewSymbol-middle : (ds more : List SymbolDeclaration) (d : SymbolDeclaration) → AreSymbols (ds ++ d ∷ more) → IsNewSymbol (signature_of ds) d
IsNewSymbol-middle ds more d h = record {
  name = record {
    short = at_middle (λ d. IsShort d.name) ds more d h.names;
    room = omega (arith, h.few, length-append ds (d ∷ more), lengths ds);
    new = new-before (names_of (signature_of ds)) (names_of (signature_of more)) d.name (subst (IsDistinct bytes_eq) (names_of-append ds (d ∷ more)) h.distinct);
  };
  arity = at_middle (λ d. IsArity d.arity) ds more d h.arities;
}

-- one more new symbol
pub AreSymbols-push : (ds : List SymbolDeclaration) (d : SymbolDeclaration) → AreSymbols ds → IsNewSymbol (signature_of ds) d → AreSymbols (ds ++ d ∷ [])
AreSymbols-push ds d h k = record {
  names = All-push (λ d. IsShort d.name) ds d h.names k.name.short;
  arities = All-push (λ d. IsArity d.arity) ds d h.arities k.arity;
  distinct = subst (IsDistinct bytes_eq) (sym (names_of-append ds (d ∷ []))) (IsDistinct-push nat_list_eq_equiv (names_of (signature_of ds)) d.name h.distinct k.name.new);
  few = omega (arith, h.few, length-append ds (d ∷ []), lengths ds, k.name.room);
}

pub AreSymbols-nil : AreSymbols []
unfolding IsDistinct
AreSymbols-nil = record {
  names = All-nil (λ d. IsShort d.name);
  arities = All-nil (λ d. IsArity d.arity);
  distinct = tt;
  few = omega arith;
}
