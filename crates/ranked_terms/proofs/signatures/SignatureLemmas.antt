-- How the map of a signature stands for its list.
use Rattle.std.proofs.Common.{◌≡◌, ◌≢◌, ℕ, suc, ◌+◌, ◌≤◌, false, not, nat_lt, cond, List, [], ◌∷◌, ◌++◌, length, position, Option, Some, None, String, string_bytes, refl, sym, ap, subst, ◌∙◌, is_some, All, length-append, arith}
use Rattle.std.specs.Global.{Global}
use Rattle.std.specs.List.{IsDistinct, AllByRecursion, AllZip, position_or_len}
use Rattle.std.specs.Map.{keys_of}
use Rattle.std.specs.Str.{bytes_eq}
use Rattle.std.specs.String.{string_eq}
use Rattle.std.proofs.lemmas.List.Elements.{All-push, All-nil}
use Rattle.indexmap.specs.IndexMap.{insert_entry}
use Rattle.ranked_terms.specs.Words.{IsNameText}
use Rattle.ranked_terms.specs.Names.{Symbol, names_of, name_of, number_of}
use Rattle.ranked_terms.specs.SignatureRules.{symbols_of, IsSymbol, IsSignature}
use Rattle.ranked_terms.proofs.signatures.SignatureLaws.{Lacks-cons, number_of-only}

abbrev pub Entry : Type 0
Entry = String Global × ℕ

-- the names stand at the places of the keys
or_len : (name : List ℕ) (es : List Entry) → position_or_len (bytes_eq name) (names_of (symbols_of es)) ≡ position_or_len (λ k. bytes_eq name (string_bytes k)) (keys_of es)
or_len name [] = refl
or_len name (e ∷ es) = ap (λ n. cond (not (bytes_eq name (string_bytes e.0))) (1 + n) 0) (or_len name es)

lengths : (es : List Entry) → length (names_of (symbols_of es)) ≡ length (keys_of es)
lengths [] = refl
lengths (e ∷ es) = ap suc (lengths es)

number_of-entries : (name : List ℕ) (es : List Entry) → number_of (symbols_of es) name ≡ position (λ k. bytes_eq name (string_bytes k)) (keys_of es)
number_of-entries name es = λ i. cond (nat_lt (or_len name es i) (lengths es i)) (Some (or_len name es i)) None

pub number_of-view : (es : List Entry) (s : List Symbol) (name : List ℕ) → symbols_of es ≡ s → position (λ k. bytes_eq name (string_bytes k)) (keys_of es) ≡ number_of s name
number_of-view es s name view = sym (number_of-entries name es) ∙ ap (λ t. number_of t name) view

-- a name has one number
pub number_of-unique : (es : List Entry) (s : List Symbol) (name : List ℕ) (number : ℕ) → symbols_of es ≡ s → IsSignature (symbols_of es) → name_of s number ≡ Some name → number_of s name ≡ Some number
number_of-unique es s name number view valid named =
    number_of-only s name number (subst (λ t. IsDistinct bytes_eq (names_of t)) view valid.distinct) named

-- a new key goes last
pub symbols_of-insert : (es : List Entry) (key : String Global) (arity : ℕ) → number_of (symbols_of es) (string_bytes key) ≡ None → symbols_of (insert_entry string_eq es key arity) ≡ symbols_of es ++ (string_bytes key, arity) ∷ []
symbols_of-insert [] key arity none = refl
symbols_of-insert (e ∷ es) key arity none =
    let h = Lacks-cons (string_bytes e.0, e.1) (symbols_of es) (string_bytes key) none in
    ap (λ b. symbols_of (cond b ((e.0, arity) ∷ es) (e ∷ insert_entry string_eq es key arity))) h.first
    ∙ ap (λ s. (string_bytes e.0, e.1) ∷ s) (symbols_of-insert es key arity h.rest)

none_by : (o : Option ℕ) → is_some o ≡ false → o ≡ None
none_by None e = refl
none_by (Some n) e = cc

-- the list after the map has taken a new name
pub added_entries : (es fs : List Entry) (key : String Global) (name : List ℕ) (arity : ℕ) (s : List Symbol) → symbols_of es ≡ s → string_bytes key ≡ name → is_some (number_of s name) ≡ false → fs ≡ insert_entry string_eq es key arity → symbols_of fs ≡ s ++ (name, arity) ∷ []
added_entries es fs key name arity s view text absent inserted =
    let none : number_of (symbols_of es) (string_bytes key) ≡ None = (λ i. number_of (view i) (text i)) ∙ none_by (number_of s name) absent in
    ap symbols_of inserted ∙ (symbols_of-insert es key arity none ∙ (λ i. view i ++ (text i, arity) ∷ []))

-- keys that differ are names that differ
apart : (k : String Global) (es : List Entry) → AllByRecursion (λ y. string_eq k y ≡ false) (keys_of es) → AllByRecursion (λ y. bytes_eq (string_bytes k) y ≡ false) (names_of (symbols_of es))
apart k [] h = tt
apart k (e ∷ es) h = (h.0, apart k es h.1)

pub names-distinct : (es : List Entry) → IsDistinct string_eq (keys_of es) → IsDistinct bytes_eq (names_of (symbols_of es))
unfolding IsDistinct
names-distinct [] d = tt
names-distinct (e ∷ es) d = (apart e.0 es d.0, names-distinct es d.1)

pub IsSignature-empty : (es : List Entry) → es ≡ [] → IsSignature (symbols_of es)
unfolding IsDistinct
IsSignature-empty [] e = record { few = omega arith; distinct = tt; symbols = All-nil IsSymbol }
IsSignature-empty (x ∷ xs) e = cc

-- the list after a symbol that fits is added
pub IsSignature-added : (s t : List Symbol) (name : List ℕ) (arity : ℕ) → IsSignature s → t ≡ s ++ (name, arity) ∷ [] → IsDistinct bytes_eq (names_of t) → length s ≢ 4096 → IsNameText name → arity ≤ 16 → IsSignature t
IsSignature-added s t name arity h e d room n a = record {
  few = omega (arith, h.few, ap length e, length-append s ((name, arity) ∷ []));
  distinct = d;
  symbols = subst (All IsSymbol) (sym e) (All-push IsSymbol s (name, arity) h.symbols (record { name = n; arity = a }));
}

-- a clone of the map has the same symbols
pub symbols_of-clone : (es fs : List Entry) → AllZip (λ e f. (string_bytes f.0 ≡ string_bytes e.0) × (f.1 ≡ e.1)) es fs → symbols_of fs ≡ symbols_of es
symbols_of-clone [] [] h = refl
symbols_of-clone [] (f ∷ fs) h = absurd h
symbols_of-clone (e ∷ es) [] h = absurd h
symbols_of-clone (e ∷ es) (f ∷ fs) h =
    let rest = symbols_of-clone es fs h.1 in
    λ i. (h.0.0 i, h.0.1 i) ∷ rest i
