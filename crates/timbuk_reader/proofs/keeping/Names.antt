-- Tables of names as lists.
use Rattle.std.proofs.Common.{◌≡◌, ℕ, suc, ◌+◌, ◌<◌, Bool, false, not, ◌||◌, nat_lt, cond, List, [], ◌∷◌, ◌++◌, length, position, Some, None, String, string_bytes, refl, sym, ap, ◌∙◌, arith, length-append}
use Rattle.std.specs.Prelude.{is_some}
use Rattle.std.specs.Global.{Global}
use Rattle.std.specs.List.{IsDistinct, AllByRecursion, position_or_len, list_any}
use Rattle.std.specs.Str.{bytes_eq}
use Rattle.std.specs.String.{string_eq}
use Rattle.indexmap.specs.IndexSet.{insert_key}
use Rattle.spec_text.specs.lemmas.Variables.{is_some_position}
use Rattle.timbuk_reader.specs.NameTables.{texts_of, AreNames}

abbrev Text : Type 0
Text = List ℕ

or_len : (name : Text) (ks : List (String Global)) → position_or_len (bytes_eq name) (texts_of ks) ≡ position_or_len (λ k. bytes_eq name (string_bytes k)) ks
or_len name [] = refl
or_len name (k ∷ ks) = ap (λ n. cond (not (bytes_eq name (string_bytes k))) (1 + n) 0) (or_len name ks)

pub lengths : (ks : List (String Global)) → length (texts_of ks) ≡ length ks
lengths [] = refl
lengths (k ∷ ks) = ap suc (lengths ks)

-- a name stands at the place of its key
pub position-texts : (ks : List (String Global)) (names : List Text) (name : Text) → texts_of ks ≡ names → position (λ k. bytes_eq name (string_bytes k)) ks ≡ position (bytes_eq name) names
position-texts ks names name view =
    sym (λ i. cond (nat_lt (or_len name ks i) (lengths ks i)) (Some (or_len name ks i)) None) ∙ ap (position (bytes_eq name)) view

apart : (k : String Global) (ks : List (String Global)) → AllByRecursion (λ y. string_eq k y ≡ false) ks → AllByRecursion (λ y. bytes_eq (string_bytes k) y ≡ false) (texts_of ks)
apart k [] h = tt
apart k (x ∷ ks) h = (h.0, apart k ks h.1)

-- keys that differ are names that differ
texts-distinct : (ks : List (String Global)) → IsDistinct string_eq ks → IsDistinct bytes_eq (texts_of ks)
unfolding IsDistinct
texts-distinct [] d = tt
texts-distinct (k ∷ ks) d = (apart k ks d.0, texts-distinct ks d.1)

pub texts-empty : (ks : List (String Global)) → ks ≡ [] → AreNames (texts_of ks)
unfolding IsDistinct
texts-empty [] e = record { distinct = tt; few = omega arith }
texts-empty (k ∷ ks) e = cc

-- ---- tests on names

not_found : (p : Text → Bool) (names : List Text) → position p names ≡ None → list_any p names ≡ false
not_found p names e = sym (is_some_position p names) ∙ ap is_some e

any_text : (key : String Global) (ks : List (String Global)) → list_any (string_eq key) ks ≡ list_any (bytes_eq (string_bytes key)) (texts_of ks)
any_text key [] = refl
any_text key (k ∷ ks) = ap (λ b. string_eq key k || b) (any_text key ks)

append_text : (ks : List (String Global)) (key : String Global) → texts_of (ks ++ key ∷ []) ≡ texts_of ks ++ string_bytes key ∷ []
append_text [] key = refl
append_text (k ∷ ks) key = ap (λ l. string_bytes k ∷ l) (append_text ks key)

-- the names after the insertion of a new one
pub added-names : (ks ls : List (String Global)) (key : String Global) (names : List Text) (name : Text) → texts_of ks ≡ names → string_bytes key ≡ name → position (bytes_eq name) names ≡ None
    → ls ≡ insert_key string_eq ks key → texts_of ls ≡ names ++ name ∷ []
added-names ks ls key names name view text new inserted =
    let absent : list_any (string_eq key) ks ≡ false = any_text key ks ∙ (λ i. list_any (bytes_eq (text i)) (view i)) ∙ not_found (bytes_eq name) names new in
    ap texts_of inserted ∙ ap (λ b. texts_of (cond b ks (ks ++ key ∷ []))) absent ∙ append_text ks key ∙ (λ i. view i ++ text i ∷ [])

pub added-are : (ks ls : List (String Global)) (key : String Global) (names : List Text) (name : Text) → texts_of ks ≡ names → string_bytes key ≡ name → position (bytes_eq name) names ≡ None
    → ls ≡ insert_key string_eq ks key → length names < 16384 → IsDistinct string_eq ls → AreNames (texts_of ls)
added-are ks ls key names name view text new inserted room distinct =
    record { distinct = texts-distinct ls distinct; few = let e = ap length (added-names ks ls key names name view text new inserted) ∙ length-append names (name ∷ []) in omega arith }
