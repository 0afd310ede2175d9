-- The rules of a command with options and positional words are read as the rule of the words wants.
use Rattle.std.proofs.Common.{◌≡◌, ◌∙◌, ◌&&◌, ◌||◌, ◌==◌, ℕ, Bool, true, false, true≢false, suc, refl, sym, ap, subst, arith, List, [], ◌∷◌, ◌++◌, map, length, drop, fold, Option, Some, None, option_map, append-nil}
use Rattle.std.specs.Prelude.{String, find, unwrap_or, string_bytes, is_some, slice_get, option_and_then, nat_lt, if◌then◌else◌}
use Rattle.std.specs.List.{AllByRecursion}
use Rattle.std.specs.Str.{bytes_eq}
use Rattle.std.proofs.lemmas.Slice.Eq.{bytes_eq-Decides}
use Rattle.clap.specs.Walk.{Row, Rule, is_empty, at_row, has_row, with_default, more_values, default_rows, reading_by, arg_by_id}
use Rattle.clap.specs.Simple.{filled, with_index}
use Rattle.clap.specs.Values.{reading_of}
use Rattle.clap.specs.Kinds.{or_else}
use Rattle.clap.specs.Faults.{defaults_fault, given_default_fault}
use Rattle.clap.specs.declared.error.kind.ErrorKind.TheVariants as kind
use Rattle.clap.specs.declared.builder.value_parser.Reading.{Reading}
use Rattle.clap.specs.declared.builder.value_parser.ValueParser.TheVariants as parser
use Rattle.clap.specs.declared.parser.matches.ValueSource.TheVariants.{CommandLine}
use Rattle.command_words.specs.Line.{Text, Use, value_of}
use Rattle.command_words.specs.Commands.{option_rule, word_rule}
use Rattle.command_words.proofs.Walked.{Known, IsTextual, row_for}
use Rattle.std.specs.Str.{IsUtf8, chars, encode_utf8_all}
use Rattle.std.proofs.lemmas.Str.{chars_past_char, encodes-chars, chars-nil}
use Rattle.std.proofs.Math.Logic.{∥∥₁_elim}
use Rattle.std.proofs.Math.Bool.{Bool-set}
use Rattle.std.specs.Char.{encode_utf8}
use Rattle.std.specs.Global.{Global}
use Rattle.clap.specs.Lexer.{short_of, short_of_rest}
use Rattle.clap.specs.Walk.{first_of}

abbrev pub as_text : Reading
as_text = reading_of parser.String

row_missing : (id : Text) (change : Row → List Row) (missing rows : List Row) → has_row id rows ≡ false → at_row id change missing rows ≡ rows ++ missing
row_missing id change missing [] none = refl
row_missing id change missing (r ∷ rows) none = go (bytes_eq r.id id) none (row_missing id change missing rows)
  where
    go : (b : Bool) → (b || has_row id rows) ≡ false → (has_row id rows ≡ false → at_row id change missing rows ≡ rows ++ missing)
        → (if b then change r ++ rows else r ∷ at_row id change missing rows) ≡ (r ∷ rows) ++ missing
    go true none later = absurd (true≢false none)
    go false none later = ap (λ xs. r ∷ xs) (later none)

pub row_added : (id : Text) (change : Row → List Row) (missing rows : List Row) → has_row id rows ≡ false
    → at_row id change missing (at_row id (λ _. []) [] rows) ≡ rows ++ missing
row_added id change missing rows none =
    ap (at_row id change missing) (row_missing id (λ _. []) [] rows none ∙ append-nil rows) ∙ row_missing id change missing rows none

pub same_text : (xs : Text) → bytes_eq xs xs ≡ true
same_text xs = (bytes_eq-Decides xs xs).1 refl

pub same_from : (xs ys : Text) → bytes_eq xs ys ≡ true → xs ≡ ys
same_from xs ys e = (bytes_eq-Decides xs ys).0 e

pub repeats : (b : Bool) → or_else (if b && true then kind.ArgumentConflict ∷ [] else []) [] ≡ (if b then kind.ArgumentConflict ∷ [] else [])
repeats true = refl
repeats false = refl

unfoldable pub known_option : (t : Text) (c : List Rule) (name : Text) → arg_by_id c name ≡ Some (filled (option_rule name)) → Known t c as_text name
known_option t c name found = record {
  rule = filled (option_rule name);
  found = found;
  id = refl;
  takes = refl;
  single = refl;
  alone = refl;
  ends = refl;
  fault = λ value rows. repeats (has_row name rows);
  empty = λ rows. refl;
  fills = λ word. ap (λ b. nat_lt (if b then 1 else 0) 1) (same_text name);
  row = λ value rows none. row_added name (more_values CommandLine (value ∷ [])) _ rows none;
}

unfoldable pub known_word : (t : Text) (c : List Rule) (name : Text) (i : ℕ) → arg_by_id c name ≡ Some (with_index i (filled (word_rule name))) → Known t c as_text name
known_word t c name i found = record {
  rule = with_index i (filled (word_rule name));
  found = found;
  id = refl;
  takes = refl;
  single = refl;
  alone = refl;
  ends = refl;
  fault = λ value rows. repeats (has_row name rows);
  empty = λ rows. refl;
  fills = λ word. ap (λ b. nat_lt (if b then 1 else 0) 1) (same_text name);
  row = λ value rows none. row_added name (more_values CommandLine (value ∷ [])) _ rows none;
}

-- no rule has a default
pub no_default_fault : (rows : List Row) (c : List Rule) → AllByRecursion (λ a. a.defaults ≡ []) c → defaults_fault rows c ≡ []
unfolding defaults_fault
no_default_fault rows [] none = refl
no_default_fault rows (a ∷ c) none =
    ap (λ d. or_else (if has_row a.id rows || is_empty d then [] else given_default_fault a d) (defaults_fault (with_default rows a) c)) none.0
    ∙ either (has_row a.id rows) ∙ no_default_fault (with_default rows a) c none.1
  where
    either : (b : Bool) → or_else (if b || true then [] else given_default_fault a []) (defaults_fault (with_default rows a) c) ≡ defaults_fault (with_default rows a) c
    either true = refl
    either false = refl

pub no_default_rows : (rows : List Row) (c : List Rule) → AllByRecursion (λ a. a.defaults ≡ []) c → fold with_default rows c ≡ rows
no_default_rows rows [] none = refl
no_default_rows rows (a ∷ c) none =
    ap (λ r. fold with_default r c) (ap (λ d. if has_row a.id rows then rows else default_rows a.id (reading_by a) d rows) none.0 ∙ either (has_row a.id rows)) ∙ no_default_rows rows c none.1
  where
    either : (b : Bool) → (if b then rows else rows) ≡ rows
    either true = refl
    either false = refl

-- a hyphen and more, in a text, has a character behind the hyphen
behind_hyphen : (y : ℕ) (ys : Text) → IsUtf8 (45 ∷ y ∷ ys) → is_some (slice_get (chars (y ∷ ys)) 0) ≡ true
unfolding encode_utf8
behind_hyphen y ys utf8 = go (chars (y ∷ ys)) refl
  where
    go : (cs : List ℕ) → chars (y ∷ ys) ≡ cs → is_some (slice_get cs 0) ≡ true
    go (c ∷ cs) e = refl
    go [] e =
        let whole : chars (45 ∷ y ∷ ys) ≡ 45 ∷ [] = chars_past_char (45 ∷ y ∷ ys) (y ∷ ys) 45 utf8 refl ∙ ap (λ cs. 45 ∷ cs) e in
        let same : 45 ∷ [] ≡ 45 ∷ y ∷ ys = ap encode_utf8_all (sym whole) ∙ encodes-chars (45 ∷ y ∷ ys) utf8 in
        absurd (true≢false (sym (ap (λ xs. is_some (slice_get xs 1)) same)))

no_some : {X : Type 0} (x : X) → None ≡ Some x → ⊥
no_some x e = true≢false (sym (ap is_some e))

short_char : (word flags : Text) → ∥ IsUtf8 word ∥₁ → short_of word ≡ Some flags → is_some (slice_get (chars flags) 0) ≡ true
short_char [] flags utf8 is = absurd (no_some flags is)
short_char (x ∷ xs) flags utf8 is = by_hyphen (x == 45) refl is
  where
    by_next : (y : ℕ) (ys : Text) (b : Bool) → x ≡ 45 → ∥ IsUtf8 (x ∷ y ∷ ys) ∥₁ → (if b then None else Some (y ∷ ys)) ≡ Some flags → is_some (slice_get (chars flags) 0) ≡ true
    by_next y ys true hyphen text e = absurd (no_some flags e)
    by_next y ys false hyphen text e =
        let same : y ∷ ys ≡ flags = ap (λ o. unwrap_or o []) e in
        let Has : Text → Type 0 = λ fs. is_some (slice_get (chars fs) 0) ≡ true in
        subst Has same (∥∥₁_elim text (Bool-set _ _) (λ u. behind_hyphen y ys (subst (λ (h : ℕ). IsUtf8 (h ∷ y ∷ ys)) hyphen u)))

    by_rest : (rest : Text) → x ≡ 45 → ∥ IsUtf8 (x ∷ rest) ∥₁ → short_of_rest rest ≡ Some flags → is_some (slice_get (chars flags) 0) ≡ true
    by_rest [] hyphen text e = absurd (no_some flags e)
    by_rest (y ∷ ys) hyphen text e = by_next y ys (y == 45) hyphen text e

    by_hyphen : (b : Bool) → (x == 45) ≡ b → option_and_then short_of_rest (if b then Some xs else None) ≡ Some flags → is_some (slice_get (chars flags) 0) ≡ true
    by_hyphen false e found = absurd (no_some flags found)
    by_hyphen true e found = by_rest xs (let same : x ≡ 45 = grind arith in same) utf8 found

first_char : (o : Option ℕ) → is_some o ≡ true → (x : ℕ) × (o ≡ Some x)
first_char (Some x) e = (x, refl)
first_char None e = absurd (true≢false (sym e))

some_bytes : (flags : Text) → is_some (slice_get (chars flags) 0) ≡ true → (k : ℕ) × (length flags ≡ suc k)
some_bytes [] e = absurd (true≢false (sym e ∙ ap (λ cs. is_some (slice_get cs 0)) chars-nil))
some_bytes (x ∷ xs) e = (length xs, refl)

module _ (t : Text) (c : List Rule) where
  textual : (word : Text) → ∥ IsUtf8 word ∥₁ → IsTextual t c as_text word
  textual word utf8 = record {
    first = λ flags is. first_char _ (short_char word flags utf8 is);
    some = λ flags is. some_bytes flags (short_char word flags utf8 is);
  }

  all_textual : (words : List (String Global)) → AllByRecursion (IsTextual t c as_text) (map string_bytes words)
  all_textual [] = tt
  all_textual (word ∷ words) = (textual (string_bytes word) word.ok, all_textual words)

  pub rest_textual : (words : List (String Global)) → AllByRecursion (IsTextual t c as_text) (drop 1 (map string_bytes words))
  rest_textual [] = tt
  rest_textual (word ∷ words) = all_textual words

  -- a value that a getter reads is that of the line
  pub first_value_of : (name : Text) (us : List Use) → first_of name (map (row_for t c as_text) us) ≡ value_of name us
  first_value_of name [] = refl
  first_value_of name (one ∷ us) = go (bytes_eq one.0 name) (first_value_of name us)
    where
      rows : List Row
      rows = map (row_for t c as_text) us

      go : (b : Bool) → option_and_then (λ (r : Row). slice_get r.values 0) (find (λ r. bytes_eq r.id name) rows) ≡ option_map (λ (o : Use). o.1) (find (λ o. bytes_eq o.0 name) us)
          → option_and_then (λ (r : Row). slice_get r.values 0) (if b then Some (row_for t c as_text one) else find (λ r. bytes_eq r.id name) rows)
          ≡ option_map (λ (o : Use). o.1) (if b then Some one else find (λ o. bytes_eq o.0 name) us)
      go true later = refl
      go false later = later
