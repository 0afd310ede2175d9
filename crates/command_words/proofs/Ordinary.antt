-- The rules of a command, for any options and positional words.
use Rattle.std.proofs.Common.{◌≡◌, ◌∙◌, ◌+◌, ◌&&◌, ◌||◌, ℕ, Bool, true, false, true≢false, not, refl, sym, ap, subst, List, [], ◌∷◌, ◌++◌, map, min, Option, Some, None}
use Rattle.std.specs.Prelude.{if◌then◌else◌, is_some}
use Rattle.std.specs.List.{AllByRecursion, list_any}
use Rattle.std.specs.Str.{bytes_eq}
use Rattle.clap.specs.Lexer.{usize_max}
use Rattle.clap.specs.Walk.{Row, Rule, arg_by_id, arg_by_long, arg_by_short}
use Rattle.clap.specs.Simple.{filled, with_index, built}
use Rattle.clap.specs.Kinds.{check_kinds}
use Rattle.clap.specs.Takes.{is_given}
use Rattle.std.proofs.Common.{ap₂, ◌⊎◌, inl, inr, ⊎_elim, drop, option_map, Result, Ok, Err}
use Rattle.std.specs.Prelude.{String, IfOk, MatchResult, string_bytes, unwrap_or}
use Rattle.std.specs.Global.{Global}
use Rattle.std.proofs.lemmas.Result.{IfOk-weaker}
use Rattle.clap.specs.Words.{App, FailsBy, HasKind, Kinds, fault_of, is_simple_and_free, is_simple, kind_of, matches_of, rows_of, found_of, subcommand_rows_of, subcommand_of}
use Rattle.clap.specs.Walk.{first_of, nothing_held, rows_after}
use Rattle.clap.specs.Simple.{names_of, argument_words}
use Rattle.clap.specs.Faults.{built_fault}
use Rattle.clap.specs.declared.error.Error.{Error}
use Rattle.clap.specs.declared.error.kind.ErrorKind.TheVariants.{OutOfMemory}
use Rattle.clap.specs.declared.parser.matches.ArgMatches.{ArgMatches}
use Rattle.clap.proofs.FaultLemmas.{leaf_fault}
use Rattle.command_words.specs.Line.{Text, Use, line_of, value_of}
use Rattle.command_words.specs.Commands.{option_rule, word_rule, is_among}
use Rattle.command_words.proofs.Faults.{shape, when_none}
use Rattle.command_words.proofs.Walked.{IsForm, IsPlaced, IsTextual, row_for, line_rows}
use Rattle.command_words.proofs.Forms.{as_text, known_option, no_default_fault, no_default_rows, same_from, rest_textual, first_value_of}

abbrev pub option_rules : List Text → List Rule
option_rules [] = []
option_rules (o ∷ os) = filled (option_rule o) ∷ option_rules os

abbrev pub word_rules : ℕ → List Text → List Rule
word_rules i [] = []
word_rules i (n ∷ ns) = with_index i (filled (word_rule n)) ∷ word_rules (min (i + 1) usize_max) ns

module _ (rest : List Rule) where
  long_among : (options : List Text) (name : Text) → is_among options name ≡ true → arg_by_long (option_rules options ++ rest) name ≡ Some (filled (option_rule name))
  long_among [] name e = absurd (true≢false (sym e))
  long_among (o ∷ os) name e = go (bytes_eq o name) refl e (long_among os name)
    where
      go : (b : Bool) → bytes_eq o name ≡ b → (b || is_among os name) ≡ true
          → (is_among os name ≡ true → arg_by_long (option_rules os ++ rest) name ≡ Some (filled (option_rule name)))
          → (if b || false then Some (filled (option_rule o)) else arg_by_long (option_rules os ++ rest) name) ≡ Some (filled (option_rule name))
      go true is e later = ap (λ n. Some (filled (option_rule n))) (same_from o name is)
      go false is e later = later e

  id_among : (options : List Text) (name : Text) → is_among options name ≡ true → arg_by_id (option_rules options ++ rest) name ≡ Some (filled (option_rule name))
  id_among [] name e = absurd (true≢false (sym e))
  id_among (o ∷ os) name e = go (bytes_eq o name) refl e (id_among os name)
    where
      go : (b : Bool) → bytes_eq o name ≡ b → (b || is_among os name) ≡ true
          → (is_among os name ≡ true → arg_by_id (option_rules os ++ rest) name ≡ Some (filled (option_rule name)))
          → (if b then Some (filled (option_rule o)) else arg_by_id (option_rules os ++ rest) name) ≡ Some (filled (option_rule name))
      go true is e later = ap (λ n. Some (filled (option_rule n))) (same_from o name is)
      go false is e later = later e

  long_missing : (options : List Text) (name : Text) → arg_by_long rest name ≡ None → is_among options name ≡ false → arg_by_long (option_rules options ++ rest) name ≡ None
  long_missing [] name none e = none
  long_missing (o ∷ os) name none e = go (bytes_eq o name) e (long_missing os name none)
    where
      go : (b : Bool) → (b || is_among os name) ≡ false → (is_among os name ≡ false → arg_by_long (option_rules os ++ rest) name ≡ None)
          → (if b || false then Some (filled (option_rule o)) else arg_by_long (option_rules os ++ rest) name) ≡ None
      go true e later = absurd (true≢false e)
      go false e later = later e

  no_short : (options : List Text) (x : ℕ) → arg_by_short rest x ≡ None → arg_by_short (option_rules options ++ rest) x ≡ None
  no_short [] x none = none
  no_short (o ∷ os) x none = no_short os x none

  no_defaults : (options : List Text) → AllByRecursion (λ a. a.defaults ≡ []) rest → AllByRecursion (λ a. a.defaults ≡ []) (option_rules options ++ rest)
  no_defaults [] none = none
  no_defaults (o ∷ os) none = (refl, no_defaults os none)

  none_required : (options : List Text) (p : Rule → Bool) → list_any (λ a. a.required && p a) rest ≡ false → list_any (λ a. a.required && p a) (option_rules options ++ rest) ≡ false
  none_required [] p none = none
  none_required (o ∷ os) p none = none_required os p none

words_long : (i : ℕ) (names : List Text) (name : Text) → arg_by_long (word_rules i names) name ≡ None
words_long i [] name = refl
words_long i (n ∷ ns) name = words_long (min (i + 1) usize_max) ns name

words_short : (i : ℕ) (names : List Text) (x : ℕ) → arg_by_short (word_rules i names) x ≡ None
words_short i [] x = refl
words_short i (n ∷ ns) x = words_short (min (i + 1) usize_max) ns x

words_defaults : (i : ℕ) (names : List Text) → AllByRecursion (λ a. a.defaults ≡ []) (word_rules i names)
words_defaults i [] = tt
words_defaults i (n ∷ ns) = (refl, words_defaults (min (i + 1) usize_max) ns)

words_required : (i : ℕ) (names : List Text) (p : Rule → Bool) → list_any (λ a. a.required && p a) (word_rules i names) ≡ false
words_required i [] p = refl
words_required i (n ∷ ns) p = words_required (min (i + 1) usize_max) ns p

-- each command of options and positional words is read by the rule of the words
pub form_of : (t : Text) (options names : List Text) → IsForm t (option_rules options ++ word_rules 1 names) as_text (is_among options)
unfolding known_option
form_of t options names =
    let words = word_rules 1 names in
    let c = option_rules options ++ words in
    let none = no_defaults words options (words_defaults 1 names) in
    record {
      defaults = λ rows. no_default_fault rows c none;
      kept = λ rows. no_default_rows rows c none;
      checks = λ rows. ap (check_kinds false false) (none_required words options (λ a. not (is_given a.id rows)) (words_required 1 names (λ a. not (is_given a.id rows))));
      no_short = λ x. no_short words options x (words_short 1 names x);
      long = λ name e. (known_option t c name (id_among words options name e), long_among words options name e);
      no_long = λ name e. long_missing words options name (words_long 1 names name) e;
    }

abbrev pub rules_for : List Text → List Text → List Rule
rules_for options names = option_rules options ++ word_rules 1 names

-- a command of options and positional words, built
abbrev pub leaf : Text → List Text → List Text → App
leaf t options names = record { top = shape t (rules_for options names); subs = [] }

-- what holds of each command by computing it
pub record IsOrdinary (t : Text) (options names : List Text) (app : App) : Type 0 where
  pub free : is_simple_and_free app ≡ true
  pub plain : is_simple app ≡ true
  pub built_is : built app ≡ leaf t options names
  pub first_is_name : (words : List Text) → argument_words app words ≡ drop 1 words
  pub placed : IsPlaced t (rules_for options names) as_text 1 names

abbrev pub IsLineOf : List Text → List Text → List Text → List Row → Type 0
IsLineOf options names words rows = (uses : List Use) × (line_of (is_among options) names (drop 1 words) ≡ Some uses) × ((name : Text) → first_of name rows ≡ value_of name uses)

module _ (t : Text) (options names : List Text) (app : App) (ordinary : IsOrdinary t options names app) where
  abbrev rules : List Rule
  rules = rules_for options names

  abbrev line : List Text → Option (List Use)
  line words = line_of (is_among options) names (drop 1 words)

  abbrev row : Use → Row
  row = row_for t rules as_text

  -- clap's faults and rows are those of the line
  rows_are : (words : List Text) → AllByRecursion (IsTextual t rules as_text) (drop 1 words) → when_none (fault_of app words) (Some (matches_of app words)) ≡ option_map (map row) (line words)
  rows_are words textual =
      ap₂ (λ a ws. when_none (built_fault a nothing_held ws) (Some (rows_after a.top.rules (names_of a) ws))) ordinary.built_is (ordinary.first_is_name words)
      ∙ ap (λ ks. when_none ks (Some (rows_after rules [] (drop 1 words)))) (leaf_fault (leaf t options names) nothing_held (drop 1 words) refl)
      ∙ line_rows t rules as_text (is_among options) (form_of t options names) (drop 1 words) textual names ordinary.placed

  line_at_ok : (words : List Text) (found : Option (List Use)) (kinds : Kinds) (rows : List Row) → line words ≡ found
      → when_none kinds (Some rows) ≡ option_map (map row) found → kinds ≡ [] → IsLineOf options names words rows
  line_at_ok words None kinds rows is same none =
      let bad : Some rows ≡ None = sym (ap (λ ks. when_none ks (Some rows)) none) ∙ same in absurd (true≢false (ap is_some bad))
  line_at_ok words (Some uses) kinds rows is same none =
      let both : Some rows ≡ Some (map row uses) = sym (ap (λ ks. when_none ks (Some rows)) none) ∙ same in
      let rows_are : rows ≡ map row uses = ap (λ o. unwrap_or o []) both in
      (uses, is, λ name. ap (first_of name) rows_are ∙ first_value_of t rules_here name uses)
    where
      rules_here : List Rule
      rules_here = rules_for options names

  line_at_err : (found : Option (List Use)) (kinds : Kinds) (rows : List Row) (e : Error) → when_none kinds (Some rows) ≡ option_map (map row) found → HasKind kinds e
      → (kind_of e ≡ OutOfMemory) ⊎ (found ≡ None)
  line_at_err None kinds rows e same h = inr refl
  line_at_err (Some uses) [] rows e same h = ⊎_elim (λ m. inl m) (λ none. absurd none) h
  line_at_err (Some uses) (k ∷ ks) rows e same h = absurd (true≢false (sym (ap is_some same)))

  by_line : (words : List (String Global)) (r : Result ArgMatches Error) → let texts = map string_bytes words in
      FailsBy (fault_of app texts) r → IfOk r (λ m. rows_of (found_of m) ≡ matches_of app texts)
      → MatchResult r (λ m. IsLineOf options names texts (rows_of (found_of m))) (λ e. (kind_of e ≡ OutOfMemory) ⊎ (line texts ≡ None))
  by_line words (Ok m) none rows_found = let texts = map string_bytes words in
      line_at_ok texts (line texts) (fault_of app texts) (rows_of (found_of m)) refl
      (ap (λ rs. when_none (fault_of app texts) (Some rs)) rows_found ∙ rows_are texts (rest_textual t rules words)) none
  by_line words (Err e) kinds rows_found = let texts = map string_bytes words in
      line_at_err (line texts) (fault_of app texts) (matches_of app texts) e (rows_are texts (rest_textual t rules words)) kinds

  -- what clap answers, by its clauses for a command whose form is this one
  pub reads_line : (a : App) (words : List (String Global)) (r : Result ArgMatches Error) → a ≡ app → let texts = map string_bytes words in
      (is_simple_and_free a ≡ true → FailsBy (fault_of a texts) r)
      → IfOk r (λ m. (is_simple a ≡ true → (rows_of (found_of m) ≡ matches_of a texts) × (subcommand_rows_of m ≡ subcommand_of a texts)))
      → MatchResult r (λ m. IsLineOf options names texts (rows_of (found_of m))) (λ e. (kind_of e ≡ OutOfMemory) ⊎ (line texts ≡ None))
  reads_line a words r is fails matches = let texts = map string_bytes words in
      let Fails : App → Type 0 = λ b. FailsBy (fault_of b texts) r in
      by_line words r (subst Fails is (fails (ap is_simple_and_free is ∙ ordinary.free)))
      (IfOk-weaker r _ _ (λ m h. (h (ap is_simple is ∙ ordinary.plain)).0 ∙ ap (λ (b : App). matches_of b texts) is) matches)
