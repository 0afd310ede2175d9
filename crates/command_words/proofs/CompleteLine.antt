-- The command `complete`: where the rule and clap's walk differ, a number is a single hyphen, and both refuse it.
use Rattle.std.proofs.Common.{◌≡◌, ◌∙◌, ℕ, Bool, true, false, true≢false, refl, sym, ap, ap₂, ◌⊎◌, ⊎_elim, List, [], ◌∷◌, ◌++◌, Option, Some, None}
use Rattle.std.specs.Prelude.{if◌then◌else◌, option_and_then, is_some, option_map, find, codes, ◌||◌, unwrap_or}
use Rattle.std.specs.Option.{option_map_or}
use Rattle.std.specs.Str.{bytes_eq}
use Rattle.std.proofs.lemmas.List.{append-nil, append_assoc}
use Rattle.command_words.proofs.Forms.{same_text, same_from}
use Rattle.command_words.proofs.WalkAndRule.{HasHyphen, here, later, Fits, same, hyphen, fits_words}
use Rattle.command_words.specs.Words as rule
use Rattle.command_words.specs.Words.{Text, Use, Limits, Command, has_use, once, value_of, is_among, number_or, limits_by, complete_options, complete_of, ◌>>=◌}
use Rattle.command_words.specs.Line as walk

abbrev option_in : Text → ℕ → ℕ → ℕ → List Use → Option ℕ
option_in name usual least most uses = number_or usual least most (value_of name uses)

abbrev pub limits_of : List Use → Option Limits
limits_of uses = limits_by (λ name. value_of name uses)

-- ---- six numbers

abbrev six : Option ℕ → Option ℕ → Option ℕ → Option ℕ → Option ℕ → Option ℕ → Option Limits
six a b c d e f = a >>= λ u. b >>= λ v. c >>= λ w. d >>= λ x. e >>= λ y. f >>= λ z. Some (record { rounds = u; steps = v; height = w; terms = x; pairs = y; states = z })

no_2 : (a c d e f : Option ℕ) → six a None c d e f ≡ None
no_2 None c d e f = refl
no_2 (Some u) c d e f = refl

no_3 : (a b d e f : Option ℕ) → six a b None d e f ≡ None
no_3 None b d e f = refl
no_3 (Some u) None d e f = refl
no_3 (Some u) (Some v) d e f = refl

no_4 : (a b c e f : Option ℕ) → six a b c None e f ≡ None
no_4 None b c e f = refl
no_4 (Some u) None c e f = refl
no_4 (Some u) (Some v) None e f = refl
no_4 (Some u) (Some v) (Some w) e f = refl

no_5 : (a b c d f : Option ℕ) → six a b c d None f ≡ None
no_5 None b c d f = refl
no_5 (Some u) None c d f = refl
no_5 (Some u) (Some v) None d f = refl
no_5 (Some u) (Some v) (Some w) None f = refl
no_5 (Some u) (Some v) (Some w) (Some x) f = refl

no_6 : (a b c d e : Option ℕ) → six a b c d e None ≡ None
no_6 None b c d e = refl
no_6 (Some u) None c d e = refl
no_6 (Some u) (Some v) None d e = refl
no_6 (Some u) (Some v) (Some w) None e = refl
no_6 (Some u) (Some v) (Some w) (Some x) None = refl
no_6 (Some u) (Some v) (Some w) (Some x) (Some y) = refl

-- ---- a number that is a hyphen

not_in : (name : Text) (usual least most : ℕ) (uses : List Use) → value_of name uses ≡ Some (45 ∷ []) → option_in name usual least most uses ≡ None
not_in name usual least most uses e = ap (λ v. option_map_or (rule.number_in least most) v (Some usual)) e

abbrev rounds_in : List Use → Option ℕ
rounds_in uses = option_in (codes "rounds") 20 0 1000 uses

abbrev steps_in : List Use → Option ℕ
steps_in uses = option_in (codes "steps") 5 0 100 uses

abbrev height_in : List Use → Option ℕ
height_in uses = option_in (codes "height") 4 1 50 uses

abbrev terms_in : List Use → Option ℕ
terms_in uses = option_in (codes "terms") 5000 1 50000 uses

abbrev pairs_in : List Use → Option ℕ
pairs_in uses = option_in (codes "pairs") 100000 0 1000000 uses

abbrev states_in : List Use → Option ℕ
states_in uses = option_in (codes "states") 4096 1 16384 uses

no_limits : (uses : List Use) (name : Text) → is_among complete_options name ≡ true → value_of name uses ≡ Some (45 ∷ []) → limits_of uses ≡ None
no_limits uses name among e = first (bytes_eq (codes "rounds") name) refl among
  where
    is : (o : Text) → bytes_eq o name ≡ true → value_of o uses ≡ Some (45 ∷ [])
    is o p = ap (λ n. value_of n uses) (same_from o name p) ∙ e

    last : (b : Bool) → bytes_eq (codes "states") name ≡ b → (b || false) ≡ true → limits_of uses ≡ None
    last true p q = ap (λ o. six (rounds_in uses) (steps_in uses) (height_in uses) (terms_in uses) (pairs_in uses) o) (not_in (codes "states") 4096 1 16384 uses (is (codes "states") p)) ∙ no_6 (rounds_in uses) (steps_in uses) (height_in uses) (terms_in uses) (pairs_in uses)
    last false p q = absurd (true≢false (sym q))

    fifth : (b : Bool) → bytes_eq (codes "pairs") name ≡ b → (b || (bytes_eq (codes "states") name || false)) ≡ true → limits_of uses ≡ None
    fifth true p q = ap (λ o. six (rounds_in uses) (steps_in uses) (height_in uses) (terms_in uses) o (states_in uses)) (not_in (codes "pairs") 100000 0 1000000 uses (is (codes "pairs") p)) ∙ no_5 (rounds_in uses) (steps_in uses) (height_in uses) (terms_in uses) (states_in uses)
    fifth false p q = last (bytes_eq (codes "states") name) refl q

    fourth : (b : Bool) → bytes_eq (codes "terms") name ≡ b → (b || (bytes_eq (codes "pairs") name || (bytes_eq (codes "states") name || false))) ≡ true → limits_of uses ≡ None
    fourth true p q = ap (λ o. six (rounds_in uses) (steps_in uses) (height_in uses) o (pairs_in uses) (states_in uses)) (not_in (codes "terms") 5000 1 50000 uses (is (codes "terms") p)) ∙ no_4 (rounds_in uses) (steps_in uses) (height_in uses) (pairs_in uses) (states_in uses)
    fourth false p q = fifth (bytes_eq (codes "pairs") name) refl q

    third : (b : Bool) → bytes_eq (codes "height") name ≡ b → (b || (bytes_eq (codes "terms") name || (bytes_eq (codes "pairs") name || (bytes_eq (codes "states") name || false)))) ≡ true → limits_of uses ≡ None
    third true p q = ap (λ o. six (rounds_in uses) (steps_in uses) o (terms_in uses) (pairs_in uses) (states_in uses)) (not_in (codes "height") 4 1 50 uses (is (codes "height") p)) ∙ no_3 (rounds_in uses) (steps_in uses) (terms_in uses) (pairs_in uses) (states_in uses)
    third false p q = fourth (bytes_eq (codes "terms") name) refl q

    second : (b : Bool) → bytes_eq (codes "steps") name ≡ b → (b || (bytes_eq (codes "height") name || (bytes_eq (codes "terms") name || (bytes_eq (codes "pairs") name || (bytes_eq (codes "states") name || false))))) ≡ true → limits_of uses ≡ None
    second true p q = ap (λ o. six (rounds_in uses) o (height_in uses) (terms_in uses) (pairs_in uses) (states_in uses)) (not_in (codes "steps") 5 0 100 uses (is (codes "steps") p)) ∙ no_2 (rounds_in uses) (height_in uses) (terms_in uses) (pairs_in uses) (states_in uses)
    second false p q = third (bytes_eq (codes "height") name) refl q

    first : (b : Bool) → bytes_eq (codes "rounds") name ≡ b → (b || (bytes_eq (codes "steps") name || (bytes_eq (codes "height") name || (bytes_eq (codes "terms") name || (bytes_eq (codes "pairs") name || (bytes_eq (codes "states") name || false)))))) ≡ true → limits_of uses ≡ None
    first true p q = ap (λ o. six o (steps_in uses) (height_in uses) (terms_in uses) (pairs_in uses) (states_in uses)) (not_in (codes "rounds") 20 0 1000 uses (is (codes "rounds") p))
    first false p q = second (bytes_eq (codes "steps") name) refl q

-- ---- the value of a name that is used once

found_behind : (name value : Text) (before rest : List Use) → has_use name before ≡ false → value_of name (before ++ (name, value) ∷ rest) ≡ Some value
found_behind name value [] rest none = ap (λ b. option_map (λ (one : Use). one.1) (if b then Some (name, value) else find (λ one. bytes_eq one.0 name) rest)) (same_text name)
found_behind name value (one ∷ before) rest none = go (bytes_eq one.0 name) refl none (found_behind name value before rest)
  where
    go : (b : Bool) → bytes_eq one.0 name ≡ b → (b || has_use name before) ≡ false → (has_use name before ≡ false → value_of name (before ++ (name, value) ∷ rest) ≡ Some value) → option_map (λ (u : Use). u.1) (if b then Some one else find (λ u. bytes_eq u.0 name) (before ++ (name, value) ∷ rest)) ≡ Some value
    go true p q more = absurd (true≢false q)
    go false p q more = more q

-- all are kept
kept : (before rest uses : List Use) → once before rest ≡ Some uses → before ++ rest ≡ uses
kept before [] uses e = append-nil before ∙ ap (λ o. unwrap_or o []) e
kept before (one ∷ rest) uses e = go (has_use one.0 before) e (kept (before ++ one ∷ []) rest uses)
  where
    go : (b : Bool) → (if b then None else once (before ++ one ∷ []) rest) ≡ Some uses → (once (before ++ one ∷ []) rest ≡ Some uses → (before ++ one ∷ []) ++ rest ≡ uses) → before ++ one ∷ rest ≡ uses
    go true e more = absurd (true≢false (sym (ap is_some e)))
    go false e more = sym (append_assoc before (one ∷ []) rest) ∙ more e

record HyphenAt (is_option : Text → Bool) (uses : List Use) : Type 0 where
  name : Text
  option : is_option name ≡ true
  value : value_of name uses ≡ Some (45 ∷ [])

hyphen_at : (is_option : Text → Bool) (before rest uses : List Use) → once before rest ≡ Some uses → HasHyphen is_option rest → HyphenAt is_option uses
hyphen_at is_option before [] uses e h = elim h [ ]
hyphen_at is_option before (one ∷ rest) uses e (here {name = name} is) = go (has_use name before) refl e
  where
    go : (b : Bool) → has_use name before ≡ b → (if b then None else once (before ++ (name, 45 ∷ []) ∷ []) rest) ≡ Some uses → HyphenAt is_option uses
    go true p e = absurd (true≢false (sym (ap is_some e)))
    go false p e = record { name = name; option = is; value = ap (λ us. value_of name us) (sym (sym (append_assoc before ((name, 45 ∷ []) ∷ []) rest) ∙ kept (before ++ (name, 45 ∷ []) ∷ []) rest uses e)) ∙ found_behind name (45 ∷ []) before rest p }
hyphen_at is_option before (one ∷ rest) uses e (later h) = go (has_use one.0 before) e (λ (f : once (before ++ one ∷ []) rest ≡ Some uses). hyphen_at is_option (before ++ one ∷ []) rest uses f h)
  where
    go : (b : Bool) → (if b then None else once (before ++ one ∷ []) rest) ≡ Some uses → (once (before ++ one ∷ []) rest ≡ Some uses → HyphenAt is_option uses) → HyphenAt is_option uses
    go true e more = absurd (true≢false (sym (ap is_some e)))
    go false e more = more e

-- ---- the command

abbrev pub after : List Use → Option Command
after uses = value_of (codes "file") uses >>= λ file. limits_of uses >>= λ limits. Some (rule.complete file limits)

after_none : (uses : List Use) → limits_of uses ≡ None → after uses ≡ None
after_none uses e = go (value_of (codes "file") uses)
  where
    go : (o : Option Text) → (o >>= λ file. limits_of uses >>= λ limits. Some (rule.complete file limits)) ≡ None
    go None = refl
    go (Some file) = ap (λ l. l >>= λ limits. Some (rule.complete file limits)) e

same_after : (a b : Option (List Use)) → Fits (is_among complete_options) a b → (option_and_then (once []) a >>= after) ≡ (option_and_then (once []) b >>= after)
same_after a b same = refl
same_after a b (hyphen {uses = uses} h) = go (once [] uses) refl
  where
    go : (o : Option (List Use)) → once [] uses ≡ o → None ≡ (o >>= after)
    go None e = refl
    go (Some all) e = let at = hyphen_at (is_among complete_options) [] uses all e h in sym (after_none all (no_limits all at.name at.option at.value))

-- what clap makes of the words behind `complete`, with the numbers and the file read, is the command
pub same_complete : (words : List Text) → complete_of words ≡ (walk.line_of (is_among complete_options) (codes "file" ∷ []) words >>= after)
same_complete words = same_after _ _ (fits_words (is_among complete_options) words (codes "file" ∷ []) None tt)

-- ---- what clap has made of them

made : Option Text → Option Limits → Option Command
made file limits = file >>= λ file. limits >>= λ limits. Some (rule.complete file limits)

none_made : (file : Option Text) (limits : Option Limits) → (file ≡ None) ⊎ (limits ≡ None) → made file limits ≡ None
unfolding made
none_made None limits h = refl
none_made (Some f) None h = refl
none_made (Some f) (Some l) h = ⊎_elim (λ e. absurd (true≢false (ap is_some e))) (λ e. absurd (true≢false (ap is_some e))) h

module _ (words : List Text) (uses : List Use) (values : Text → Option Text) (line : walk.line_of (is_among complete_options) (codes "file" ∷ []) words ≡ Some uses)
    (same : (name : Text) → values name ≡ value_of name uses) where
  read_as : complete_of words ≡ made (values (codes "file")) (limits_by values)
  unfolding made
  read_as = same_complete words ∙ (ap (λ line. line >>= after) line ∙ (λ i. made (sym (same (codes "file")) i) (limits_by (λ name. sym (same name) i))))

  pub is_command : (file : Text) (limits : Limits) → Some file ≡ values (codes "file") → Some limits ≡ limits_by values → complete_of words ≡ Some (rule.complete file limits)
  unfolding made
  is_command file limits f l = read_as ∙ ap₂ made (sym f) (sym l)

  pub is_none : (values (codes "file") ≡ None) ⊎ (limits_by values ≡ None) → complete_of words ≡ None
  is_none h = read_as ∙ none_made (values (codes "file")) (limits_by values) h

pub refused : (words : List Text) → walk.line_of (is_among complete_options) (codes "file" ∷ []) words ≡ None → complete_of words ≡ None
refused words e = same_complete words ∙ ap (λ line. line >>= after) e
