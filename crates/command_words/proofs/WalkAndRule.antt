-- The rule of the words and clap's walk: they make the same of the words, but that clap takes a single hyphen as the value of an option.
use Rattle.std.proofs.Common.{◌≡◌, ◌∙◌, ◌&&◌, ◌==◌, ℕ, Bool, true, false, true≢false, refl, sym, ap, ap₂, subst, List, [], ◌∷◌, Option, Some, None}
use Rattle.std.specs.Prelude.{if◌then◌else◌, not, option_and_then}
use Rattle.std.specs.Option.{option_map_or}
use Rattle.std.proofs.lemmas.Bool.{eqb-true}
use Rattle.command_words.proofs.Forms.{same_text, same_from}
use Rattle.clap.specs.Lexer.{long_of, long_of_rest, short_of, short_of_rest, strip_byte}
use Rattle.command_words.specs.Words as rule
use Rattle.command_words.specs.Words.{Text, Use, with_use, word_use, positional, option_use, is_dashes, is_positional, begins_with_dash, flag, flag_of}
use Rattle.command_words.specs.Line as walk

module _ (is_option : Text → Bool) where
  -- some use of an option has a single hyphen for its value
  pub data HasHyphen : List Use → Type 0 where
    here : {name : Text} {rest : List Use} → is_option name ≡ true → HasHyphen ((name, 45 ∷ []) ∷ rest)
    later : {one : Use} {rest : List Use} → HasHyphen rest → HasHyphen (one ∷ rest)

  -- what the rule makes, and what the walk makes
  pub data Fits : Option (List Use) → Option (List Use) → Type 0 where
    same : {line : Option (List Use)} → Fits line line
    hyphen : {uses : List Use} → HasHyphen uses → Fits None (Some uses)

  fits_with : (one : Use) (a b : Option (List Use)) → Fits a b → Fits (with_use one a) (with_use one b)
  fits_with one a b same = same
  fits_with one a b (hyphen h) = hyphen (later h)

  fits_word : (names : List Text) (word : Text) (f g : List Text → Option (List Use)) → ((left : List Text) → Fits (f left) (g left)) → Fits (word_use names word f) (word_use names word g)
  fits_word [] word f g h = same
  fits_word (name ∷ names) word f g h = fits_with (name, word) (f names) (g names) (h names)

  abbrev IsWaiting : Option Text → Type 0
  IsWaiting None = Unit {0}
  IsWaiting (Some name) = is_option name ≡ true

  fits_if : (b : Bool) (f g : Option (List Use)) → (b ≡ true → Fits f g) → Fits (if b then f else None) (if b then g else None)
  fits_if true f g h = h refl
  fits_if false f g h = same

  fits_option : (name : Text) (value : Option Text) (f g : Option Text → Option (List Use)) → ((waiting : Option Text) → IsWaiting waiting → Fits (f waiting) (g waiting))
      → Fits (option_use is_option name value f) (option_use is_option name value g)
  fits_option name None f g h = fits_if (is_option name) (f (Some name)) (g (Some name)) (λ e. h (Some name) e)
  fits_option name (Some value) f g h = fits_if (is_option name) (with_use (name, value) (f None)) (with_use (name, value) (g None)) (λ e. fits_with (name, value) (f None) (g None) (h None tt))

  -- what a word is by the rule, and by the walk
  abbrev by_rule : Text → {A : Type 0} → A → (Text × Option Text → A) → A → A
  by_rule word plain long refused = if is_positional word then plain else option_map_or long (flag_of word) refused

  abbrev by_walk : Text → {A : Type 0} → A → (Text × Option Text → A) → A → A
  by_walk word plain long refused = option_map_or long (long_of word) (option_map_or (λ _. refused) (short_of word) plain)

  one_kind : (word : Text) → is_dashes word ≡ false → {A : Type 0} → (plain : A) (long : Text × Option Text → A) (refused : A) → by_rule word plain long refused ≡ by_walk word plain long refused
  one_kind [] other plain long refused = refl
  one_kind (a ∷ []) other plain long refused = go (a == 45)
    where
      go : (x : Bool) → plain ≡ option_map_or long (option_and_then long_of_rest (option_and_then (strip_byte 45) (if x then Some [] else None))) (option_map_or (λ _. refused) (option_and_then short_of_rest (if x then Some [] else None)) plain)
      go true = refl
      go false = refl
  one_kind (a ∷ b ∷ rest) other {A} plain long refused = go (a == 45) refl
    where
      flagged : (left : Text) → (is_dashes (45 ∷ 45 ∷ left) ≡ false) → long (flag left) ≡ option_map_or long (long_of_rest left) plain
      flagged [] bad = absurd (true≢false (sym (same_text (45 ∷ 45 ∷ [])) ∙ bad))
      flagged (c ∷ cs) bad = refl

      second : (y : Bool) → (b == 45) ≡ y → a ≡ 45 → option_map_or long (if y then Some (flag rest) else None) refused
          ≡ option_map_or long (option_and_then long_of_rest (if y then Some rest else None)) (option_map_or (λ (_ : Text). refused) (if y then None else Some (b ∷ rest)) plain)
      second false q p = refl
      second true q p = flagged rest (subst (λ (n : ℕ). is_dashes (45 ∷ n ∷ rest) ≡ false) (eqb-true b 45 q) (subst (λ (n : ℕ). is_dashes (n ∷ b ∷ rest) ≡ false) p other))

      go : (x : Bool) → (a == 45) ≡ x → (if not x then plain else option_map_or long (if x && b == 45 then Some (flag rest) else None) refused)
          ≡ option_map_or long (option_and_then long_of_rest (option_and_then (strip_byte 45) (if x then Some (b ∷ rest) else None)))
          (option_map_or (λ (_ : Text). refused) (option_and_then short_of_rest (if x then Some (b ∷ rest) else None)) plain)
      go false p = refl
      go true p = second (b == 45) refl (eqb-true a 45 p)

  -- the same of a word in the place of an option's value: the walk takes a single hyphen too
  plain_word : (word : Text) → begins_with_dash word ≡ false → (long_of word ≡ None) × (short_of word ≡ None)
  plain_word [] e = (refl, refl)
  plain_word (a ∷ rest) e = (ap (λ b. option_and_then long_of_rest (option_and_then (strip_byte 45) (if b then Some rest else None))) e, ap (λ b. option_and_then short_of_rest (if b then Some rest else None)) e)

  fits_walk : (long_r long_w : Text × Option Text → Option (List Use)) (plain_r plain_w : Option (List Use)) → ((f : Text × Option Text) → Fits (long_r f) (long_w f)) → Fits plain_r plain_w → (o : Option (Text × Option Text)) (s : Option Text)
      → Fits (option_map_or long_r o (option_map_or (λ _. None) s plain_r)) (option_map_or long_w o (option_map_or (λ _. None) s plain_w))
  fits_walk long_r long_w plain_r plain_w l p (Some f) s = l f
  fits_walk long_r long_w plain_r plain_w l p None (Some short) = same
  fits_walk long_r long_w plain_r plain_w l p None None = p

  -- a word that begins with a hyphen, in the place of an option's value
  abbrev walk_value : Text → Text → Option (List Use) → Option (List Use)
  walk_value name word next = if is_dashes word then None else walk.value_use name word next

  fits_hyphen : (name : Text) (is : is_option name ≡ true) (next : Option (List Use)) → Fits None (walk_value name (45 ∷ []) next)
  fits_hyphen name is None = same
  fits_hyphen name is (Some uses) = hyphen (here is)

  fits_more : (name : Text) (is : is_option name ≡ true) (c : ℕ) (rest : Text) (next : Option (List Use)) → Fits None (walk_value name (45 ∷ c ∷ rest) next)
  fits_more name is c rest next = go (c == 45) refl rest
    where
      refused : Option (List Use)
      refused = None

      dashed : (d : Bool) (other : Option (List Use)) → other ≡ None → Fits None (if d then None else other)
      dashed true other e = same
      dashed false other e = subst (Fits None) (sym e) same

      go : (y : Bool) → (c == 45) ≡ y → (r : Text) → Fits None (walk_value name (45 ∷ c ∷ r) next)
      go false p r = dashed (is_dashes (45 ∷ c ∷ r)) (walk.value_use name (45 ∷ c ∷ r) next)
          (ap (λ (y : Bool). option_map_or (λ _. refused) (option_and_then long_of_rest (if y then Some r else None)) (option_map_or (λ _. refused) (if y then None else Some (c ∷ r)) (with_use (name, 45 ∷ c ∷ r) next))) p)
      go true p [] = subst (λ (n : ℕ). Fits None (walk_value name (45 ∷ n ∷ []) next)) (sym (eqb-true c 45 p)) same
      go true p (x ∷ xs) = dashed (is_dashes (45 ∷ c ∷ x ∷ xs)) (walk.value_use name (45 ∷ c ∷ x ∷ xs) next)
          (ap (λ (y : Bool). option_map_or (λ _. refused) (option_and_then long_of_rest (if y then Some (x ∷ xs) else None)) (option_map_or (λ _. refused) (if y then None else Some (c ∷ x ∷ xs)) (with_use (name, 45 ∷ c ∷ x ∷ xs) next))) p)

  fits_dash_value : (name : Text) (is : is_option name ≡ true) (word : Text) (next : Option (List Use)) → begins_with_dash word ≡ true → Fits None (walk_value name word next)
  fits_dash_value name is [] next e = absurd (true≢false (sym e))
  fits_dash_value name is (a ∷ []) next e = subst (λ (n : ℕ). Fits None (walk_value name (n ∷ []) next)) (sym (eqb-true a 45 e)) (fits_hyphen name is next)
  fits_dash_value name is (a ∷ c ∷ rest) next e = subst (λ (n : ℕ). Fits None (walk_value name (n ∷ c ∷ rest) next)) (sym (eqb-true a 45 e)) (fits_more name is c rest next)

  no_dashes : (word : Text) → begins_with_dash word ≡ false → is_dashes word ≡ false
  no_dashes word e = go (is_dashes word) refl
    where
      go : (b : Bool) → is_dashes word ≡ b → b ≡ false
      go false p = refl
      go true p = let is : word ≡ 45 ∷ 45 ∷ [] = same_from word (45 ∷ 45 ∷ []) p in absurd (true≢false (sym (ap begins_with_dash is) ∙ e))

  fits_value : (name : Text) (is : is_option name ≡ true) (word : Text) (r w : Option (List Use)) → Fits r w → Fits (if begins_with_dash word then None else with_use (name, word) r) (walk_value name word w)
  fits_value name is word r w f = go (begins_with_dash word) refl
    where
      go : (b : Bool) → begins_with_dash word ≡ b → Fits (if b then None else with_use (name, word) r) (walk_value name word w)
      go true e = fits_dash_value name is word w e
      go false e =
          let none = plain_word word e in
          let plain : walk_value name word w ≡ with_use (name, word) w =
          ap (λ b. if b then None else walk.value_use name word w) (no_dashes word e)
          ∙ ap₂ (λ l s. option_map_or (λ _. None) l (option_map_or (λ _. None) s (with_use (name, word) w))) none.0 none.1 in
          subst (Fits (with_use (name, word) r)) (sym plain) (fits_with (name, word) r w f)

  abbrev R : List Text → Option Text → List Text → Option (List Use)
  R = rule.uses_of is_option

  abbrev W : List Text → Option Text → List Text → Option (List Use)
  W = walk.uses_of is_option

  idle_word : (word : Text) (rest names : List Text) → ((left : List Text) (waiting : Option Text) → IsWaiting waiting → Fits (R left waiting rest) (W left waiting rest)) → Fits (R names None (word ∷ rest)) (W names None (word ∷ rest))
  idle_word word rest names h = go (is_dashes word) refl
    where
      plain_r : Option (List Use)
      plain_r = word_use names word (λ left. R left None rest)

      plain_w : Option (List Use)
      plain_w = word_use names word (λ left. W left None rest)

      long_r : Text × Option Text → Option (List Use)
      long_r f = option_use is_option f.0 f.1 (λ waiting. R names waiting rest)

      long_w : Text × Option Text → Option (List Use)
      long_w f = option_use is_option f.0 f.1 (λ waiting. W names waiting rest)

      go : (b : Bool) → is_dashes word ≡ b → Fits (if b then positional names rest else by_rule word plain_r long_r None) (if b then positional names rest else by_walk word plain_w long_w None)
      go true e = same
      go false e = subst (λ (l : Option (List Use)). Fits l (by_walk word plain_w long_w None)) (sym (one_kind word e plain_r long_r None))
          (fits_walk long_r long_w plain_r plain_w
          (λ f. fits_option f.0 f.1 (λ waiting. R names waiting rest) (λ waiting. W names waiting rest) (λ waiting ok. h names waiting ok))
          (fits_word names word (λ left. R left None rest) (λ left. W left None rest) (λ left. h left None tt)) (long_of word) (short_of word))

  -- the rule and the walk
  pub fits_words : (words names : List Text) (waiting : Option Text) → IsWaiting waiting → Fits (R names waiting words) (W names waiting words)
  fits_words [] names None ok = same
  fits_words [] names (Some name) ok = same
  fits_words (word ∷ rest) names None ok = idle_word word rest names (fits_words rest)
  fits_words (word ∷ rest) names (Some name) ok = fits_value name ok word (R names None rest) (W names None rest) (fits_words rest names None tt)

-- a command without options
no_hyphen : (uses : List Use) → HasHyphen (λ _. false) uses → ⊥
no_hyphen [] h = elim h [ ]
no_hyphen (one ∷ rest) (here is) = true≢false (sym is)
no_hyphen (one ∷ rest) (later h) = no_hyphen rest h

same_without : (a b : Option (List Use)) → Fits (λ _. false) a b → a ≡ b
same_without a b same = refl
same_without a b (hyphen h) = absurd (no_hyphen _ h)

pub same_line : (names words : List Text) → rule.line_of [] names words ≡ walk.line_of (rule.is_among []) names words
same_line names words = ap (option_and_then (rule.once [])) (same_without _ _ (fits_words (λ _. false) words names None tt))
