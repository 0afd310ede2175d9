-- What clap's walk over the words makes of them is what the rule of the words says.
use Rattle.std.proofs.Common.{◌≡◌, ◌∙◌, ◌+◌, ◌||◌, ℕ, Bool, true, false, suc, refl, sym, ap, ap₂, List, [], ◌∷◌, ◌++◌, map, length, drop, fold, min, Option, Some, None, option_map}
use Rattle.std.specs.Prelude.{encode_utf8, option_and_then, option_to_list, nat_lt, if◌then◌else◌, slice_get}
use Rattle.std.specs.Option.{option_map_or}
use Rattle.std.specs.List.{AllByRecursion}
use Rattle.std.specs.Str.{bytes_eq, chars}
use Rattle.clap.specs.Lexer.{long_of, short_of, usize_max}
use Rattle.clap.specs.Walk.{Held, Row, Step, value as step_value, trailing as step_trailing, used_by_id, to_positional, after_step, long_or_other, long_word, long_met, option_word, short_or_plain, after_flag, pushed, option_met, flag_met, Rule, Walk, idle, option as awaits, positional as positional_waits, is_pending, has_row, finished, settled, used, walked, with_default, arg_by_id, arg_by_long, arg_by_index, arg_by_short, pending_count, most_values, walk_from, nothing_held}
use Rattle.clap.specs.Walk.{takes_values, takes_several, is_multiple}
use Rattle.clap.specs.Kinds.{Kinds, or_else}
use Rattle.clap.specs.Faults.{bundle_fault, bundle_step_fault, flag_word_fault, long_fault, option_fault, positional_fault, react_fault, short_fault, step_fault, check_fault, defaults_fault, settle_fault, turn_fault, use_fault, walk_fault, flags_fault}
use Rattle.clap.specs.declared.error.kind.ErrorKind.TheVariants as kind
use Rattle.clap.specs.declared.parser.matches.ValueSource.TheVariants.{CommandLine}
use Rattle.clap.specs.declared.builder.value_parser.Reading.{Reading}
use Rattle.std.proofs.lemmas.List.{map-append}
use Rattle.clap.proofs.WalkLemmas.{list_any-map}
use Rattle.command_words.proofs.Faults.{shape, when_none, passes, past_both, regroup, or_nil, refuse, refuses, first_refuses, and_false}
use Rattle.command_words.specs.Line.{Text, Use, has_use, line_of, once, positional, uses_of, with_use, is_dashes, other_use, value_use, word_use, option_use}

module _ (t : Text) (c : List Rule) (how : Reading) where
  abbrev pub faults_from : Walk → List Text → Kinds
  faults_from w words =
      let end = (fold (walked c []) w words).held in
      or_else (walk_fault (shape t c) [] w words)
      (or_else (settle_fault c false end)
      (or_else (defaults_fault (settled c end).rows c) (check_fault (shape t c) (finished c end) false)))

  abbrev pub rows_from : Walk → List Text → List Row
  rows_from w words = finished c (fold (walked c []) w words).held

  -- the rows that the words lead to, where nothing is refused
  abbrev pub found_from : Walk → List Text → Option (List Row)
  found_from w words = when_none (faults_from w words) (Some (rows_from w words))

  found_step : (w : Walk) (word : Text) (rest : List Text)
      → found_from w (word ∷ rest) ≡ when_none (turn_fault (shape t c) [] w word) (found_from (walked c [] w word) rest)
  unfolding walk_fault
  found_step w word rest =
      ap (λ ks. when_none ks (Some (rows_from w (word ∷ rest)))) (regroup (turn_fault (shape t c) [] w word) _ _)
      ∙ past_both (turn_fault (shape t c) [] w word) _ _

  -- the row of a use
  abbrev pub row_for : Use → Row
  row_for one = record { id = one.0; values = one.1 ∷ []; count = None; source = Some CommandLine; reading = how }

  -- how a name is read
  pub record Known (name : Text) : Type 0 where
    pub rule : Rule
    pub found : arg_by_id c name ≡ Some rule
    pub id : rule.id ≡ name
    pub takes : takes_values rule ≡ true
    pub single : takes_several rule ≡ false
    pub alone : is_multiple rule ≡ false
    pub ends : rule.trailing_var_arg ≡ false
    pub fault : (value : Text) (rows : List Row) → use_fault false rule (value ∷ []) rows ≡ (if has_row name rows then kind.ArgumentConflict ∷ [] else [])
    pub empty : (rows : List Row) → passes (use_fault false rule [] rows) ≡ false
    pub fills : (word : Text) → nat_lt (pending_count rule (Some (name, word ∷ []))) (most_values rule) ≡ false
    pub row : (value : Text) (rows : List Row) → has_row name rows ≡ false → used rule (value ∷ []) rows ≡ rows ++ row_for (name, value) ∷ []

  abbrev pub IsKnown : Option Use → Type 0
  IsKnown None = Unit {0}
  IsKnown (Some one) = Known one.0

  -- the uses, added to the rows
  abbrev pub more_rows : List Row → List Use → Option (List Row)
  more_rows rows [] = Some rows
  more_rows rows (one ∷ rest) = if has_row one.0 rows then None else more_rows (rows ++ row_for one ∷ []) rest

  abbrev pub then_rows : List Row → Option (List Use) → Option (List Row)
  then_rows rows uses = option_and_then (more_rows rows) uses

  abbrev pub held_by : List Row → Option Use → Held
  held_by rows pend = record { rows = rows; pending = option_map (λ one. (one.0, one.1 ∷ [])) pend; skip = 0 }

  abbrev pub at_word : List Row → Option Use → ℕ → Bool → Walk
  at_word rows pend position is_trailing = record { held = held_by rows pend; waiting = idle; position = position; is_trailing = is_trailing; stopped = None }

  abbrev pub at_value : List Row → Text → ℕ → Bool → Walk
  at_value rows name position is_trailing = record { held = record { rows = rows; pending = Some (name, []); skip = 0 }; waiting = awaits name; position = position; is_trailing = is_trailing; stopped = None }

  abbrev pub behind : Option Use → Option (List Use) → Option (List Use)
  behind pend uses = option_map (λ us. option_to_list pend ++ us) uses

  one_use : (name : Text) (known : Known name) (value : Text) (rows : List Row) (after : List Row → Option (List Row))
      → when_none (use_fault false known.rule (value ∷ []) rows) (after (used known.rule (value ∷ []) rows)) ≡ option_and_then after (more_rows rows ((name, value) ∷ []))
  one_use name known value rows after =
      ap (λ ks. when_none ks (after (used known.rule (value ∷ []) rows))) (known.fault value rows) ∙ go (has_row name rows) refl
    where
      go : (b : Bool) → has_row name rows ≡ b → when_none (if b then kind.ArgumentConflict ∷ [] else []) (after (used known.rule (value ∷ []) rows))
          ≡ option_and_then after (if b then None else Some (rows ++ row_for (name, value) ∷ []))
      go true e = refl
      go false e = ap after (known.row value rows e)

  settle_is : (rows : List Row) (pend : Option Use) → IsKnown pend → (after : List Row → Option (List Row))
      → when_none (settle_fault c false (held_by rows pend)) (after (settled c (held_by rows pend)).rows) ≡ option_and_then after (more_rows rows (option_to_list pend))
  settle_is rows None known after = refl
  settle_is rows (Some one) known after =
      ap (λ o. when_none (option_map_or (λ a. use_fault false a (one.1 ∷ []) rows) o []) (after (used_by_id o (one.1 ∷ []) rows))) known.found
      ∙ one_use one.0 known one.1 rows after

  more_after : (rows : List Row) (xs ys : List Use) → more_rows rows (xs ++ ys) ≡ option_and_then (λ r. more_rows r ys) (more_rows rows xs)
  more_after rows [] ys = refl
  more_after rows (one ∷ xs) ys = go (has_row one.0 rows) (more_after (rows ++ row_for one ∷ []) xs ys)
    where
      go : (b : Bool) → more_rows (rows ++ row_for one ∷ []) (xs ++ ys) ≡ option_and_then (λ r. more_rows r ys) (more_rows (rows ++ row_for one ∷ []) xs)
          → (if b then None else more_rows (rows ++ row_for one ∷ []) (xs ++ ys))
          ≡ option_and_then (λ r. more_rows r ys) (if b then None else more_rows (rows ++ row_for one ∷ []) xs)
      go true later = refl
      go false later = later

  none_after : (o : Option (List Row)) → option_and_then (λ r. then_rows r None) o ≡ None
  none_after None = refl
  none_after (Some x) = refl

  after_same : (f g : List Row → Option (List Row)) (o : Option (List Row)) → ((r : List Row) → f r ≡ g r) → option_and_then f o ≡ option_and_then g o
  after_same f g None same = refl
  after_same f g (Some r) same = same r

  joined : (rows : List Row) (pend : Option Use) (uses : Option (List Use)) → option_and_then (λ r. then_rows r uses) (more_rows rows (option_to_list pend)) ≡ then_rows rows (behind pend uses)
  joined rows pend None = none_after (more_rows rows (option_to_list pend))
  joined rows pend (Some us) = sym (more_after rows (option_to_list pend) us)

  -- what waits is settled, and then the rest is read
  chain : (rows : List Row) (pend : Option Use) → IsKnown pend → (after : List Row → Option (List Row)) (uses : Option (List Use)) → ((r : List Row) → after r ≡ then_rows r uses)
      → when_none (settle_fault c false (held_by rows pend)) (after (settled c (held_by rows pend)).rows) ≡ then_rows rows (behind pend uses)
  chain rows pend known after uses same =
      settle_is rows pend known after ∙ after_same after (λ r. then_rows r uses) (more_rows rows (option_to_list pend)) same ∙ joined rows pend uses

  behind_none : (uses : Option (List Use)) → behind None uses ≡ uses
  behind_none None = refl
  behind_none (Some us) = refl

  with_row : (rows : List Row) (one : Use) (uses : Option (List Use)) → option_and_then (λ r. then_rows r uses) (more_rows rows (one ∷ [])) ≡ then_rows rows (with_use one uses)
  with_row rows one uses = joined rows (Some one) uses

  -- the words name this positional word and those after it from this place on
  abbrev pub IsPlaced : ℕ → List Text → Type 0
  IsPlaced position [] = arg_by_index c position ≡ None
  IsPlaced position (name ∷ names) = (known : Known name) × (arg_by_index c position ≡ Some known.rule) × IsPlaced (min (position + 1) usize_max) names

  -- the rules are those of a command with these options
  pub record IsForm (is_option : Text → Bool) : Type 0 where
    pub defaults : (rows : List Row) → defaults_fault rows c ≡ []
    pub kept : (rows : List Row) → fold with_default rows c ≡ rows
    pub checks : (rows : List Row) → check_fault (shape t c) rows false ≡ []
    pub no_short : (x : ℕ) → arg_by_short c x ≡ None
    pub long : (name : Text) → is_option name ≡ true → (known : Known name) × (arg_by_long c name ≡ Some known.rule)
    pub no_long : (name : Text) → is_option name ≡ false → arg_by_long c name ≡ None

  -- a word of a single hyphen and more has a first character
  pub record IsTextual (word : Text) : Type 0 where
    pub first : (flags : Text) → short_of word ≡ Some flags → (x : ℕ) × (slice_get (chars flags) 0 ≡ Some x)
    pub some : (flags : Text) → short_of word ≡ Some flags → (k : ℕ) × (length flags ≡ suc k)

  module _ (is_option : Text → Bool) (form : IsForm is_option) where
    last : (h : Held) → when_none (or_else (settle_fault c false h) (or_else (defaults_fault (settled c h).rows c) (check_fault (shape t c) (finished c h) false))) (Some (finished c h))
        ≡ when_none (settle_fault c false h) (Some (settled c h).rows)
    last h =
        ap₂ (λ tail rows. when_none (or_else (settle_fault c false h) tail) (Some rows)) (ap₂ or_else (form.defaults (settled c h).rows) (form.checks (finished c h))) (form.kept (settled c h).rows)
        ∙ past_both (settle_fault c false h) [] (Some (settled c h).rows)

    ends : (rows : List Row) (pend : Option Use) (position : ℕ) (is_trailing : Bool) → IsKnown pend → found_from (at_word rows pend position is_trailing) [] ≡ then_rows rows (behind pend (Some []))
    unfolding walk_fault
    ends rows pend position is_trailing known = last (held_by rows pend) ∙ chain rows pend known Some (Some []) (λ r. refl)

    waiting_fault : (rows : List Row) (name : Text) (known : Known name) → passes (settle_fault c false (record { rows = rows; pending = Some (name, []); skip = 0 })) ≡ false
    waiting_fault rows name known = ap (λ o. passes (option_map_or (λ a. use_fault false a [] rows) o [])) known.found ∙ known.empty rows

    ends_waiting : (rows : List Row) (name : Text) (position : ℕ) (is_trailing : Bool) → Known name → found_from (at_value rows name position is_trailing) [] ≡ None
    unfolding walk_fault
    ends_waiting rows name position is_trailing known = refuse _ _ _ (waiting_fault rows name known)

    -- a word that goes to a positional
    placed_step : (rows : List Row) (pend : Option Use) (names : List Text) (position : ℕ) (is_trailing : Bool) (word : Text) (rest : List Text)
        → IsKnown pend → IsPlaced position names → (uses : List Text → Option (List Use))
        → ((r : List Row) (name : Text) (left : List Text) (next_place : ℕ) → Known name → IsPlaced next_place left → found_from (at_word r (Some (name, word)) next_place is_trailing) rest ≡ then_rows r (with_use (name, word) (uses left)))
        → when_none (step_fault (shape t c) position (held_by rows pend) step_value) (found_from (to_positional c (arg_by_index c position) word (at_word rows pend position is_trailing) (held_by rows pend)) rest)
        ≡ then_rows rows (behind pend (word_use names word uses))
    placed_step rows pend [] position is_trailing word rest known placed uses later =
        ap (λ o. when_none (option_map_or (λ a. positional_fault c false a (held_by rows pend)) o (kind.UnknownArgument ∷ []))
        (found_from (to_positional c o word (at_word rows pend position is_trailing) (held_by rows pend)) rest)) placed
    placed_step rows pend (name ∷ names) position is_trailing word rest known placed uses later =
        let h = held_by rows pend in
        let rule = placed.0.rule in
        let Reads : Bool → Bool → Bool → Text → Option (List Row) = λ again multiple ends id.
        when_none (if again then [] else settle_fault c false h) (found_from (record {
          held = pushed id word (if again then h else settled c h);
          waiting = if multiple then positional_waits else idle;
          position = if multiple then position else min (position + 1) usize_max;
          is_trailing = is_trailing || ends;
          stopped = None;
        }) rest) in
        ap (λ o. when_none (option_map_or (λ a. positional_fault c false a h) o (kind.UnknownArgument ∷ []))
        (found_from (to_positional c o word (at_word rows pend position is_trailing) h) rest)) placed.1
        ∙ ap (λ b. Reads b (is_multiple rule) rule.trailing_var_arg rule.id) (and_false (is_pending rule h.pending) (takes_several rule) placed.0.single)
        ∙ ap (λ b. Reads false b rule.trailing_var_arg rule.id) placed.0.alone
        ∙ ap (λ b. Reads false false b rule.id) placed.0.ends
        ∙ ap (λ id. Reads false false false id) placed.0.id
        ∙ ap (λ b. when_none (settle_fault c false h) (found_from (record {
          held = pushed name word (settled c h);
          waiting = idle;
          position = min (position + 1) usize_max;
          is_trailing = b;
          stopped = None;
        }) rest)) (or_false is_trailing)
        ∙ chain rows pend known (λ r. found_from (at_word r (Some (name, word)) (min (position + 1) usize_max) is_trailing) rest) (with_use (name, word) (uses names))
        (λ r. later r name names (min (position + 1) usize_max) placed.0 placed.2)
      where
        or_false : (b : Bool) → (b || false) ≡ b
        or_false true = refl
        or_false false = refl

    -- after `--`
    all_positional : (words : List Text) (rows : List Row) (pend : Option Use) (names : List Text) (position : ℕ) → IsKnown pend → IsPlaced position names
        → found_from (at_word rows pend position true) words ≡ then_rows rows (behind pend (positional names words))
    unfolding walked
    all_positional [] rows pend names position known placed = ends rows pend position true known
    all_positional (word ∷ rest) rows pend names position known placed =
        found_step (at_word rows pend position true) word rest
        ∙ placed_step rows pend names position true word rest known placed (λ left. positional left rest)
        (λ r name left place one others. all_positional rest r (Some (name, word)) left place one others)

    -- after `--` in the place of an option's value
    never : (words : List Text) (rows : List Row) (name : Text) (names : List Text) (position : ℕ) → Known name → IsPlaced position names
        → found_from (at_value rows name position true) words ≡ None
    unfolding walked
    never [] rows name names position known placed = ends_waiting rows name position true known
    never (word ∷ rest) rows name names position known placed =
        let w = at_value rows name position true in
        found_step w word rest ∙ go names placed
      where
        go : (left : List Text) → IsPlaced position left
            → when_none (step_fault (shape t c) position (at_value rows name position true).held step_value) (found_from (to_positional c (arg_by_index c position) word (at_value rows name position true) (at_value rows name position true).held) rest) ≡ None
        go [] at =
            ap (λ o. when_none (option_map_or (λ a. positional_fault c false a (at_value rows name position true).held) o (kind.UnknownArgument ∷ []))
            (found_from (to_positional c o word (at_value rows name position true) (at_value rows name position true).held) rest)) at
        go (first ∷ left) at =
            let h = (at_value rows name position true).held in
            ap (λ o. when_none (option_map_or (λ a. positional_fault c false a h) o (kind.UnknownArgument ∷ []))
            (found_from (to_positional c o word (at_value rows name position true) h) rest)) at.1
            ∙ ap (λ b. when_none (if b then [] else settle_fault c false h) (found_from (to_positional c (Some at.0.rule) word (at_value rows name position true) h) rest)) (and_false (is_pending at.0.rule h.pending) (takes_several at.0.rule) at.0.single)
            ∙ refuses _ _ (waiting_fault rows name known)

    -- a bundle of flags that the command has not
    no_bundle : (word flags : Text) (h : Held) → h.skip ≡ 0 → IsTextual word → short_of word ≡ Some flags → bundle_fault c false flags h ≡ kind.UnknownArgument ∷ []
    unfolding flags_fault
    no_bundle word flags h none textual is =
        let some = textual.some flags is in
        let first = textual.first flags is in
        ap (λ k. flags_fault c false k flags h.skip (record h { skip = 0 })) some.1
        ∙ ap (λ k. flags_fault c false (suc some.0) flags k (record h { skip = 0 })) none
        ∙ ap (λ o. bundle_step_fault c false o flags 0 (record h { skip = 0 }) (flags_fault c false some.0)) first.1
        ∙ ap (λ o. short_fault c false o (drop (length (encode_utf8 first.0)) flags) (record h { skip = 0 }) (flags_fault c false some.0 (drop (length (encode_utf8 first.0)) flags) 0)) (form.no_short first.0)

    abbrev Idle : List Text → Type 0
    Idle words = (rows : List Row) (pend : Option Use) (names : List Text) (position : ℕ) → IsKnown pend → IsPlaced position names
        → found_from (at_word rows pend position false) words ≡ then_rows rows (behind pend (uses_of is_option names None words))

    abbrev Waits : List Text → Type 0
    Waits words = (rows : List Row) (name : Text) (names : List Text) (position : ℕ) → Known name → IsPlaced position names
        → found_from (at_value rows name position false) words ≡ then_rows rows (uses_of is_option names (Some name) words)

    -- one word, by its fault and by what it is met as
    abbrev turn : Walk → Text → List Text → Kinds → Held × Step → Option (List Row)
    turn w word rest fault met = when_none (or_else fault (step_fault (shape t c) w.position met.0 met.1)) (found_from (after_step c word w met.0 met.1) rest)

    option_turn : (word : Text) (rest : List Text) → Idle rest → Waits rest → (rows : List Row) (pend : Option Use) (names : List Text) (position : ℕ) → IsKnown pend → IsPlaced position names
        → (name : Text) (v : Option Text) → let w = at_word rows pend position false in
        turn w word rest (long_fault c false (arg_by_long c name) v w.held) (long_word c idle word name v w.held)
        ≡ then_rows rows (behind pend (option_use is_option name v (λ waiting. uses_of is_option names waiting rest)))
    option_turn word rest idles waits rows pend names position known placed name None = go (is_option name) refl
      where
        go : (b : Bool) → is_option name ≡ b → let w = at_word rows pend position false in
            turn w word rest (long_fault c false (arg_by_long c name) None w.held) (long_word c idle word name None w.held)
            ≡ then_rows rows (behind pend (if b then uses_of is_option names (Some name) rest else None))
        go false e = let w = at_word rows pend position false in
            ap (λ o. turn w word rest (long_fault c false o None w.held) (long_word c idle word name None w.held)) (form.no_long name e)
        go true e = let w = at_word rows pend position false in let h = held_by rows pend in let k = form.long name e in let rule = k.0.rule in
            ap (λ o. turn w word rest (long_fault c false o None h) (after_flag c idle word (long_met c o None h).0 (long_met c o None h).1)) k.1
            ∙ ap (λ b. let met = (if b then option_met c rule None h else flag_met c rule None h) in
            turn w word rest (if b then option_fault c false rule None h else react_fault c false rule [] h) (after_flag c idle word met.0 met.1)) k.0.takes
            ∙ ap (λ ks. when_none ks (found_from (record w { held = record (settled c h) { pending = Some (rule.id, []) }; waiting = awaits rule.id }) rest)) (or_nil (settle_fault c false h))
            ∙ ap (λ id. when_none (settle_fault c false h) (found_from (record w { held = record (settled c h) { pending = Some (id, []) }; waiting = awaits id }) rest)) k.0.id
            ∙ chain rows pend known (λ r. found_from (at_value r name position false) rest) (uses_of is_option names (Some name) rest) (λ r. waits r name names position k.0 placed)
    option_turn word rest idles waits rows pend names position known placed name (Some v) = go (is_option name) refl
      where
        go : (b : Bool) → is_option name ≡ b → let w = at_word rows pend position false in
            turn w word rest (long_fault c false (arg_by_long c name) (Some v) w.held) (long_word c idle word name (Some v) w.held)
            ≡ then_rows rows (behind pend (if b then with_use (name, v) (uses_of is_option names None rest) else None))
        go false e = let w = at_word rows pend position false in
            ap (λ o. turn w word rest (long_fault c false o (Some v) w.held) (long_word c idle word name (Some v) w.held)) (form.no_long name e)
        go true e = let w = at_word rows pend position false in let h = held_by rows pend in let k = form.long name e in let rule = k.0.rule in
            let after = found_from (at_word (used rule (v ∷ []) (settled c h).rows) None position false) rest in
            let uses = uses_of is_option names None rest in
            ap (λ o. turn w word rest (long_fault c false o (Some v) h) (after_flag c idle word (long_met c o (Some v) h).0 (long_met c o (Some v) h).1)) k.1
            ∙ ap (λ b. let met = (if b then option_met c rule (Some v) h else flag_met c rule (Some v) h) in
            turn w word rest (if b then option_fault c false rule (Some v) h else kind.TooManyValues ∷ []) (after_flag c idle word met.0 met.1)) k.0.takes
            ∙ ap (λ ks. when_none ks after) (or_nil (or_else (settle_fault c false h) (use_fault false rule (v ∷ []) (settled c h).rows)))
            ∙ past_both (settle_fault c false h) (use_fault false rule (v ∷ []) (settled c h).rows) after
            ∙ chain rows pend known (λ r. when_none (use_fault false rule (v ∷ []) r) (found_from (at_word (used rule (v ∷ []) r) None position false) rest)) (with_use (name, v) uses)
            (λ r. one_use name k.0 v r (λ s. found_from (at_word s None position false) rest)
            ∙ after_same (λ s. found_from (at_word s None position false) rest) (λ s. then_rows s uses) (more_rows r ((name, v) ∷ []))
            (λ s. idles s None names position tt placed ∙ ap (then_rows s) (behind_none uses))
            ∙ with_row r (name, v) uses)

    idle_word : (word : Text) (rest : List Text) → IsTextual word → Idle rest → Waits rest → Idle (word ∷ rest)
    unfolding walked
    idle_word word rest textual idles waits rows pend names position known placed =
        found_step (at_word rows pend position false) word rest ∙ by_dashes (is_dashes word)
      where
        by_short : (s : Option Text) → short_of word ≡ s → let w = at_word rows pend position false in
            turn w word rest (option_map_or (λ flags. bundle_fault c false flags w.held) s []) (short_or_plain c idle word s w.held)
            ≡ then_rows rows (behind pend (option_map_or (λ _. None) s (word_use names word (λ left. uses_of is_option left None rest))))
        by_short None e = placed_step rows pend names position false word rest known placed (λ left. uses_of is_option left None rest)
            (λ r name left place one others. idles r (Some (name, word)) left place one others)
        by_short (Some flags) e = let w = at_word rows pend position false in
            ap (λ ks. turn w word rest ks (short_or_plain c idle word (Some flags) w.held)) (no_bundle word flags w.held refl textual e)

        by_long : (l : Option (Text × Option Text)) → let w = at_word rows pend position false in
            turn w word rest (flag_word_fault c false l word w.held) (long_or_other c idle word l w.held)
            ≡ then_rows rows (behind pend (option_map_or (λ flag. option_use is_option flag.0 flag.1 (λ waiting. uses_of is_option names waiting rest)) l
            (option_map_or (λ _. None) (short_of word) (word_use names word (λ left. uses_of is_option left None rest)))))
        by_long None = by_short (short_of word) refl
        by_long (Some flag) = option_turn word rest idles waits rows pend names position known placed flag.0 flag.1

        by_dashes : (b : Bool) → let w = at_word rows pend position false in
            turn w word rest (if b then [] else flag_word_fault c false (long_of word) word w.held) (if b then (w.held, step_trailing position) else long_or_other c idle word (long_of word) w.held)
            ≡ then_rows rows (behind pend (if b then positional names rest else other_use is_option names word (λ left waiting. uses_of is_option left waiting rest)))
        by_dashes true = all_positional rest rows pend names position known placed
        by_dashes false = by_long (long_of word)

    value_word : (word : Text) (rest : List Text) → IsTextual word → Idle rest → Waits (word ∷ rest)
    unfolding walked
    value_word word rest textual idles rows name names position known placed =
        found_step (at_value rows name position false) word rest ∙ by_dashes (is_dashes word)
      where
        by_short : (s : Option Text) → short_of word ≡ s → let w = at_value rows name position false in
            turn w word rest (option_map_or (λ flags. bundle_fault c false flags w.held) s []) (short_or_plain c (awaits name) word s w.held)
            ≡ then_rows rows (option_map_or (λ _. None) s (with_use (name, word) (uses_of is_option names None rest)))
        by_short None e = let w = at_value rows name position false in
            ap (λ o. found_from (record w { held = (option_word o name word w.held).0; waiting = (option_word o name word w.held).1 }) rest) known.found
            ∙ ap (λ b. found_from (record w { held = pushed name word w.held; waiting = if b then awaits name else idle }) rest) (known.fills word)
            ∙ idles rows (Some (name, word)) names position known placed
        by_short (Some flags) e = let w = at_value rows name position false in
            ap (λ ks. turn w word rest ks (short_or_plain c (awaits name) word (Some flags) w.held)) (no_bundle word flags w.held refl textual e)

        option_refused : (other : Text) (v : Option Text) (b : Bool) → is_option other ≡ b → passes (long_fault c false (arg_by_long c other) v (at_value rows name position false).held) ≡ false
        option_refused other v false e = ap (λ o. passes (long_fault c false o v (at_value rows name position false).held)) (form.no_long other e)
        option_refused other None true e =
            let h = (at_value rows name position false).held in let k = form.long other e in
            ap (λ o. passes (long_fault c false o None h)) k.1 ∙ ap (λ b. passes (if b then settle_fault c false h else react_fault c false k.0.rule [] h)) k.0.takes ∙ waiting_fault rows name known
        option_refused other (Some v) true e =
            let h = (at_value rows name position false).held in let k = form.long other e in
            ap (λ o. passes (long_fault c false o (Some v) h)) k.1 ∙ ap (λ b. passes (if b then option_fault c false k.0.rule (Some v) h else kind.TooManyValues ∷ [])) k.0.takes
            ∙ first_refuses _ _ (waiting_fault rows name known)

        by_long : (l : Option (Text × Option Text)) → let w = at_value rows name position false in
            turn w word rest (flag_word_fault c false l word w.held) (long_or_other c (awaits name) word l w.held)
            ≡ then_rows rows (option_map_or (λ _. None) l (option_map_or (λ _. None) (short_of word) (with_use (name, word) (uses_of is_option names None rest))))
        by_long None = by_short (short_of word) refl
        by_long (Some flag) = refuse _ _ _ (option_refused flag.0 flag.1 (is_option flag.0) refl)

        by_dashes : (b : Bool) → let w = at_value rows name position false in
            turn w word rest (if b then [] else flag_word_fault c false (long_of word) word w.held) (if b then (w.held, step_trailing position) else long_or_other c (awaits name) word (long_of word) w.held)
            ≡ then_rows rows (if b then None else value_use name word (uses_of is_option names None rest))
        by_dashes true = never rest rows name names position known placed
        by_dashes false = by_long (long_of word)

    both : (words : List Text) → AllByRecursion IsTextual words → Idle words × Waits words
    unfolding walk_fault
    both [] textual = (λ rows pend names position known placed. ends rows pend position false known, λ rows name names position known placed. ends_waiting rows name position false known)
    both (word ∷ rest) textual =
        let later = both rest textual.1 in
        (idle_word word rest textual.0 later.0 later.1, value_word word rest textual.0 later.0)

    once_rows : (before us : List Use) → more_rows (map row_for before) us ≡ option_map (map row_for) (once before us)
    once_rows before [] = refl
    once_rows before (one ∷ us) =
        ap (λ b. if b then None else more_rows (map row_for before ++ row_for one ∷ []) us) (sym (list_any-map (λ (r : Row). bytes_eq r.id one.0) row_for before))
        ∙ go (has_use one.0 before) (ap (λ rows. more_rows rows us) (sym (map-append row_for before (one ∷ []))) ∙ once_rows (before ++ one ∷ []) us)
      where
        go : (b : Bool) → more_rows (map row_for before ++ row_for one ∷ []) us ≡ option_map (map row_for) (once (before ++ one ∷ []) us)
            → (if b then None else more_rows (map row_for before ++ row_for one ∷ []) us) ≡ option_map (map row_for) (if b then None else once (before ++ one ∷ []) us)
        go true later = refl
        go false later = later

    -- where nothing is refused clap has a row for each use of the line, in order, and elsewhere the words are no line
    pub line_rows : (words : List Text) → AllByRecursion IsTextual words → (names : List Text) → IsPlaced 1 names
        → found_from (walk_from nothing_held) words ≡ option_map (map row_for) (line_of is_option names words)
    line_rows words textual names placed =
        (both words textual).0 [] None names 1 tt placed ∙ ap (then_rows []) (behind_none (uses_of is_option names None words)) ∙ go (uses_of is_option names None words)
      where
        go : (uses : Option (List Use)) → then_rows [] uses ≡ option_map (map row_for) (option_and_then (once []) uses)
        go None = refl
        go (Some us) = once_rows [] us
