-- An approximation rule, and the section of approximation rules.
use Rattle.std.proofs.Common.{◌≡◌, ◌≢◌, ◌+◌, ◌<◌, length, arith, Bool, true, false, ◌&&◌, ◌==◌, cond, List, [], ◌∷◌, Some, None, Ok, Err, Result, refl, ap, sym, ◌∙◌, subst}
use Rattle.std.specs.Prelude.{nat_le}
use Rattle.std.proofs.lemmas.Bool.Decides.{nat_tests}
use Rattle.ranked_terms.specs.declared.term.Shape.{Shape}
use Rattle.timbuk_lex.specs.declared.lexeme.Lexeme.{Lexeme}
use Rattle.timbuk_grammar.specs.declared.terminal.Role.TheVariants as role
use Rattle.timbuk_grammar.specs.declared.terminal.Terminal.{Terminal}
use Rattle.timbuk_grammar.specs.declared.terminal.Terminal.TheVariants as terminal
use Rattle.timbuk_grammar.specs.Matching.{matches}
use Rattle.timbuk_grammar.specs.Grammar.{Part, one, ◌then◌, many, some, name, pattern, entry, approximation_rule, state}
use Rattle.spec_text.specs.declared.fault.SpecKind.{SpecKind}
use Rattle.spec_text.specs.declared.fault.SpecKind.TheVariants as kind
use Rattle.spec_text.specs.declared.fault.LimitName.TheVariants as limit
use Rattle.timbuk_reader.specs.declared.fault.SpecError.{SpecError}
use Rattle.timbuk_reader.specs.declared.fault.SpecError.TheVariants as error
use Rattle.timbuk_reader.specs.declared.state.Reader.{Reader}
use Rattle.timbuk_reader.specs.declared.approximation.Form.{Form}
use Rattle.spec_text.specs.Declarations.{Text, Declared, any, adds}
use Rattle.spec_text.specs.Rows.{row, expected, passed, misnamed}
use Rattle.spec_text.specs.Reading.{outcome}
use Rattle.timbuk_reader.specs.View.{Open, closed, declared, state_of, end_of, from, as_error, refusal, refusal_at}
use Rattle.spec_text.specs.Reading.{settled, sees}
use Rattle.timbuk_reader.specs.Reads.{Advances, Stops, Reads, Took, Takes, Missed}
use Rattle.timbuk_reader.specs.Patterns.{within, Builds, Breaks, SameBut}
use Rattle.timbuk_reader.specs.ApproximationReads.{formed, form_entries, IsForm, IsPart}
use Rattle.timbuk_reader.proofs.parsing.Parts.{one_front, then_stops, later_stops, then_reads}
use Rattle.timbuk_reader.proofs.parsing.Tokens.{use_row, not_closed, row_expected, row_other, step_on, step_fault, calm_arity, calm_quiet, closed_calm, mark_advances, mark_stops}
use Rattle.timbuk_reader.proofs.parsing.Arguments.{took_run}
use Rattle.std.proofs.Math.Bool.{and-false}
use Rattle.timbuk_reader.proofs.parsing.ApproximationNames.{formed_calm}
use Rattle.timbuk_reader.proofs.parsing.ApproximationRules.{whole_advances, whole_stops, whole_calm}
use Rattle.timbuk_reader.proofs.keeping.Approximation.{part_kept, form_kept}

-- ---- the end of the entries

close_row : (text : Text) (d : Declared) → use_row terminal.CloseEntries text d ≡ None
unfolding passed misnamed
close_row text d = refl

close_adds : (form : Form) (u : Reader) (text : Text) → adds terminal.CloseEntries text (declared (formed form) u) ≡ declared closed u
unfolding adds
close_adds form u text = refl

close_advances : (form : Form) (m u : Reader) → Took terminal.CloseEntries m u → Advances (one terminal.CloseEntries) (formed form) m closed u
close_advances form m u k = record {
  by = λ ps.
      let d = declared (formed form) u in
      ap settled (took_run terminal.CloseEntries m u (formed form) (one terminal.CloseEntries ∷ ps) k
      ∙ step_on (one terminal.CloseEntries ∷ ps) terminal.CloseEntries ps (end_of u) d k.token u.tokens.now (one_front terminal.CloseEntries ps) k.matched
      (row_other terminal.CloseEntries d k.token tt k.matched (calm_quiet d k.token refl refl) ∙ close_row k.token.text d)
      ∙ ap (λ z. outcome (end_of u) ps z u.tokens.now) (close_adds form u k.token.text));
}

close_reads : {X : Type 0} (form : Form) (m u : Reader) (result : Result X SpecError) → Takes terminal.CloseEntries m result u → Reads (one terminal.CloseEntries) (formed form) m result closed u
close_reads form m u (Ok x) k = close_advances form m u k
close_reads form m u (Err e) k = mark_stops terminal.CloseEntries (formed form) m e (formed_calm form) k

-- ---- what follows a form

abbrev behind_open : Part
behind_open = some entry then one terminal.CloseEntries

abbrev behind_arrow : Part
behind_arrow = one terminal.OpenBracket then behind_open

module _ (form : Form) (r : Reader) where
  pub entries_stop_at_arrow : (e : SpecError) → Missed terminal.Arrow r e → Stops form_entries (formed form) r e
  entries_stop_at_arrow e h = then_stops (one terminal.Arrow) behind_arrow (formed form) r e (mark_stops terminal.Arrow (formed form) r e (formed_calm form) h)

  module _ (m : Reader) (arrow : Took terminal.Arrow r m) where
    past_arrow : Advances (one terminal.Arrow) (formed form) r (formed form) m
    past_arrow = mark_advances terminal.Arrow (formed form) r m tt (formed_calm form) arrow

    pub entries_stop_at_bracket : (e : SpecError) → Missed terminal.OpenBracket m e → Stops form_entries (formed form) r e
    entries_stop_at_bracket e h =
        later_stops (one terminal.Arrow) behind_arrow (formed form) (formed form) r m e past_arrow
        (then_stops (one terminal.OpenBracket) behind_open (formed form) m e (mark_stops terminal.OpenBracket (formed form) m e (formed_calm form) h))

    module _ (u : Reader) (bracket : Took terminal.OpenBracket m u) where
      past_bracket : Advances (one terminal.OpenBracket) (formed form) m (formed form) u
      past_bracket = mark_advances terminal.OpenBracket (formed form) m u tt (formed_calm form) bracket

      pub entries_stop : (e : SpecError) → Stops (some entry) (formed form) u e → Stops form_entries (formed form) r e
      entries_stop e h =
          later_stops (one terminal.Arrow) behind_arrow (formed form) (formed form) r m e past_arrow
          (later_stops (one terminal.OpenBracket) behind_open (formed form) (formed form) m u e past_bracket
          (then_stops (some entry) (one terminal.CloseEntries) (formed form) u e h))

      pub entries_read : {X : Type 0} (v w : Reader) (result : Result X SpecError) → Advances (some entry) (formed form) u (formed form) v → Takes terminal.CloseEntries v result w → Reads form_entries (formed form) r result closed w
      entries_read v w result h k =
          then_reads (one terminal.Arrow) behind_arrow (formed form) (formed form) closed r m w result past_arrow
          (then_reads (one terminal.OpenBracket) behind_open (formed form) (formed form) closed m u w result past_bracket
          (then_reads (some entry) (one terminal.CloseEntries) (formed form) (formed form) closed u v w result h (close_reads form v w result k)))

-- ---- an approximation rule

-- the bound variables of no declaration mean nothing
pub unbound_advances : (p : Part) (r m u : Reader) → Advances p closed r closed m → SameBut m u → u.tokens.now ≡ m.tokens.now → Advances p closed r closed u
unbound_advances p r m u h same tokens = record { by = λ ps. h.by ps ∙ (λ i. settled (outcome (sym same.end i) ps (sym same.state i) (sym tokens i))) }

pub rule_stops_at_open : (r : Reader) (e : SpecError) → Stops (one terminal.OpenBracket) closed r e → Stops approximation_rule closed r e
rule_stops_at_open r e h = then_stops (one terminal.OpenBracket) (pattern role.EntryWhole then one terminal.Arrow then name role.EntryAt then one terminal.CloseBracket then form_entries) closed r e h

abbrev behind_at : Part
behind_at = one terminal.CloseBracket then form_entries

abbrev behind_whole_arrow : Part
behind_whole_arrow = name role.EntryAt then behind_at

abbrev behind_whole : Part
behind_whole = one terminal.Arrow then behind_whole_arrow

abbrev behind_bracket : Part
behind_bracket = pattern role.EntryWhole then behind_whole

module _ (r m : Reader) (bracket : Advances (one terminal.OpenBracket) closed r closed m) (unbound : m.bound ≡ []) where
  pub rule_stops_in_whole : (e : SpecError) → Breaks role.EntryWhole 0 m e → Stops approximation_rule closed r e
  rule_stops_in_whole e h =
      later_stops (one terminal.OpenBracket) behind_bracket closed closed r m e bracket
      (then_stops (pattern role.EntryWhole) behind_whole closed m e (whole_stops m unbound e h))

  module _ (u : Reader) (whole : Shape) (built : Builds role.EntryWhole 0 m whole u) where
    abbrev side : Open
    side = within [] (whole ∷ [])

    past_whole : Advances (pattern role.EntryWhole) closed m side u
    past_whole = whole_advances m unbound u whole built

    pub rule_stops_at_arrow : (e : SpecError) → Missed terminal.Arrow u e → Stops approximation_rule closed r e
    rule_stops_at_arrow e h =
        later_stops (one terminal.OpenBracket) behind_bracket closed closed r m e bracket
        (later_stops (pattern role.EntryWhole) behind_whole closed side m u e past_whole
        (then_stops (one terminal.Arrow) behind_whole_arrow side u e (mark_stops terminal.Arrow side u e (whole_calm whole) h)))

    module _ (v : Reader) (arrow : Took terminal.Arrow u v) where
      past_whole_arrow : Advances (one terminal.Arrow) side u side v
      past_whole_arrow = mark_advances terminal.Arrow side u v tt (whole_calm whole) arrow

      pub rule_stops_in_form : (e : SpecError) → Stops (name role.EntryAt) side v e → Stops approximation_rule closed r e
      rule_stops_in_form e h =
          later_stops (one terminal.OpenBracket) behind_bracket closed closed r m e bracket
          (later_stops (pattern role.EntryWhole) behind_whole closed side m u e past_whole
          (later_stops (one terminal.Arrow) behind_whole_arrow side side u v e past_whole_arrow
          (then_stops (name role.EntryAt) behind_at side v e h)))

      module _ (w : Reader) (form : Form) (at : Advances (name role.EntryAt) side v (formed form) w) where
        pub rule_stops_at_bracket : (e : SpecError) → Missed terminal.CloseBracket w e → Stops approximation_rule closed r e
        rule_stops_at_bracket e h =
            later_stops (one terminal.OpenBracket) behind_bracket closed closed r m e bracket
            (later_stops (pattern role.EntryWhole) behind_whole closed side m u e past_whole
            (later_stops (one terminal.Arrow) behind_whole_arrow side side u v e past_whole_arrow
            (later_stops (name role.EntryAt) behind_at side (formed form) v w e at
            (then_stops (one terminal.CloseBracket) form_entries (formed form) w e (mark_stops terminal.CloseBracket (formed form) w e (formed_calm form) h)))))

        pub rule_reads : {X : Type 0} (y z : Reader) (result : Result X SpecError) → Took terminal.CloseBracket w y → Reads form_entries (formed form) y result closed z → Reads approximation_rule closed r result closed z
        rule_reads y z result close h =
            then_reads (one terminal.OpenBracket) behind_bracket closed closed closed r m z result bracket
            (then_reads (pattern role.EntryWhole) behind_whole closed side closed m u z result past_whole
            (then_reads (one terminal.Arrow) behind_whole_arrow side side closed u v z result past_whole_arrow
            (then_reads (name role.EntryAt) behind_at side (formed form) closed v w z result at
            (then_reads (one terminal.CloseBracket) form_entries (formed form) (formed form) closed w y z result (mark_advances terminal.CloseBracket (formed form) w y tt (formed_calm form) close) h))))

-- ---- what stays at a mark

pub part_after : (t : Terminal) (r m : Reader) (s : Shape) → Took t r m → IsPart r r.bound s → IsPart m m.bound s
part_after t r m s k h = subst (λ z. IsPart m z s) (sym k.bound) (part_kept r m r.bound r.bound s k.state (record { by = λ v e. e }) h)

pub form_after : (t : Terminal) (r m : Reader) (form : Form) → Took t r m → IsForm r form → IsForm m form
form_after t r m form k h = form_kept r m form (ap (λ (d : Declared). d.symbols) k.state) (ap (λ (d : Declared). length d.initial.states) k.state) k.bound h

pub same_approximations : (r u : Reader) → state_of u ≡ state_of r → u.approximations ≡ r.approximations
same_approximations r u e = ap (λ (d : Declared). d.approximations) e

-- ---- the word

word_row : (text : Text) (d : Declared) (b : Bool) → nat_le 1 d.approximations ≡ b → use_row terminal.Approximation text d ≡ cond b (Some (kind.Limit limit.Approximations)) None
unfolding passed misnamed
word_row text d true e = rw e refl
word_row text d false e = rw e refl

early_row : (d : Declared) (x : Lexeme) → d.applications ≡ [] → d.last ≡ any → matches terminal.Approximation x ≡ true → d.automata ≡ 0 → row (Some terminal.Approximation) d x ≡ Some kind.Expected
unfolding row expected
early_row d x a l e z = rw (not_closed terminal.Approximation x e, calm_arity d x a l, e, z, l) refl

late_row : (d : Declared) (x : Lexeme) → d.applications ≡ [] → d.last ≡ any → matches terminal.Approximation x ≡ true → d.automata ≢ 0 → row (Some terminal.Approximation) d x ≡ use_row terminal.Approximation x.text d
late_row d x a l e later = row_expected terminal.Approximation d x e (calm_quiet d x a l) (let none : (d.automata == 0) ≡ false = grind (arith, nat_tests) in ap (λ b. matches terminal.Approximation x && b) none ∙ and-false (matches terminal.Approximation x))

word_fault : (r : Reader) (x : Lexeme) (rest : List Lexeme) (e : SpecError) (k : SpecKind) → r.tokens.now ≡ x ∷ rest → matches terminal.Approximation x ≡ true → row (Some terminal.Approximation) (declared closed r) x ≡ Some k → e ≡ error.Fault (refusal k r) → Stops (one terminal.Approximation) closed r e
word_fault r x rest e k tokens m fits told = record {
  by = λ ne ps.
      let d = declared closed r in
      ap (λ z. as_error (settled z)) (ap (outcome (end_of r) (one terminal.Approximation ∷ ps) d) tokens
      ∙ step_fault (one terminal.Approximation ∷ ps) terminal.Approximation ps (end_of r) d x rest k (one_front terminal.Approximation ps) m fits
      ∙ ap (λ xs. Err (refusal_at k (end_of r) xs)) (sym tokens)) ∙ ap Err (sym told);
}

early_by : (r : Reader) (e : SpecError) (xs : List Lexeme) (b : Bool) → r.tokens.now ≡ xs → sees terminal.Approximation xs ≡ b → r.automata ≡ 0 → e ≡ error.Fault (refusal kind.Expected r) → Stops (one terminal.Approximation) closed r e
early_by r e xs false t s z told = mark_stops terminal.Approximation closed r e closed_calm (record { unseen = ap (sees terminal.Approximation) t ∙ s; told = told })
early_by r e [] true t s z told = cc
early_by r e (x ∷ xs) true t s z told = word_fault r x xs e kind.Expected t s (early_row (declared closed r) x refl refl s z) told

-- before the first automaton
pub early_stops : (r : Reader) (e : SpecError) → r.automata ≡ 0 → e ≡ error.Fault (refusal kind.Expected r) → Stops (one terminal.Approximation) closed r e
early_stops r e z told = early_by r e r.tokens.now (sees terminal.Approximation r.tokens.now) refl refl z told

-- any other token
pub other_stops : (r : Reader) (e : SpecError) → sees terminal.Approximation r.tokens.now ≡ false → e ≡ error.Fault (refusal kind.Expected r) → Stops (one terminal.Approximation) closed r e
other_stops r e unseen told = mark_stops terminal.Approximation closed r e closed_calm (record { unseen = unseen; told = told })

second_by : (r : Reader) (e : SpecError) (xs : List Lexeme) → r.tokens.now ≡ xs → sees terminal.Approximation xs ≡ true → r.automata ≢ 0 → 0 < r.approximations → e ≡ error.Fault (refusal (kind.Limit limit.Approximations) r) → Stops (one terminal.Approximation) closed r e
second_by r e [] t s later more told = cc
second_by r e (x ∷ xs) t s later more told =
    let reached : nat_le 1 r.approximations ≡ true = grind (arith, nat_tests) in
    word_fault r x xs e (kind.Limit limit.Approximations) t s (late_row (declared closed r) x refl refl s later ∙ word_row x.text (declared closed r) true reached) told

-- a second approximation
pub second_stops : (r : Reader) (e : SpecError) → sees terminal.Approximation r.tokens.now ≡ true → r.automata ≢ 0 → 0 < r.approximations → e ≡ error.Fault (refusal (kind.Limit limit.Approximations) r) → Stops (one terminal.Approximation) closed r e
second_stops r e s later more told = second_by r e r.tokens.now refl s later more told

word_adds : (text : Text) (d : Declared) → d.last ≡ any → adds terminal.Approximation text d ≡ record d { approximations = d.approximations + 1 }
unfolding adds
word_adds text d l = ap (λ z. record d { approximations = d.approximations + 1; last = z }) (sym l)

-- the first one
pub word_advances : (r m : Reader) (x : Lexeme) → sees terminal.Approximation r.tokens.now ≡ true → r.automata ≢ 0 → r.approximations ≡ 0 → r.tokens.now ≡ x ∷ m.tokens.now → state_of m ≡ state_of r → end_of m ≡ end_of r
    → (ps : List Part) → from closed (one terminal.Approximation ∷ ps) r ≡ settled (outcome (end_of m) ps (record (state_of m) { approximations = 1 }) m.tokens.now)
word_advances r m x s later none tokens state end ps =
    let d = declared closed r in
    let seen : matches terminal.Approximation x ≡ true = rw tokens at s in
    let few : nat_le 1 r.approximations ≡ false = grind (arith, nat_tests) in
    ap settled (ap (outcome (end_of r) (one terminal.Approximation ∷ ps) d) tokens
    ∙ step_on (one terminal.Approximation ∷ ps) terminal.Approximation ps (end_of r) d x m.tokens.now (one_front terminal.Approximation ps) seen (late_row d x refl refl seen later ∙ word_row x.text d false few)
    ∙ ap (λ z. outcome (end_of r) ps z m.tokens.now) (word_adds x.text d refl ∙ ap (λ n. record d { approximations = n + 1 }) none)
    ∙ (λ i. outcome (sym end i) ps (record (sym state i) { approximations = 1 }) m.tokens.now))

-- ---- the section

abbrev behind_rules : Part
behind_rules = many approximation_rule

abbrev behind_states : Part
behind_states = one terminal.Rules then behind_rules

abbrev behind_states_word : Part
behind_states_word = many (state role.ApproximationState) then behind_states

abbrev behind_title : Part
behind_title = one terminal.States then behind_states_word

abbrev behind_word : Part
behind_word = name role.Title then behind_title
