-- The fault that reading meets is that of the first place at which a row fits.
use Rattle.std.proofs.Common.{◌≡◌, ℕ, false, List, [], ◌∷◌, ◌++◌, Option, Some, None, Err, refl, sym, ap, subst, ◌∙◌}
use Rattle.std.specs.Prelude.{option_map, option_and_then}
use Rattle.std.specs.Option.{option_map_or}
use Rattle.timbuk_lex.specs.Lexing.{lexed}
use Rattle.timbuk_lex.specs.Places.{line_of, column_of}
use Rattle.timbuk_lex.specs.declared.lexeme.Lexeme.{Lexeme}
use Rattle.timbuk_lex.specs.declared.lex.Ending.{Ending}
use Rattle.timbuk_lex.specs.declared.lex.Ending.TheVariants.{Whole, Stopped}
use Rattle.timbuk_grammar.specs.Grammar.{Part, file}
use Rattle.timbuk_grammar.specs.Next.{Choice, choice_of, terminal_of, open_after_all, may_end, end_allowed}
use Rattle.spec_text.specs.declared.fault.SpecKind.{SpecKind}
use Rattle.spec_text.specs.declared.fault.SpecKind.TheVariants as kind
use Rattle.spec_text.specs.declared.fault.SpecFault.{SpecFault}
use Rattle.spec_text.specs.Declarations.{Declared, nothing}
use Rattle.spec_text.specs.Rows.{or, when, is_closed_word, wrong_arity, expected, row, end_row}
use Rattle.spec_text.specs.Reading.{Outcome, End, end_by, ends_by, unless, outcome}
use Rattle.spec_text.specs.Declarations.{behind, added}
use Rattle.spec_text.specs.Rows.{fault}
use Rattle.spec_text.specs.Faults.{declared_from, row_at, NoRowIn, EndFault, SpecFaultAt}
use Rattle.spec_text.specs.Laws.{FaultsAreFirst}

-- ---- the parts that are open behind tokens

abbrev parts_from : List Part → List Lexeme → List Part
parts_from ps [] = ps
parts_from ps (x ∷ xs) = parts_from (behind (choice_of ps x)) xs

nothing_opens : (xs : List Lexeme) → parts_from [] xs ≡ []
nothing_opens [] = refl
nothing_opens (x ∷ xs) = nothing_opens xs

terminal_behind : (ps : List Part) (xs : List Lexeme) (x : Lexeme) → option_and_then (λ qs. terminal_of qs x) (open_after_all ps xs) ≡ terminal_of (parts_from ps xs) x
terminal_behind ps [] x = refl
terminal_behind ps (y ∷ ys) x = by (choice_of ps y) (terminal_behind (behind (choice_of ps y)) ys x)
  where
    by : (c : Option Choice) → option_and_then (λ qs. terminal_of qs x) (open_after_all (behind c) ys) ≡ terminal_of (parts_from (behind c) ys) x
        → option_and_then (λ qs. terminal_of qs x) (option_and_then (λ qs. open_after_all qs ys) (option_map (λ (c : Choice). c.behind) c)) ≡ terminal_of (parts_from (behind c) ys) x
    by None e = sym (ap (λ qs. terminal_of qs x) (nothing_opens ys))
    by (Some c) e = e

-- ---- rows behind tokens

abbrev row_from : List Part → Declared → List Lexeme → Lexeme → Option SpecKind
row_from ps d before x = row (terminal_of (parts_from ps before) x) (declared_from ps d before) x

abbrev NoneIn : List Part → Declared → List Lexeme → Type 0
NoneIn ps d xs = (before : List Lexeme) (x : Lexeme) (after : List Lexeme) → xs ≡ before ++ x ∷ after → row_from ps d before x ≡ None

data FirstFrom (end : End) (ps : List Part) (d : Declared) (xs : List Lexeme) (f : SpecFault) : Type 0 where
  token : (before : List Lexeme) (x : Lexeme) (after : List Lexeme) (k : SpecKind) → xs ≡ before ++ x ∷ after → NoneIn ps d before → row_from ps d before x ≡ Some k → f ≡ fault k x.line x.column → FirstFrom end ps d xs f
  ending : NoneIn ps d xs → ends_by end.ending end (parts_from ps xs) (declared_from ps d xs) ≡ Err f → FirstFrom end ps d xs f

no_split : (before : List Lexeme) (x : Lexeme) (after : List Lexeme) → [] ≡ before ++ x ∷ after → ⊥
no_split [] x after e = cc
no_split (y ∷ before) x after e = cc

none_in_nothing : (ps : List Part) (d : Declared) → NoneIn ps d []
none_in_nothing ps d before x after e = absurd (no_split before x after e)

module _ (ps : List Part) (d : Declared) (y : Lexeme) (none : row (terminal_of ps y) d y ≡ None) where
  abbrev later_parts : List Part
  later_parts = behind (choice_of ps y)

  abbrev later : Declared
  later = added (choice_of ps y) y d

  none_in_more : (ys : List Lexeme) → NoneIn later_parts later ys → NoneIn ps d (y ∷ ys)
  none_in_more ys h [] x after e =
      let same : y ≡ x = cc in
      subst (λ z. row (terminal_of ps z) d z ≡ None) same none
  none_in_more ys h (z ∷ before) x after e =
      let same : y ≡ z = cc in
      let rest : ys ≡ before ++ x ∷ after = cc in
      subst (λ w. row_from ps d (w ∷ before) x ≡ None) same (h before x after rest)

none_of_more : (ps : List Part) (d : Declared) (y : Lexeme) (ys : List Lexeme) → NoneIn ps d (y ∷ ys) → NoneIn (behind (choice_of ps y)) (added (choice_of ps y) y d) ys
none_of_more ps d y ys h before x after e = h (y ∷ before) x after (ap (λ zs. y ∷ zs) e)

none_at_first : (ps : List Part) (d : Declared) (y : Lexeme) (ys : List Lexeme) → NoneIn ps d (y ∷ ys) → row (terminal_of ps y) d y ≡ None
none_at_first ps d y ys h = h [] y ys refl

abbrev failed : SpecFault → Outcome
failed f = Err f

same_fault : (a b : SpecFault) → failed a ≡ failed b → a ≡ b
same_fault a b e = cc

-- ---- both ways

met : (end : End) (ps : List Part) (d : Declared) (xs : List Lexeme) (f : SpecFault) → outcome end ps d xs ≡ Err f → FirstFrom end ps d xs f
met end ps d [] f e = ending (none_in_nothing ps d) e
met end ps d (x ∷ xs) f e = by (row (terminal_of ps x) d x) refl (λ h. met end (behind (choice_of ps x)) (added (choice_of ps x) x d) xs f h)
  where
    go : row (terminal_of ps x) d x ≡ None → FirstFrom end (behind (choice_of ps x)) (added (choice_of ps x) x d) xs f → FirstFrom end ps d (x ∷ xs) f
    go none (token before y after k split clear fits is) = token (x ∷ before) y after k (ap (λ zs. x ∷ zs) split) (none_in_more ps d x none before clear) fits is
    go none (ending clear last) = ending (none_in_more ps d x none xs clear) last

    by : (r : Option SpecKind) → row (terminal_of ps x) d x ≡ r
        → (outcome end (behind (choice_of ps x)) (added (choice_of ps x) x d) xs ≡ Err f → FirstFrom end (behind (choice_of ps x)) (added (choice_of ps x) x d) xs f)
        → FirstFrom end ps d (x ∷ xs) f
    by None none later = go none (later (rw none at e))
    by (Some k) fits later = token [] x xs k refl (none_in_nothing ps d) fits (sym (same_fault _ _ (rw fits at e)))

token_stops : (end : End) (ps : List Part) (d : Declared) (before : List Lexeme) (x : Lexeme) (after : List Lexeme) (k : SpecKind) → NoneIn ps d before → row_from ps d before x ≡ Some k → outcome end ps d (before ++ x ∷ after) ≡ Err (fault k x.line x.column)
token_stops end ps d [] x after k clear fits = ap (λ r. unless r x (outcome end (behind (choice_of ps x)) (added (choice_of ps x) x d) after)) fits
token_stops end ps d (y ∷ before) x after k clear fits =
    rw (none_at_first ps d y before clear) (token_stops end (behind (choice_of ps y)) (added (choice_of ps y) y d) before x after k (none_of_more ps d y before clear) fits)

goes_through : (end : End) (ps : List Part) (d : Declared) (xs : List Lexeme) → NoneIn ps d xs → outcome end ps d xs ≡ ends_by end.ending end (parts_from ps xs) (declared_from ps d xs)
goes_through end ps d [] clear = refl
goes_through end ps d (x ∷ xs) clear =
    rw (none_at_first ps d x xs clear) (goes_through end (behind (choice_of ps x)) (added (choice_of ps x) x d) xs (none_of_more ps d x xs clear))

first_is_met : (end : End) (ps : List Part) (d : Declared) (xs : List Lexeme) (f : SpecFault) → FirstFrom end ps d xs f → outcome end ps d xs ≡ Err f
first_is_met end ps d xs f (token before x after k split clear fits is) =
    ap (outcome end ps d) split ∙ (token_stops end ps d before x after k clear fits ∙ ap Err (sym is))
first_is_met end ps d xs f (ending clear last) = goes_through end ps d xs clear ∙ last

-- ---- the end

-- a token that the grammar doesn't allow fits a row
not_none : (a b : Option SpecKind) (c : Option SpecKind) → or a (or b (or (Some kind.Expected) c)) ≡ None → ⊥
not_none None None c e = cc
not_none None (Some k) c e = cc
not_none (Some k) b c e = cc

disallowed_fits : (d : Declared) (x : Lexeme) → row None d x ≡ None → ⊥
unfolding row expected
disallowed_fits d x e = not_none (when (is_closed_word x) kind.UnknownSection) (when (wrong_arity d x) kind.WrongArity) None e

-- where no row fits, the grammar allows each token
all_allowed : (ps : List Part) (d : Declared) (xs : List Lexeme) → NoneIn ps d xs → open_after_all ps xs ≡ Some (parts_from ps xs)
all_allowed ps d [] clear = refl
all_allowed ps d (x ∷ xs) clear =
    by (choice_of ps x) (none_at_first ps d x xs clear) (all_allowed (behind (choice_of ps x)) (added (choice_of ps x) x d) xs (none_of_more ps d x xs clear))
  where
    by : (c : Option Choice) → row (option_map (λ (c : Choice). c.terminal) c) d x ≡ None → open_after_all (behind c) xs ≡ Some (parts_from (behind c) xs)
        → option_and_then (λ qs. open_after_all qs xs) (option_map (λ (c : Choice). c.behind) c) ≡ Some (parts_from (behind c) xs)
    by None none next = absurd (disallowed_fits d x none)
    by (Some c) none next = next

abbrev end_of : List ℕ → End
end_of bytes = record { ending = (lexed bytes).ending; line = line_of bytes; column = column_of bytes }

end_met : (r : Option SpecKind) (end : End) (d : Declared) (f : SpecFault) → end_by r end d ≡ Err f → (k : SpecKind) × (r ≡ Some k) × (f ≡ fault k end.line end.column)
end_met None end d f e = cc
end_met (Some k) end d f e = (k, refl, sym (same_fault _ _ e))

-- ---- of a text

module _ (bytes : List ℕ) (f : SpecFault) where
  abbrev tokens : List Lexeme
  tokens = (lexed bytes).tokens

  abbrev start : List Part
  start = file ∷ []

  abbrev last_fault : Ending → Outcome
  last_fault e = ends_by e (end_of bytes) (parts_from start tokens) (declared_from start nothing tokens)

  rows_are : (before : List Lexeme) (x : Lexeme) → row_at before x ≡ row_from start nothing before x
  rows_are before x = ap (λ t. row t (declared_from start nothing before) x) (terminal_behind start before x)

  to_none : (xs : List Lexeme) → NoRowIn xs → NoneIn start nothing xs
  to_none xs h before x after e = sym (rows_are before x) ∙ h before x after e

  from_none : (xs : List Lexeme) → NoneIn start nothing xs → NoRowIn xs
  from_none xs h before x after e = rows_are before x ∙ h before x after e

  ends_alike : NoneIn start nothing tokens → end_allowed tokens ≡ may_end (parts_from start tokens)
  ends_alike clear = ap (λ o. option_map_or may_end o false) (all_allowed start nothing tokens clear)

  to_end : NoneIn start nothing tokens → (e : Ending) → last_fault e ≡ Err f → EndFault bytes e f
  to_end clear Whole met =
      let parts = end_met (end_row (may_end (parts_from start tokens)) (declared_from start nothing tokens)) (end_of bytes) (declared_from start nothing tokens) f met in
      (parts.0, ap (λ b. end_row b (declared_from start nothing tokens)) (ends_alike clear) ∙ parts.1, parts.2)
  to_end clear (Stopped why line column) met = sym (same_fault _ _ met)

  from_end : NoneIn start nothing tokens → (e : Ending) → EndFault bytes e f → last_fault e ≡ Err f
  from_end clear Whole (k, fits, is) =
      ap (λ r. end_by r (end_of bytes) (declared_from start nothing tokens)) (sym (ap (λ b. end_row b (declared_from start nothing tokens)) (ends_alike clear)) ∙ fits) ∙ ap Err (sym is)
  from_end clear (Stopped why line column) is = ap Err (sym is)

  to_first : FirstFrom (end_of bytes) start nothing tokens f → SpecFaultAt bytes f
  to_first (token before x after k split clear fits is) = SpecFaultAt.at_token before x after k split (from_none before clear) (rows_are before x ∙ fits) is
  to_first (ending clear last) = SpecFaultAt.at_end (from_none tokens clear) (to_end clear (lexed bytes).ending last)

  from_first : SpecFaultAt bytes f → FirstFrom (end_of bytes) start nothing tokens f
  from_first (SpecFaultAt.at_token before x after k split clear fits is) = token before x after k split (to_none before clear) (sym (rows_are before x) ∙ fits) is
  from_first (SpecFaultAt.at_end clear last) = ending (to_none tokens clear) (from_end (to_none tokens clear) (lexed bytes).ending last)

pub faults_are_first : FaultsAreFirst
faults_are_first bytes f = (
  λ e. to_first bytes f (met (end_of bytes) (file ∷ []) nothing (lexed bytes).tokens f e),
  λ at. first_is_met (end_of bytes) (file ∷ []) nothing (lexed bytes).tokens f (from_first bytes f at),
)
