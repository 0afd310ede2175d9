-- The lines of a derivation.
use Rattle.std.proofs.Common.{◌≡◌, ℕ, ◌≤◌, ◌<◌, List, [], ◌∷◌, ◌++◌, Option, Some, None, refl, sym, drop, ap, subst, ◌∙◌, arith}
use Rattle.std.specs.Prelude.{codes, ◌↔◌}
use Rattle.std.proofs.lemmas.List.{append_assoc}
use Rattle.ranked_terms.specs.Names.{Symbol}
use Rattle.ranked_terms.specs.SignatureRules.{IsSignature}
use Rattle.ranked_terms.specs.declared.term.Term.{Term}
use Rattle.ranked_terms.specs.Texts.{Text, IsTextOf, term_text}
use Rattle.ta_core.specs.declared.spec.Spec.{Spec}
use Rattle.cert_text.specs.declared.certificate.CertKind.{CertKind}
use Rattle.cert_text.specs.declared.certificate.CertKind.TheVariants as kind
use Rattle.cert_text.specs.Words.{position_word}
use Rattle.cert_text.specs.TermForms.{IsTermText}
use Rattle.cert_text.specs.Cuts.{Lacks}
use Rattle.cert_text.specs.Lines as line
use Rattle.cert_text.specs.Lines.{Line, IsFormed, IsPlace, Follows, after_reachable, start_step, start_end, step_step, step_end}
use Rattle.cert_text.specs.Certificates.{step_line, IsCertStep, IsCertTerm}
use Rattle.cert_text.specs.Faults.{Known, Begins, RowFits, field, symbol as is_symbol_row, count as is_count_row, ComesAfter, TellsTerm}
use Rattle.cert_text.specs.Taking.{Taken}
use Rattle.cert_text.specs.Paths.{ArePlaces, fields_text, IsStepText, IsWrongTerm, form, symbol, MayStep, at_start, behind, IsAtStep}
use Rattle.cert_text.proofs.format.TermForms.{term_form}
use Rattle.cert_text.proofs.rows.LineRows.{text_of_line, taken, line_row, place}

-- ---- terms

pub text_form : (s : List Symbol) → IsSignature s → (text : Text) (t : Term) → IsTextOf s text t → IsTermText text
text_form s valid text t told = subst IsTermText (sym told.text_is) (term_form s valid t told.over)

pub none_tells : (s : List Symbol) (text : Text) (o : Option Term) → o ≡ None → ((t : Term) → (o ≡ Some t) ↔ IsTextOf s text t) → TellsTerm s text → ⊥
none_tells s text o is each told = differ o told.0 is ((each told.0).1 told.1)
  where
    differ : (o : Option Term) (t : Term) → o ≡ None → o ≡ Some t → ⊥
    differ o t e f = cc

tells_there : (spec : Spec) (s : List Symbol) (text : Text) → spec.signature ≡ s → TellsTerm s text → TellsTerm spec.signature text
tells_there spec s text same told = subst (λ (x : List Symbol). TellsTerm x text) (sym same) told

tells_here : (spec : Spec) (s : List Symbol) (text : Text) → spec.signature ≡ s → TellsTerm spec.signature text → TellsTerm s text
tells_here spec s text same told = subst (λ (x : List Symbol). TellsTerm x text) same told

-- ---- the start

start_only : (text : Text) (l : Line) → Follows (Some line.reachable) l → IsFormed l → text ≡ text_of_line l → ((t : Text) → IsTermText t → text ≡ codes "Start " ++ t → ⊥) → ⊥
start_only text l (after_reachable {t = t}) is e never = never t is e

module _ (spec : Spec) (k : Known) (s : List Symbol) (bytes text rest : Text) (same : spec.signature ≡ s) (at : k.before ≡ Some line.reachable) (told : bytes ≡ text ++ 10 ∷ rest) where
  pub start_row : Lacks 10 text → ((t : Text) → IsTermText t → text ≡ codes "Start " ++ t → ⊥) → RowFits spec k bytes kind.Line
  start_row free never = line_row spec k bytes text rest (ap place at) told free (λ l follows formed e. start_only text l (subst (λ (o : Option Line). Follows o l) at follows) formed e never)

  start_begin : (word : Text) → IsTermText word → text ≡ codes "Start " ++ word → Begins k bytes (line.start word) rest
  start_begin word is e = record { follows = subst (λ (o : Option Line). Follows o (line.start word)) (sym at) after_reachable; formed = is; told = told ∙ ap (λ x. x ++ 10 ∷ rest) e ∙ sym (append_assoc (text_of_line (line.start word)) (10 ∷ []) rest) }

  pub start_wrong : (word : Text) (kd : CertKind) → Lacks 10 text → text ≡ codes "Start " ++ word → IsWrongTerm s word kd → RowFits spec k bytes kd
  start_wrong word kd free e (form bad) = start_row free (λ t is f. bad (subst IsTermText (cancel_start t word (sym f ∙ e)) is))
    where
      cancel_start : (x y : Text) → codes "Start " ++ x ≡ codes "Start " ++ y → x ≡ y
      cancel_start x y e = ap (drop 6) e
  start_wrong word kd free e (symbol is bad) = field (start_begin word is e) (is_symbol_row (λ h. bad (tells_here spec s word same h)))

  pub start_taken : (word : Text) (t : Term) → text ≡ codes "Start " ++ word → IsTextOf s word t × IsTermText word → Taken spec k bytes (line.start (term_text s t)) rest
  start_taken word t e is = subst (λ (x : Text). Taken spec k bytes (line.start x) rest) is.0.text_is (record {
    begins = start_begin word is.1 e;
    right = record { symbols = tells_there spec s word same (t, is.0); count = tt; states = tt; order = (tt, subst (λ (o : Option Line). ComesAfter spec.signature o (line.start word)) (sym at) tt) };
  })

pub term_within : (s : List Symbol) (word : Text) (t : Term) → IsTextOf s word t → IsCertTerm s t
term_within s word t is = record { over = is.over; small = is.small }

-- ---- a step

step_only : (o : Option Line) (text : Text) (l : Line) → MayStep o → Follows o l → IsFormed l → text ≡ text_of_line l → (text ≡ text_of_line line.end → ⊥)
    → ((r : ℕ) (ks : List ℕ) (t : Text) → r ≤ 4095 → ArePlaces ks → IsTermText t → text ≡ fields_text r (position_word ks) t → ⊥) → ⊥
step_only o text l (at_start t) (start_step {t = u} {r = r} {at = ks}) is e over never = never r ks u is.0 (record { few = is.1; each = is.2 }) is.3 e
step_only o text l (at_start t) start_end is e over never = over e
step_only o text l (behind r at t) (step_step {t = u} {r = n} {to = ks}) is e over never = never n ks u is.0 (record { few = is.1; each = is.2 }) is.3 e
step_only o text l (behind r at t) step_end is e over never = over e

pub may_place : (o : Option Line) → MayStep o → place o ≡ 3
may_place o (at_start t) = refl
may_place o (behind r at t) = refl

step_may : (o : Option Line) (r : ℕ) (ks : List ℕ) (t : Text) → MayStep o → Follows o (line.step r ks t)
step_may o r ks t (at_start u) = start_step
step_may o r ks t (behind n at u) = step_step

end_may : (o : Option Line) → MayStep o → Follows o line.end
end_may o (at_start u) = start_end
end_may o (behind n at u) = step_end

no_order : (s : List Symbol) (o : Option Line) (l : Line) → MayStep o → ComesAfter s o l
no_order s o l (at_start u) = tt
no_order s o l (behind n at u) = tt

module _ (spec : Spec) (k : Known) (s : List Symbol) (number : ℕ) (bytes text rest : Text) (at : IsAtStep s number spec k) (told : bytes ≡ text ++ 10 ∷ rest) where
  pub step_row : Lacks 10 text → (text ≡ text_of_line line.end → ⊥) → ((r : ℕ) (ks : List ℕ) (t : Text) → r ≤ 4095 → ArePlaces ks → IsTermText t → text ≡ fields_text r (position_word ks) t → ⊥) → RowFits spec k bytes kind.Line
  step_row free over never = line_row spec k bytes text rest (may_place k.before at.may) told free (λ l follows formed e. step_only k.before text l at.may follows formed e over never)

  pub step_over : text ≡ text_of_line line.end → Taken spec k bytes line.end rest
  step_over is = taken spec k bytes text rest line.end told is (end_may k.before at.may) tt (record { symbols = tt; count = tt; states = tt; order = (tt, no_order spec.signature k.before line.end at.may) })

  module _ (r : ℕ) (ks : List ℕ) (word : Text) (it : IsStepText text r ks word) where
    step_begin : IsTermText word → Begins k bytes (line.step r ks word) rest
    step_begin is = record { follows = step_may k.before r ks word at.may; formed = (it.rule, it.places.few, it.places.each, is); told = told ∙ ap (λ x. x ++ 10 ∷ rest) it.told ∙ sym (append_assoc (text_of_line (line.step r ks word)) (10 ∷ []) rest) }

    pub step_wrong : (kd : CertKind) → Lacks 10 text → (text ≡ text_of_line line.end → ⊥) → ((n : ℕ) (js : List ℕ) (t : Text) → text ≡ fields_text n (position_word js) t → t ≡ word) → IsWrongTerm s word kd → RowFits spec k bytes kd
    step_wrong kd free over once (form bad) = step_row free over (λ n js t small places is e. bad (subst IsTermText (once n js t e) is))
    step_wrong kd free over once (symbol is bad) = field (step_begin is) (is_symbol_row (λ h. bad (tells_here spec s word at.signature h)))

    pub step_many : (t : Term) → IsTextOf s word t × IsTermText word → 100 ≤ number → RowFits spec k bytes kind.Count
    step_many t is many = field (step_begin is.1) (is_count_row (tells_there spec s word at.signature (t, is.0)) (λ few. let same = at.counted in omega (arith, few, many, same)))

    pub step_taken : (t : Term) → IsTextOf s word t × IsTermText word → number < 100 → Taken spec k bytes (step_line s (record { rule = r; at = ks; term = t })) rest
    step_taken t is few = subst (λ (x : Text). Taken spec k bytes (line.step r ks x) rest) is.0.text_is (record {
      begins = step_begin is.1;
      right = record { symbols = tells_there spec s word at.signature (t, is.0); count = (let same = at.counted in omega (arith, few, same)); states = tt; order = (tt, no_order spec.signature k.before (line.step r ks word) at.may) };
    })

pub step_within : (s : List Symbol) (text word : Text) (r : ℕ) (ks : List ℕ) (t : Term) → IsStepText text r ks word → IsTextOf s word t → IsCertStep s (record { rule = r; at = ks; term = t })
step_within s text word r ks t it is = record { rule = it.rule; deep = it.places.few; places = it.places.each; term = term_within s word t is }
