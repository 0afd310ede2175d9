-- A certificate's text has no fault.
use Rattle.std.proofs.Common.{◌≡◌, ℕ, ◌+◌, ◌≤◌, ◌==◌, Bool, true, false, List, [], ◌∷◌, ◌++◌, map, length, Option, Some, refl, sym, ap, subst, ◌∙◌, arith}
use Rattle.std.specs.Prelude.{unwrap_or}
use Rattle.std.specs.declared.cmp.Ordering.TheVariants.{Less}
use Rattle.std.specs.List.{AllByRecursion, list_all}
use Rattle.std.specs.List.Sorted.{IsStrictlySortedBy}
use Rattle.std.proofs.lemmas.Bool.{eqb-false}
use Rattle.std.proofs.lemmas.List.Elements.{All-nil, recursion_from_All}
use Rattle.ranked_terms.specs.Names.{Symbol, arity_of}
use Rattle.ranked_terms.specs.Terms.{is_symbol}
use Rattle.ranked_terms.specs.SignatureRules.{IsSignature}
use Rattle.ta_core.specs.declared.spec.Spec.{Spec}
use Rattle.ta_core.specs.declared.trans.Trans.{Trans}
use Rattle.ta_core.specs.TreeAutomaton.{IsTransOf, IsEpsOf, trans_of, trans_cmp, pair_cmp}
use Rattle.trs_rules.specs.declared.derivation.DStep.{DStep}
use Rattle.cert_text.specs.declared.certificate.Certificate.{Certificate}
use Rattle.cert_text.specs.declared.certificate.Certificate.TheVariants as certificate
use Rattle.cert_text.specs.declared.certificate.CertKind.{CertKind}
use Rattle.ranked_terms.specs.Texts.{Text, symbol_text, term_text}
use Rattle.cert_text.specs.Words.{text_of}
use Rattle.cert_text.specs.Lines as line
use Rattle.cert_text.specs.Lines.{Line, words_of, IsFormed, Follows, first, claims, derives, after_unreachable, noted, after_rounds, after_precise, after_next, after_states, after_finals, map_trans, map_eps, map_end, trans_trans, trans_eps, trans_end, eps_eps, eps_end, after_reachable, start_step, start_end, step_step, step_end}
use Rattle.cert_text.specs.Certificates.{trans_line, automaton_lines, step_line, certificate_lines, IsCertStep, IsWithin, IsClaim}
use Rattle.cert_text.specs.Faults.{Known, nothing, learn, ComesAfter, IsRight, Begins, RowFits, head, no_claim, no_form, field, Takes, none, more}
use Rattle.cert_text.specs.Laws.{ReadsWithoutFault}
use Rattle.cert_text.proofs.format.Formed.{begins_once}
use Rattle.cert_text.proofs.uniqueness.OneFault.{not_right}
use Rattle.cert_text.proofs.rows.LineRows.{place, nothing_begins}
use Rattle.cert_text.proofs.format.Symbols.{and_both, name_word, numbered, arity_is}
use Rattle.cert_text.proofs.format.TermForms.{term_form}
use Rattle.cert_text.proofs.uniqueness.OneCertificate.{eps_line}

-- the line may stand here, and no row fits it
pub record IsGood (spec : Spec) (k : Known) (l : Line) : Type 0 where
  pub follows : Follows k.before l
  pub formed : IsFormed l
  pub right : IsRight spec k l

-- these lines are good one after the other, and nothing is missing behind them
abbrev pub AreGood : Spec → Known → List Line → Type 0
AreGood spec k [] = k.before ≡ Some line.end
AreGood spec k (l ∷ ls) = IsGood spec k l × AreGood spec (learn l k) ls

nothing_in : (k : Known) (bytes r : Text) (l : Line) → bytes ≡ [] → Begins k bytes l r → ⊥
nothing_in k bytes r l e b = nothing_begins k [] r l (All-nil (λ x. (x == 10) ≡ false)) (subst (λ (t : Text). Begins k t l r) e b)

no_row_at_end : (spec : Spec) (k : Known) (bytes : Text) (c : CertKind) → k.before ≡ Some line.end → bytes ≡ [] → RowFits spec k bytes c → ⊥
no_row_at_end spec k bytes c is e (head h) = eqb-false 0 2 refl (sym (ap place h.0) ∙ ap place is)
no_row_at_end spec k bytes c is e (no_claim h) = eqb-false 1 2 refl (sym (ap place h.0) ∙ ap place is)
no_row_at_end spec k bytes c is e (no_form x y h) = h.0 (is, e)
no_row_at_end spec k bytes c is e (field {l = l} {rest = r} b w) = nothing_in k bytes r l e b

no_fault : (spec : Spec) (k later : Known) (bytes rest : Text) (ls ms : List Line) (c : CertKind) → AreGood spec k ls → bytes ≡ text_of (map words_of ls) → Takes spec k bytes ms later rest → RowFits spec later rest c → ⊥
no_fault spec k later bytes rest [] ms c good e none row = no_row_at_end spec k bytes c good e row
no_fault spec k later bytes rest [] ms c good e (more {rest = r} {l = m} b right t) row = nothing_in k bytes r m e b
no_fault spec k later bytes rest (l ∷ ls) ms c good e none row =
    not_right spec k bytes (text_of (map words_of ls)) l c row (record { follows = good.0.follows; formed = good.0.formed; told = e }) good.0.right
no_fault spec k later bytes rest (l ∷ ls) ms c good e (more {rest = r} {l = m} {ls = others} b right t) row =
    let same = begins_once k bytes l m (text_of (map words_of ls)) r (record { follows = good.0.follows; formed = good.0.formed; told = e }) b in
    let moved : Takes spec (learn l k) r others later rest = subst (λ (z : Line). Takes spec (learn z k) r others later rest) (sym same.0) t in
    no_fault spec (learn l k) later r rest ls others c good.1 (sym same.1) moved row

all_of : {X : Type 0} (P : X → Type 0) → ((x : X) → P x) → (xs : List X) → AllByRecursion P xs
all_of P f [] = tt
all_of P f (x ∷ xs) = (f x, all_of P f xs)

module _ (spec : Spec) (valid : IsSignature spec.signature) where
  abbrev s : List Symbol
  s = spec.signature

  abbrev is_over_sym : Trans → Bool
  is_over_sym t = is_symbol s t.sym (length t.args)

  record EpsMay (o : Option Line) (es : List (ℕ × ℕ)) : Type 0 where
    eps : (p q : ℕ) → Follows o (line.eps p q)
    ends : Follows o line.end
    ends_after : ComesAfter s o line.end
    each : AllByRecursion (λ e. ComesAfter s o (eps_line e)) es

  eps_good : (k : Known) (es : List (ℕ × ℕ)) → EpsMay k.before es → AllByRecursion (IsEpsOf k.states) es → IsStrictlySortedBy pair_cmp es → AreGood spec k (map eps_line es ++ line.end ∷ [])
  unfolding IsStrictlySortedBy
  eps_good k [] may of sorted = (record { follows = may.ends; formed = tt; right = record { symbols = tt; count = tt; states = tt; order = (tt, may.ends_after) } }, refl)
  eps_good k (e ∷ es) may of sorted = (
    record { follows = may.eps e.0 e.1; formed = tt; right = record { symbols = tt; count = tt; states = (of.0.from, of.0.to); order = (of.0.moves, may.each.0) } },
    eps_good (learn (eps_line e) k) es (record { eps = λ p q. eps_eps; ends = eps_end; ends_after = tt; each = sorted.0 }) of.1 sorted.1,
  )

  record TransMay (o : Option Line) (ts : List Trans) (es : List (ℕ × ℕ)) : Type 0 where
    trans : (f : Text) (qs : List ℕ) (q : ℕ) → Follows o (line.trans f qs q)
    may : EpsMay o es
    each : AllByRecursion (λ t. ComesAfter s o (trans_line s t)) ts

  after_is : (t u : Trans) → is_over_sym t ≡ true → is_over_sym u ≡ true → trans_cmp t u ≡ Less → ComesAfter s (Some (trans_line s t)) (trans_line s u)
  after_is t u a b less m n e f =
      let p : m ≡ t.sym = ap (λ o. unwrap_or o 0) (sym e ∙ numbered s valid t.sym (length t.args) a) in
      let q : n ≡ u.sym = ap (λ o. unwrap_or o 0) (sym f ∙ numbered s valid u.sym (length u.args) b) in
      (λ i. trans_cmp (trans_of (p i) t.args t.to) (trans_of (q i) u.args u.to)) ∙ less

  each_after : (t : Trans) (us : List Trans) → is_over_sym t ≡ true → list_all is_over_sym us ≡ true → AllByRecursion (λ u. trans_cmp t u ≡ Less) us → AllByRecursion (λ u. ComesAfter s (Some (trans_line s t)) (trans_line s u)) us
  each_after t [] a e h = tt
  each_after t (u ∷ us) a e h =
      let both = and_both (is_over_sym u) (list_all is_over_sym us) e in
      (after_is t u a both.0 h.0, each_after t us a both.1 h.1)

  trans_good : (k : Known) (ts : List Trans) (es : List (ℕ × ℕ)) → TransMay k.before ts es → list_all is_over_sym ts ≡ true → AllByRecursion (IsTransOf k.states) ts → IsStrictlySortedBy trans_cmp ts
      → AllByRecursion (IsEpsOf k.states) es → IsStrictlySortedBy pair_cmp es → AreGood spec k ((map (trans_line s) ts ++ map eps_line es) ++ line.end ∷ [])
  unfolding IsStrictlySortedBy
  trans_good k [] es may over of sorted eps_of eps_sorted = eps_good k es may.may eps_of eps_sorted
  trans_good k (t ∷ ts) es may over of sorted eps_of eps_sorted =
      let both = and_both (is_over_sym t) (list_all is_over_sym ts) over in (
        record {
          follows = may.trans (symbol_text s t.sym) t.args t.to;
          formed = name_word s valid t.sym (length t.args) both.0;
          right = record {
            symbols = record { sym = t.sym; named = numbered s valid t.sym (length t.args) both.0; arity = arity_is (length t.args) (arity_of s t.sym) both.0 };
            count = tt;
            states = (of.0.args, of.0.to);
            order = (tt, may.each.0);
          };
        },
        trans_good (learn (trans_line s t) k) ts es
            (record {
              trans = λ f qs q. trans_trans;
              may = record { eps = λ p q. trans_eps; ends = trans_end; ends_after = tt; each = all_of (λ e. ComesAfter s (Some (trans_line s t)) (eps_line e)) (λ e. tt) es };
              each = each_after t ts both.0 both.1 sorted.0;
            }) both.1 of.1 sorted.1 eps_of eps_sorted,
      )

  automaton_good : (k : Known) (i : ℕ) (A : _) (h : List ℕ) → IsClaim spec i A h → ((n : ℕ) → Follows k.before (line.next n)) → ComesAfter s k.before (line.next A.next) → AreGood spec k (automaton_lines s A h ++ line.end ∷ [])
  automaton_good k i A h w may after =
      let last = learn (line.maps h) (learn (line.finals A.finals) (learn (line.states A.states) (learn (line.next A.next) k))) in (
        record { follows = may A.next; formed = w.kept.few; right = record { symbols = tt; count = tt; states = tt; order = (tt, after) } },
        (
          record { follows = after_next; formed = tt; right = record { symbols = tt; count = tt; states = w.kept.sound.below; order = (w.states, tt) } },
          (
            record { follows = after_states; formed = tt; right = record { symbols = tt; count = tt; states = w.kept.sound.finals; order = (w.finals, tt) } },
            (
              record { follows = after_finals; formed = tt; right = record { symbols = tt; count = w.each_state; states = w.images; order = (tt, tt) } },
              trans_good last A.trans A.eps
                  (record {
                    trans = λ f qs q. map_trans;
                    may = record { eps = λ p q. map_eps; ends = map_end; ends_after = tt; each = all_of (λ e. ComesAfter s (Some (line.maps h)) (eps_line e)) (λ e. tt) A.eps };
                    each = all_of (λ t. ComesAfter s (Some (line.maps h)) (trans_line s t)) (λ t. tt) A.trans;
                  })
                  w.over (recursion_from_All (IsTransOf A.states) A.trans w.kept.sound.trans) w.trans (recursion_from_All (IsEpsOf A.states) A.eps w.kept.sound.eps) w.eps,
            ),
          ),
        ),
      )

  record StepMay (o : Option Line) : Type 0 where
    steps : (r : ℕ) (at : List ℕ) (t : Text) → Follows o (line.step r at t)
    ends : Follows o line.end
    ends_after : ComesAfter s o line.end
    step_after : (r : ℕ) (at : List ℕ) (t : Text) → ComesAfter s o (line.step r at t)

  steps_good : (k : Known) (ds : List DStep) → k.steps + length ds ≤ 100 → StepMay k.before → AllByRecursion (IsCertStep s) ds → AreGood spec k (map (step_line s) ds ++ line.end ∷ [])
  steps_good k [] few may of = (record { follows = may.ends; formed = tt; right = record { symbols = tt; count = tt; states = tt; order = (tt, may.ends_after) } }, refl)
  steps_good k (d ∷ ds) few may of = (
    record {
      follows = may.steps d.rule d.at (term_text s d.term);
      formed = (of.0.rule, of.0.deep, of.0.places, term_form s valid d.term of.0.term.over);
      right = record {
        symbols = (d.term, record { over = of.0.term.over; text_is = refl; small = of.0.term.small });
        count = omega (arith, few);
        states = tt;
        order = (tt, may.step_after d.rule d.at (term_text s d.term));
      };
    },
    steps_good (learn (step_line s d) k) ds (omega (arith, few)) (record { steps = λ r at t. step_step; ends = step_end; ends_after = tt; step_after = λ r at t. tt }) of.1,
  )

  cert_good : (c : Certificate) → IsWithin spec c → AreGood spec nothing (certificate_lines s c)
  cert_good (certificate.Unreachable i true A h) w =
      let known = learn line.precise (learn (line.rounds i) (learn line.unreachable (learn line.head nothing))) in (
        record { follows = first; formed = tt; right = record { symbols = tt; count = tt; states = tt; order = (tt, tt) } },
        (
          record { follows = claims; formed = tt; right = record { symbols = tt; count = tt; states = tt; order = (tt, tt) } },
          (
            record { follows = after_unreachable; formed = w.rounds; right = record { symbols = tt; count = tt; states = tt; order = (tt, tt) } },
            (
              record { follows = noted; formed = tt; right = record { symbols = tt; count = tt; states = tt; order = (tt, tt) } },
              automaton_good known i A h w (λ n. after_precise) tt,
            ),
          ),
        ),
      )
  cert_good (certificate.Unreachable i false A h) w =
      let known = learn (line.rounds i) (learn line.unreachable (learn line.head nothing)) in (
        record { follows = first; formed = tt; right = record { symbols = tt; count = tt; states = tt; order = (tt, tt) } },
        (
          record { follows = claims; formed = tt; right = record { symbols = tt; count = tt; states = tt; order = (tt, tt) } },
          (
            record { follows = after_unreachable; formed = w.rounds; right = record { symbols = tt; count = tt; states = tt; order = (tt, tt) } },
            automaton_good known i A h w (λ n. after_rounds) tt,
          ),
        ),
      )
  cert_good (certificate.Reachable d) w =
      let known = learn (line.start (term_text s d.start)) (learn line.reachable (learn line.head nothing)) in (
        record { follows = first; formed = tt; right = record { symbols = tt; count = tt; states = tt; order = (tt, tt) } },
        (
          record { follows = derives; formed = tt; right = record { symbols = tt; count = tt; states = tt; order = (tt, tt) } },
          (
            record { follows = after_reachable; formed = term_form s valid d.start w.start.over; right = record { symbols = (d.start, record { over = w.start.over; text_is = refl; small = w.start.small }); count = tt; states = tt; order = (tt, tt) } },
            steps_good known d.steps (let few = w.few in omega (arith, few)) (record { steps = λ r at t. start_step; ends = start_end; ends_after = tt; step_after = λ r at t. tt }) (recursion_from_All (IsCertStep s) d.steps w.steps),
          ),
        ),
      )

pub reads_without_fault : ReadsWithoutFault
reads_without_fault spec bytes c f valid a b =
    no_fault spec nothing b.known bytes b.rest (certificate_lines spec.signature c) b.lines f.kind (cert_good spec valid c a.within) a.told b.before b.row
