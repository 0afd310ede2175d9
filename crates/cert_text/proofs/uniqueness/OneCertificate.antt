-- A text is one certificate at most.
use Rattle.std.proofs.Common.{◌≡◌, ℕ, Bool, true, false, List, [], ◌∷◌, ◌++◌, map, length, refl, sym, ap, subst, ◌∙◌}
use Rattle.std.specs.Prelude.{All}
use Rattle.std.specs.List.{AllByRecursion, list_all}
use Rattle.std.proofs.lemmas.Bool.{eqb-false}
use Rattle.std.proofs.lemmas.List.Elements.{recursion_from_All}
use Rattle.ranked_terms.specs.Names.{Symbol}
use Rattle.ranked_terms.specs.Terms.{is_symbol}
use Rattle.ranked_terms.specs.SignatureRules.{IsSignature}
use Rattle.ranked_terms.specs.TextLaws.{TextsDiffer}
use Rattle.ta_core.specs.declared.spec.Spec.{Spec}
use Rattle.ta_core.specs.declared.trans.Trans.{Trans}
use Rattle.ta_core.specs.TreeAutomaton.{TreeAutomaton}
use Rattle.trs_rules.specs.declared.derivation.DStep.{DStep}
use Rattle.cert_text.specs.declared.certificate.Certificate.{Certificate}
use Rattle.cert_text.specs.declared.certificate.Certificate.TheVariants as certificate
use Rattle.ranked_terms.specs.Texts.{Text}
use Rattle.cert_text.specs.Words.{Words, text_of}
use Rattle.cert_text.specs.Lines as line
use Rattle.cert_text.specs.Lines.{Line, words_of, IsFormed}
use Rattle.cert_text.specs.Certificates.{note_lines, trans_line, automaton_lines, step_line, certificate_lines, words_of_all, IsCertTerm, IsCertStep, IsWithin}
use Rattle.cert_text.specs.Laws.{OneCertificate}
use Rattle.cert_text.proofs.fields.Texts.{line_once}
use Rattle.cert_text.proofs.fields.Numbers.{number_once, numbers_once}
use Rattle.cert_text.proofs.format.OneLine.{at_1, at_2, at_3, behind_0, tag, second_tag}
use Rattle.cert_text.proofs.fields.Applied.{words_once}
use Rattle.cert_text.proofs.format.Formed.{is_line}
use Rattle.cert_text.proofs.format.Symbols.{and_both, name_word, symbol_once}
use Rattle.cert_text.proofs.format.TermForms.{term_form}

-- ---- a text has one list of lines

not_empty : (front rest : Text) → [] ≡ (front ++ 10 ∷ []) ++ rest → ⊥
not_empty [] rest e = cc
not_empty (c ∷ front) rest e = cc

lines_once : (ls ms : List Line) → AllByRecursion IsFormed ls → AllByRecursion IsFormed ms → text_of (map words_of ls) ≡ text_of (map words_of ms) → map words_of ls ≡ map words_of ms
lines_once [] [] h k e = refl
lines_once [] (m ∷ ms) h k e = absurd (not_empty _ _ e)
lines_once (l ∷ ls) [] h k e = absurd (not_empty _ _ (sym e))
lines_once (l ∷ ls) (m ∷ ms) h k e =
    let same = line_once (words_of l) (words_of m) (text_of (map words_of ls)) (text_of (map words_of ms)) (is_line l h.0) (is_line m k.0) e in
    (λ i. same.words i ∷ lines_once ls ms h.1 k.1 same.rest i)

abbrev front : List Words → Words
front [] = []
front (w ∷ ws) = w

abbrev later : List Words → List Words
later [] = []
later (w ∷ ws) = ws

abbrev pub eps_line : ℕ × ℕ → Line
eps_line e = line.eps e.0 e.1

formed_append : (ls ms : List Line) → AllByRecursion IsFormed ls → AllByRecursion IsFormed ms → AllByRecursion IsFormed (ls ++ ms)
formed_append [] ms h k = k
formed_append (l ∷ ls) ms h k = (h.0, formed_append ls ms h.1 k)

eps_formed : (es : List (ℕ × ℕ)) → AllByRecursion IsFormed (map eps_line es)
eps_formed [] = tt
eps_formed (e ∷ es) = (tt, eps_formed es)

notes_formed : (b : Bool) → AllByRecursion IsFormed (note_lines b)
notes_formed true = (tt, tt)
notes_formed false = tt

module _ (differ : TextsDiffer) (s : List Symbol) (valid : IsSignature s) where
  abbrev is_right : Trans → Bool
  is_right t = is_symbol s t.sym (length t.args)

  -- ---- the lines of a certificate are formed

  trans_formed : (ts : List Trans) → list_all is_right ts ≡ true → AllByRecursion IsFormed (map (trans_line s) ts)
  trans_formed [] e = tt
  trans_formed (t ∷ ts) e =
      let both = and_both (is_right t) (list_all is_right ts) e in
      (name_word s valid t.sym (length t.args) both.0, trans_formed ts both.1)

  steps_formed : (ds : List DStep) → AllByRecursion (IsCertStep s) ds → AllByRecursion IsFormed (map (step_line s) ds)
  steps_formed [] h = tt
  steps_formed (d ∷ ds) h = ((h.0.rule, h.0.deep, h.0.places, term_form s valid d.term h.0.term.over), steps_formed ds h.1)

  all_formed : (spec : Spec) (c : Certificate) → spec.signature ≡ s → IsWithin spec c → AllByRecursion IsFormed (certificate_lines s c)
  all_formed spec (certificate.Unreachable i precise A h) is w =
      let over : list_all is_right A.trans ≡ true = subst (λ (x : List Symbol). list_all (λ t. is_symbol x t.sym (length t.args)) A.trans ≡ true) is w.over in
      let lists = formed_append (map (trans_line s) A.trans) (map eps_line A.eps) (trans_formed A.trans over) (eps_formed A.eps) in
      let automaton : AllByRecursion IsFormed (automaton_lines s A h) = (w.kept.few, (tt, (tt, (tt, lists)))) in
      let noted = formed_append (note_lines precise) (automaton_lines s A h) (notes_formed precise) automaton in
      (tt, (tt, (w.rounds, formed_append (note_lines precise ++ automaton_lines s A h) (line.end ∷ []) noted (tt, tt))))
  all_formed spec (certificate.Reachable d) is w =
      let start = subst (λ (x : List Symbol). IsCertTerm x d.start) is w.start in
      let steps = subst (λ (x : List Symbol). All (IsCertStep x) d.steps) is w.steps in
      (tt, (tt, (term_form s valid d.start start.over, formed_append (map (step_line s) d.steps) (line.end ∷ []) (steps_formed d.steps (recursion_from_All (IsCertStep s) d.steps steps)) (tt, tt))))

  -- ---- equal words have equal fields

  trans_is : (t u : Trans) → is_right t ≡ true → is_right u ≡ true → words_of (trans_line s t) ≡ words_of (trans_line s u) → t ≡ u
  trans_is t u a b e =
      let word_t = name_word s valid t.sym (length t.args) a in
      let word_u = name_word s valid u.sym (length u.args) b in
      let both = words_once.applied _ _ t.args u.args word_t word_u (ap at_1 e) in
      let syms = symbol_once s valid t.sym u.sym (length t.args) (length u.args) a b both.0 in
      let tos = number_once t.to u.to (ap at_3 e) in
      (λ i. record { sym = syms i; args = both.1 i; to = tos i })

  abbrev tail_words : List Trans → List (ℕ × ℕ) → List Words
  tail_words ts es = map words_of ((map (trans_line s) ts ++ map eps_line es) ++ line.end ∷ [])

  tails_once : (ts us : List Trans) (es fs : List (ℕ × ℕ)) → list_all is_right ts ≡ true → list_all is_right us ≡ true → tail_words ts es ≡ tail_words us fs → (ts ≡ us) × (es ≡ fs)
  tails_once [] [] [] [] a b e = (refl, refl)
  tails_once [] [] [] (f ∷ fs) a b e = absurd (eqb-false 110069 69 refl (ap (λ ls. tag (front ls)) e))
  tails_once [] [] (x ∷ es) [] a b e = absurd (eqb-false 69 110069 refl (ap (λ ls. tag (front ls)) e))
  tails_once [] [] (x ∷ es) (f ∷ fs) a b e =
      let from = number_once x.0 f.0 (ap (λ ls. at_1 (front ls)) e) in
      let to = number_once x.1 f.1 (ap (λ ls. at_3 (front ls)) e) in
      let rest = tails_once [] [] es fs refl refl (ap later e) in
      (refl, (λ i. (from i, to i) ∷ rest.1 i))
  tails_once [] (u ∷ us) [] fs a b e = absurd (eqb-false 110069 84 refl (ap (λ ls. tag (front ls)) e))
  tails_once [] (u ∷ us) (x ∷ es) fs a b e = absurd (eqb-false 69 84 refl (ap (λ ls. tag (front ls)) e))
  tails_once (t ∷ ts) [] es [] a b e = absurd (eqb-false 84 110069 refl (ap (λ ls. tag (front ls)) e))
  tails_once (t ∷ ts) [] es (f ∷ fs) a b e = absurd (eqb-false 84 69 refl (ap (λ ls. tag (front ls)) e))
  tails_once (t ∷ ts) (u ∷ us) es fs a b e =
      let x = and_both (is_right t) (list_all is_right ts) a in
      let y = and_both (is_right u) (list_all is_right us) b in
      let same = trans_is t u x.0 y.0 (ap front e) in
      let rest = tails_once ts us es fs x.1 y.1 (ap later e) in
      ((λ i. same i ∷ rest.0 i), rest.1)

  abbrev automaton_words : TreeAutomaton → List ℕ → List Words
  automaton_words A h = map words_of (automaton_lines s A h ++ line.end ∷ [])

  automaton_once : (A B : TreeAutomaton) (h k : List ℕ) → list_all is_right A.trans ≡ true → list_all is_right B.trans ≡ true → automaton_words A h ≡ automaton_words B k → (A ≡ B) × (h ≡ k)
  automaton_once A B h k a b e =
      let nexts = number_once A.next B.next (ap (λ ls. at_1 (front ls)) e) in
      let all = numbers_once A.states B.states (ap (λ ls. behind_0 (front (later ls))) e) in
      let finals = numbers_once A.finals B.finals (ap (λ ls. behind_0 (front (later (later ls)))) e) in
      let maps = numbers_once h k (ap (λ ls. behind_0 (front (later (later (later ls))))) e) in
      let both = tails_once A.trans B.trans A.eps B.eps a b (ap (λ ls. later (later (later (later ls)))) e) in
      ((λ i. record { states = all i; next = nexts i; finals = finals i; trans = both.0 i; eps = both.1 i }), maps)

  abbrev noted_words : Bool → TreeAutomaton → List ℕ → List Words
  noted_words p A h = map words_of ((note_lines p ++ automaton_lines s A h) ++ line.end ∷ [])

  noted_once : (p q : Bool) (A B : TreeAutomaton) (h k : List ℕ) → list_all is_right A.trans ≡ true → list_all is_right B.trans ≡ true → noted_words p A h ≡ noted_words q B k → (p ≡ q) × (A ≡ B) × (h ≡ k)
  noted_once true true A B h k a b e = let both = automaton_once A B h k a b (ap later e) in (refl, both.0, both.1)
  noted_once true false A B h k a b e = absurd (eqb-false 111078 101078 refl (ap (λ ls. tag (front ls)) e))
  noted_once false true A B h k a b e = absurd (eqb-false 101078 111078 refl (ap (λ ls. tag (front ls)) e))
  noted_once false false A B h k a b e = let both = automaton_once A B h k a b e in (refl, both.0, both.1)

  steps_once : (ds fs : List DStep) → AllByRecursion (IsCertStep s) ds → AllByRecursion (IsCertStep s) fs
      → map words_of (map (step_line s) ds ++ line.end ∷ []) ≡ map words_of (map (step_line s) fs ++ line.end ∷ []) → ds ≡ fs
  steps_once [] [] h k e = refl
  steps_once [] (f ∷ fs) h k e = absurd (eqb-false 110069 116083 refl (ap (λ ls. tag (front ls)) e))
  steps_once (d ∷ ds) [] h k e = absurd (eqb-false 116083 110069 refl (ap (λ ls. tag (front ls)) e))
  steps_once (d ∷ ds) (f ∷ fs) h k e =
      let rules_are = number_once d.rule f.rule (ap (λ ls. at_1 (front ls)) e) in
      let places = words_once.position d.at f.at (ap (λ ls. at_2 (front ls)) e) in
      let terms = differ s valid d.term f.term h.0.term.over k.0.term.over (ap (λ ls. at_3 (front ls)) e) in
      let rest = steps_once ds fs h.1 k.1 (ap later e) in
      (λ i. record { rule = rules_are i; at = places i; term = terms i } ∷ rest i)

  cert_once : (spec : Spec) (c d : Certificate) → spec.signature ≡ s → IsWithin spec c → IsWithin spec d → words_of_all s c ≡ words_of_all s d → c ≡ d
  cert_once spec (certificate.Unreachable i p A h) (certificate.Unreachable j q B k) is v w e =
      let over_A : list_all is_right A.trans ≡ true = subst (λ (x : List Symbol). list_all (λ t. is_symbol x t.sym (length t.args)) A.trans ≡ true) is v.over in
      let over_B : list_all is_right B.trans ≡ true = subst (λ (x : List Symbol). list_all (λ t. is_symbol x t.sym (length t.args)) B.trans ≡ true) is w.over in
      let rounds = number_once i j (ap (λ ls. at_2 (front (later (later ls)))) e) in
      let all = noted_once p q A B h k over_A over_B (ap (λ ls. later (later (later ls))) e) in
      (λ z. certificate.Unreachable (rounds z) (all.0 z) (all.1 z) (all.2 z))
  cert_once spec (certificate.Unreachable i p A h) (certificate.Reachable d) is v w e = absurd (eqb-false 117 114 refl (ap (λ ls. second_tag (front (later ls))) e))
  cert_once spec (certificate.Reachable d) (certificate.Unreachable i p A h) is v w e = absurd (eqb-false 114 117 refl (ap (λ ls. second_tag (front (later ls))) e))
  cert_once spec (certificate.Reachable d) (certificate.Reachable f) is v w e =
      let start_d = subst (λ (x : List Symbol). IsCertTerm x d.start) is v.start in
      let start_f = subst (λ (x : List Symbol). IsCertTerm x f.start) is w.start in
      let steps_d = subst (λ (x : List Symbol). All (IsCertStep x) d.steps) is v.steps in
      let steps_f = subst (λ (x : List Symbol). All (IsCertStep x) f.steps) is w.steps in
      let starts = differ s valid d.start f.start start_d.over start_f.over (ap (λ ls. at_1 (front (later (later ls)))) e) in
      let steps = steps_once d.steps f.steps (recursion_from_All (IsCertStep s) d.steps steps_d) (recursion_from_All (IsCertStep s) f.steps steps_f) (ap (λ ls. later (later (later ls))) e) in
      (λ z. certificate.Reachable (record { start = starts z; steps = steps z }))

pub one_certificate : TextsDiffer → OneCertificate
one_certificate differ spec bytes c d valid a b =
    let s = spec.signature in
    cert_once differ s valid spec c d refl a.within b.within
    (lines_once (certificate_lines s c) (certificate_lines s d) (all_formed differ s valid spec c refl a.within) (all_formed differ s valid spec d refl b.within) (sym a.told ∙ b.told))
