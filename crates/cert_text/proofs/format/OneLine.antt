-- After a line, two lines of the same words are one line.
use Rattle.std.proofs.Common.{◌≡◌, ℕ, ◌+◌, ◌*◌, List, [], ◌∷◌, Option, refl, ap, ap₂, ◌∙◌}
use Rattle.std.specs.Prelude.{slice_index}
use Rattle.std.proofs.lemmas.Bool.{eqb-false}
use Rattle.ranked_terms.specs.Texts.{Text}
use Rattle.cert_text.specs.Words.{Words}
use Rattle.cert_text.specs.Lines as line
use Rattle.cert_text.specs.Lines.{Line, words_of, IsFormed, Follows, first, claims, derives, after_unreachable, noted, after_rounds, after_precise, after_next, after_states, after_finals, map_trans, map_eps, map_end, trans_trans, trans_eps, trans_end, eps_eps, eps_end, after_reachable, start_step, start_end, step_step, step_end}
use Rattle.cert_text.specs.Laws.{WordsOnce}
use Rattle.cert_text.proofs.fields.Numbers.{number_once, numbers_once}

abbrev pub at_0 : Words → Text
at_0 [] = []
at_0 (w ∷ ws) = w

abbrev pub at_1 : Words → Text
at_1 [] = []
at_1 (w ∷ ws) = at_0 ws

abbrev pub at_2 : Words → Text
at_2 [] = []
at_2 (w ∷ ws) = at_1 ws

abbrev pub at_3 : Words → Text
at_3 [] = []
at_3 (w ∷ ws) = at_2 ws

abbrev pub behind_0 : Words → Words
behind_0 [] = []
behind_0 (w ∷ ws) = ws

-- what tells the first words from each other, and the second of the two verdicts
abbrev pub tag : Words → ℕ
tag words = slice_index (at_0 words) 0 + 1000 * slice_index (at_0 words) 1

abbrev pub second_tag : Words → ℕ
second_tag words = slice_index (at_1 words) 0

module _ (once : WordsOnce) where
  trans_once : (f g : Text) (ps qs : List ℕ) (p q : ℕ) → IsFormed (line.trans f ps p) → IsFormed (line.trans g qs q) → words_of (line.trans f ps p) ≡ words_of (line.trans g qs q) → line.trans f ps p ≡ line.trans g qs q
  trans_once f g ps qs p q x y e =
      let both = once.applied f g ps qs x y (ap at_1 e) in
      ap₂ (λ h rs. line.trans h rs p) both.0 both.1 ∙ ap (line.trans g qs) (number_once p q (ap at_3 e))

  eps_once : (m n p q : ℕ) → words_of (line.eps m n) ≡ words_of (line.eps p q) → line.eps m n ≡ line.eps p q
  eps_once m n p q e = ap₂ line.eps (number_once m p (ap at_1 e)) (number_once n q (ap at_3 e))

  step_once : (r n : ℕ) (at to : List ℕ) (s t : Text) → words_of (line.step r at s) ≡ words_of (line.step n to t) → line.step r at s ≡ line.step n to t
  step_once r n at to s t e = ap₂ (λ x y. line.step x y s) (number_once r n (ap at_1 e)) (once.position at to (ap at_2 e)) ∙ ap (line.step n to) (ap at_3 e)

  pub line_is_one : (k : Option Line) (l m : Line) → Follows k l → Follows k m → IsFormed l → IsFormed m → words_of l ≡ words_of m → l ≡ m
  line_is_one k l m first first x y e = refl
  line_is_one k l m claims claims x y e = refl
  line_is_one k l m claims derives x y e = absurd (eqb-false 117 114 refl (ap second_tag e))
  line_is_one k l m derives claims x y e = absurd (eqb-false 114 117 refl (ap second_tag e))
  line_is_one k l m derives derives x y e = refl
  line_is_one k l m (after_unreachable {i = i}) (after_unreachable {i = j}) x y e = ap line.rounds (number_once i j (ap at_2 e))
  line_is_one k l m noted noted x y e = refl
  line_is_one k l m noted (after_rounds {i = i} {n = n}) x y e = absurd (eqb-false 111078 101078 refl (ap tag e))
  line_is_one k l m (after_rounds {i = i} {n = n}) noted x y e = absurd (eqb-false 101078 111078 refl (ap tag e))
  line_is_one k l m (after_rounds {i = i} {n = a}) (after_rounds {i = j} {n = b}) x y e = ap line.next (number_once a b (ap at_1 e))
  line_is_one k l m (after_precise {n = a}) (after_precise {n = b}) x y e = ap line.next (number_once a b (ap at_1 e))
  line_is_one k l m (after_next {n = n} {qs = ps}) (after_next {n = o} {qs = qs}) x y e = ap line.states (numbers_once ps qs (ap behind_0 e))
  line_is_one k l m (after_states {ps = a} {qs = ps}) (after_states {ps = b} {qs = qs}) x y e = ap line.finals (numbers_once ps qs (ap behind_0 e))
  line_is_one k l m (after_finals {ps = a} {qs = ps}) (after_finals {ps = b} {qs = qs}) x y e = ap line.maps (numbers_once ps qs (ap behind_0 e))
  line_is_one k l m (map_trans {ps = a} {qs = ps} {f = f} {q = p}) (map_trans {ps = b} {qs = qs} {f = g} {q = q}) x y e = trans_once f g ps qs p q x y e
  line_is_one k l m map_trans map_eps x y e = absurd (eqb-false 84 69 refl (ap tag e))
  line_is_one k l m map_trans map_end x y e = absurd (eqb-false 84 110069 refl (ap tag e))
  line_is_one k l m map_eps map_trans x y e = absurd (eqb-false 69 84 refl (ap tag e))
  line_is_one k l m (map_eps {ps = a} {p = n} {q = o}) (map_eps {ps = b} {p = p} {q = q}) x y e = eps_once n o p q e
  line_is_one k l m map_eps map_end x y e = absurd (eqb-false 69 110069 refl (ap tag e))
  line_is_one k l m map_end map_trans x y e = absurd (eqb-false 110069 84 refl (ap tag e))
  line_is_one k l m map_end map_eps x y e = absurd (eqb-false 110069 69 refl (ap tag e))
  line_is_one k l m map_end map_end x y e = refl
  line_is_one k l m (trans_trans {f = a} {g = f} {ps = b} {qs = ps} {p = c} {q = p}) (trans_trans {f = d} {g = g} {ps = h} {qs = qs} {p = i} {q = q}) x y e = trans_once f g ps qs p q x y e
  line_is_one k l m trans_trans trans_eps x y e = absurd (eqb-false 84 69 refl (ap tag e))
  line_is_one k l m trans_trans trans_end x y e = absurd (eqb-false 84 110069 refl (ap tag e))
  line_is_one k l m trans_eps trans_trans x y e = absurd (eqb-false 69 84 refl (ap tag e))
  line_is_one k l m (trans_eps {f = f} {ps = a} {o = b} {p = n} {q = o}) (trans_eps {f = g} {ps = c} {o = d} {p = p} {q = q}) x y e = eps_once n o p q e
  line_is_one k l m trans_eps trans_end x y e = absurd (eqb-false 69 110069 refl (ap tag e))
  line_is_one k l m trans_end trans_trans x y e = absurd (eqb-false 110069 84 refl (ap tag e))
  line_is_one k l m trans_end trans_eps x y e = absurd (eqb-false 110069 69 refl (ap tag e))
  line_is_one k l m trans_end trans_end x y e = refl
  line_is_one k l m (eps_eps {n = a} {o = b} {p = n} {q = o}) (eps_eps {n = c} {o = d} {p = p} {q = q}) x y e = eps_once n o p q e
  line_is_one k l m eps_eps eps_end x y e = absurd (eqb-false 69 110069 refl (ap tag e))
  line_is_one k l m eps_end eps_eps x y e = absurd (eqb-false 110069 69 refl (ap tag e))
  line_is_one k l m eps_end eps_end x y e = refl
  line_is_one k l m (after_reachable {t = s}) (after_reachable {t = t}) x y e = ap line.start (ap at_1 e)
  line_is_one k l m (start_step {s = a} {t = s} {r = r} {at = at}) (start_step {s = b} {t = t} {r = n} {at = to}) x y e = step_once r n at to s t e
  line_is_one k l m start_step start_end x y e = absurd (eqb-false 116083 110069 refl (ap tag e))
  line_is_one k l m start_end start_step x y e = absurd (eqb-false 110069 116083 refl (ap tag e))
  line_is_one k l m start_end start_end x y e = refl
  line_is_one k l m (step_step {s = a} {t = s} {q = b} {r = r} {at = c} {to = at}) (step_step {s = d} {t = t} {q = f} {r = n} {at = g} {to = to}) x y e = step_once r n at to s t e
  line_is_one k l m step_step step_end x y e = absurd (eqb-false 116083 110069 refl (ap tag e))
  line_is_one k l m step_end step_step x y e = absurd (eqb-false 110069 116083 refl (ap tag e))
  line_is_one k l m step_end step_end x y e = refl
