-- Whole texts: what stands behind the verdict, and the end.
use Rattle.std.proofs.Common.{◌≡◌, ℕ, ◌+◌, ◌≤◌, ◌<◌, ◌==◌, Bool, true, false, true≢false, ◌&&◌, length, List, [], ◌∷◌, ◌++◌, map, Option, Some, refl, sym, ap, subst, ◌∙◌, arith, length-append}
use Rattle.std.specs.Prelude.{All, Contains}
use Rattle.std.specs.List.{AllByRecursion, list_all}
use Rattle.std.specs.Ordering.{nat_cmp}
use Rattle.std.specs.List.Sorted.{IsStrictlySortedBy}
use Rattle.std.proofs.lemmas.Bool.{eqb-false, eq-eqb}
use Rattle.std.proofs.lemmas.List.{append-nil, append_assoc, length-map}
use Rattle.std.proofs.lemmas.List.Elements.{recursion_from_All}
use Rattle.ranked_terms.specs.Names.{Symbol, arity_of}
use Rattle.ranked_terms.specs.Terms.{is_symbol, is_arity}
use Rattle.ranked_terms.specs.declared.term.Term.{Term}
use Rattle.ranked_terms.specs.Texts.{Text, term_text}
use Rattle.trs_rules.specs.declared.derivation.DStep.{DStep}
use Rattle.ta_core.specs.TreeAutomaton.{IsSound}
use Rattle.ta_core.specs.declared.trans.Trans.{Trans}
use Rattle.ta_core.specs.declared.spec.Spec.{Spec}
use Rattle.cert_text.specs.declared.certificate.Certificate.{Certificate}
use Rattle.cert_text.specs.declared.certificate.Certificate.TheVariants as certificate
use Rattle.cert_text.specs.declared.certificate.CertFault.{CertFault}
use Rattle.cert_text.specs.declared.certificate.CertKind.TheVariants as kind
use Rattle.cert_text.specs.Words.{line_text, text_of}
use Rattle.cert_text.specs.Lines as line
use Rattle.cert_text.specs.Lines.{Line, words_of, IsFormed, Follows, first, claims, derives, after_unreachable, noted, after_rounds, after_precise, after_next, after_states, after_finals, map_trans, map_eps, map_end, trans_trans, trans_eps, trans_end, eps_eps, eps_end, after_reachable, start_step, start_end, step_step, step_end}
use Rattle.cert_text.specs.Certificates.{note_lines, trans_line, automaton_lines, step_line, certificate_lines, IsCertTerm, CertificateReads}
use Rattle.cert_text.specs.Faults.{Known, nothing, learn, IsRight, RowFits, no_form, Takes, none, more, CertificateFaultAt}
use Rattle.cert_text.specs.Taking.{Taken, Refused, verdict, listed_lines, listed_known, eps_lines}
use Rattle.cert_text.specs.Entries.{IsNamed, IsBody, body_lines, IsBadBody}
use Rattle.cert_text.specs.Paths.{at_start, IsAtStep, AreStepsToEnd, IsBadStep}
use Rattle.cert_text.specs.Whole.{IsTakenBehind, IsFaultBehind}
use Rattle.cert_text.proofs.rows.LineRows.{place}
use Rattle.cert_text.proofs.whole.Composed.{one, and_then, stops, stops_later, from_the_first}

-- ---- behind the end

goes_on : (o : Option Line) (l : Line) → Follows o l → (place o == 2) ≡ false
goes_on o l first = refl
goes_on o l claims = refl
goes_on o l derives = refl
goes_on o l after_unreachable = refl
goes_on o l noted = refl
goes_on o l after_rounds = refl
goes_on o l after_precise = refl
goes_on o l after_next = refl
goes_on o l after_states = refl
goes_on o l after_finals = refl
goes_on o l map_trans = refl
goes_on o l map_eps = refl
goes_on o l map_end = refl
goes_on o l trans_trans = refl
goes_on o l trans_eps = refl
goes_on o l trans_end = refl
goes_on o l eps_eps = refl
goes_on o l eps_end = refl
goes_on o l after_reachable = refl
goes_on o l start_step = refl
goes_on o l start_end = refl
goes_on o l step_step = refl
goes_on o l step_end = refl

pub end_row : (spec : Spec) (k : Known) (bytes : Text) → k.before ≡ Some line.end → (bytes ≡ [] → ⊥) → RowFits spec k bytes kind.Line
end_row spec k bytes at some =
    no_form (λ bad. eqb-false 0 2 refl (sym (ap place bad.0) ∙ ap place at)) (λ bad. eqb-false 1 2 refl (sym (ap place bad.0) ∙ ap place at))
    ((λ over. some over.1), λ l r b. true≢false (ap (λ o. place o == 2) (sym at) ∙ goes_on k.before l b.follows))

-- ---- what the taken lines tell

abbrev AllTaken : Spec → Known → List Line → Type 0
AllTaken spec k [] = Unit {0}
AllTaken spec k (l ∷ ls) = (IsFormed l × IsRight spec k l) × AllTaken spec (learn l k) ls

all_taken : (spec : Spec) (k m : Known) (b r : Text) (ls : List Line) → Takes spec k b ls m r → AllTaken spec k ls
all_taken spec k m b r ls none = tt
all_taken spec k m b r ls (more {rest = rest} {l = l} {ls = others} begins right t) = ((begins.formed, right), all_taken spec (learn l k) m rest r others t)

pub told_by : (spec : Spec) (k m : Known) (b r : Text) (ls : List Line) → Takes spec k b ls m r → b ≡ text_of (map words_of ls) ++ r
told_by spec k m b r ls none = refl
told_by spec k m b r ls (more {rest = rest} {l = l} {ls = others} begins right t) =
    begins.told ∙ ap (λ x. line_text (words_of l) ++ x) (told_by spec (learn l k) m rest r others t) ∙ sym (append_assoc (line_text (words_of l)) (text_of (map words_of others)) r)

-- ---- a derivation

module _ (spec : Spec) (old mid new : Text) (count : ℕ) (t : Term)
    (taken : (other : Spec) (k : Known) → other.signature ≡ spec.signature → k.before ≡ Some line.reachable → Taken other k old (line.start (term_text spec.signature t)) mid) where
  abbrev s : List Symbol
  s = spec.signature

  abbrev at_steps : Known → Known
  at_steps k = record k { before = Some (line.start (term_text s t)) }

  start_taken : (k : Known) → k.before ≡ Some line.reachable → Takes spec k old (line.start (term_text s t) ∷ []) (at_steps k) mid
  start_taken k at = one spec k old mid (line.start (term_text s t)) (taken spec k refl at)

  may_step : (k : Known) → k.steps ≡ 0 → IsAtStep s 0 spec (at_steps k)
  may_step k zero_is = record { signature = refl; may = at_start (term_text s t); counted = zero_is }

  pub path_taken : (c1 c2 : ℕ) (ds all : List DStep) → all ≡ ds → IsCertTerm s t → AreStepsToEnd s mid new ds → c1 ≡ count + 1 → c2 ≡ c1 + length ds + 1
      → IsTakenBehind spec line.reachable old count new c2 (certificate.Reachable (record { start = t; steps = all }))
  path_taken c1 c2 ds all same within are one_is two_is = subst (λ (xs : List DStep). IsTakenBehind spec line.reachable old count new c2 (certificate.Reachable (record { start = t; steps = xs }))) (sym same) (record {
    lines = line.start (term_text s t) ∷ (map (step_line s) ds ++ line.end ∷ []);
    are = refl;
    after = λ k. record (at_steps k) { before = Some line.end; steps = k.steps + length ds };
    takes = λ k at zero_is. and_then spec k (at_steps k) (record (at_steps k) { before = Some line.end; steps = k.steps + length ds }) old mid new (line.start (term_text s t) ∷ []) (map (step_line s) ds ++ line.end ∷ [])
        (start_taken k at) (are.takes spec (at_steps k) (may_step k zero_is));
    ends = λ k. refl;
    number_is = (let a = length-append (map (step_line s) ds) (line.end ∷ []) in let b = length-map ds (step_line s) in omega (arith, one_is, two_is, a, b));
    within = record { start = within; few = are.few; steps = are.each };
  })

  pub bad_steps : (c1 : ℕ) (f : CertFault) → c1 ≡ count + 1 → IsBadStep s mid c1 f → IsFaultBehind spec line.reachable old count f
  bad_steps c1 f one_is bad k at zero_is = stops_later spec k (at_steps k) old mid (line.start (term_text s t) ∷ []) count c1 f (start_taken k at) (bad spec (at_steps k) (may_step k zero_is)) (omega (arith, one_is))

pub bad_start : (spec : Spec) (old : Text) (count number : ℕ) (f : CertFault) → number ≡ count + 1
    → ((other : Spec) (k : Known) → other.signature ≡ spec.signature → k.before ≡ Some line.reachable → Refused other k old number f) → IsFaultBehind spec line.reachable old count f
bad_start spec old count number f is bad k at zero_is = stops spec k k old old [] count number f none (bad spec k refl at) (omega (arith, is))

-- ---- an automaton

arity_shows : (count : ℕ) (o : Option ℕ) → o ≡ Some count → is_arity count o ≡ true
arity_shows count o e = ap (is_arity count) e ∙ eq-eqb count count refl

named_over : (s : List Symbol) (ts : List Trans) → AllByRecursion (IsNamed s) ts → list_all (λ t. is_symbol s t.sym (length t.args)) ts ≡ true
named_over s [] h = refl
named_over s (t ∷ ts) h = (λ i. arity_shows (length t.args) (arity_of s t.sym) h.0.arity i && named_over s ts h.1 i)

pub record Facts (spec : Spec) (i n : ℕ) (qs fs h : List ℕ) : Type 0 where
  pub rounds : i ≤ 1000
  pub few : n ≤ 16384
  pub below : All (λ q. q < n) qs
  pub sorted : IsStrictlySortedBy nat_cmp qs
  pub finals : All (Contains qs) fs
  pub finals_sorted : IsStrictlySortedBy nat_cmp fs
  pub each_state : length h ≡ length spec.initial.states
  pub images : All (Contains qs) h

facts_of : (spec : Spec) (k : Known) (i n : ℕ) (qs fs h : List ℕ) (p : Bool) → AllTaken spec k (listed_lines i p n qs fs ++ line.maps h ∷ []) → Facts spec i n qs fs h
facts_of spec k i n qs fs h true t = record {
  rounds = t.0.0;
  few = t.1.1.0.0;
  below = t.1.1.1.0.1.states;
  sorted = t.1.1.1.0.1.order.0;
  finals = t.1.1.1.1.0.1.states;
  finals_sorted = t.1.1.1.1.0.1.order.0;
  each_state = t.1.1.1.1.1.0.1.count;
  images = t.1.1.1.1.1.0.1.states;
}
facts_of spec k i n qs fs h false t = record {
  rounds = t.0.0;
  few = t.1.0.0;
  below = t.1.1.0.1.states;
  sorted = t.1.1.0.1.order.0;
  finals = t.1.1.1.0.1.states;
  finals_sorted = t.1.1.1.0.1.order.0;
  each_state = t.1.1.1.1.0.1.count;
  images = t.1.1.1.1.0.1.states;
}

module _ (spec : Spec) (old at_map at_body new : Text) (i : ℕ) (p : Bool) (n : ℕ) (qs fs h : List ℕ) (many : ℕ) (many_is : many ≡ length spec.initial.states)
    (listed : (other : Spec) (k : Known) → k.before ≡ Some line.unreachable → Takes other k old (listed_lines i p n qs fs) (listed_known k n qs fs) at_map) where
  abbrev sig : List Symbol
  sig = spec.signature

  pub bad_map : (count number last : ℕ) (f : CertFault) → number ≡ count + length (listed_lines i p n qs fs) → last ≡ number + 1
      → ((other : Spec) (k : Known) (gs : List ℕ) → many ≡ length other.initial.states → k.before ≡ Some (line.finals gs) → k.states ≡ qs → Refused other k at_map last f) → IsFaultBehind spec line.unreachable old count f
  bad_map count number last f is last_is bad k at zero_is =
      stops spec k (listed_known k n qs fs) old at_map (listed_lines i p n qs fs) count last f (listed spec k at) (bad spec (listed_known k n qs fs) fs many_is refl refl) (omega (arith, is, last_is))

  module _ (mapped : (other : Spec) (k : Known) (gs : List ℕ) → many ≡ length other.initial.states → k.before ≡ Some (line.finals gs) → k.states ≡ qs → Taken other k at_map (line.maps h) at_body) where
    abbrev at_entries : Known → Known
    at_entries k = record (listed_known k n qs fs) { before = Some (line.maps h) }

    front : (k : Known) → k.before ≡ Some line.unreachable → Takes spec k old (listed_lines i p n qs fs ++ line.maps h ∷ []) (at_entries k) at_body
    front k at = and_then spec k (listed_known k n qs fs) (at_entries k) old at_map at_body (listed_lines i p n qs fs) (line.maps h ∷ []) (listed spec k at)
        (one spec (listed_known k n qs fs) at_map at_body (line.maps h) (mapped spec (listed_known k n qs fs) fs many_is refl refl))

    pub facts : Facts spec i n qs fs h
    facts = let k : Known = record nothing { before = Some line.unreachable } in
        facts_of spec k i n qs fs h p (all_taken spec k (at_entries k) old at_body (listed_lines i p n qs fs ++ line.maps h ∷ []) (front k refl))

    pub bad_entries : (count number last : ℕ) (f : CertFault) → number ≡ count + length (listed_lines i p n qs fs) → last ≡ number + 1 → IsBadBody sig qs at_body last f → IsFaultBehind spec line.unreachable old count f
    bad_entries count number last f is last_is bad k at zero_is =
        stops_later spec k (at_entries k) old at_body (listed_lines i p n qs fs ++ line.maps h ∷ []) count last f (front k at) (bad spec (at_entries k) h refl refl refl)
        (let a = length-append (listed_lines i p n qs fs) (line.maps h ∷ []) in omega (arith, is, last_is, a))

    module _ (ts : List Trans) (es : List (ℕ × ℕ)) (body : IsBody sig qs at_body new ts es) where
      pub is_sound : IsSound (record { states = qs; next = n; finals = fs; trans = ts; eps = es })
      is_sound = record { below = facts.below; finals = facts.finals; trans = body.of; eps = body.eps_of }

      lines_are : (p : Bool) → (listed_lines i p n qs fs ++ line.maps h ∷ []) ++ body_lines sig ts es ≡ line.rounds i ∷ ((note_lines p ++ automaton_lines sig (record { states = qs; next = n; finals = fs; trans = ts; eps = es }) h) ++ line.end ∷ [])
      lines_are true = refl
      lines_are false = refl

      pub claim_taken : (count number last over : ℕ) → number ≡ count + length (listed_lines i p n qs fs) → last ≡ number + 1 → over ≡ last + (length ts + length es) + 1
          → IsTakenBehind spec line.unreachable old count new over (certificate.Unreachable i p (record { states = qs; next = n; finals = fs; trans = ts; eps = es }) h)
      claim_taken count number last over is last_is over_is = record {
        lines = (listed_lines i p n qs fs ++ line.maps h ∷ []) ++ body_lines sig ts es;
        are = ap (λ ls. line.head ∷ line.unreachable ∷ ls) (sym (lines_are p));
        after = λ k. record (at_entries k) { before = Some line.end };
        takes = λ k at zero_is. and_then spec k (at_entries k) (record (at_entries k) { before = Some line.end }) old at_body new (listed_lines i p n qs fs ++ line.maps h ∷ []) (body_lines sig ts es)
            (front k at) (body.takes spec (at_entries k) h refl refl refl);
        ends = λ k. refl;
        number_is = (let a = length-append (listed_lines i p n qs fs ++ line.maps h ∷ []) (body_lines sig ts es) in let b = length-append (listed_lines i p n qs fs) (line.maps h ∷ []) in
            let d = length-append (map (trans_line sig) ts ++ eps_lines es) (line.end ∷ []) in let e = length-append (map (trans_line sig) ts) (eps_lines es) in
            let g = length-map ts (trans_line sig) in let j = length-map es (λ (x : ℕ × ℕ). line.eps x.0 x.1) in omega (arith, is, last_is, over_is, a, b, d, e, g, j));
        within = record {
          rounds = facts.rounds;
          over = named_over sig ts (recursion_from_All (IsNamed sig) ts body.named);
          kept = record { sound = is_sound; few = facts.few };
          states = facts.sorted;
          finals = facts.finals_sorted;
          trans = body.sorted;
          eps = body.eps_sorted;
          each_state = facts.each_state;
          images = facts.images;
        };
      }

-- ---- whole texts

verdict_before : (reaches : Bool) (k : Known) → (learn (verdict reaches) k).before ≡ Some (verdict reaches)
verdict_before true k = refl
verdict_before false k = refl

verdict_steps : (reaches : Bool) (k : Known) → (learn (verdict reaches) k).steps ≡ k.steps
verdict_steps true k = refl
verdict_steps false k = refl

module _ (spec : Spec) (bytes rest : Text) (reaches : Bool) (count : ℕ) (two_is : count ≡ 2)
    (front : Takes spec nothing bytes (line.head ∷ verdict reaches ∷ []) (learn (verdict reaches) (learn line.head nothing)) rest) where
  abbrev behind_it : Known
  behind_it = learn (verdict reaches) (learn line.head nothing)

  at_it : behind_it.before ≡ Some (verdict reaches)
  at_it = verdict_before reaches (learn line.head nothing)

  no_step_yet : behind_it.steps ≡ 0
  no_step_yet = verdict_steps reaches (learn line.head nothing)

  pub bad_behind_verdict : (f : CertFault) → IsFaultBehind spec (verdict reaches) rest count f → CertificateFaultAt spec bytes f
  bad_behind_verdict f bad = from_the_first spec bytes f (stops_later spec nothing behind_it bytes rest (line.head ∷ verdict reaches ∷ []) 0 count f front (bad behind_it at_it no_step_yet) (omega (arith, two_is)))

  module _ (new : Text) (number : ℕ) (c : Certificate) (it : IsTakenBehind spec (verdict reaches) rest count new number c) where
    all_lines : Takes spec nothing bytes (certificate_lines spec.signature c) (it.after behind_it) new
    all_lines = subst (λ (ls : List Line). Takes spec nothing bytes ls (it.after behind_it) new) (sym it.are)
        (and_then spec nothing behind_it (it.after behind_it) bytes rest new (line.head ∷ verdict reaches ∷ []) it.lines front (it.takes behind_it at_it no_step_yet))

    pub reads_it : new ≡ [] → CertificateReads spec bytes c
    reads_it over = record {
      told = told_by spec nothing (it.after behind_it) bytes new (certificate_lines spec.signature c) all_lines ∙ ap (λ x. text_of (map words_of (certificate_lines spec.signature c)) ++ x) over ∙ append-nil (text_of (map words_of (certificate_lines spec.signature c)));
      within = it.within;
    }

    pub bad_behind_end : (f : CertFault) → ((other : Spec) (k : Known) → k.before ≡ Some line.end → Refused other k new (number + 1) f) → CertificateFaultAt spec bytes f
    bad_behind_end f bad = from_the_first spec bytes f (stops spec nothing (it.after behind_it) bytes new (certificate_lines spec.signature c) 0 (number + 1) f all_lines (bad spec (it.after behind_it) (it.ends behind_it))
        (let n = it.number_is in let long = ap length it.are in omega (arith, n, long, two_is)))
