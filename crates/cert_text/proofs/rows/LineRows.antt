-- A line is taken, or refused.
use Rattle.std.proofs.Common.{◌≡◌, ℕ, ◌+◌, ◌≤◌, ◌<◌, ◌==◌, Bool, true, false, length, List, [], ◌∷◌, ◌++◌, map, Option, Some, None, refl, sym, ap, subst, ◌∙◌, arith}
use Rattle.std.specs.Prelude.{All, Contains, codes, if◌then◌else◌}
use Rattle.std.specs.List.{join_with_byte}
use Rattle.std.specs.Ordering.{nat_cmp}
use Rattle.std.specs.List.Sorted.{IsStrictlySortedBy}
use Rattle.std.proofs.lemmas.Bool.{eqb-true, eqb-false}
use Rattle.std.proofs.lemmas.List.{append-nil, append_assoc, length-map}
use Rattle.std.proofs.lemmas.List.Elements.{All-head, All-tail, All-map, All-weaker, All-contains, All-from_recursion}
use Rattle.ta_core.specs.declared.spec.Spec.{Spec}
use Rattle.cert_text.specs.declared.certificate.CertKind.{CertKind}
use Rattle.cert_text.specs.declared.certificate.CertFault.{CertFault}
use Rattle.cert_text.specs.declared.certificate.CertKind.TheVariants as kind
use Rattle.ranked_terms.specs.Texts.{Text, number_word}
use Rattle.cert_text.specs.Cuts.{Lacks, saturated, AppendsBehind, IsNumberBehind}
use Rattle.cert_text.specs.Lines as line
use Rattle.cert_text.specs.Lines.{Line, words_of, IsFormed, Follows, first, claims, derives, after_unreachable, after_next, after_states, noted as is_noted, after_rounds, after_precise, after_finals, eps_eps, eps_end}
use Rattle.cert_text.specs.Certificates.{undecided_words}
use Rattle.cert_text.specs.Faults.{Known, Begins, LineIs, ended, unended, RowFits, head, no_claim, no_form, field, IsRight, count, state, order, ComesAfter}
use Rattle.cert_text.specs.Taking.{IsFirstLine, Taken, Refused, verdict, LacksNumberLine, endless, unlike}
use Rattle.cert_text.proofs.fields.Texts.{front_once, joined_lacks}
use Rattle.cert_text.proofs.fields.Applied.{never, lacks}
use Rattle.cert_text.proofs.fields.Behind.{cancel}
use Rattle.cert_text.proofs.fields.Numbers.{number_once}
use Rattle.cert_text.proofs.format.Formed.{newline_free_line}

abbrev pub text_of_line : Line → Text
text_of_line l = join_with_byte 32 (words_of l)

-- which rows may fit, by the line before
abbrev pub place : Option Line → ℕ
place None = 0
place (Some line.head) = 1
place (Some line.end) = 2
place (Some l) = 3

pub taken : (spec : Spec) (k : Known) (bytes text rest : Text) (l : Line) → bytes ≡ text ++ 10 ∷ rest → text ≡ text_of_line l → Follows k.before l → IsFormed l → IsRight spec k l → Taken spec k bytes l rest
taken spec k bytes text rest l told is follows formed right = record {
  begins = record { follows = follows; formed = formed; told = told ∙ ap (λ x. x ++ 10 ∷ rest) is ∙ sym (append_assoc (text_of_line l) (10 ∷ []) rest) };
  right = right;
}

-- what the bytes of a line begin with
pub begun : (k : Known) (bytes text rest r : Text) (l : Line) → bytes ≡ text ++ 10 ∷ rest → Lacks 10 text → Begins k bytes l r → text ≡ text_of_line l
begun k bytes text rest r l told lacks b =
    (front_once 10 text (text_of_line l) rest r lacks (newline_free_line l b.formed) (sym told ∙ b.told ∙ append_assoc (text_of_line l) (10 ∷ []) r)).front

pub nothing_begins : (k : Known) (bytes r : Text) (l : Line) → Lacks 10 bytes → Begins k bytes l r → ⊥
nothing_begins k bytes r l lacks b = never 10 bytes (text_of_line l) r lacks (newline_free_line l b.formed) (b.told ∙ append_assoc (text_of_line l) (10 ∷ []) r)

-- ---- a line without a form

no_row : (spec : Spec) (k : Known) (bytes : Text) → place k.before ≡ 3 → ((l : Line) (r : Text) → Begins k bytes l r → ⊥) → RowFits spec k bytes kind.Line
no_row spec k bytes at nothing_is =
    no_form (λ bad. eqb-false 0 3 refl (sym (ap place bad.0) ∙ at)) (λ bad. eqb-false 1 3 refl (sym (ap place bad.0) ∙ at)) ((λ bad. eqb-false 2 3 refl (sym (ap place bad.0) ∙ at)), nothing_is)

pub unended_row : (spec : Spec) (k : Known) (bytes : Text) → place k.before ≡ 3 → Lacks 10 bytes → RowFits spec k bytes kind.Line
unended_row spec k bytes at lacks = no_row spec k bytes at (λ l r b. nothing_begins k bytes r l lacks b)

pub line_row : (spec : Spec) (k : Known) (bytes text rest : Text) → place k.before ≡ 3 → bytes ≡ text ++ 10 ∷ rest → Lacks 10 text
    → ((l : Line) → Follows k.before l → IsFormed l → text ≡ text_of_line l → ⊥) → RowFits spec k bytes kind.Line
line_row spec k bytes text rest at told lacks never = no_row spec k bytes at (λ l r b. never l b.follows b.formed (begun k bytes text rest r l told lacks b))

pub refused : (spec : Spec) (k : Known) (bytes : Text) (number : ℕ) (kd : CertKind) (f : CertFault) → record { kind = kd; line = number } ≡ f → RowFits spec k bytes kd → Refused spec k bytes number f
refused spec k bytes number kd f same row = record { number_is = sym (ap (λ (x : CertFault). x.line) same); row = subst (RowFits spec k bytes) (ap (λ (x : CertFault). x.kind) same) row }

-- ---- the head and the verdict

other_line : (want bytes text rest : Text) (is_ended : Bool) → Lacks 10 want → IsFirstLine bytes text rest is_ended → (text ≡ want → ⊥) → LineIs want bytes → ⊥
other_line want bytes text rest is_ended free one other is = go bytes is_ended one.told is
  where
    go : (bs : Text) (e : Bool) → bs ≡ text ++ (if e then 10 ∷ rest else []) → LineIs want bs → ⊥
    go bs true told (ended r) = other (sym (front_once 10 want text r rest free one.lacks told).front)
    go bs false told (ended r) = never 10 text want r one.lacks free (sym (told ∙ append-nil text))
    go bs true told unended = never 10 want text rest free one.lacks told
    go bs false told unended = other (sym (told ∙ append-nil text))

this_line : (bytes text rest : Text) (is_ended : Bool) → IsFirstLine bytes text rest is_ended → LineIs text bytes
this_line bytes text rest is_ended one = go is_ended one.told
  where
    go : (e : Bool) → bytes ≡ text ++ (if e then 10 ∷ rest else []) → LineIs text bytes
    go true told = subst (LineIs text) (sym told) (ended rest)
    go false told = subst (LineIs text) (sym (told ∙ append-nil text)) unended

unended_lacks : (bytes text rest : Text) → IsFirstLine bytes text rest false → Lacks 10 bytes
unended_lacks bytes text rest one = subst (Lacks 10) (sym (one.told ∙ append-nil text)) one.lacks

pub head_row : (spec : Spec) (k : Known) (bytes text rest : Text) (is_ended : Bool) → k.before ≡ None → IsFirstLine bytes text rest is_ended → (text ≡ text_of_line line.head → ⊥) → RowFits spec k bytes kind.Head
head_row spec k bytes text rest is_ended at one other = head (at, other_line (text_of_line line.head) bytes text rest is_ended (newline_free_line line.head tt) one other)

pub head_unended : (spec : Spec) (k : Known) (bytes text rest : Text) → k.before ≡ None → IsFirstLine bytes text rest false → text ≡ text_of_line line.head → RowFits spec k bytes kind.Line
head_unended spec k bytes text rest at one is =
    no_form (λ bad. bad.1 (subst (λ (t : Text). LineIs t bytes) is (this_line bytes text rest false one))) (λ bad. eqb-false 1 0 refl (sym (ap place bad.0) ∙ ap place at))
    ((λ bad. eqb-false 2 0 refl (sym (ap place bad.0) ∙ ap place at)), λ l r b. nothing_begins k bytes r l (unended_lacks bytes text rest one) b)

pub head_taken : (spec : Spec) (k : Known) (bytes text rest : Text) → k.before ≡ None → IsFirstLine bytes text rest true → text ≡ text_of_line line.head → Taken spec k bytes line.head rest
head_taken spec k bytes text rest at one is =
    taken spec k bytes text rest line.head one.told is (subst (λ (o : Option Line). Follows o line.head) (sym at) first) tt (record { symbols = tt; count = tt; states = tt; order = (tt, subst (λ (o : Option Line). ComesAfter spec.signature o line.head) (sym at) tt) })

abbrev undecided : Text
undecided = join_with_byte 32 undecided_words

undecided_free : Lacks 10 undecided
undecided_free = joined_lacks 10 32 undecided_words refl (All-from_recursion (Lacks 10) undecided_words (lacks 10 (codes "Verdict") refl refl, (lacks 10 (codes "undecided") refl refl, tt)))

pub claim_row : (spec : Spec) (k : Known) (bytes text rest : Text) (is_ended : Bool) → k.before ≡ Some line.head → IsFirstLine bytes text rest is_ended → text ≡ undecided → RowFits spec k bytes kind.NoClaim
claim_row spec k bytes text rest is_ended at one is = no_claim (at, subst (λ (t : Text). LineIs t bytes) is (this_line bytes text rest is_ended one))

verdict_no : (spec : Spec) (k : Known) (bytes text rest : Text) (is_ended : Bool) → k.before ≡ Some line.head → IsFirstLine bytes text rest is_ended → (text ≡ undecided → ⊥) → ((l : Line) (r : Text) → Begins k bytes l r → ⊥) → RowFits spec k bytes kind.Line
verdict_no spec k bytes text rest is_ended at one other nothing_is =
    no_form (λ bad. eqb-false 0 1 refl (sym (ap place bad.0) ∙ ap place at)) (λ bad. other_line undecided bytes text rest is_ended undecided_free one other bad.1)
    ((λ bad. eqb-false 2 1 refl (sym (ap place bad.0) ∙ ap place at)), nothing_is)

pub verdict_unended : (spec : Spec) (k : Known) (bytes text rest : Text) → k.before ≡ Some line.head → IsFirstLine bytes text rest false → (text ≡ undecided → ⊥) → RowFits spec k bytes kind.Line
verdict_unended spec k bytes text rest at one other = verdict_no spec k bytes text rest false at one other (λ l r b. nothing_begins k bytes r l (unended_lacks bytes text rest one) b)

pub verdict_row : (spec : Spec) (k : Known) (bytes text rest : Text) → k.before ≡ Some line.head → IsFirstLine bytes text rest true → (text ≡ undecided → ⊥) → (text ≡ text_of_line line.unreachable → ⊥) → (text ≡ text_of_line line.reachable → ⊥) → RowFits spec k bytes kind.Line
verdict_row spec k bytes text rest at one other not_un not_re =
    verdict_no spec k bytes text rest true at one other (λ l r b. go l (subst (λ (o : Option Line). Follows o l) at b.follows) (begun k bytes text rest r l one.told one.lacks b))
  where
    go : (m : Line) → Follows (Some line.head) m → text ≡ text_of_line m → ⊥
    go m claims e = not_un e
    go m derives e = not_re e

pub verdict_taken : (spec : Spec) (k : Known) (bytes text rest : Text) (reaches : Bool) → k.before ≡ Some line.head → IsFirstLine bytes text rest true → text ≡ text_of_line (verdict reaches) → Taken spec k bytes (verdict reaches) rest
verdict_taken spec k bytes text rest true at one is =
    taken spec k bytes text rest line.reachable one.told is (subst (λ (o : Option Line). Follows o line.reachable) (sym at) derives) tt (record { symbols = tt; count = tt; states = tt; order = (tt, subst (λ (o : Option Line). ComesAfter spec.signature o line.reachable) (sym at) tt) })
verdict_taken spec k bytes text rest false at one is =
    taken spec k bytes text rest line.unreachable one.told is (subst (λ (o : Option Line). Follows o line.unreachable) (sym at) claims) tt (record { symbols = tt; count = tt; states = tt; order = (tt, subst (λ (o : Option Line). ComesAfter spec.signature o line.unreachable) (sym at) tt) })

-- ---- the rounds

rounds_only : (text : Text) (l : Line) → Follows (Some line.unreachable) l → IsFormed l → text ≡ text_of_line l → ((i : ℕ) → i ≤ 1000 → text ≡ codes "Note rounds " ++ number_word i → ⊥) → ⊥
rounds_only text l (after_unreachable {i = i}) small e never = never i small e

pub rounds_row : (spec : Spec) (k : Known) (bytes text rest : Text) → k.before ≡ Some line.unreachable → bytes ≡ text ++ 10 ∷ rest → Lacks 10 text → ((i : ℕ) → i ≤ 1000 → text ≡ codes "Note rounds " ++ number_word i → ⊥) → RowFits spec k bytes kind.Line
rounds_row spec k bytes text rest at told free never =
    line_row spec k bytes text rest (ap place at) told free (λ l follows formed e. rounds_only text l (subst (λ (o : Option Line). Follows o l) at follows) formed e never)

pub rounds_taken : (spec : Spec) (k : Known) (bytes text rest : Text) (i : ℕ) → k.before ≡ Some line.unreachable → bytes ≡ text ++ 10 ∷ rest → i ≤ 1000 → text ≡ codes "Note rounds " ++ number_word i → Taken spec k bytes (line.rounds i) rest
rounds_taken spec k bytes text rest i at told small is =
    taken spec k bytes text rest (line.rounds i) told is (subst (λ (o : Option Line). Follows o (line.rounds i)) (sym at) after_unreachable) small (record { symbols = tt; count = tt; states = tt; order = (tt, subst (λ (o : Option Line). ComesAfter spec.signature o (line.rounds i)) (sym at) tt) })

-- ---- the states

saturated_below : (n : ℕ) (ns : List ℕ) → All (λ q. q < n) ns → All (λ q. q < n) (map saturated ns)
saturated_below n ns h = All-map (λ q. q < n) saturated ns (All-weaker (λ q. q < n) (λ q. saturated q < n) (λ q small. omega (arith, small)) ns h)

unsaturated : (n : ℕ) (ns : List ℕ) → n ≤ 16384 → All (λ q. q < n) (map saturated ns) → map saturated ns ≡ ns
unsaturated n [] few h = refl
unsaturated n (q ∷ qs) few h =
    let small : saturated q < n = All-head (λ q. q < n) (saturated q) (map saturated qs) h in
    let one : saturated q ≡ q = omega (arith, small, few) in
    ap (λ x. x ∷ map saturated qs) one ∙ ap (λ xs. q ∷ xs) (unsaturated n qs few (All-tail (λ q. q < n) (saturated q) (map saturated qs) h))

states_only : (text : Text) (n : ℕ) (l : Line) → Follows (Some (line.next n)) l → text ≡ text_of_line l → ((qs : List ℕ) → text ≡ text_of_line (line.states qs) → ⊥) → ⊥
states_only text n l (after_next {qs = qs}) e never = never qs e

pub states_row : (spec : Spec) (k : Known) (n : ℕ) (bytes : Text) → k.before ≡ Some (line.next n) → LacksNumberLine (codes "States") bytes → RowFits spec k bytes kind.Line
states_row spec k n bytes at (endless lacks) = unended_row spec k bytes (ap place at) lacks
states_row spec k n bytes at (unlike text rest told free never) =
    line_row spec k bytes text rest (ap place at) told free (λ l follows formed e. states_only text n l (subst (λ (o : Option Line). Follows o l) at follows) e never)

states_begin : (k : Known) (n : ℕ) (bytes text rest : Text) (qs : List ℕ) → k.before ≡ Some (line.next n) → bytes ≡ text ++ 10 ∷ rest → text ≡ text_of_line (line.states qs) → Begins k bytes (line.states qs) rest
states_begin k n bytes text rest qs at told is = record { follows = subst (λ (o : Option Line). Follows o (line.states qs)) (sym at) after_next; formed = tt; told = told ∙ ap (λ x. x ++ 10 ∷ rest) is ∙ sym (append_assoc (text_of_line (line.states qs)) (10 ∷ []) rest) }

pub states_state : (spec : Spec) (k : Known) (n : ℕ) (bytes text rest : Text) (new : List ℕ) → k.before ≡ Some (line.next n) → k.next ≡ n → bytes ≡ text ++ 10 ∷ rest → AppendsBehind (codes "States") text [] new → (All (λ q. q < n) new → ⊥) → RowFits spec k bytes kind.State
states_state spec k n bytes text rest new at next told it bad =
    field (states_begin k n bytes text rest it.numbers at told it.told)
    (state tt tt (λ h. bad (subst (All (λ q. q < n)) (sym it.appended) (saturated_below n it.numbers (subst (λ (m : ℕ). All (λ q. q < m) it.numbers) next h)))))

pub states_order : (spec : Spec) (k : Known) (n : ℕ) (bytes text rest : Text) (new : List ℕ) → n ≤ 16384 → k.before ≡ Some (line.next n) → k.next ≡ n → bytes ≡ text ++ 10 ∷ rest → AppendsBehind (codes "States") text [] new → All (λ q. q < n) new → (IsStrictlySortedBy nat_cmp new → ⊥) → RowFits spec k bytes kind.Order
states_order spec k n bytes text rest new few at next told it small bad =
    let are : new ≡ it.numbers = it.appended ∙ unsaturated n it.numbers few (subst (All (λ q. q < n)) it.appended small) in
    field (states_begin k n bytes text rest it.numbers at told it.told)
    (order tt tt (subst (λ (m : ℕ). All (λ q. q < m) it.numbers) (sym next) (subst (All (λ q. q < n)) are small)) (λ h. bad (subst (IsStrictlySortedBy nat_cmp) (sym are) h.0)))

pub states_taken : (spec : Spec) (k : Known) (n : ℕ) (bytes text rest : Text) (new : List ℕ) → n ≤ 16384 → k.before ≡ Some (line.next n) → k.next ≡ n → bytes ≡ text ++ 10 ∷ rest → AppendsBehind (codes "States") text [] new → All (λ q. q < n) new → IsStrictlySortedBy nat_cmp new → Taken spec k bytes (line.states new) rest
states_taken spec k n bytes text rest new few at next told it small sorted =
    let are : it.numbers ≡ new = sym (it.appended ∙ unsaturated n it.numbers few (subst (All (λ q. q < n)) it.appended small)) in
    record {
      begins = states_begin k n bytes text rest new at told (it.told ∙ ap (λ qs. text_of_line (line.states qs)) are);
      right = record { symbols = tt; count = tt; states = subst (λ (m : ℕ). All (λ q. q < m) new) (sym next) small; order = (sorted, subst (λ (o : Option Line). ComesAfter spec.signature o (line.states new)) (sym at) tt) };
    }

-- ---- a bounded number

pub too_large : (front text : Text) (number most n : ℕ) → IsNumberBehind front text number → most < number → most ≤ 16384 → n ≤ most → text ≡ front ++ number_word n → ⊥
too_large front text number most n it above few small is =
    let same : it.number ≡ n = number_once it.number n (cancel front (number_word it.number) (number_word n) (sym it.told ∙ is)) in
    let value = it.value in omega (arith, same, value, above, small, few)

-- ---- behind the rounds

noted_only : (text : Text) (i : ℕ) (l : Line) → Follows (Some (line.rounds i)) l → IsFormed l → text ≡ text_of_line l → (text ≡ text_of_line line.precise → ⊥) → ((n : ℕ) → n ≤ 16384 → text ≡ codes "Next " ++ number_word n → ⊥) → ⊥
noted_only text i l is_noted small e never other = never e
noted_only text i l (after_rounds {n = n}) small e never other = other n small e

pub noted_row : (spec : Spec) (k : Known) (i : ℕ) (bytes text rest : Text) → k.before ≡ Some (line.rounds i) → bytes ≡ text ++ 10 ∷ rest → Lacks 10 text → (text ≡ text_of_line line.precise → ⊥) → ((n : ℕ) → n ≤ 16384 → text ≡ codes "Next " ++ number_word n → ⊥) → RowFits spec k bytes kind.Line
noted_row spec k i bytes text rest at told free never other =
    line_row spec k bytes text rest (ap place at) told free (λ l follows formed e. noted_only text i l (subst (λ (o : Option Line). Follows o l) at follows) formed e never other)

pub precise_taken : (spec : Spec) (k : Known) (i : ℕ) (bytes text rest : Text) → k.before ≡ Some (line.rounds i) → bytes ≡ text ++ 10 ∷ rest → text ≡ text_of_line line.precise → Taken spec k bytes line.precise rest
precise_taken spec k i bytes text rest at told is =
    taken spec k bytes text rest line.precise told is (subst (λ (o : Option Line). Follows o line.precise) (sym at) is_noted) tt (record { symbols = tt; count = tt; states = tt; order = (tt, subst (λ (o : Option Line). ComesAfter spec.signature o line.precise) (sym at) tt) })

pub next_taken : (spec : Spec) (k : Known) (i : ℕ) (bytes text rest : Text) (n : ℕ) → k.before ≡ Some (line.rounds i) → bytes ≡ text ++ 10 ∷ rest → n ≤ 16384 → text ≡ codes "Next " ++ number_word n → Taken spec k bytes (line.next n) rest
next_taken spec k i bytes text rest n at told small is =
    taken spec k bytes text rest (line.next n) told is (subst (λ (o : Option Line). Follows o (line.next n)) (sym at) after_rounds) small (record { symbols = tt; count = tt; states = tt; order = (tt, subst (λ (o : Option Line). ComesAfter spec.signature o (line.next n)) (sym at) tt) })

-- ---- lists of listed states

pub same_listed : (states ns : List ℕ) → All (λ q. q < 16384) states → All (Contains states) (map saturated ns) → map saturated ns ≡ ns
same_listed states ns small h = unsaturated 16384 ns (omega arith) (All-weaker (Contains states) (λ q. q < 16384) (λ q in_it. All-contains (λ q. q < 16384) states q small in_it) (map saturated ns) h)

pub listed_same : (states ns : List ℕ) → All (λ q. q < 16384) states → All (Contains states) ns → map saturated ns ≡ ns
listed_same states ns small h = unsaturated 16384 ns (omega arith) (saturated_below 16384 ns (All-weaker (Contains states) (λ q. q < 16384) (λ q in_it. All-contains (λ q. q < 16384) states q small in_it) ns h))

finals_only : (text : Text) (ps : List ℕ) (l : Line) → Follows (Some (line.states ps)) l → text ≡ text_of_line l → ((qs : List ℕ) → text ≡ text_of_line (line.finals qs) → ⊥) → ⊥
finals_only text ps l (after_states {qs = qs}) e never = never qs e

pub finals_row : (spec : Spec) (k : Known) (ps : List ℕ) (bytes : Text) → k.before ≡ Some (line.states ps) → LacksNumberLine (codes "Finals") bytes → RowFits spec k bytes kind.Line
finals_row spec k ps bytes at (endless lacks) = unended_row spec k bytes (ap place at) lacks
finals_row spec k ps bytes at (unlike text rest told free never) =
    line_row spec k bytes text rest (ap place at) told free (λ l follows formed e. finals_only text ps l (subst (λ (o : Option Line). Follows o l) at follows) e never)

finals_begin : (k : Known) (ps : List ℕ) (bytes text rest : Text) (qs : List ℕ) → k.before ≡ Some (line.states ps) → bytes ≡ text ++ 10 ∷ rest → text ≡ text_of_line (line.finals qs) → Begins k bytes (line.finals qs) rest
finals_begin k ps bytes text rest qs at told is = record { follows = subst (λ (o : Option Line). Follows o (line.finals qs)) (sym at) after_states; formed = tt; told = told ∙ ap (λ x. x ++ 10 ∷ rest) is ∙ sym (append_assoc (text_of_line (line.finals qs)) (10 ∷ []) rest) }

pub finals_state : (spec : Spec) (k : Known) (ps : List ℕ) (bytes text rest : Text) (new : List ℕ) → All (λ q. q < 16384) ps → k.before ≡ Some (line.states ps) → k.states ≡ ps → bytes ≡ text ++ 10 ∷ rest → AppendsBehind (codes "Finals") text [] new → (All (Contains ps) new → ⊥) → RowFits spec k bytes kind.State
finals_state spec k ps bytes text rest new small at known told it bad =
    field (finals_begin k ps bytes text rest it.numbers at told it.told)
    (state tt tt (λ h. let here = subst (λ (xs : List ℕ). All (Contains xs) it.numbers) known h in bad (subst (All (Contains ps)) (sym (it.appended ∙ listed_same ps it.numbers small here)) here)))

pub finals_order : (spec : Spec) (k : Known) (ps : List ℕ) (bytes text rest : Text) (new : List ℕ) → All (λ q. q < 16384) ps → k.before ≡ Some (line.states ps) → k.states ≡ ps → bytes ≡ text ++ 10 ∷ rest → AppendsBehind (codes "Finals") text [] new → All (Contains ps) new → (IsStrictlySortedBy nat_cmp new → ⊥) → RowFits spec k bytes kind.Order
finals_order spec k ps bytes text rest new small at known told it all bad =
    let are : new ≡ it.numbers = it.appended ∙ same_listed ps it.numbers small (subst (All (Contains ps)) it.appended all) in
    field (finals_begin k ps bytes text rest it.numbers at told it.told)
    (order tt tt (subst (λ (xs : List ℕ). All (Contains xs) it.numbers) (sym known) (subst (All (Contains ps)) are all)) (λ h. bad (subst (IsStrictlySortedBy nat_cmp) (sym are) h.0)))

pub finals_taken : (spec : Spec) (k : Known) (ps : List ℕ) (bytes text rest : Text) (new : List ℕ) → All (λ q. q < 16384) ps → k.before ≡ Some (line.states ps) → k.states ≡ ps → bytes ≡ text ++ 10 ∷ rest → AppendsBehind (codes "Finals") text [] new → All (Contains ps) new → IsStrictlySortedBy nat_cmp new → Taken spec k bytes (line.finals new) rest
finals_taken spec k ps bytes text rest new small at known told it all sorted =
    let are : it.numbers ≡ new = sym (it.appended ∙ same_listed ps it.numbers small (subst (All (Contains ps)) it.appended all)) in
    record {
      begins = finals_begin k ps bytes text rest new at told (it.told ∙ ap (λ qs. text_of_line (line.finals qs)) are);
      right = record { symbols = tt; count = tt; states = subst (λ (xs : List ℕ). All (Contains xs) new) (sym known) all; order = (sorted, subst (λ (o : Option Line). ComesAfter spec.signature o (line.finals new)) (sym at) tt) };
    }

-- ---- behind the note of precision

next_only : (text : Text) (l : Line) → Follows (Some line.precise) l → IsFormed l → text ≡ text_of_line l → ((n : ℕ) → n ≤ 16384 → text ≡ codes "Next " ++ number_word n → ⊥) → ⊥
next_only text l (after_precise {n = n}) small e never = never n small e

pub next_row : (spec : Spec) (k : Known) (bytes text rest : Text) → k.before ≡ Some line.precise → bytes ≡ text ++ 10 ∷ rest → Lacks 10 text → ((n : ℕ) → n ≤ 16384 → text ≡ codes "Next " ++ number_word n → ⊥) → RowFits spec k bytes kind.Line
next_row spec k bytes text rest at told free never =
    line_row spec k bytes text rest (ap place at) told free (λ l follows formed e. next_only text l (subst (λ (o : Option Line). Follows o l) at follows) formed e never)

pub later_next_taken : (spec : Spec) (k : Known) (bytes text rest : Text) (n : ℕ) → k.before ≡ Some line.precise → bytes ≡ text ++ 10 ∷ rest → n ≤ 16384 → text ≡ codes "Next " ++ number_word n → Taken spec k bytes (line.next n) rest
later_next_taken spec k bytes text rest n at told small is =
    taken spec k bytes text rest (line.next n) told is (subst (λ (o : Option Line). Follows o (line.next n)) (sym at) after_precise) small (record { symbols = tt; count = tt; states = tt; order = (tt, subst (λ (o : Option Line). ComesAfter spec.signature o (line.next n)) (sym at) tt) })

-- ---- what holds below a number and at it

pub up_to : (P : ℕ → Type 0) (n : ℕ) → ((k : ℕ) → k < n → P k) → P n → (k : ℕ) → k < n + 1 → P k
up_to P n before last k lt = go (k == n) refl
  where
    go : (b : Bool) → (k == n) ≡ b → P k
    go true e = subst P (sym (eqb-true k n e)) last
    go false e = let other = eqb-false k n e in before k (omega (arith, lt, other))

-- ---- the map

maps_only : (text : Text) (fs : List ℕ) (l : Line) → Follows (Some (line.finals fs)) l → text ≡ text_of_line l → ((qs : List ℕ) → text ≡ text_of_line (line.maps qs) → ⊥) → ⊥
maps_only text fs l (after_finals {qs = qs}) e never = never qs e

pub maps_row : (spec : Spec) (k : Known) (fs : List ℕ) (bytes : Text) → k.before ≡ Some (line.finals fs) → LacksNumberLine (codes "Map") bytes → RowFits spec k bytes kind.Line
maps_row spec k fs bytes at (endless lacks) = unended_row spec k bytes (ap place at) lacks
maps_row spec k fs bytes at (unlike text rest told free never) =
    line_row spec k bytes text rest (ap place at) told free (λ l follows formed e. maps_only text fs l (subst (λ (o : Option Line). Follows o l) at follows) e never)

maps_begin : (k : Known) (fs : List ℕ) (bytes text rest : Text) (qs : List ℕ) → k.before ≡ Some (line.finals fs) → bytes ≡ text ++ 10 ∷ rest → text ≡ text_of_line (line.maps qs) → Begins k bytes (line.maps qs) rest
maps_begin k fs bytes text rest qs at told is = record { follows = subst (λ (o : Option Line). Follows o (line.maps qs)) (sym at) after_finals; formed = tt; told = told ∙ ap (λ x. x ++ 10 ∷ rest) is ∙ sym (append_assoc (text_of_line (line.maps qs)) (10 ∷ []) rest) }

same_length : (text : Text) (new : List ℕ) (it : AppendsBehind (codes "Map") text [] new) → length new ≡ length it.numbers
same_length text new it = ap length it.appended ∙ length-map it.numbers saturated

pub maps_count : (spec : Spec) (k : Known) (fs : List ℕ) (bytes text rest : Text) (new : List ℕ) → k.before ≡ Some (line.finals fs) → bytes ≡ text ++ 10 ∷ rest → AppendsBehind (codes "Map") text [] new → (length new ≡ length spec.initial.states → ⊥) → RowFits spec k bytes kind.Count
maps_count spec k fs bytes text rest new at told it bad = field (maps_begin k fs bytes text rest it.numbers at told it.told) (count tt (λ h. bad (same_length text new it ∙ h)))

pub maps_state : (spec : Spec) (k : Known) (fs ps : List ℕ) (bytes text rest : Text) (new : List ℕ) → All (λ q. q < 16384) ps → k.before ≡ Some (line.finals fs) → k.states ≡ ps → bytes ≡ text ++ 10 ∷ rest → AppendsBehind (codes "Map") text [] new → length new ≡ length spec.initial.states → (All (Contains ps) new → ⊥) → RowFits spec k bytes kind.State
maps_state spec k fs ps bytes text rest new small at known told it many bad =
    field (maps_begin k fs bytes text rest it.numbers at told it.told)
    (state tt (sym (same_length text new it) ∙ many) (λ h. let here = subst (λ (xs : List ℕ). All (Contains xs) it.numbers) known h in bad (subst (All (Contains ps)) (sym (it.appended ∙ listed_same ps it.numbers small here)) here)))

pub maps_taken : (spec : Spec) (k : Known) (fs ps : List ℕ) (bytes text rest : Text) (new : List ℕ) → All (λ q. q < 16384) ps → k.before ≡ Some (line.finals fs) → k.states ≡ ps → bytes ≡ text ++ 10 ∷ rest → AppendsBehind (codes "Map") text [] new → length new ≡ length spec.initial.states → All (Contains ps) new → Taken spec k bytes (line.maps new) rest
maps_taken spec k fs ps bytes text rest new small at known told it many all =
    let are : it.numbers ≡ new = sym (it.appended ∙ same_listed ps it.numbers small (subst (All (Contains ps)) it.appended all)) in
    record {
      begins = maps_begin k fs bytes text rest new at told (it.told ∙ ap (λ qs. text_of_line (line.maps qs)) are);
      right = record { symbols = tt; count = many; states = subst (λ (xs : List ℕ). All (Contains xs) new) (sym known) all; order = (tt, subst (λ (o : Option Line). ComesAfter spec.signature o (line.maps new)) (sym at) tt) };
    }
