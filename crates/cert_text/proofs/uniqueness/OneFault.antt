-- A text has one first fault at most.
use Rattle.std.proofs.Common.{◌≡◌, ℕ, ◌+◌, true≢false, length, List, [], ◌∷◌, ◌++◌, Option, Some, None, refl, sym, ap, ap₂, subst, ◌∙◌, arith}
use Rattle.std.specs.Prelude.{is_some, slice_index, codes}
use Rattle.std.specs.List.{join_with_byte}
use Rattle.std.proofs.lemmas.Bool.{eqb-false}
use Rattle.std.proofs.lemmas.List.{append_assoc}
use Rattle.std.proofs.lemmas.List.Elements.{All-from_recursion}
use Rattle.ta_core.specs.declared.spec.Spec.{Spec}
use Rattle.cert_text.specs.declared.certificate.CertKind.{CertKind}
use Rattle.ranked_terms.specs.Texts.{Text}
use Rattle.cert_text.specs.Words.{Words, line_text}
use Rattle.cert_text.specs.Lines as line
use Rattle.cert_text.specs.Lines.{Line, words_of, Follows, first, claims, derives}
use Rattle.cert_text.specs.Certificates.{undecided_words}
use Rattle.cert_text.specs.Faults.{Known, nothing, learn, IsRight, IsWrong, symbol, count, state, order, Begins, LineIs, ended, unended, IsNoHead, IsNoClaim, RowFits, head, no_claim, no_form, field, Takes, none, more}
use Rattle.cert_text.specs.Laws.{OneFault}
use Rattle.cert_text.proofs.fields.Texts.{Lacks, front_once, joined_lacks}
use Rattle.cert_text.proofs.fields.Applied.{never, lacks}
use Rattle.cert_text.proofs.format.Formed.{begins_once, newline_free_line}

joined : Words → Text
joined words = join_with_byte 32 words

abbrev text : Words → Text
text words = join_with_byte 32 words

none_first : (l : Line) → Follows None l → l ≡ line.head
none_first l first = refl

not_head : (k : Known) (bytes rest : Text) (l : Line) → IsNoHead k bytes → Begins k bytes l rest → ⊥
not_head k bytes rest l bad b =
    let is : l ≡ line.head = none_first l (subst (λ (o : Option Line). Follows o l) bad.0 b.follows) in
    let told : text (words_of line.head) ++ 10 ∷ rest ≡ bytes = sym (append_assoc (text (words_of line.head)) (10 ∷ []) rest) ∙ ap (λ m. line_text (words_of m) ++ rest) (sym is) ∙ sym b.told in
    bad.1 (subst (LineIs (text (words_of line.head))) told (ended rest))

undecided : Lacks 10 (text undecided_words)
undecided = joined_lacks 10 32 undecided_words refl (All-from_recursion (Lacks 10) undecided_words (lacks 10 (codes "Verdict") refl refl, (lacks 10 (codes "undecided") refl refl, tt)))

other_claim : (o : Option Line) (l : Line) → o ≡ Some line.head → Follows o l → text undecided_words ≡ text (words_of l) → ⊥
other_claim o l is follows e = go l (subst (λ (x : Option Line). Follows x l) is follows) e
  where
    go : (m : Line) → Follows (Some line.head) m → text undecided_words ≡ text (words_of m) → ⊥
    go m claims e = eqb-false 100 114 refl (ap (λ t. slice_index t 10) e)
    go m derives e = eqb-false 117 114 refl (ap (λ t. slice_index t 8) e)

not_claim : (k : Known) (bytes rest : Text) (l : Line) → IsNoClaim k bytes → Begins k bytes l rest → ⊥
not_claim k bytes rest l bad b = go bytes bad.1 (b.told ∙ append_assoc (text (words_of l)) (10 ∷ []) rest)
  where
    free : Lacks 10 (text (words_of l))
    free = newline_free_line l b.formed

    go : (bs : Text) → LineIs (text undecided_words) bs → bs ≡ text (words_of l) ++ 10 ∷ rest → ⊥
    go bs (ended r) e = other_claim k.before l bad.0 b.follows (front_once 10 (text undecided_words) (text (words_of l)) r rest undecided free e).front
    go bs unended e = never 10 (text undecided_words) (text (words_of l)) rest undecided free e

right_or_wrong : (spec : Spec) (k : Known) (l : Line) (c : CertKind) → IsRight spec k l → IsWrong spec k l c → ⊥
right_or_wrong spec k l c r (symbol bad) = bad r.symbols
right_or_wrong spec k l c r (count s bad) = bad r.count
right_or_wrong spec k l c r (state s n bad) = bad r.states
right_or_wrong spec k l c r (order s n q bad) = bad r.order

wrong_once : (spec : Spec) (k : Known) (l : Line) (c d : CertKind) → IsWrong spec k l c → IsWrong spec k l d → c ≡ d
wrong_once spec k l c d (symbol m) (symbol n) = refl
wrong_once spec k l c d (symbol m) (count s n) = absurd (m s)
wrong_once spec k l c d (symbol m) (state s t n) = absurd (m s)
wrong_once spec k l c d (symbol m) (order s t u n) = absurd (m s)
wrong_once spec k l c d (count s m) (symbol n) = absurd (n s)
wrong_once spec k l c d (count s m) (count t n) = refl
wrong_once spec k l c d (count s m) (state t u n) = absurd (m u)
wrong_once spec k l c d (count s m) (order t u v n) = absurd (m u)
wrong_once spec k l c d (state s t m) (symbol n) = absurd (n s)
wrong_once spec k l c d (state s t m) (count u n) = absurd (n t)
wrong_once spec k l c d (state s t m) (state u v n) = refl
wrong_once spec k l c d (state s t m) (order u v w n) = absurd (m w)
wrong_once spec k l c d (order s t u m) (symbol n) = absurd (n s)
wrong_once spec k l c d (order s t u m) (count v n) = absurd (n t)
wrong_once spec k l c d (order s t u m) (state v w n) = absurd (n u)
wrong_once spec k l c d (order s t u m) (order v w x n) = refl

pub not_right : (spec : Spec) (k : Known) (bytes rest : Text) (l : Line) (c : CertKind) → RowFits spec k bytes c → Begins k bytes l rest → IsRight spec k l → ⊥
not_right spec k bytes rest l c (head h) b r = not_head k bytes rest l h b
not_right spec k bytes rest l c (no_claim h) b r = not_claim k bytes rest l h b
not_right spec k bytes rest l c (no_form x y h) b r = h.1 l rest b
not_right spec k bytes rest l c (field {l = m} {rest = s} a w) b r =
    right_or_wrong spec k m c (subst (IsRight spec k) (begins_once k bytes l m rest s b a).0 r) w

rows_once : (spec : Spec) (k : Known) (bytes : Text) (c d : CertKind) → RowFits spec k bytes c → RowFits spec k bytes d → c ≡ d
rows_once spec k bytes c d (head g) (head h) = refl
rows_once spec k bytes c d (head g) (no_claim h) = absurd (true≢false (sym (ap is_some (sym g.0 ∙ h.0))))
rows_once spec k bytes c d (head g) (no_form x y h) = absurd (x g)
rows_once spec k bytes c d (head g) (field {l = l} {rest = r} b w) = absurd (not_head k bytes r l g b)
rows_once spec k bytes c d (no_claim g) (head h) = absurd (true≢false (sym (ap is_some (sym h.0 ∙ g.0))))
rows_once spec k bytes c d (no_claim g) (no_claim h) = refl
rows_once spec k bytes c d (no_claim g) (no_form x y h) = absurd (y g)
rows_once spec k bytes c d (no_claim g) (field {l = l} {rest = r} b w) = absurd (not_claim k bytes r l g b)
rows_once spec k bytes c d (no_form x y g) (head h) = absurd (x h)
rows_once spec k bytes c d (no_form x y g) (no_claim h) = absurd (y h)
rows_once spec k bytes c d (no_form x y g) (no_form u v h) = refl
rows_once spec k bytes c d (no_form x y g) (field {l = l} {rest = r} b w) = absurd (g.1 l r b)
rows_once spec k bytes c d (field {l = l} {rest = r} b w) (head h) = absurd (not_head k bytes r l h b)
rows_once spec k bytes c d (field {l = l} {rest = r} b w) (no_claim h) = absurd (not_claim k bytes r l h b)
rows_once spec k bytes c d (field {l = l} {rest = r} b w) (no_form x y h) = absurd (h.1 l r b)
rows_once spec k bytes c d (field {l = l} {rest = r} b w) (field {l = m} {rest = s} a v) =
    wrong_once spec k m c d (subst (λ (x : Line). IsWrong spec k x c) (begins_once k bytes l m r s b a).0 w) v

record SamePlace (m n : ℕ) (c d : CertKind) : Type 0 where
  lines : m ≡ n
  kinds : c ≡ d

places_once : (spec : Spec) (k after later : Known) (bytes rest others : Text) (ls ms : List Line) (c d : CertKind)
    → Takes spec k bytes ls after rest → Takes spec k bytes ms later others → RowFits spec after rest c → RowFits spec later others d → SamePlace (length ls) (length ms) c d
places_once spec k after later bytes rest others ls ms c d none none x y = record { lines = refl; kinds = rows_once spec k bytes c d x y }
places_once spec k after later bytes rest others ls ms c d none (more {rest = r} {l = l} b right t) x y = absurd (not_right spec k bytes r l c x b right)
places_once spec k after later bytes rest others ls ms c d (more {rest = r} {l = l} b right t) none x y = absurd (not_right spec k bytes r l d y b right)
places_once spec k after later bytes rest others ls ms c d (more {rest = r} {l = l} {ls = ls'} b right t) (more {rest = s} {l = m} {ls = ms'} a others_right u) x y =
    let same = begins_once k bytes m l s r a b in
    let moved : Takes spec (learn l k) r ms' later others =
    subst (λ (z : Text). Takes spec (learn l k) z ms' later others) same.1 (subst (λ (z : Line). Takes spec (learn z k) s ms' later others) same.0 u) in
    let place = places_once spec (learn l k) after later r rest others ls' ms' c d t moved x y in
    let longer = place.lines in record { lines = omega (arith, longer); kinds = place.kinds }

pub one_fault : OneFault
one_fault spec bytes f g a b =
    let place = places_once spec nothing a.known b.known bytes a.rest b.rest a.lines b.lines f.kind g.kind a.before b.before a.row b.row in
    let lines : f.line ≡ g.line = a.number ∙ ap (λ n. n + 1) place.lines ∙ sym b.number in
    ap₂ (λ c n. record { kind = c; line = n }) place.kinds lines
