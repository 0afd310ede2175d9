-- What stands at the front of a text is just what the relation says.
use Rattle.std.proofs.Common.{◌≡◌, ◌⊎◌, inl, inr, ℕ, suc, ◌+◌, ◌==◌, ◌&&◌, ◌||◌, Bool, true, false, cond, List, [], ◌∷◌, ◌++◌, length, take, drop, Option, Some, None, refl, subst, ap, arith, sym, ◌∙◌, append_assoc, length-append, drop-cons}
use Rattle.std.specs.Prelude.{position, option_map}
use Rattle.std.specs.List.{prefix_len, list_all}
use Rattle.std.proofs.lemmas.Bool.{eqb-true}
use Rattle.std.proofs.lemmas.List.{take-append-drop, length-take-le}
use Rattle.std.proofs.lemmas.List.Quantifiers.{position-Some}
use Rattle.ranked_terms.specs.Words.{is_word_byte, IsWord}
use Rattle.timbuk_lex.specs.Bytes.{is_blank, is_mark_byte, is_quote, close_at}
use Rattle.timbuk_lex.specs.Pieces.{front}
use Rattle.timbuk_lex.specs.Cut.{next, IsGap, IsToken, IsFault}
use Rattle.timbuk_lex.specs.declared.lexeme.TokenKind.{TokenKind}
use Rattle.timbuk_lex.specs.declared.lexeme.TokenKind.TheVariants.{Word, Text}
use Rattle.timbuk_lex.specs.declared.piece.LexFault.{LexFault}
use Rattle.timbuk_lex.specs.declared.piece.Piece.TheVariants.{Gap, Token, Fault}

-- ---- the classes of bytes have no byte in common

or_cases : (x y : Bool) → (x || y) ≡ true → (x ≡ true) ⊎ (y ≡ true)
or_cases true y e = inl refl
or_cases false y e = inr e

-- what holds at a number holds at a byte that is the number
at_byte : (P : ℕ → Type 0) (b n : ℕ) → P n → (b == n) ≡ true → P b
at_byte P b n p e = subst P (sym (eqb-true b n e)) p

either : {P : Type 0} (x y : Bool) → (x ≡ true → P) → (y ≡ true → P) → (x || y) ≡ true → P
either x y f g e = elim (or_cases x y e) [ inl a ↦ f a | inr a ↦ g a ]

blank_no_word : (b : ℕ) → is_blank b ≡ true → is_word_byte b ≡ false
unfolding is_blank
blank_no_word b =
    let P : ℕ → Type 0 = λ n. is_word_byte n ≡ false in
    either _ _ (either _ _ (either _ _ (at_byte P b 32 refl) (at_byte P b 9 refl)) (at_byte P b 13 refl)) (at_byte P b 10 refl)

never : (x : Bool) → (x ≡ true → ⊥) → x ≡ false
never true f = absurd (f refl)
never false f = refl

word_no_blank : (b : ℕ) → is_word_byte b ≡ true → is_blank b ≡ false
word_no_blank b e = never (is_blank b) (λ h. let k = blank_no_word b h in cc)

record NoOther (b : ℕ) : Type 0 where
  pub blank : is_blank b ≡ false
  pub word : is_word_byte b ≡ false
  pub quote : is_quote b ≡ false

no_other : (b n : ℕ) → NoOther n → (b == n) ≡ true → NoOther b
no_other b n = at_byte NoOther b n

mark_no_other : (b : ℕ) → is_mark_byte b ≡ true → NoOther b
unfolding is_mark_byte is_blank
mark_no_other b =
    either _ _
    (either _ _
    (either _ _
    (either _ _
    (either _ _
    (either _ _
    (no_other b 58 (record { blank = refl; word = refl; quote = refl }))
    (no_other b 40 (record { blank = refl; word = refl; quote = refl })))
    (no_other b 41 (record { blank = refl; word = refl; quote = refl })))
    (no_other b 44 (record { blank = refl; word = refl; quote = refl })))
    (no_other b 61 (record { blank = refl; word = refl; quote = refl })))
    (no_other b 91 (record { blank = refl; word = refl; quote = refl })))
    (no_other b 93 (record { blank = refl; word = refl; quote = refl }))

mark_no_arrow : (b : ℕ) → is_mark_byte b ≡ true → (b == 45) ≡ false
unfolding is_mark_byte
mark_no_arrow b e = never (b == 45) (λ h. let k : is_mark_byte b ≡ false = at_byte (λ n. is_mark_byte n ≡ false) b 45 refl h in cc)

no_mark_no_open : (b : ℕ) → is_mark_byte b ≡ false → (b == 40) ≡ false
unfolding is_mark_byte
no_mark_no_open b e = never (b == 40) (λ h. let k : is_mark_byte b ≡ true = at_byte (λ n. is_mark_byte n ≡ true) b 40 refl h in cc)

-- ---- words

pub both : (x y : Bool) → (x && y) ≡ true → (x ≡ true) × (y ≡ true)
both true y e = (refl, e)
both false y e = cc

word_len : (text rest : List ℕ) → list_all is_word_byte text ≡ true → is_word_byte (next rest) ≡ false → prefix_len is_word_byte (text ++ rest) ≡ length text
word_len [] [] h e = refl
word_len [] (c ∷ rest) h e = rw e refl
word_len (b ∷ text) rest h e =
    let p = both (is_word_byte b) (list_all is_word_byte text) h in
    let k : 1 + length text ≡ suc (length text) = omega arith in
    rw (p.0, word_len text rest p.1 e) k

-- ---- from the relation to the front

two_more : (inside : List ℕ) (a b : ℕ) → length (inside ++ a ∷ b ∷ []) ≡ length inside + 2
two_more inside a b = length-append inside (a ∷ b ∷ [])

one_more : (inside : List ℕ) (a : ℕ) → length (inside ++ a ∷ []) ≡ length inside + 1
one_more inside a = length-append inside (a ∷ [])

pub gap_front : (text rest : List ℕ) → IsGap text rest → front (text ++ rest) ≡ Gap (length text)
unfolding front is_blank
gap_front _ _ (IsGap.blank {b = b} {rest = rest} h) = rw h refl
gap_front _ _ (IsGap.comment inside rest e) =
    let k : length inside + 4 ≡ suc (suc (length (inside ++ 42 ∷ 41 ∷ []))) = omega (arith, two_more inside 42 41) in
    rw (append_assoc inside (42 ∷ 41 ∷ []) rest, e) (ap Gap k)

pub token_front : (kind : TokenKind) (text rest : List ℕ) → IsToken kind text rest → front (text ++ rest) ≡ Token kind (length text)
unfolding front is_blank is_mark_byte
token_front _ _ _ (IsToken.word {text = []} {rest = rest} h e) = absurd (omega (arith, h.some))
token_front _ _ _ (IsToken.word {text = b ∷ text} {rest = rest} h e) =
    let p = both (is_word_byte b) (list_all is_word_byte text) h.bytes in
    let k : 1 + length text ≡ suc (length text) = omega arith in
    rw (word_no_blank b p.0, p.0, word_len text rest p.1 e) (ap (Token Word) k)
token_front _ _ _ (IsToken.text inside rest e) =
    let k : length inside + 2 ≡ suc (length (inside ++ 34 ∷ [])) = omega (arith, one_more inside 34) in
    rw (append_assoc inside (34 ∷ []) rest, e) (ap (Token Text) k)
token_front _ _ _ (IsToken.arrow {rest = rest}) = refl
token_front _ _ _ (IsToken.mark {b = b} {rest = rest} h e) =
    let other = mark_no_other b h in
    rw (other.blank, other.word, other.quote, e, mark_no_arrow b h, h) refl

pub fault_front : (why : LexFault) (rest : List ℕ) → IsFault why rest → front rest ≡ Fault why
unfolding front is_blank
fault_front _ _ (IsFault.byte {b = b} {rest = rest} h) = rw (h.blank, h.word, h.quote, no_mark_no_open b h.mark, h.arrow, h.mark) refl
fault_front _ _ (IsFault.comment {inside = inside} e) = rw e refl
fault_front _ _ (IsFault.text {inside = inside} e) = rw e refl

-- ---- from the front to the relation

-- what a text begins with
pub data Begins : List ℕ → Type 0 where
  nothing : Begins []
  gap : {text rest : List ℕ} → IsGap text rest → Begins (text ++ rest)
  token : {kind : TokenKind} {text rest : List ℕ} → IsToken kind text rest → Begins (text ++ rest)
  fault : {why : LexFault} {rest : List ℕ} → IsFault why rest → Begins rest

-- bytes cut at the first quote, at the first `*)`, and after the longest word
record AtQuote (bytes : List ℕ) (n : ℕ) : Type 0 where
  inside : List ℕ
  rest : List ℕ
  is : bytes ≡ inside ++ 34 ∷ rest
  at : length inside ≡ n

record AtClose (bytes : List ℕ) (n : ℕ) : Type 0 where
  inside : List ℕ
  rest : List ℕ
  is : bytes ≡ inside ++ 42 ∷ 41 ∷ rest
  at : length inside ≡ n

record AfterWord (bytes : List ℕ) : Type 0 where
  text : List ℕ
  rest : List ℕ
  is : bytes ≡ text ++ rest
  all : list_all is_word_byte text ≡ true
  stops : is_word_byte (next rest) ≡ false

quote_split : (bytes : List ℕ) (n : ℕ) → position is_quote bytes ≡ Some n → AtQuote bytes n
quote_split bytes n e =
    let p = position-Some is_quote bytes n 0 e in
    let there : drop n bytes ≡ 34 ∷ drop (suc n) bytes = drop-cons bytes n 0 p.0 ∙ ap (λ b. b ∷ drop (suc n) bytes) (eqb-true _ _ p.1) in
    record {
      inside = take n bytes;
      rest = drop (suc n) bytes;
      is = sym (take-append-drop n bytes) ∙ ap (λ d. take n bytes ++ d) there;
      at = length-take-le n bytes (omega arith);
    }

close_here : (b : ℕ) (bytes : List ℕ) (n : ℕ) → (b == 42 && next bytes == 41) ≡ true → n ≡ 0 → AtClose (b ∷ bytes) n
close_here b [] n e z = let p = both (b == 42) false e in cc
close_here b (c ∷ bytes) n e z =
    let p = both (b == 42) (c == 41) e in
    record { inside = []; rest = bytes; is = ap (λ x. x ∷ c ∷ bytes) (eqb-true _ _ p.0) ∙ ap (λ x. 42 ∷ x ∷ bytes) (eqb-true _ _ p.1); at = sym z }

close_by : (b : ℕ) (bytes : List ℕ) (n : ℕ) (here : Bool) (o : Option ℕ) → (b == 42 && next bytes == 41) ≡ here → close_at bytes ≡ o
    → ((m : ℕ) → close_at bytes ≡ Some m → AtClose bytes m) → cond here (Some 0) (option_map suc o) ≡ Some n → AtClose (b ∷ bytes) n
close_by b bytes n true o h e later is = close_here b bytes n h (cc)
close_by b bytes n false None h e later is = cc
close_by b bytes n false (Some m) h e later is =
    let s = later m e in
    let k : n ≡ suc m = cc in
    record { inside = b ∷ s.inside; rest = s.rest; is = ap (λ l. b ∷ l) s.is; at = ap suc s.at ∙ sym k }

close_split : (bytes : List ℕ) (n : ℕ) → close_at bytes ≡ Some n → AtClose bytes n
unfolding close_at
close_split [] n e = cc
close_split (b ∷ bytes) n e = close_by b bytes n _ _ refl refl (close_split bytes) e

word_by : (b : ℕ) (bytes : List ℕ) (here : Bool) → is_word_byte b ≡ here → AfterWord bytes → AfterWord (b ∷ bytes)
word_by b bytes true e s = record { text = b ∷ s.text; rest = s.rest; is = ap (λ l. b ∷ l) s.is; all = rw e s.all; stops = s.stops }
word_by b bytes false e s = record { text = []; rest = b ∷ bytes; is = refl; all = refl; stops = e }

word_split : (bytes : List ℕ) → AfterWord bytes
word_split [] = record { text = []; rest = []; is = refl; all = refl; stops = refl }
word_split (b ∷ bytes) = word_by b bytes _ refl (word_split bytes)

-- what the first byte begins
at_quote : (bytes : List ℕ) (o : Option ℕ) → position is_quote bytes ≡ o → Begins (34 ∷ bytes)
at_quote bytes None e = Begins.fault (IsFault.text e)
at_quote bytes (Some n) e =
    let s = quote_split bytes n e in
    let first : position is_quote (s.inside ++ 34 ∷ s.rest) ≡ Some (length s.inside) = subst (λ l. position is_quote l ≡ Some (length s.inside)) s.is (e ∙ ap Some (sym s.at)) in
    let is : (s.inside ++ 34 ∷ []) ++ s.rest ≡ bytes = append_assoc s.inside (34 ∷ []) s.rest ∙ sym s.is in
    subst (λ l. Begins (34 ∷ l)) is (Begins.token (IsToken.text s.inside s.rest first))

at_comment : (bytes : List ℕ) (o : Option ℕ) → close_at bytes ≡ o → Begins (40 ∷ 42 ∷ bytes)
at_comment bytes None e = Begins.fault (IsFault.comment e)
at_comment bytes (Some n) e =
    let s = close_split bytes n e in
    let first : close_at (s.inside ++ 42 ∷ 41 ∷ s.rest) ≡ Some (length s.inside) = subst (λ l. close_at l ≡ Some (length s.inside)) s.is (e ∙ ap Some (sym s.at)) in
    let is : (s.inside ++ 42 ∷ 41 ∷ []) ++ s.rest ≡ bytes = append_assoc s.inside (42 ∷ 41 ∷ []) s.rest ∙ sym s.is in
    subst (λ l. Begins (40 ∷ 42 ∷ l)) is (Begins.gap (IsGap.comment s.inside s.rest first))

at_word : (b : ℕ) (bytes : List ℕ) → is_word_byte b ≡ true → Begins (b ∷ bytes)
at_word b bytes e =
    let s = word_split bytes in
    let w : IsWord (b ∷ s.text) = record { bytes = rw e s.all; some = omega arith } in
    subst (λ l. Begins (b ∷ l)) (sym s.is) (Begins.token {text = b ∷ s.text} {rest = s.rest} (IsToken.word w s.stops))

at_open : (rest : List ℕ) → (next rest == 42) ≡ true → Begins (40 ∷ rest)
at_open [] e = cc
at_open (c ∷ rest) e = at_byte (λ x. Begins (40 ∷ x ∷ rest)) c 42 (at_comment rest _ refl) e

at_dash : (rest : List ℕ) → (next rest == 62) ≡ true → Begins (45 ∷ rest)
at_dash [] e = cc
at_dash (c ∷ rest) e = at_byte (λ x. Begins (45 ∷ x ∷ rest)) c 62 (Begins.token {text = 45 ∷ 62 ∷ []} {rest = rest} IsToken.arrow) e

begins_by : (b : ℕ) (rest : List ℕ) (blank word quote opening arrow mark : Bool) → is_blank b ≡ blank → is_word_byte b ≡ word → is_quote b ≡ quote
    → (b == 40 && next rest == 42) ≡ opening → (b == 45 && next rest == 62) ≡ arrow → is_mark_byte b ≡ mark → Begins (b ∷ rest)
begins_by b rest true word quote opening arrow mark e w q o a m = Begins.gap {text = b ∷ []} {rest = rest} (IsGap.blank e)
begins_by b rest false true quote opening arrow mark e w q o a m = at_word b rest w
begins_by b rest false false true opening arrow mark e w q o a m = at_byte (λ x. Begins (x ∷ rest)) b 34 (at_quote rest _ refl) q
begins_by b rest false false false true arrow mark e w q o a m =
    let p = both (b == 40) (next rest == 42) o in
    at_byte (λ x. Begins (x ∷ rest)) b 40 (at_open rest p.1) p.0
begins_by b rest false false false false true mark e w q o a m =
    let p = both (b == 45) (next rest == 62) a in
    at_byte (λ x. Begins (x ∷ rest)) b 45 (at_dash rest p.1) p.0
begins_by b rest false false false false false true e w q o a m = Begins.token {text = b ∷ []} {rest = rest} (IsToken.mark m o)
begins_by b rest false false false false false false e w q o a m = Begins.fault (IsFault.byte (record { blank = e; word = w; quote = q; mark = m; arrow = a }))

pub begins : (bytes : List ℕ) → Begins bytes
begins [] = Begins.nothing
begins (b ∷ rest) = begins_by b rest _ _ _ _ _ _ refl refl refl refl refl refl
