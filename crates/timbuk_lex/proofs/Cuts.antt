-- The tokens of a text cut it, and nothing else does; what follows for the tokens.
use Rattle.std.proofs.Common.{◌≡◌, ℕ, zero, suc, ◌+◌, ◌-◌, ◌<◌, ◌≤◌, List, [], ◌∷◌, ◌++◌, length, refl, ap, subst, arith, sym, ◌∙◌, append_assoc, length-append}
use Rattle.std.specs.List.{All}
use Rattle.std.proofs.lemmas.List.Elements.{All-nil, All-cons}
use Rattle.std.proofs.Math.Seq.{take-append_seam, drop-append_seam}
use Rattle.ranked_terms.specs.Words.{IsWord}
use Rattle.timbuk_lex.specs.Pieces.{IsLength}
use Rattle.timbuk_lex.specs.Places.{line_of, column_of}
use Rattle.timbuk_lex.specs.Lexing.{lexed, lex_from, in_front, token_at}
use Rattle.timbuk_lex.specs.Cut.{IsGap, IsToken, IsFault, IsCut}
use Rattle.timbuk_lex.specs.Laws.{IsOneCut, HasWord, IsSliceOf, InOrder}
use Rattle.timbuk_lex.specs.declared.lexeme.TokenKind.{TokenKind}
use Rattle.timbuk_lex.specs.declared.lexeme.TokenKind.TheVariants.{Word}
use Rattle.timbuk_lex.specs.declared.lexeme.Lexeme.{Lexeme}
use Rattle.timbuk_lex.specs.declared.piece.LexFault.{LexFault}
use Rattle.timbuk_lex.specs.declared.lex.Ending.TheVariants.{Stopped}
use Rattle.timbuk_lex.specs.declared.lex.Lexed.{Lexed}
use Rattle.timbuk_lex.proofs.Cutting.{pass_gap, pass_token, pass_fault}
use Rattle.timbuk_lex.proofs.Fronts.{Begins, begins, gap_front, token_front, fault_front}

-- ---- one piece

gap_some : (text rest : List ℕ) → IsGap text rest → 0 < length text
gap_some _ _ (IsGap.blank h) = omega arith
gap_some _ _ (IsGap.comment inside rest e) = omega arith

token_some : (kind : TokenKind) (text rest : List ℕ) → IsToken kind text rest → 0 < length text
token_some _ _ _ (IsToken.word h e) = h.some
token_some _ _ _ (IsToken.text inside rest e) = omega arith
token_some _ _ _ IsToken.arrow = omega arith
token_some _ _ _ (IsToken.mark h e) = omega arith

fault_some : (why : LexFault) (rest : List ℕ) → IsFault why rest → 0 < length rest
fault_some _ _ (IsFault.byte h) = omega arith
fault_some _ _ (IsFault.comment e) = omega arith
fault_some _ _ (IsFault.text e) = omega arith

is_length : (text rest : List ℕ) → 0 < length text → IsLength (length text) (length (text ++ rest))
is_length text rest h = (h, omega (arith, length-append text rest))

gap_on : (before text rest : List ℕ) → IsGap text rest → lex_from 0 before (text ++ rest) ≡ lex_from 0 (before ++ text) rest
gap_on before text rest g =
    pass_gap before (text ++ rest) (length text) (gap_front text rest g) (is_length text rest (gap_some text rest g)) ∙ rw (take-append_seam text rest, drop-append_seam text rest) refl

token_on : (before text rest : List ℕ) (kind : TokenKind) → IsToken kind text rest → lex_from 0 before (text ++ rest) ≡ in_front (token_at kind before text) (lex_from 0 (before ++ text) rest)
token_on before text rest kind t =
    pass_token before (text ++ rest) kind (length text) (token_front kind text rest t) (is_length text rest (token_some kind text rest t)) ∙ rw (take-append_seam text rest, drop-append_seam text rest) refl

fault_on : (before rest : List ℕ) (why : LexFault) → IsFault why rest → lex_from 0 before rest ≡ record { tokens = []; ending = Stopped why (line_of before) (column_of before) }
fault_on before rest why f = pass_fault before rest why (fault_some why rest f) (fault_front why rest f)

-- ---- the tokens cut the text

shorter : (text rest : List ℕ) (k : ℕ) → 0 < length text → length (text ++ rest) ≤ suc k → length rest ≤ k
shorter text rest k p h = omega (arith, length-append text rest)

never_empty : (text rest : List ℕ) → 0 < length text → length (text ++ rest) ≤ 0 → ⊥
never_empty text rest p h = omega (arith, length-append text rest)

cut_from : (fuel : ℕ) (before bytes : List ℕ) → Begins bytes → length bytes ≤ fuel → IsCut before bytes (lex_from 0 before bytes)
cut_from fuel before _ Begins.nothing h = IsCut.whole
cut_from fuel before _ (Begins.fault {why = why} {rest = rest} f) h = subst (IsCut before rest) (sym (fault_on before rest why f)) (IsCut.stopped f)
cut_from zero before _ (Begins.gap {text = text} {rest = rest} g) h = absurd (never_empty text rest (gap_some text rest g) h)
cut_from (suc k) before _ (Begins.gap {text = text} {rest = rest} g) h =
    subst (IsCut before (text ++ rest)) (sym (gap_on before text rest g)) (IsCut.gap g (cut_from k (before ++ text) rest (begins rest) (shorter text rest k (gap_some text rest g) h)))
cut_from zero before _ (Begins.token {kind = kind} {text = text} {rest = rest} t) h = absurd (never_empty text rest (token_some kind text rest t) h)
cut_from (suc k) before _ (Begins.token {kind = kind} {text = text} {rest = rest} t) h =
    subst (IsCut before (text ++ rest)) (sym (token_on before text rest kind t)) (IsCut.token t (cut_from k (before ++ text) rest (begins rest) (shorter text rest k (token_some kind text rest t) h)))

pub cut_lexed : (bytes : List ℕ) → IsCut [] bytes (lexed bytes)
unfolding lexed
cut_lexed bytes = cut_from (length bytes) [] bytes (begins bytes) (omega arith)

-- ---- and nothing else does

only_from : (before bytes : List ℕ) (l : Lexed) → IsCut before bytes l → l ≡ lex_from 0 before bytes
only_from _ _ _ IsCut.whole = refl
only_from _ _ _ (IsCut.gap {before = before} {text = text} {rest = rest} {l = l} g c) = only_from (before ++ text) rest l c ∙ sym (gap_on before text rest g)
only_from _ _ _ (IsCut.token {before = before} {text = text} {rest = rest} {kind = kind} {l = l} t c) =
    ap (in_front (token_at kind before text)) (only_from (before ++ text) rest l c) ∙ sym (token_on before text rest kind t)
only_from _ _ _ (IsCut.stopped {before = before} {rest = rest} {why = why} f) = sym (fault_on before rest why f)

pub one_cut : (bytes : List ℕ) → IsOneCut bytes
unfolding lexed
one_cut bytes = record { cut = cut_lexed bytes; only = only_from [] bytes }

-- ---- what callers know of the tokens

word_of : (kind : TokenKind) (text rest : List ℕ) → IsToken kind text rest → kind ≡ Word → IsWord text
word_of _ _ _ (IsToken.word h e) is = h
word_of _ _ _ (IsToken.text inside rest e) is = cc
word_of _ _ _ IsToken.arrow is = cc
word_of _ _ _ (IsToken.mark h e) is = cc

words_in : (before bytes : List ℕ) (l : Lexed) → IsCut before bytes l → All HasWord l.tokens
words_in _ _ _ IsCut.whole = All-nil HasWord
words_in _ _ _ (IsCut.gap {before = before} {text = text} {rest = rest} {l = l} g c) = words_in (before ++ text) rest l c
words_in _ _ _ (IsCut.token {before = before} {text = text} {rest = rest} {kind = kind} {l = l} t c) =
    All-cons HasWord (token_at kind before text) l.tokens (word_of kind text rest t) (words_in (before ++ text) rest l c)
words_in _ _ _ (IsCut.stopped f) = All-nil HasWord

slice_there : (before text rest : List ℕ) (kind : TokenKind) → IsSliceOf (before ++ (text ++ rest)) (token_at kind before text)
slice_there before text rest kind =
    let k : length before + length text - length before ≡ length text = omega arith in
    record {
      within = omega (arith, length-append before (text ++ rest), length-append text rest);
      slice = rw (k, drop-append_seam before (text ++ rest), take-append_seam text rest) refl;
    }

slices_in : (before bytes : List ℕ) (l : Lexed) → IsCut before bytes l → All (IsSliceOf (before ++ bytes)) l.tokens
slices_in _ _ _ (IsCut.whole {before = before}) = All-nil (IsSliceOf (before ++ []))
slices_in _ _ _ (IsCut.gap {before = before} {text = text} {rest = rest} {l = l} g c) =
    subst (λ b. All (IsSliceOf b) l.tokens) (append_assoc before text rest) (slices_in (before ++ text) rest l c)
slices_in _ _ _ (IsCut.token {before = before} {text = text} {rest = rest} {kind = kind} {l = l} t c) =
    All-cons (IsSliceOf (before ++ (text ++ rest))) (token_at kind before text) l.tokens (slice_there before text rest kind)
    (subst (λ b. All (IsSliceOf b) l.tokens) (append_assoc before text rest) (slices_in (before ++ text) rest l c))
slices_in _ _ _ (IsCut.stopped {before = before} {rest = rest} f) = All-nil (IsSliceOf (before ++ rest))

earlier : (a b : ℕ) (ts : List Lexeme) → a ≤ b → InOrder b ts → InOrder a ts
earlier a b [] h o = tt
earlier a b (t ∷ ts) h (from, some, on) = (omega arith, some, on)

order_in : (before bytes : List ℕ) (l : Lexed) → IsCut before bytes l → InOrder (length before) l.tokens
order_in _ _ _ IsCut.whole = tt
order_in _ _ _ (IsCut.gap {before = before} {text = text} {rest = rest} {l = l} g c) =
    earlier (length before) (length (before ++ text)) l.tokens (omega (arith, length-append before text)) (order_in (before ++ text) rest l c)
order_in _ _ _ (IsCut.token {before = before} {text = text} {rest = rest} {kind = kind} {l = l} t c) =
    (omega arith, token_some kind text rest t, subst (λ n. InOrder n l.tokens) (length-append before text) (order_in (before ++ text) rest l c))
order_in _ _ _ (IsCut.stopped f) = tt

pub lexed_words : (bytes : List ℕ) → All HasWord (lexed bytes).tokens
lexed_words bytes = words_in [] bytes (lexed bytes) (cut_lexed bytes)

pub lexed_slices : (bytes : List ℕ) → All (IsSliceOf bytes) (lexed bytes).tokens
lexed_slices bytes = slices_in [] bytes (lexed bytes) (cut_lexed bytes)

pub lexed_in_order : (bytes : List ℕ) → InOrder 0 (lexed bytes).tokens
lexed_in_order bytes = order_in [] bytes (lexed bytes) (cut_lexed bytes)
