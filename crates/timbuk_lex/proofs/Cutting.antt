-- One piece off the front.
use Rattle.std.proofs.Common.{◌≡◌, ℕ, zero, suc, ◌+◌, ◌-◌, ◌<◌, ◌≤◌, Bool, true, false, not, cond, List, [], ◌∷◌, ◌++◌, length, take, drop, refl, ap, arith, sym, ◌∙◌, append_assoc}
use Rattle.std.specs.List.{prefix_len}
use Rattle.std.specs.Prelude.{reverse}
use Rattle.std.proofs.lemmas.List.{reverse-append, append-nil, drop-drop, length-take, length-take-le, take_all, length-drop}
use Rattle.std.proofs.lemmas.List.Sums.{sum_by-append}
use Rattle.std.proofs.Math.Seq.{take-add}
use Rattle.std.proofs.Math.ListN.{drop_of_length-le}
use Rattle.timbuk_lex.specs.declared.lexeme.Lexeme.{Lexeme}
use Rattle.timbuk_lex.specs.declared.lexeme.TokenKind.{TokenKind}
use Rattle.timbuk_lex.specs.declared.piece.LexFault.{LexFault}
use Rattle.timbuk_lex.specs.declared.piece.Piece.TheVariants.{Gap, Token, Fault}
use Rattle.timbuk_lex.specs.declared.place.Place.{Place}
use Rattle.timbuk_lex.specs.declared.lex.Ending.TheVariants.{Whole, Stopped}
use Rattle.timbuk_lex.specs.declared.lex.Lexed.{Lexed}
use Rattle.timbuk_lex.specs.Bytes.{is_newline}
use Rattle.timbuk_lex.specs.Places.{IsPlace, line_of, column_of}
use Rattle.timbuk_lex.specs.Pieces.{front, IsLength}
use Rattle.timbuk_lex.specs.Lexing.{lexed, lex_from, in_front, token_at}

abbrev Bytes : Type 0
Bytes = List ℕ

-- ---- places

line_by : (x : Bool) (c k : ℕ) → c ≡ k + (0 + cond x 1 0) → c + 1 ≡ cond x (k + 1 + 1) (k + 1)
line_by true c k e = omega arith
line_by false c k e = omega arith

pub line_on : (before : Bytes) (b : ℕ) → line_of (before ++ b ∷ []) ≡ cond (is_newline b) (line_of before + 1) (line_of before)
line_on before b = line_by (is_newline b) _ _ (sum_by-append (λ x. cond (is_newline x) 1 0) before (b ∷ []))

column_by : (x : Bool) (k : ℕ) → cond (not x) (1 + k) 0 + 1 ≡ cond x 1 (k + 1 + 1)
column_by true k = refl
column_by false k = omega arith

pub column_on : (before : Bytes) (b : ℕ) → column_of (before ++ b ∷ []) ≡ cond (is_newline b) 1 (column_of before + 1)
column_on before b =
    ap (λ l. prefix_len (λ x. not (is_newline x)) l + 1) (reverse-append before (b ∷ []))
    ∙ column_by (is_newline b) (prefix_len (λ x. not (is_newline x)) (reverse before))

-- ---- pieces

pub lex_drop : (n : ℕ) (before rest : Bytes) → n ≤ length rest → lex_from n before rest ≡ lex_from 0 (before ++ take n rest) (drop n rest)
lex_drop zero before rest h = ap (λ b. lex_from 0 b rest) (sym (append-nil before))
lex_drop (suc n) before [] h = absurd (omega arith)
lex_drop (suc n) before (b ∷ rest) h =
    lex_drop n (before ++ b ∷ []) rest (omega arith) ∙ ap (λ x. lex_from 0 x (drop n rest)) (append_assoc before (b ∷ []) (take n rest))

-- what is left from a place on
abbrev pub rest_at : Bytes → ℕ → Lexed
rest_at bytes start = lex_from 0 (take start bytes) (drop start bytes)

pass_front : (before rest : Bytes) (b n : ℕ) → IsLength n (length (b ∷ rest)) → lex_from (n - 1) (before ++ b ∷ []) rest ≡ lex_from 0 (before ++ take n (b ∷ rest)) (drop n (b ∷ rest))
pass_front before rest b zero h = absurd (omega arith)
pass_front before rest b (suc n) h = let e : suc n - 1 ≡ n = omega arith in rw e (lex_drop (suc n) before (b ∷ rest) h.1)

pass : (bytes : Bytes) (start n : ℕ) → lex_from 0 (take start bytes ++ take n (drop start bytes)) (drop n (drop start bytes)) ≡ rest_at bytes (start + n)
pass bytes start n = rw (← take-add start n bytes, drop-drop n start bytes) refl

pub pass_gap : (before rest : Bytes) (n : ℕ) → front rest ≡ Gap n → IsLength n (length rest) → lex_from 0 before rest ≡ lex_from 0 (before ++ take n rest) (drop n rest)
pass_gap before [] n e h = absurd (omega arith)
pass_gap before (b ∷ rest) n e h = rw e (pass_front before rest b n h)

pub gap_step : (bytes : Bytes) (start n : ℕ) → front (drop start bytes) ≡ Gap n → IsLength n (length (drop start bytes)) → rest_at bytes start ≡ rest_at bytes (start + n)
gap_step bytes start n e h = pass_gap (take start bytes) (drop start bytes) n e h ∙ pass bytes start n

pub pass_token : (before rest : Bytes) (kind : TokenKind) (n : ℕ) → front rest ≡ Token kind n → IsLength n (length rest) → lex_from 0 before rest ≡ in_front (token_at kind before (take n rest)) (lex_from 0 (before ++ take n rest) (drop n rest))
pass_token before [] kind n e h = absurd (omega arith)
pass_token before (b ∷ rest) kind n e h = rw e (ap (in_front (token_at kind before (take n (b ∷ rest)))) (pass_front before rest b n h))

pub token_step : (bytes : Bytes) (start n : ℕ) (kind : TokenKind) → front (drop start bytes) ≡ Token kind n → IsLength n (length (drop start bytes)) → rest_at bytes start ≡ in_front (token_at kind (take start bytes) (take n (drop start bytes))) (rest_at bytes (start + n))
token_step bytes start n kind e h = pass_token (take start bytes) (drop start bytes) kind n e h ∙ ap (in_front (token_at kind (take start bytes) (take n (drop start bytes)))) (pass bytes start n)

pub pass_fault : (before rest : Bytes) (why : LexFault) → 0 < length rest → front rest ≡ Fault why → lex_from 0 before rest ≡ record { tokens = []; ending = Stopped why (line_of before) (column_of before) }
pass_fault before [] why h e = absurd (omega arith)
pass_fault before (b ∷ rest) why h e = rw e refl

pub fault_step : (bytes : Bytes) (start : ℕ) (why : LexFault) → 0 < length (drop start bytes) → front (drop start bytes) ≡ Fault why → rest_at bytes start ≡ record { tokens = []; ending = Stopped why (line_of (take start bytes)) (column_of (take start bytes)) }
fault_step bytes start why = pass_fault (take start bytes) (drop start bytes) why

pub end_step : (bytes : Bytes) (start : ℕ) → length bytes ≤ start → rest_at bytes start ≡ record { tokens = []; ending = Whole }
end_step bytes start h = ap (lex_from 0 (take start bytes)) (drop_of_length-le bytes h)

-- the tokens so far, and then these
abbrev pub behind : List Lexeme → Lexed → Lexed
behind ts l = record { tokens = ts ++ l.tokens; ending = l.ending }

-- what the slice `&bytes[start..]` is
full : (bytes : Bytes) (start : ℕ) → take (length bytes - start) (drop start bytes) ≡ drop start bytes
full bytes start = take_all (length bytes - start) (drop start bytes) (let e = length-drop start bytes in omega arith)

pub more_gap : (bytes : Bytes) (start n : ℕ) (ts : List Lexeme) → front (take (length bytes - start) (drop start bytes)) ≡ Gap n → IsLength n (length (take (length bytes - start) (drop start bytes))) → lexed bytes ≡ behind ts (rest_at bytes start) → lexed bytes ≡ behind ts (rest_at bytes (start + n))
more_gap bytes start n ts e h so = so ∙ ap (behind ts) (gap_step bytes start n (rw full at e) (rw full at h))

behind_more : (ts : List Lexeme) (t : Lexeme) (l : Lexed) → behind ts (in_front t l) ≡ behind (ts ++ t ∷ []) l
behind_more ts t l = ap (λ x. let r : Lexed = record { tokens = x; ending = l.ending } in r) (sym (append_assoc ts (t ∷ []) l.tokens))

pub more_token : (bytes : Bytes) (start n : ℕ) (kind : TokenKind) (ts : List Lexeme) (p : Place)
    → front (take (length bytes - start) (drop start bytes)) ≡ Token kind n → IsLength n (length (take (length bytes - start) (drop start bytes)))
    → start ≤ length bytes → IsPlace p (take start bytes) → lexed bytes ≡ behind ts (rest_at bytes start)
    → lexed bytes ≡ behind (ts ++ record { kind = kind; text = take n (take (length bytes - start) (drop start bytes)); start = start; line = p.line; column = p.column } ∷ []) (rest_at bytes (start + n))
more_token bytes start n kind ts p e h w at so =
    rw (full bytes start, at.line, at.column)
    (let s = token_step bytes start n kind (rw full at e) (rw full at h) in
    let len = length-take-le start bytes w in
    so ∙ ap (behind ts) s ∙ behind_more ts _ (rest_at bytes (start + n)) ∙ rw len refl)

pub more_place : (bytes : Bytes) (start n : ℕ) (p : Place) → IsPlace p (take start bytes ++ take n (take (length bytes - start) (drop start bytes))) → IsPlace p (take (start + n) bytes)
more_place bytes start n p h = rw take-add (rw full at h)

pub more_within : (bytes : Bytes) (start n : ℕ) → start ≤ length bytes → n ≤ length (take (length bytes - start) (drop start bytes)) → start + n ≤ length bytes
more_within bytes start n w h = let k = rw (full bytes start) at h in let e = length-drop start bytes in omega arith

pub shorter : (n : ℕ) (xs : Bytes) → length (take n xs) ≤ n
shorter n xs = simp length-take (omega arith)

-- ---- where the tokens are all there

pub all_at_end : (bytes : Bytes) (start : ℕ) (ts : List Lexeme) → length bytes ≤ start → lexed bytes ≡ behind ts (rest_at bytes start) → (lexed bytes).tokens ≡ ts
all_at_end bytes start ts h so = ap (λ l. l.tokens) (so ∙ ap (behind ts) (end_step bytes start h)) ∙ append-nil ts

pub all_at_fault : (bytes : Bytes) (start : ℕ) (why : LexFault) (ts : List Lexeme) → start < length bytes → Fault why ≡ front (take (length bytes - start) (drop start bytes)) → lexed bytes ≡ behind ts (rest_at bytes start) → (lexed bytes).tokens ≡ ts
all_at_fault bytes start why ts h e so =
    let some : 0 < length (drop start bytes) = omega (arith, length-drop start bytes) in
    let there : front (drop start bytes) ≡ Fault why = sym (rw full at e) in
    ap (λ l. l.tokens) (so ∙ ap (behind ts) (fault_step bytes start why some there)) ∙ append-nil ts
