-- The tokens that are answered are slices of the bytes, in order.
use Rattle.std.proofs.Common.{ℕ, ◌+◌, List, [], ◌∷◌, length, map}
use Rattle.std.specs.Prelude.{All}
use Rattle.std.proofs.lemmas.List.Elements.{All-nil, All-cons, All-head, All-tail}
use Rattle.timbuk_lex.specs.declared.lexeme.Lexeme.{Lexeme}
use Rattle.timbuk_lex.specs.Laws as lex
use Rattle.timbuk_reader.specs.Tokens.{token_of, IsSlice, InOrder}

pub slices_of : (bytes : List ℕ) (xs : List Lexeme) → All (lex.IsSliceOf bytes) xs → All (IsSlice bytes) (map token_of xs)
slices_of bytes [] h = All-nil (IsSlice bytes)
slices_of bytes (x ∷ xs) h =
    let first = All-head (lex.IsSliceOf bytes) x xs h in
    All-cons (IsSlice bytes) (token_of x) (map token_of xs) (record { within = first.within; slice = first.slice }) (slices_of bytes xs (All-tail (lex.IsSliceOf bytes) x xs h))

pub in_order_of : (from : ℕ) (xs : List Lexeme) → lex.InOrder from xs → InOrder from (map token_of xs)
in_order_of from [] h = tt
in_order_of from (x ∷ xs) h = (h.0, h.1, in_order_of (x.start + length x.text) xs h.2)
