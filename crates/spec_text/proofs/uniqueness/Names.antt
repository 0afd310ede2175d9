-- The symbols of a specification that is spelled are a signature, and no two names of symbols and variables are one.
use Rattle.std.proofs.Common.{◌≡◌, ℕ, ◌≤◌, true, List, [], ◌∷◌, ◌++◌, Option, Some, None, map, flat_map, All, refl, sym, subst}
use Rattle.std.specs.List.{IsDistinct}
use Rattle.std.specs.Str.{bytes_eq}
use Rattle.std.proofs.lemmas.Bool.{and_parts}
use Rattle.std.proofs.lemmas.List.{length-map}
use Rattle.std.proofs.lemmas.List.Elements.{All-nil, All-cons, All-head, All-tail, All-map}
use Rattle.ranked_terms.specs.Names.{names_of}
use Rattle.ranked_terms.specs.SignatureRules.{IsSymbol, IsSignature}
use Rattle.ranked_terms.specs.Words.{IsWord}
use Rattle.timbuk_lex.specs.Laws.{HasWord}
use Rattle.timbuk_lex.specs.Lexing.{lexed}
use Rattle.timbuk_lex.specs.declared.lexeme.TokenKind.{TokenKind}
use Rattle.timbuk_lex.specs.declared.lexeme.TokenKind.TheVariants.{Word, Text, Mark}
use Rattle.timbuk_grammar.specs.declared.terminal.Role.{Role}
use Rattle.timbuk_grammar.specs.declared.terminal.Terminal.TheVariants as terminal
use Rattle.timbuk_grammar.specs.Grammar as grammar
use Rattle.timbuk_grammar.specs.Matching.{is_word}
use Rattle.timbuk_grammar.specs.Trees.{Token, Value, spelling}
use Rattle.spec_text.specs.Declarations.{value_of}
use Rattle.spec_text.specs.Naming.{IsShort, IsArity, AreSymbols, signature_of}
use Rattle.spec_text.specs.Source.{SymbolDeclaration, symbol_of, symbols_in}
use Rattle.spec_text.specs.Laws.{SpelledNamesDiffer}
use Rattle.spec_text.proofs.agreement.sections.Parts.{all_front}

-- ---- names are words

kind_is_word : (k : TokenKind) → is_word k ≡ true → k ≡ Word
kind_is_word Word e = refl
kind_is_word Text e = cc
kind_is_word Mark e = cc

all_behind : {X : Type 0} (P : X → Type 0) (xs ys : List X) → All P (xs ++ ys) → All P ys
all_behind P [] ys h = h
all_behind P (x ∷ xs) ys h = all_behind P xs ys (All-tail P x (xs ++ ys) h)

name_is_word : {p : Role} (t : Token (terminal.Named p)) → HasWord t.lexeme → IsWord t.lexeme.text
name_is_word t h = h (kind_is_word t.lexeme.kind (and_parts (is_word t.lexeme.kind) _ t.matched).0)

abbrev IsNamed : SymbolDeclaration → Type 0
IsNamed d = IsWord d.name

words_of : (vs : List (Value grammar.op)) → All HasWord (flat_map (spelling grammar.op) vs) → All IsNamed (map symbol_of vs)
words_of [] h = All-nil IsNamed
words_of (v ∷ vs) h =
    let one = all_front HasWord (spelling grammar.op v) (flat_map (spelling grammar.op) vs) h in
    All-cons IsNamed (symbol_of v) (map symbol_of vs) (name_is_word v.0 (All-head HasWord v.0.lexeme (v.1.0.lexeme ∷ v.1.1.lexeme ∷ []) one))
    (words_of vs (all_behind HasWord (spelling grammar.op v) (flat_map (spelling grammar.op) vs) h))

symbols_words : (o : Option (Value grammar.ops)) → All HasWord (spelling (grammar.maybe grammar.ops) o) → All IsNamed (symbols_in o)
symbols_words None h = All-nil IsNamed
symbols_words (Some v) h = words_of v.1 (All-tail HasWord v.0.lexeme (flat_map (spelling grammar.op) v.1) h)

-- ---- the signature

each_symbol : (ds : List SymbolDeclaration) → All IsNamed ds → All (λ d. IsShort d.name) ds → All (λ d. IsArity d.arity) ds → All (λ d. IsSymbol (d.name, value_of d.arity)) ds
each_symbol ds words names arities = λ k d l. record { name = record { word = words k d l; short = names k d l }; arity = (arities k d l).small }

is_signature : (ds : List SymbolDeclaration) → All IsNamed ds → AreSymbols ds → IsSignature (signature_of ds)
is_signature ds words h = record {
  few = subst (λ n. n ≤ 4096) (sym (length-map ds (λ d. (d.name, value_of d.arity)))) h.few;
  distinct = h.distinct;
  symbols = All-map IsSymbol (λ d. (d.name, value_of d.arity)) ds (each_symbol ds words h.names h.arities);
}

pub spelled_names_differ : ((bytes : List ℕ) → All HasWord (lexed bytes).tokens) → SpelledNamesDiffer
spelled_names_differ tokens_are_words bytes spec h =
    let v = h.derivation in
    let all : All HasWord (spelling grammar.file v) = subst (All HasWord) (sym h.tokens) (tokens_are_words bytes) in
    let ops : All HasWord (spelling (grammar.maybe grammar.ops) v.0) = all_front HasWord (spelling (grammar.maybe grammar.ops) v.0) (spelling (grammar.maybe grammar.vars) v.1.0 ++ spelling (grammar.many grammar.section) v.1.1) all in
    (subst IsSignature (sym h.spells.signature) (is_signature (symbols_in v.0) (symbols_words v.0 ops) h.spells.symbols), subst (λ vs. IsDistinct bytes_eq (names_of spec.signature ++ vs)) (sym h.spells.vars) h.spells.variables.distinct)
