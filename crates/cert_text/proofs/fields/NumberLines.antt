-- Lines of a word and numbers are read back.
use Rattle.std.proofs.Common.{◌≡◌, ℕ, ◌==◌, false, List, [], ◌∷◌, map, refl, ap, arith}
use Rattle.std.specs.Prelude.{All}
use Rattle.std.proofs.lemmas.List.Elements.{All-weaker, All-cons}
use Rattle.cert_text.specs.Laws.{NumbersReadBack}
use Rattle.ranked_terms.specs.Texts.{Text, number_word}
use Rattle.cert_text.specs.Words.{Words}
use Rattle.cert_text.proofs.fields.Texts.{Lacks, IsLine, line_once}
use Rattle.cert_text.proofs.fields.Numbers.{numbers_once, numbers_lack}

abbrev others : Words → Words
others [] = []
others (w ∷ ws) = ws

abbrev IsPlainByte : ℕ → Type 0
IsPlainByte c = ((c == 32) ≡ false) × ((c == 10) ≡ false)

abbrev IsPlain : Text → Type 0
IsPlain word = All IsPlainByte word

pub number_line : (word : Text) (ns : List ℕ) → IsPlain word → IsLine (word ∷ map number_word ns)
number_line word ns plain = record {
  word = word;
  others = map number_word ns;
  some = refl;
  blanks = All-cons (Lacks 32) word (map number_word ns) (All-weaker IsPlainByte (λ c. (c == 32) ≡ false) (λ c both. both.0) word plain) (numbers_lack 32 ns (λ d. omega (arith, d.least)));
  newlines = All-cons (Lacks 10) word (map number_word ns) (All-weaker IsPlainByte (λ c. (c == 10) ≡ false) (λ c both. both.1) word plain) (numbers_lack 10 ns (λ d. omega (arith, d.least)));
}

pub numbers_read_back : NumbersReadBack
numbers_read_back word ms ns x y plain e =
    let same = line_once (word ∷ map number_word ms) (word ∷ map number_word ns) x y (number_line word ms plain) (number_line word ns plain) e in
    (numbers_once ms ns (ap others same.words), same.rest)
