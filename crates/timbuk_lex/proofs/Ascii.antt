-- Words are ASCII, and so UTF-8.
use Rattle.std.proofs.Common.{◌≡◌, ℕ, zero, suc, ◌<◌, true, List, [], ◌∷◌, arith}
use Rattle.std.specs.List.{list_all}
use Rattle.std.specs.Str.{IsAscii, IsUtf8}
use Rattle.std.proofs.lemmas.Str.{IsUtf8-from_ascii}
use Rattle.std.proofs.lemmas.Bool.Decides.{nat_tests}
use Rattle.timbuk_lex.proofs.Fronts.{both}
use Rattle.ranked_terms.specs.Words.{is_word_byte, IsWord}

byte_is_ascii : (b : ℕ) → is_word_byte b ≡ true → b < 128
byte_is_ascii b e = grind (arith, nat_tests)

bytes_are_ascii : (text : List ℕ) → list_all is_word_byte text ≡ true → IsAscii text
bytes_are_ascii [] e i = omega arith
bytes_are_ascii (b ∷ text) e zero = byte_is_ascii b (both (is_word_byte b) (list_all is_word_byte text) e).0
bytes_are_ascii (b ∷ text) e (suc i) = bytes_are_ascii text (both (is_word_byte b) (list_all is_word_byte text) e).1 i

pub word_is_utf8 : (text : List ℕ) → IsWord text → IsUtf8 text
word_is_utf8 text w = IsUtf8-from_ascii text (bytes_are_ascii text w.bytes)
