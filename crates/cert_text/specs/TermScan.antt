-- Deciding whether a text has the form of a term, byte by byte. These serve private contracts alone.
use Rattle.std.specs.Prelude.{ℕ, zero, suc, ◌==◌, if◌then◌else◌, Bool, false, [], ◌∷◌, Option, Some, None}
use Rattle.ranked_terms.specs.Words.{is_word_byte}
use Rattle.ranked_terms.specs.Texts.{Text}
use Rattle.cert_text.specs.declared.terms.Mark.{Mark}
use Rattle.cert_text.specs.declared.terms.Mark.TheVariants as mark
use Rattle.cert_text.specs.declared.terms.Place.{Place}
use Rattle.cert_text.specs.declared.terms.Place.TheVariants as place

abbrev pub mark_of : ℕ → Mark
mark_of b = if is_word_byte b then mark.Letter else (if b == 40 then mark.Open else (if b == 44 then mark.Comma else (if b == 41 then mark.Close else mark.Other)))

-- where the text stands behind the byte, and how many brackets are open there
abbrev pub step : Mark → Place → ℕ → Option (Place × ℕ)
step mark.Letter place.Closed depth = None
step mark.Letter place.Start depth = Some (place.Word, depth)
step mark.Letter place.Word depth = Some (place.Word, depth)
step mark.Open place.Word depth = Some (place.Start, suc depth)
step mark.Open place.Start depth = None
step mark.Open place.Closed depth = None
step mark.Comma place.Start depth = None
step mark.Comma place.Word zero = None
step mark.Comma place.Word (suc depth) = Some (place.Start, suc depth)
step mark.Comma place.Closed zero = None
step mark.Comma place.Closed (suc depth) = Some (place.Start, suc depth)
step mark.Close place.Start depth = None
step mark.Close place.Word zero = None
step mark.Close place.Word (suc depth) = Some (place.Closed, depth)
step mark.Close place.Closed zero = None
step mark.Close place.Closed (suc depth) = Some (place.Closed, depth)
step mark.Other p depth = None

abbrev pub is_end : Place → ℕ → Bool
is_end place.Start depth = false
is_end place.Word depth = depth == 0
is_end place.Closed depth = depth == 0

abbrev pub go_on : (Place → ℕ → Bool) → Option (Place × ℕ) → Bool
go_on rest None = false
go_on rest (Some at) = rest at.0 at.1

-- whether the text can stand behind a place with so many brackets open
abbrev pub scan : Text → Place → ℕ → Bool
scan [] = λ p depth. is_end p depth
scan (b ∷ bs) = λ p depth. go_on (scan bs) (step (mark_of b) p depth)
