-- What the reader finds of a name.
use Rattle.timbuk_reader.specs.declared.meaning.Meaning.{Meaning}
use Rattle.timbuk_reader.specs.declared.meaning.Meaning.TheVariants as told
use Rattle.spec_text.specs.Declarations as meanings

abbrev pub meant_by : Meaning → meanings.Meaning
meant_by told.Unknown = meanings.unknown
meant_by (told.Variable v) = meanings.a_variable v
meant_by (told.State q) = meanings.a_state q
meant_by (told.Symbol f n) = meanings.a_symbol f n
