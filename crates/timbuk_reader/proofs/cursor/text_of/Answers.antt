use Rattle.timbuk_reader.proofs.keeping.Words.{word_is_text}
use Rattle.timbuk_reader.proofs.cursor.text_of.Goals as goal

pub unwrap-requires : goal.unwrap-requires
unwrap-requires c = word_is_text c.word_law.ensures c.args.token.now c.as_slice.result.now c.from_utf8.result c.requires.spelled c.requires.word c.as_slice.ensures c.from_utf8.ensures.cases
