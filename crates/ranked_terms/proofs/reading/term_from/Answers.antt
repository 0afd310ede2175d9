use Rattle.std.proofs.Common.{Option, subst}
use Rattle.std.specs.Prelude.{MatchOption}
use Rattle.ranked_terms.specs.Texts.{BeginsNoTerm, BeginsWith}
use Rattle.ranked_terms.specs.declared.reading.Read.{Read}
use Rattle.ranked_terms.proofs.texts.ReadingLaws.{no_text, more_text, whole_text}
use Rattle.ranked_terms.proofs.texts.HeadLaws.{is_nothing, is_something}
use Rattle.ranked_terms.proofs.reading.term_from.Goals as goal

pub returns-in_default : goal.returns-in_default
returns-in_default c =
    let s = c.args.sig.now in let text = c.args.text.now in
    no_text s c.len-symbols.ensures.valid text (subst (λ (o : Option Read). MatchOption o (BeginsNoTerm s text 1024) (λ read. BeginsWith s text 1024 read.term read.rest.now read.left)) c.in_default.is c.in_ok-read.ensures)

pub returns-then-not-is_empty : goal.returns-then-not-is_empty
returns-then-not-is_empty c =
    let s = c.args.sig.now in let text = c.args.text.now in let read = c.in-Some.read in
    let begins = subst (λ (o : Option Read). MatchOption o (BeginsNoTerm s text 1024) (λ read. BeginsWith s text 1024 read.term read.rest.now read.left)) c.in-Some.is c.in_ok-read.ensures in
    more_text s c.len-symbols.ensures.valid text read.term read.rest.now read.left begins (is_something read.rest.now c.is_empty.result c.is_empty.ensures c.if-not-is_empty.true)

pub returns : goal.returns
returns c =
    let s = c.args.sig.now in let text = c.args.text.now in let read = c.in-Some.read in
    let begins = subst (λ (o : Option Read). MatchOption o (BeginsNoTerm s text 1024) (λ read. BeginsWith s text 1024 read.term read.rest.now read.left)) c.in-Some.is c.in_ok-read.ensures in
    whole_text s c.len-symbols.ensures.valid text read.term read.rest.now read.left begins (is_nothing read.rest.now c.is_empty.result c.is_empty.ensures c.if-not-is_empty.false)
