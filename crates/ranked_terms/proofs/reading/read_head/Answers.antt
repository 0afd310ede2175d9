use Rattle.std.proofs.Common.{Option, subst, sym}
use Rattle.std.specs.Prelude.{MatchOption}
use Rattle.ranked_terms.specs.Texts.{BeginsNoSymbol, IsHead}
use Rattle.ranked_terms.specs.declared.reading.Head.{Head}
use Rattle.ranked_terms.proofs.texts.HeadLaws.{word_utf8, unknown_name, no_arity, head_found}
use Rattle.ranked_terms.proofs.reading.read_head.Goals as goal

pub returns-in_default : goal.returns-in_default
returns-in_default c f arity rest h =
    c.in_default.ensures.cases.0 (word_utf8 c.args.sig.now c.requires c.args.text.now c.split_at.result.0.now c.split_at.result.1.now c.split_at.result.0.now c.word_len.result c.split_at.ensures.front c.split_at.ensures.back c.word_len.ensures.value)

pub returns-in_err-sym : goal.returns-in_err-sym
returns-in_err-sym c =
    let s = c.args.sig.now in let text = c.args.text.now in
    subst (λ (o : Option Head). MatchOption o (BeginsNoSymbol s text) (λ head. IsHead s text head.sym head.arity head.rest.now)) (sym c.from_residual.ensures)
    (unknown_name c.args.sig.now c.requires c.args.text.now c.split_at.result.0.now c.split_at.result.1.now c.in-Ok.name.now c.word_len.result c.split_at.ensures.front c.split_at.ensures.back c.word_len.ensures.value c.in-Ok.ensures.cases.0 c.in_err-sym.ensures.value)

pub returns-in_err-arity : goal.returns-in_err-arity
returns-in_err-arity c =
    let s = c.args.sig.now in let text = c.args.text.now in
    subst (λ (o : Option Head). MatchOption o (BeginsNoSymbol s text) (λ head. IsHead s text head.sym head.arity head.rest.now)) (sym c.from_residual-in_err-arity.ensures)
    (no_arity c.args.sig.now c.requires c.args.text.now c.split_at.result.0.now c.split_at.result.1.now c.in-Ok.name.now c.word_len.result c.split_at.ensures.front c.split_at.ensures.back c.word_len.ensures.value c.in_ok-sym.sym c.in-Ok.ensures.cases.0 c.in_ok-sym.ensures.value c.in_err-arity.ensures)

pub returns : goal.returns
returns c =
    head_found c.args.sig.now c.requires c.args.text.now c.split_at.result.0.now c.split_at.result.1.now c.in-Ok.name.now c.word_len.result c.split_at.ensures.front c.split_at.ensures.back c.word_len.ensures.value
    c.in_ok-sym.sym c.in_ok-arity.arity c.in-Ok.ensures.cases.0 c.in_ok-sym.ensures.value c.in_ok-arity.ensures
