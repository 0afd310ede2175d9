use Rattle.std.proofs.Common.{◌≡◌, Err, sym, ap, ◌∙◌, subst}
use Rattle.std.proofs.lemmas.Result.{err_from_is_err_and}
use Rattle.spec_text.specs.Reading.{read}
use Rattle.spec_text.specs.Spelled.{IsSpecOf}
use Rattle.timbuk_reader.specs.View.{as_error, state_of}
use Rattle.timbuk_reader.proofs.keeping.Start.{fresh_start}
use Rattle.timbuk_reader.proofs.keeping.Texts.{ReadTo, read_from, stopped, settled_ok}
use Rattle.spec_text.specs.lemmas.Specs.{any_last}
use Rattle.timbuk_reader.specs.declared.fault.SpecError.TheVariants as error
use Rattle.timbuk_reader.proofs.reader.read_lexed.Goals as goal

pub text_names-requires : goal.text_names-requires
text_names-requires c = fresh_start c.new-reader.result c.new-reader.ensures.state

pub returns-clause-read : goal.returns-clause-read
returns-clause-read c =
    let bytes = c.args.bytes.now in
    let r = c.new-reader.result in
    let spec = c.in_ok-into_spec.field-0 in
    let here = read_from bytes c.args.lexed.now r c.requires.exact c.new-reader.ensures.tokens c.new-reader.ensures.state c.new-reader.ensures.end in
    let found : ReadTo (read bytes) (state_of c.text_names.new.self) = settled_ok (read bytes) (state_of c.text_names.new.self) (sym here ∙ c.in_ok-vars.ensures.ok) in
    record {
      declared = found.declared;
      no_fault = found.read;
      spec_of = any_last found.declared spec (subst (λ z. IsSpecOf z spec) (sym found.settled_is) c.in_ok-into_spec.ensures);
    }

pub returns-in_err-vars-clause-stops : goal.returns-in_err-vars-clause-stops
returns-in_err-vars-clause-stops c told e =
    let bytes = c.args.bytes.now in
    let r = c.new-reader.result in
    let here = read_from bytes c.args.lexed.now r c.requires.exact c.new-reader.ensures.tokens c.new-reader.ensures.state c.new-reader.ensures.end in
    let answered = err_from_is_err_and c.from_residual.result c.from_residual.ensures.1 in
    let same : c.in_err-vars.field-0.0 ≡ error.Fault told = cc (answered.1, e, answered.2) in
    stopped (read bytes) told (sym (ap as_error here) ∙ c.in_err-vars.ensures.err (λ m. cc (same, m)) ∙ ap Err same)
