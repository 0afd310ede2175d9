use Rattle.std.proofs.Common.{arith}
use Rattle.std.proofs.lemmas.Grind.{common_steps}
use Rattle.timbuk_grammar.specs.Grammar.{approximation_rule, one}
use Rattle.timbuk_grammar.specs.declared.terminal.Terminal.TheVariants as terminal
use Rattle.timbuk_reader.specs.View.{closed}
use Rattle.timbuk_reader.specs.Reads.{Advances, Stops}
use Rattle.timbuk_reader.proofs.parsing.ApproximationSection.{unbound_advances, rule_stops_at_open, rule_stops_in_whole, rule_stops_at_arrow, rule_stops_in_form, rule_stops_at_bracket, rule_reads, part_after}
use Rattle.timbuk_reader.proofs.keeping.Approximation.{whole_part}
use Rattle.timbuk_reader.proofs.state.Reader.approximation_rule.Goals as goal

pub returns-in_err-mark-clause-reads : goal.returns-in_err-mark-clause-reads
returns-in_err-mark-clause-reads c =
    let e = c.in_err-mark.field-0.0 in
    let stops : Stops approximation_rule closed c.args.self.now e = rule_stops_at_open c.args.self.now e c.in_err-mark.ensures.reads in
    grind (arith, common_steps)

pub returns-in_err-whole-clause-reads : goal.returns-in_err-whole-clause-reads
returns-in_err-whole-clause-reads c =
    let r = c.args.self.now in
    let m = c.unbind.new.self in
    let e = c.in_err-whole.field-0.0 in
    let open_one : Advances (one terminal.OpenBracket) closed r closed m = unbound_advances (one terminal.OpenBracket) r c.mark.new.self m c.in_ok-mark.ensures.reads c.unbind.ensures.same c.unbind.ensures.tokens in
    let stops : Stops approximation_rule closed r e = rule_stops_in_whole r m open_one c.unbind.ensures.bound e c.in_err-whole.ensures.reads in
    grind (arith, common_steps)

pub returns-in_err-mark-2-clause-reads : goal.returns-in_err-mark-2-clause-reads
returns-in_err-mark-2-clause-reads c =
    let r = c.args.self.now in
    let m = c.unbind.new.self in
    let e = c.in_err-mark-2.field-0.0 in
    let open_one : Advances (one terminal.OpenBracket) closed r closed m = unbound_advances (one terminal.OpenBracket) r c.mark.new.self m c.in_ok-mark.ensures.reads c.unbind.ensures.same c.unbind.ensures.tokens in
    let stops : Stops approximation_rule closed r e = rule_stops_at_arrow r m open_one c.unbind.ensures.bound c.pattern.new.self c.in_ok-whole.whole c.in_ok-whole.ensures.reads e c.in_err-mark-2.ensures.takes in
    grind (arith, common_steps)

pub form-requires : goal.form-requires
form-requires c = part_after terminal.Arrow c.pattern.new.self c.mark-2.new.self c.in_ok-whole.whole c.in_ok-mark-2.ensures.takes (whole_part c.unbind.new.self c.pattern.new.self c.in_ok-whole.whole c.in_ok-whole.ensures.fits)

pub returns-in_err-form-clause-reads : goal.returns-in_err-form-clause-reads
returns-in_err-form-clause-reads c =
    let r = c.args.self.now in
    let m = c.unbind.new.self in
    let e = c.in_err-form.field-0.0 in
    let open_one : Advances (one terminal.OpenBracket) closed r closed m = unbound_advances (one terminal.OpenBracket) r c.mark.new.self m c.in_ok-mark.ensures.reads c.unbind.ensures.same c.unbind.ensures.tokens in
    let stops : Stops approximation_rule closed r e =
    rule_stops_in_form r m open_one c.unbind.ensures.bound c.pattern.new.self c.in_ok-whole.whole c.in_ok-whole.ensures.reads c.mark-2.new.self c.in_ok-mark-2.ensures.takes e c.in_err-form.ensures.err in
    grind (arith, common_steps)

pub returns-in_err-mark-3-clause-reads : goal.returns-in_err-mark-3-clause-reads
returns-in_err-mark-3-clause-reads c =
    let r = c.args.self.now in
    let m = c.unbind.new.self in
    let e = c.in_err-mark-3.field-0.0 in
    let open_one : Advances (one terminal.OpenBracket) closed r closed m = unbound_advances (one terminal.OpenBracket) r c.mark.new.self m c.in_ok-mark.ensures.reads c.unbind.ensures.same c.unbind.ensures.tokens in
    let stops : Stops approximation_rule closed r e =
    rule_stops_at_bracket r m open_one c.unbind.ensures.bound c.pattern.new.self c.in_ok-whole.whole c.in_ok-whole.ensures.reads c.mark-2.new.self c.in_ok-mark-2.ensures.takes
    c.form.new.self c.in_ok-form.form c.in_ok-form.ensures.ok e c.in_err-mark-3.ensures.takes in
    grind (arith, common_steps)

pub returns-clause-reads : goal.returns-clause-reads
returns-clause-reads c =
    let r = c.args.self.now in
    let m = c.unbind.new.self in
    let open_one : Advances (one terminal.OpenBracket) closed r closed m = unbound_advances (one terminal.OpenBracket) r c.mark.new.self m c.in_ok-mark.ensures.reads c.unbind.ensures.same c.unbind.ensures.tokens in
    rule_reads r m open_one c.unbind.ensures.bound c.pattern.new.self c.in_ok-whole.whole c.in_ok-whole.ensures.reads c.mark-2.new.self c.in_ok-mark-2.ensures.takes
    c.form.new.self c.in_ok-form.form c.in_ok-form.ensures.ok c.mark-3.new.self c.form_entries.new.self c.form_entries.result c.in_ok-mark-3.ensures.takes c.form_entries.ensures.reads
