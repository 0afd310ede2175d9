use Rattle.std.proofs.Common.{[], ◌++◌, ◌∷◌, ◌∙◌, ap, sym}
use Rattle.std.proofs.lemmas.List.{append_assoc}
use Rattle.std.specs.Prelude.{codes}
use Rattle.std.specs.List.{flat_map}
use Rattle.ranked_terms.specs.Texts.{term_text}
use Rattle.cert_text.specs.Words.{line_text}
use Rattle.cert_text.specs.Lines.{words_of}
use Rattle.cert_text.specs.Certificates.{step_line}
use Rattle.cert_text.proofs.format.Written.{lines_are, further}
use Rattle.cert_text.proofs.writing.push_path.Goals as goal

pub returns : goal.returns
returns c =
    let o = c.args.out.now.items in
    let p = c.extend_from_slice.new.self.items in
    let q = c.print_into.new.out.items in
    let r = c.push.new.self.items in
    let z = c.push_all_steps.new.out.items in
    let t = term_text c.args.sig.now c.args.d.now.start in
    let steps = flat_map (λ d. line_text (words_of (step_line c.args.sig.now d))) c.args.d.now.steps in
    let head = codes "Verdict reachable" ++ (10 ∷ codes "Start ") in
    further o p z head (t ++ (10 ∷ steps)) c.in_ok-extend_from_slice.ensures.items (further p q z t (10 ∷ steps) c.in_ok-print_into.ensures.ok
    (further q r z (10 ∷ []) steps c.in_ok-push.ensures.items (c.in_ok-push_all_steps.ensures ∙ ap (λ ds. r ++ flat_map (λ d. line_text (words_of (step_line c.args.sig.now d))) ds) c.as_slice.ensures)))
    ∙ ap (λ x. o ++ (head ++ x)) (sym (append_assoc t (10 ∷ []) steps) ∙ ap (λ x. (t ++ 10 ∷ []) ++ x) (sym (lines_are (step_line c.args.sig.now) c.args.d.now.steps)))
