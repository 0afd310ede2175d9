use Rattle.std.proofs.Common.{◌∙◌, sym, ⊎_elim, inl, inr, drop, map, string_bytes}
use Rattle.clap.specs.Words.{found_of, kind_of, first_value}
use Rattle.clap.proofs.WalkLemmas.{first_value-rows}
use Rattle.command_words.specs.Said.{limits_from}
use Rattle.command_words.proofs.CompleteLine.{is_command, is_none, refused}
use Rattle.command_words.proofs.Outcomes.{not_bad}
use Rattle.command_words.proofs.complete.complete_words.Goals as goal
use Rattle.command_words.proofs.complete.complete_words.Goals.{in_default-via-in-Some+in_default, in_default-via-in_default}

pub returns-in_err-matches-clause-bad : goal.returns-in_err-matches-clause-bad
returns-in_err-matches-clause-bad c = λ bad.
    ⊎_elim (λ memory. absurd (not_bad c.from_residual.result (kind_of c.in_err-matches.field-0.0) c.from_residual.ensures.1 memory bad))
    (λ none. refused (drop 1 (map string_bytes c.args.words.now)) none) c.in_err-matches.ensures

pub returns-in-Some-Some-clause-command : goal.returns-in-Some-Some-clause-command
returns-in-Some-Some-clause-command c =
    let found = found_of c.in_ok-matches.matches in
    let line = c.in_ok-matches.ensures in
    is_command (drop 1 (map string_bytes c.args.words.now)) line.0 (first_value found) line.1 (λ name. first_value-rows found name ∙ line.2 name)
    c.in-Some-Some.file.now (limits_from c.in-Some-Some.options) c.in-Some-Some.ensures c.in-Some-Some.ensures'

pub returns-clause-bad : goal.returns-clause-bad
returns-clause-bad c = λ bad.
    let found = found_of c.in_ok-matches.matches in
    let line = c.in_ok-matches.ensures in
    is_none (drop 1 (map string_bytes c.args.words.now)) line.0 (first_value found) line.1 (λ name. first_value-rows found name ∙ line.2 name)
    (elim c.in_default.branch [
      | in_default-via-in-Some+in_default w ↦ inr (sym w.in_default.ensures')
      | in_default-via-in_default w ↦ inl (sym w.in_default.ensures)
    ])
