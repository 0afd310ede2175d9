use Rattle.std.proofs.Common.{refl, ◌≡◌, ◌∙◌, sym, ap, ap₂, List, [], Option, None, Some, codes, drop, map, string_bytes, ◌⊎◌, inl, inr, ⊎_elim, is_some, true≢false}
use Rattle.clap.specs.Words.{found_of}
use Rattle.clap.proofs.WalkLemmas.{first_value-rows}
use Rattle.command_words.specs.Words as rule
use Rattle.command_words.specs.Words.{Text, Use, value_of, ◌>>=◌, Command, check}
use Rattle.command_words.specs.Commands.{check_names}
use Rattle.command_words.proofs.WalkAndRule.{same_line}
use Rattle.command_words.proofs.check.check_words.Goals as goal
use Rattle.command_words.proofs.check.check_words.Goals.{in_default-via-in-Some+in_default, in_default-via-in_default}

made : Option Text → Option Text → Option Command
made spec cert = spec >>= λ s. cert >>= λ c. Some (check s c)

made_of : (words : List Text) (uses : List Use) → rule.line_of [] check_names words ≡ Some uses → rule.check_of words ≡ made (value_of (codes "spec") uses) (value_of (codes "cert") uses)
unfolding made
made_of words uses e = ap (λ line. line >>= λ us. made (value_of (codes "spec") us) (value_of (codes "cert") us)) e

none_made : (spec cert : Option Text) → (spec ≡ None) ⊎ (cert ≡ None) → made spec cert ≡ None
unfolding made
none_made None cert h = refl
none_made (Some s) None h = refl
none_made (Some s) (Some c) h = ⊎_elim (λ e. absurd (true≢false (ap is_some e))) (λ e. absurd (true≢false (ap is_some e))) h

pub returns-in-Some-Some-clause-command : goal.returns-in-Some-Some-clause-command
unfolding made
returns-in-Some-Some-clause-command c =
    let m = found_of c.in_ok-matches.matches in
    let line = c.in_ok-matches.ensures in
    let words = drop 1 (map string_bytes c.args.words.now) in
    let spec_is : value_of (codes "spec") line.0 ≡ Some c.in-Some-Some.spec.now = sym (line.2 (codes "spec")) ∙ sym (first_value-rows m (codes "spec")) ∙ sym c.in-Some-Some.ensures in
    let cert_is : value_of (codes "cert") line.0 ≡ Some c.in-Some-Some.certificate.now = sym (line.2 (codes "cert")) ∙ sym (first_value-rows m (codes "cert")) ∙ sym c.in-Some-Some.ensures' in
    made_of words line.0 (same_line check_names words ∙ line.1) ∙ ap₂ made spec_is cert_is

pub returns-clause-bad : goal.returns-clause-bad
returns-clause-bad c = λ _.
    let m = found_of c.in_ok-matches.matches in
    let line = c.in_ok-matches.ensures in
    let words = drop 1 (map string_bytes c.args.words.now) in
    let spec = sym (line.2 (codes "spec")) ∙ sym (first_value-rows m (codes "spec")) in
    let cert = sym (line.2 (codes "cert")) ∙ sym (first_value-rows m (codes "cert")) in
    made_of words line.0 (same_line check_names words ∙ line.1) ∙ none_made _ _ (elim c.in_default.branch [
      | in_default-via-in-Some+in_default w ↦ inr (cert ∙ sym w.in_default.ensures')
      | in_default-via-in_default w ↦ inl (spec ∙ sym w.in_default.ensures)
    ])
