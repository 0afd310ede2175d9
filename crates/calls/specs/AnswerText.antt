-- How the answers of `check` are told. This project's own.
use Rattle.std.specs.Prelude.{ℕ, List, [], ◌∷◌, ◌++◌, codes}
use Rattle.std.specs.Fmt.{decimal}
use Rattle.trs_rules.specs.declared.sigma.Pair.{Pair}
use Rattle.closure_check.specs.declared.answer.Missing.{Missing}
use Rattle.closure_check.specs.declared.answer.Missing.TheVariants as missing
use Rattle.closure_check.specs.declared.answer.Answer.{Answer}
use Rattle.closure_check.specs.declared.answer.Answer.TheVariants as answer
use Rattle.closure_check.specs.declared.replaying.DAnswer.{DAnswer}
use Rattle.closure_check.specs.declared.replaying.DAnswer.TheVariants as derivation
use Rattle.calls.specs.declared.status.Status.{Status}
use Rattle.calls.specs.declared.status.Status.TheVariants.{Accepted, Rejected}

abbrev pub line : List ℕ → List ℕ
line text = text ++ 10 ∷ []

-- each of the states, behind a comma
abbrev pub further_text : List ℕ → List ℕ
further_text [] = []
further_text (q ∷ qs) = 44 ∷ (decimal q ++ further_text qs)

-- the states of an assignment, and `-` where the rule has no variable
abbrev pub sigma_text : List ℕ → List ℕ
sigma_text [] = codes "-"
sigma_text (q ∷ qs) = decimal q ++ further_text qs

abbrev pub missing_text : Missing → List ℕ
missing_text (missing.Transition i) = codes "transition " ++ decimal i
missing_text (missing.Epsilon i) = codes "epsilon " ++ decimal i
missing_text (missing.Final q) = codes "final " ++ decimal q

abbrev pub pair_text : Pair → List ℕ
pair_text pair = codes "rule " ++ (decimal pair.rule ++ (codes " sigma " ++ (sigma_text pair.sigma ++ (codes " state " ++ (decimal pair.state ++ 10 ∷ [])))))

-- of an automaton with its map
abbrev pub automaton_line : Answer → List ℕ
automaton_line answer.Yes = codes "Accepted unreachable\n"
automaton_line (answer.NotContained missing) = codes "Rejected not contained " ++ line (missing_text missing)
automaton_line (answer.Open pair) = codes "Rejected open " ++ pair_text pair
automaton_line (answer.Meets p q) = codes "Rejected meets " ++ line (decimal p ++ 32 ∷ decimal q)

abbrev pub automaton_status : Answer → Status
automaton_status answer.Yes = Accepted
automaton_status _ = Rejected

-- of a derivation
abbrev pub derivation_line : DAnswer → List ℕ
derivation_line derivation.Yes = codes "Accepted reachable\n"
derivation_line derivation.Start = codes "Rejected start\n"
derivation_line (derivation.Step number) = codes "Rejected step " ++ line (decimal number)
derivation_line derivation.End = codes "Rejected end\n"

abbrev pub derivation_status : DAnswer → Status
derivation_status derivation.Yes = Accepted
derivation_status _ = Rejected

-- ---- the words

-- where the words are no command line
abbrev pub usage : List ℕ
usage = codes "usage: timbuk complete FILE [OPTIONS] | check SPEC CERT | ta OP FILE [--limit N] | browse SPEC SCRIPT | sample N\n"
