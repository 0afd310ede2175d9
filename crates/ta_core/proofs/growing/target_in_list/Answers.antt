use Rattle.std.proofs.Common.{◌≡◌, ◌<◌, ◌≤◌, ◌⊎◌, length, Ok, Err, sym, ap, ◌∙◌, subst, inl, inr, arith}
use Rattle.std.proofs.lemmas.Bool.Decides.{nat_tests}
use Rattle.ta_core.specs.KeptAside.{IsLeastOf}
use Rattle.ta_core.proofs.LeastTargets.{gap_at, next_at, none_past, next_tells}
use Rattle.ta_core.proofs.growing.target_in_list.Goals.{in-Ok, in-Err}
use Rattle.ta_core.proofs.growing.target_in_list.Goals as goal

pub returns-in_err-next : goal.returns-in_err-next
returns-in_err-next c =
    let ts = c.args.trans.now in
    let key = c.args.key.now in
    let at = c.match-binary_search.at in
    let is : (c.binary_search.result ≡ Ok at) ⊎ (c.binary_search.result ≡ Err at) = elim c.match-binary_search.branch [ in-Ok w ↦ inl (w.in-Ok.is ∙ ap Ok (sym w.at-is)) | in-Err w ↦ inr (w.in-Err.is ∙ ap Err (sym w.at-is)) ] in
    let gap = gap_at ts key c.binary_search.result at c.requires.sorted c.binary_search.ensures.bound c.binary_search.ensures.position is in
    let past : length ts ≤ at = grind (arith, nat_tests, c.in_err-next.ensures.lookup) in
    subst (IsLeastOf ts key) (sym c.from_residual.ensures) (none_past ts key at c.requires.key gap past)

pub returns : goal.returns
returns c =
    let ts = c.args.trans.now in
    let key = c.args.key.now in
    let at = c.match-binary_search.at in
    let is : (c.binary_search.result ≡ Ok at) ⊎ (c.binary_search.result ≡ Err at) = elim c.match-binary_search.branch [ in-Ok w ↦ inl (w.in-Ok.is ∙ ap Ok (sym w.at-is)) | in-Err w ↦ inr (w.in-Err.is ∙ ap Err (sym w.at-is)) ] in
    let gap = gap_at ts key c.binary_search.result at c.requires.sorted c.binary_search.ensures.bound c.binary_search.ensures.position is in
    let inside : at < length ts = grind (arith, nat_tests, c.in_ok-next.ensures.lookup.0) in
    next_tells ts key c.in_ok-next.next.now c.target_of.result (next_at ts key c.in_ok-next.next.now _ at c.requires.sorted c.requires.key gap inside c.in_ok-next.ensures.lookup.1) c.target_of.ensures.some c.target_of.ensures.none
