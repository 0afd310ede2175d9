-- Each number has a stage.
use Rattle.std.proofs.Common.{◌≡◌, ℕ, zero, suc, ◌+◌, ◌<◌, ◌==◌, List, All, refl, sym, subst, ⊎_elim, arith}
use Rattle.std.proofs.lemmas.List.Elements.{All-contains, All-filter}
use Rattle.list_laws.proofs.Members.{all_from_members}
use Rattle.trs_rules.specs.Rules.{RewriteEquation, IsEquation}
use Rattle.ta_core.specs.TreeAutomaton.{TreeAutomaton}
use Rattle.ta_core.specs.ClosureLaws.{OpenPairsAreListed, OpenPairsAreOpenTriples}
use Rattle.ta_core.specs.Acceptance.{image}
use Rattle.ta_core.specs.declared.spec.Spec.{Spec}
use Rattle.normalise.specs.NormalisingLaws.{AllAreNormalised, NormalisedAllGrows, IsGrown, NamesRule}
use Rattle.eq_merge.specs.Quotients.{apart, joining, followed}
use Rattle.eq_merge.specs.Merging.{Merged}
use Rattle.eq_merge.specs.MergingLaws.{MergedIsThere}
use Rattle.completion.specs.Stages.{started, context_of, IsStage}
use Rattle.completion.specs.StagesLaws.{StagesAreThere}
use Rattle.completion.proofs.Sequences.{range_had}
use Rattle.completion.proofs.Carrying.{first_states}

-- ---- each state is below `next`

abbrev Below : TreeAutomaton → Type 0
Below A = All (λ q. q < A.next) A.states

merged_below : {E : List RewriteEquation} {A B : TreeAutomaton} {h : List ℕ} → Merged E A B h → Below A → Below B
merged_below (Merged.done empty) below = below
merged_below (Merged.join {A = A} {p = p} {q = q} forced rest) below = merged_below rest (All-filter (λ r. image (joining A.next p q) r == r) (λ r. r < A.next) A.states below)

grown_below : (A B : TreeAutomaton) → IsGrown A B → Below A → Below B
grown_below A B grows below =
    all_from_members (λ q. q < B.next) B.states (λ q c.
    ⊎_elim (λ old. let b = All-contains (λ q. q < A.next) A.states q below old in let n = grows.next in omega (arith, b, n)) (λ new. new.1) (grows.added q c))

first_below : (spec : Spec) → Below (started spec)
first_below spec =
    let next = spec.initial.next + spec.extra in
    subst (All (λ q. q < next)) (sym (first_states spec)) (all_from_members (λ q. q < next) (apart next) (λ q c. let b = (range_had 0 next q c).1 in omega (arith, b)))

-- ---- from stage to stage

record Reached (spec : Spec) (i : ℕ) : Type 0 where
  pub automaton : TreeAutomaton
  pub places : List ℕ
  pub stage : IsStage spec i automaton places
  pub below : Below automaton

module _ (listed : OpenPairsAreListed) (exact : OpenPairsAreOpenTriples) (normalised : AllAreNormalised) (grow : NormalisedAllGrows) (merging : MergedIsThere) where
  next_stage : (spec : Spec) → All IsEquation spec.equations → (i : ℕ) → Reached spec i → Reached spec (i + 1)
  next_stage spec are i r =
      let A = r.automaton in
      let context = context_of spec r.places in
      let open_ones = listed A spec.rules in
      let names : All (NamesRule spec.rules) open_ones.0 =
      all_from_members (NamesRule spec.rules) open_ones.0 (λ pair c. let t = ((exact A spec.rules open_ones.0 open_ones.1 pair).0 c).triple in (t.rule, t.is_rule)) in
      let g = normalised context A open_ones.0 names in
      let below = grown_below A g.grown (grow context A g.grown open_ones.0 g.normalised) r.below in
      let m = merging spec.equations g.grown are below in
      record {
        automaton = m.automaton;
        places = followed r.places m.classes;
        stage = IsStage.round r.stage (record { pairs = open_ones.0; are_open = open_ones.1; grown = g.grown; normalised = g.normalised; classes = m.classes; merged = m.merged; places = refl });
        below = merged_below m.merged below;
      }

  reached : (spec : Spec) → All IsEquation spec.equations → (i : ℕ) → Reached spec i
  reached spec are zero = record { automaton = started spec; places = apart (started spec).next; stage = IsStage.start; below = first_below spec }
  reached spec are (suc i) = let e : i + 1 ≡ suc i = omega arith in subst (Reached spec) e (next_stage spec are i (reached spec are i))

  pub stages_are_there : StagesAreThere
  stages_are_there spec are i = let r = reached spec are i in record { automaton = r.automaton; places = r.places; stage = r.stage }
