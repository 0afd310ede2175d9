-- What is collected of a side's groups are its ends.
use Rattle.std.proofs.Common.{◌≡◌, ◌↔◌, ◌⊎◌, ℕ, ◌+◌, ◌<◌, ◌==◌, Bool, true, false, not, IsTrue, List, [], ◌∷◌, ◌++◌, map, take, get_or, slice_index, length, Contains, refl, sym, ap, subst, ◌∙◌, ⊎_elim, inl, inr}
use Rattle.std.specs.List.{position_or_len}
use Rattle.std.proofs.lemmas.List.{take_more, map-append}
use Rattle.std.proofs.lemmas.List.Elements.{Contains-append_left, Contains-append_right, Contains-append_cases}
use Rattle.list_laws.proofs.Members.{here, there, none, parts, map_has, map_had}
use Rattle.ranked_terms.specs.Terms.{variables_of}
use Rattle.ranked_terms.specs.declared.term.Pattern.{Pattern}
use Rattle.ta_core.specs.TreeAutomaton.{TreeAutomaton, trans_of}
use Rattle.ta_core.specs.Closure.{state_in}
use Rattle.ta_core.specs.declared.trans.Trans.{Trans}
use Rattle.state_match.specs.Visits.{GoneThrough}
use Rattle.state_match.specs.Groups.{Group, after, TookAll, TookUpTo}
use Rattle.state_match.specs.Matches.{MatchesAt}
use Rattle.eq_merge.specs.Ends.{EndsAt, AddsEnds, end_of, states_at, places_of}
use Rattle.eq_merge.specs.declared.ends.Collecting.{Collecting}
use Rattle.eq_merge.proofs.finding.PlainParts.{plain_match, any_match}

pub map_more : {X Y : Type 0} (f : X → Y) (xs : List X) (i : ℕ) (d : X) → i < length xs → map f (take (i + 1) xs) ≡ map f (take i xs) ++ f (get_or xs i d) ∷ []
map_more f xs i d l = ap (map f) (take_more xs i d l) ∙ map-append f (take i xs) (get_or xs i d ∷ [])

-- ---- one group

-- an end of the group
pub record IsOfGroup (side : ℕ) (places : List ℕ) (g : Group) (t : Trans) : Type 0 where
  pub symbol : t.sym ≡ side
  pub args : t.args ≡ states_at places g.sigma
  pub to : Contains g.states t.to

of_group : (side : ℕ) (places : List ℕ) (g : Group) (t : Trans) → Contains (map (end_of side (states_at places g.sigma)) g.states) t → IsOfGroup side places g t
of_group side places g t c =
    let h = map_had (end_of side (states_at places g.sigma)) g.states t c in
    record {
      symbol = ap (λ (x : Trans). x.sym) (sym h.2);
      args = ap (λ (x : Trans). x.args) (sym h.2);
      to = subst (Contains g.states) (ap (λ (x : Trans). x.to) h.2) h.1;
    }

in_group : (side : ℕ) (places : List ℕ) (g : Group) (t : Trans) → IsOfGroup side places g t → Contains (map (end_of side (states_at places g.sigma)) g.states) t
in_group side places g t h = map_has (end_of side (states_at places g.sigma)) g.states t.to t h.to (sym (λ i. trans_of (h.symbol i) (h.args i) t.to))

-- ---- all groups

record OfSome (side : ℕ) (places : List ℕ) (gs : List Group) (t : Trans) : Type 0 where
  pub group : Group
  pub has : Contains gs group
  pub is : IsOfGroup side places group t

record HasTaken (u : Collecting) (gs : List Group) (v : Collecting) : Type 0 where
  pub side : v.side ≡ u.side
  pub places : v.places ≡ u.places
  pub forth : (t : Trans) → Contains v.ends t → Contains u.ends t ⊎ OfSome u.side u.places gs t
  pub kept : (t : Trans) → Contains u.ends t → Contains v.ends t
  pub taken : (t : Trans) → OfSome u.side u.places gs t → Contains v.ends t

all_taken : {u v : Collecting} {gs : List Group} → GoneThrough AddsEnds u gs v → HasTaken u gs v
all_taken GoneThrough.none = record { side = refl; places = refl; forth = λ t c. inl c; kept = λ t c. c; taken = λ t o. absurd (none o.group o.has) }
all_taken {u = u} (GoneThrough.more {v = m} {w = w} {x = g} {xs = gs} adds rest) =
    let h = all_taken rest in
    let more = map (end_of u.side (states_at u.places g.sigma)) g.states in
    let back : (t : Trans) → OfSome m.side m.places gs t → OfSome u.side u.places gs t = λ t o. subst (λ s. OfSome s u.places gs t) adds.side (subst (λ ps. OfSome m.side ps gs t) adds.places o) in
    let forth : (t : Trans) → OfSome u.side u.places gs t → OfSome m.side m.places gs t =
    λ t o. subst (λ s. OfSome s m.places gs t) (sym adds.side) (subst (λ ps. OfSome u.side ps gs t) (sym adds.places) o) in
    record {
      side = h.side ∙ adds.side;
      places = h.places ∙ adds.places;
      forth = λ t c. ⊎_elim
          (λ before. ⊎_elim (λ i. inl i) (λ i. inr (record { group = g; has = here g gs; is = of_group u.side u.places g t i }))
          (Contains-append_cases u.ends more t (subst (λ es. Contains es t) adds.ends before)))
          (λ o. let k = back t o in inr (record { group = k.group; has = there g k.group gs k.has; is = k.is })) (h.forth t c);
      kept = λ t c. h.kept t (subst (λ es. Contains es t) (sym adds.ends) (Contains-append_left u.ends more t c));
      taken = λ t o. ⊎_elim
          (λ same. h.kept t (subst (λ es. Contains es t) (sym adds.ends) (Contains-append_right u.ends more t (in_group u.side u.places g t (subst (λ x. IsOfGroup u.side u.places x t) (sym same) o.is)))))
          (λ later. h.taken t (forth t (record { group = o.group; has = later; is = o.is }))) (parts g o.group gs o.has);
    }

-- ---- the ends of a side

pub states_are : (vars shared σ : List ℕ) → states_at (places_of vars shared) σ ≡ map (state_in vars σ) shared
states_are vars [] σ = refl
states_are vars (v ∷ shared) σ = λ i. slice_index σ (position_or_len (λ w. v == w) vars) ∷ states_are vars shared σ i

pub side_exact : (A : TreeAutomaton) → A.eps ≡ [] → (p : Pattern) (vars shared : List ℕ) (side : ℕ) (u v : Collecting) → vars ≡ variables_of p → u.side ≡ side → u.places ≡ places_of vars shared → u.ends ≡ [] →
    TookAll AddsEnds (MatchesAt false A vars p) [] u v → (t : Trans) → Contains v.ends t ↔ ((t.sym ≡ side) × EndsAt A p shared t.args t.to)
side_exact A no_eps p vars shared side u v vars-are side-is places-are empty took t =
    subst (λ vs. TookAll AddsEnds (MatchesAt false A vs p) [] u v → u.places ≡ places_of vs shared → Contains v.ends t ↔ ((t.sym ≡ side) × EndsAt A p shared t.args t.to)) (sym vars-are) exact took places-are
  where
    exact : TookAll AddsEnds (MatchesAt false A (variables_of p) p) [] u v → u.places ≡ places_of (variables_of p) shared → Contains v.ends t ↔ ((t.sym ≡ side) × EndsAt A p shared t.args t.to)
    exact all places = (
      λ c. ⊎_elim
          (λ i. absurd (none t (subst (λ es. Contains es t) empty i)))
          (λ o.
          let g = map_had (after []) all.groups o.group o.has in
          let σ-is : o.group.sigma ≡ g.0.sigma = ap (λ (x : Group). x.sigma) (sym g.2) in
          let in-g : Contains g.0.states t.to = subst (λ (x : Group). Contains x.states t.to) (sym g.2) o.is.to in (
            o.is.symbol ∙ side-is,
            record {
              σ = g.0.sigma;
              is_match = plain_match no_eps (((all.are.each g.0 g.1).states.exact t.to).0 in-g);
              same = o.is.args ∙ ((λ i. states_at (places i) (σ-is i)) ∙ states_are (variables_of p) shared g.0.sigma);
            },
          )) ((all_taken all.gone).forth t c),
      λ h.
          let found = any_match no_eps h.1.is_match in
          let g = all.are.all h.1.σ t.to found in
          (all_taken all.gone).taken t (record {
            group = after [] g.group;
            has = map_has (after []) all.groups g.group (after [] g.group) g.has refl;
            is = record {
              symbol = h.0 ∙ sym side-is;
              args = h.1.same ∙ (sym (states_are (variables_of p) shared h.1.σ) ∙ sym (λ i. states_at (places i) (g.same i)));
              to = ((all.are.each g.group g.has).states.exact t.to).1 (subst (λ σ. MatchesAt false A (variables_of p) p σ t.to) (sym g.same) found);
            };
          }),
    )

-- the visitor never ends before all
pub goes_on : {P : List ℕ → ℕ → Type 0} {u v : Collecting} {X : Type 0} (on : Bool) → (IsTrue on → X) → (IsTrue (not on) → TookUpTo AddsEnds (λ u g v. ⊥) P [] u v) → X
goes_on true whole ended = whole refl
goes_on false whole ended = absurd ((ended refl).over)
