-- A round: what the transitions make of the pairs that are there.
use Rattle.std.proofs.Common.{◌≡◌, ℕ, ◌+◌, ◌<◌, Bool, List, [], map, take, length, get_or, refl, sym, ap, subst, ◌∙◌, inl, inr, ⊎_elim}
use Rattle.std.specs.List.{Contains}
use Rattle.std.proofs.lemmas.List.{take_more}
use Rattle.std.proofs.lemmas.List.Elements.{All-contains, Contains-push_cases}
use Rattle.ranked_terms.specs.Terms.{node, size_of}
use Rattle.ranked_terms.specs.declared.term.Term.{Term}
use Rattle.ta_core.specs.TreeAutomaton.{TreeAutomaton, IsSound, IsTransOf, trans_of}
use Rattle.ta_core.specs.Runs.{Runs, Reaches}
use Rattle.ta_core.specs.declared.trans.Trans.{Trans}
use Rattle.ta_core.specs.lemmas.RunsLaws.{reached, run_of_state}
use Rattle.term_store.specs.Store.{term_at, applied, Keeps}
use Rattle.derive_search.specs.Made.{IsMade}
use Rattle.derive_search.specs.LowPairs.{named_pairs, ArePlaced, Grows, HasEach, AreKnown, IsGrouped, IsChoice, IsLargeChoice, IsMadeBy, IsNextRound, MakesLarge}
use Rattle.derive_search.proofs.pairs.LowPairLaws.{grows_by, grows_more, has_stays, placed_now}
use Rattle.derive_search.proofs.pairs.CombineLaws.{applied_stays, choice_there}
use Rattle.derive_search.proofs.pairs.KnownLaws.{choose, chosen_there}

module _ (A : TreeAutomaton) (sound : IsSound A) (start : List Term) (pairs : List (ℕ × ℕ)) (first : ℕ) (is_first : Bool) (known : List (List (ℕ × Bool))) (group : IsGrouped pairs first (length pairs) known) (placed : ArePlaced start pairs) where
  pub are_known : AreKnown start known
  are_known q id fresh c = All-contains (λ (p : ℕ × ℕ). p.1 < length start) pairs (q, id) placed (group.only q id fresh c)

  abbrev Made : ℕ × Term → Type 0
  Made = IsMade A (named_pairs start pairs)

  module _ (now : List Term) (keeps : Keeps start now) (t : Trans) (member : Contains A.trans t) where
    same : (ids : List ℕ) → IsChoice known is_first t.args ids → applied now t.sym ids ≡ applied start t.sym ids
    same ids c = applied_stays start now keeps t.sym ids (choice_there start known are_known is_first t.args ids c)

    pub made_down : (pair : ℕ × Term) → IsMadeBy A now known is_first t pair → Made pair
    made_down pair h = record {
      sym = t.sym;
      states = t.args;
      args = map (term_at start) h.ids;
      target = t.to;
      has = member;
      fit = chosen_there start pairs first known group is_first t.args h.ids h.choice;
      on = (run_of_state t.to pair.0 h.runs).1;
      is = h.is ∙ same h.ids h.choice;
    }

    pub large_down : IsLargeChoice now t.sym [] known is_first t.args → MakesLarge A (named_pairs start pairs)
    large_down h = record {
      pair = (t.to, applied start t.sym h.ids);
      made = record {
        sym = t.sym;
        states = t.args;
        args = map (term_at start) h.ids;
        target = t.to;
        has = member;
        fit = chosen_there start pairs first known group is_first t.args h.ids h.choice;
        on = Reaches.here;
        is = refl;
      };
      large = subst (λ u. 1024 < size_of u) (same h.ids h.choice) h.large;
    }

    made_up : (pair : ℕ × Term) → IsMadeBy A start known is_first t pair → IsMadeBy A now known is_first t pair
    made_up pair h = record { ids = h.ids; choice = h.choice; runs = h.runs; is = h.is ∙ sym (same h.ids h.choice) }

    -- one transition more
    module _ (after : List Term) (mid new : List (ℕ × ℕ)) (g : Grows start now pairs mid Made) (h : Grows now after mid new (IsMadeBy A now known is_first t)) where
      pub round_grown : Grows start after pairs new Made
      round_grown = grows_more Made start now after pairs mid new g (grows_by (IsMadeBy A now known is_first t) Made made_down now after mid new h)

      pub round_each : (items : List Trans) (k : ℕ) → k < length items → t ≡ get_or items k t → HasEach after new (IsMadeBy A now known is_first t)
          → ((pair : ℕ × Term) (u : Trans) → Contains (take k items) u → IsMadeBy A start known is_first u pair → Contains (named_pairs now mid) pair)
          → (pair : ℕ × Term) (u : Trans) → Contains (take (k + 1) items) u → IsMadeBy A start known is_first u pair → Contains (named_pairs after new) pair
      round_each items k l is all before pair u c m = ⊎_elim
          (λ old. has_stays (IsMadeBy A now known is_first t) now after mid new (placed_now Made start now pairs mid placed g) h pair (before pair u old m))
          (λ e. all pair (made_up pair (subst (λ u. IsMadeBy A start known is_first u pair) (sym (is ∙ e)) m)))
          (Contains-push_cases (take k items) (get_or items k t) u (subst (λ xs. Contains xs u) (take_more items k t l) c))

  -- after all transitions
  pub round_closed : (now : List Term) (new : List (ℕ × ℕ)) → ((pair : ℕ × Term) (u : Trans) → Contains A.trans u → IsMadeBy A start known is_first u pair → Contains (named_pairs now new) pair) → IsNextRound A start pairs first is_first now new
  round_closed now new all pair m =
      let c = choose start pairs first known group is_first m.states m.args m.fit in ⊎_elim
      (λ choice. inl (all pair (trans_of m.sym m.states m.target) m.has (record {
        ids = c.0;
        choice = choice;
        runs = reached (Runs.at (All-contains (IsTransOf A.states) A.trans (trans_of m.sym m.states m.target) sound.trans m.has).to) m.on;
        is = m.is ∙ ap (node m.sym) (sym c.1);
      })))
      (λ old. inr (old.0, record { sym = m.sym; states = m.states; args = m.args; target = m.target; has = m.has; fit = old.1; on = m.on; is = m.is }))
      c.2
