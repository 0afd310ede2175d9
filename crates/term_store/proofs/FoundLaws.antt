-- Steps of an argument as steps of the whole term.
use Rattle.std.proofs.Common.{◌≡◌, ℕ, zero, suc, ◌<◌, ◌≤◌, List, [], ◌∷◌, ◌++◌, length, slice_get, set, Some, refl, sym, ap, subst, ◌∙◌, inl, inr, ⊎_elim, append_assoc, append-nil, length-append, arith}
use Rattle.std.specs.List.{All, Contains}
use Rattle.std.proofs.lemmas.List.Elements.{Contains-append_left, Contains-push, Contains-push_cases, All-head, All-tail, All-cons}
use Rattle.ranked_terms.specs.declared.term.Term.{Term}
use Rattle.term_store.specs.Store.{applied, Keeps}
use Rattle.term_store.specs.Found.{changed, IsLiftOf, LiftsOne, IsLiftedIn, AreLifted}
use Rattle.term_store.specs.declared.found.Found.{Found}
use Rattle.term_store.proofs.StoreLaws.{applied-front, slice_get-front}
use Rattle.list_laws.proofs.Members.{parts, none}

pub keeps_itself : (terms : List Term) → Keeps terms terms
keeps_itself terms = ([], sym (append-nil terms))

pub keeps_more : (a b c : List Term) → Keeps a b → Keeps b c → Keeps a c
keeps_more a b c k l = (k.0 ++ l.0, l.1 ∙ (ap (λ x. x ++ l.0) k.1 ∙ append_assoc a k.0 l.0))

pub length-keeps : (a b : List Term) → Keeps a b → length a ≤ length b
length-keeps a b k = omega (arith, ap length k.1, length-append a k.0)

All-set : (P : ℕ → Type 0) (xs : List ℕ) (k x : ℕ) → All P xs → P x → All P (set xs k x)
All-set P [] k x h p = h
All-set P (y ∷ xs) zero x h p = All-cons P x xs p (All-tail P y xs h)
All-set P (y ∷ xs) (suc k) x h p = All-cons P y (set xs k x) (All-head P y xs h) (All-set P xs k x (All-tail P y xs h) p)

module _ (f : ℕ) (args : List ℕ) (place : ℕ) (before : List Term) (there : All (λ a. a < length before) args) where
  -- more terms leave the changed term
  pub changed_stays : (mid : List Term) → Keeps before mid → (b : Found) → b.term < length before → changed mid f args place b ≡ changed before f args place b
  changed_stays mid keeps b l =
      ap (λ ts. applied ts f (set args place b.term)) keeps.1
      ∙ applied-front before keeps.0 f (set args place b.term) (All-set (λ a. a < length before) args place b.term there l)

  lift_stays : (mid after : List Term) → Keeps mid after → (b l : Found) → IsLiftOf f args place before mid b l → IsLiftOf f args place before after b l
  lift_stays mid after keeps b l h = record {
    rule = h.rule;
    back = h.back;
    is = ap (λ ts. slice_get ts l.term) keeps.1 ∙ slice_get-front mid keeps.0 l.term _ h.is;
  }

  lift_from : (mid after : List Term) → Keeps before mid → (b l : Found) → b.term < length before → IsLiftOf f args place mid after b l → IsLiftOf f args place before after b l
  lift_from mid after keeps b l t h = record { rule = h.rule; back = h.back; is = h.is ∙ ap Some (changed_stays mid keeps b t) }

  pub no_lift : (old : List Found) → AreLifted f args place before before [] old old
  no_lift old = record { kept = λ g c. c; all = λ g c. absurd (none g c); only = λ g c. inl c }

  -- one step more
  pub lift_more : (mid after : List Term) (done old new : List Found) (b l : Found) → Keeps before mid → Keeps mid after → b.term < length before → AreLifted f args place before mid done old new → IsLiftOf f args place mid after b l
      → AreLifted f args place before after (b ∷ done) old (new ++ l ∷ [])
  lift_more mid after done old new b l keeps later t lifted h = record {
    kept = λ g c. Contains-append_left new (l ∷ []) g (lifted.kept g c);
    all = λ g c. ⊎_elim
        (λ same. subst (IsLiftedIn f args place before after (new ++ l ∷ [])) same (record { lifted = l; member = Contains-push new l; is = lift_from mid after keeps b l t h }))
        (λ rest. let i = lifted.all g rest in record { lifted = i.lifted; member = Contains-append_left new (l ∷ []) i.lifted i.member; is = lift_stays mid after later g i.lifted i.is })
        (parts b g done c);
    only = λ g c. ⊎_elim
        (λ earlier. ⊎_elim (λ o. inl o) (λ i. inr (record { step = i.step; member = behind i.step i.member; is = lift_stays mid after later i.step g i.is })) (lifted.only g earlier))
        (λ same. inr (subst (LiftsOne f args place before after (b ∷ done)) same (record { step = b; member = (0, omega arith, refl); is = lift_from mid after keeps b l t h })))
        (Contains-push_cases new l g c);
  }
    where
      behind : (g : Found) → Contains done g → Contains (b ∷ done) g
      behind g c = (suc c.0, omega (arith, c.1), c.2)
