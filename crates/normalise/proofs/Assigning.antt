-- What a shape asks of an assignment of states to its variables, so that it makes a configuration; whether some assignment meets it.
use Rattle.std.proofs.Common.{◌≡◌, ℕ, ◌⊎◌, List, [], ◌∷◌, ◌++◌, map, Contains, refl, sym, ap, subst, ◌∙◌, ⊎_elim, inl, inr, cond, eqb, eq-eqb, ne_eqb}
use Rattle.std.specs.List.{AllByRecursion}
use Rattle.ranked_terms.specs.declared.term.Config.{Config}
use Rattle.ranked_terms.specs.declared.term.Config.TheVariants as config
use Rattle.ranked_terms.specs.declared.term.Shape.{Shape}
use Rattle.ranked_terms.specs.declared.term.Shape.TheVariants as shape
use Rattle.ranked_terms.specs.lemmas.TermLaws.{same_application}
use Rattle.list_laws.specs.Lists.{Decided}
use Rattle.list_laws.proofs.Members.{here, there, none, parts}
use Rattle.list_laws.proofs.Decided.{both, same_number, some_member}
use Rattle.ta_core.specs.Acceptance.{image}
use Rattle.normalise.specs.Normalising.{filled}
use Rattle.normalise.specs.AtWork.{Binds}
use Rattle.normalise.proofs.Shapes.{shape_induction, config_cases, same_state, state_no_app, filled_var, filled_state, filled_app}

-- ---- assignments

abbrev pub set_at : (ℕ → ℕ) → ℕ → ℕ → ℕ → ℕ
set_at σ v q w = cond (eqb w v) q (σ w)

pub set_self : (σ : ℕ → ℕ) (v q : ℕ) → set_at σ v q v ≡ q
set_self σ v q = rw (eq-eqb v v refl)

pub set_other : (σ : ℕ → ℕ) (v q w : ℕ) → (w ≡ v → ⊥) → set_at σ v q w ≡ σ w
set_other σ v q w h = rw (ne_eqb w v h)

-- ---- what is asked of an assignment

-- it makes x exactly where it has these states for these variables
pub record Asks (X : Type 0) (make : (ℕ → ℕ) → X) (x : X) : Type 0 where
  pub pairs : List (ℕ × ℕ)
  pub makes : (τ : ℕ → ℕ) → Binds pairs τ → make τ ≡ x
  pub needs : (τ : ℕ → ℕ) → make τ ≡ x → Binds pairs τ

-- or it never makes x
abbrev pub Asked : (X : Type 0) → ((ℕ → ℕ) → X) → X → Type 0
Asked X make x = Asks X make x ⊎ ((τ : ℕ → ℕ) → make τ ≡ x → ⊥)

module _ {X Y : Type 0} (f : (ℕ → ℕ) → X) (g : (ℕ → ℕ) → Y) (x : X) (y : Y) where
  asked_map : ((τ : ℕ → ℕ) → f τ ≡ x → g τ ≡ y) → ((τ : ℕ → ℕ) → g τ ≡ y → f τ ≡ x) → Asked X f x → Asked Y g y
  asked_map to back a =
      ⊎_elim (λ k. inl (record { pairs = k.pairs; makes = λ τ b. to τ (k.makes τ b); needs = λ τ e. k.needs τ (back τ e) })) (λ never. inr (λ τ e. never τ (back τ e))) a

  both_binds : (bs cs : List (ℕ × ℕ)) (τ : ℕ → ℕ) → Binds bs τ → Binds cs τ → Binds (bs ++ cs) τ
  both_binds [] cs τ b c = c
  both_binds (z ∷ bs) cs τ b c = (b.0, both_binds bs cs τ b.1 c)

  each_binds : (bs cs : List (ℕ × ℕ)) (τ : ℕ → ℕ) → Binds (bs ++ cs) τ → Binds bs τ × Binds cs τ
  each_binds [] cs τ h = (tt, h)
  each_binds (z ∷ bs) cs τ h = let k = each_binds bs cs τ h.1 in ((h.0, k.0), k.1)

  pub both_asked : Asked X f x → Asked Y g y → Asked (X × Y) (λ τ. (f τ, g τ)) (x, y)
  both_asked a b =
      ⊎_elim
      (λ k. ⊎_elim
      (λ l. inl (record {
        pairs = k.pairs ++ l.pairs;
        makes = λ τ h. let s = each_binds k.pairs l.pairs τ h in λ i. (k.makes τ s.0 i, l.makes τ s.1 i);
        needs = λ τ e. both_binds k.pairs l.pairs τ (k.needs τ (λ i. (e i).0)) (l.needs τ (λ i. (e i).1));
      }))
      (λ never. inr (λ τ e. never τ (λ i. (e i).1))) b)
      (λ never. inr (λ τ e. never τ (λ i. (e i).0))) a

module _ (h : List ℕ) where
  abbrev IsAsked : Shape → Type 0
  IsAsked s = (c : Config) → Asked Config (λ τ. filled h τ s) c

  var_asked : (v : ℕ) → IsAsked (shape.Var v)
  var_asked v =
      config_cases (λ c. Asked Config (λ τ. filled h τ (shape.Var v)) c)
      (λ q. inl (record {
        pairs = (v, q) ∷ [];
        makes = λ τ b. filled_var h τ v ∙ ap config.State b.0;
        needs = λ τ e. (same_state (τ v) q (sym (filled_var h τ v) ∙ e), tt);
      }))
      (λ f cs. inr (λ τ e. state_no_app (τ v) f cs (sym (filled_var h τ v) ∙ e)))

  state_asked : (q : ℕ) → IsAsked (shape.State q)
  state_asked q =
      config_cases (λ c. Asked Config (λ τ. filled h τ (shape.State q)) c)
      (λ r. ⊎_elim (λ same. inl (record { pairs = []; makes = λ τ b. filled_state h τ q ∙ ap config.State same; needs = λ τ e. tt }))
      (λ differ. inr (λ τ e. differ (same_state (image h q) r (sym (filled_state h τ q) ∙ e)))) (same_number (image h q) r))
      (λ f cs. inr (λ τ e. state_no_app (image h q) f cs (sym (filled_state h τ q) ∙ e)))

  all_asked : (ss : List Shape) → AllByRecursion IsAsked ss → (cs : List Config) → Asked (List Config) (λ τ. map (filled h τ) ss) cs
  all_asked [] each [] = inl (record { pairs = []; makes = λ τ b. refl; needs = λ τ e. tt })
  all_asked [] each (c ∷ cs) = inr (λ τ e. cc)
  all_asked (s ∷ ss) each [] = inr (λ τ e. cc)
  all_asked (s ∷ ss) each (c ∷ cs) =
      asked_map (λ τ. (filled h τ s, map (filled h τ) ss)) (λ τ. map (filled h τ) (s ∷ ss)) (c, cs) (c ∷ cs)
      (λ τ e i. (e i).0 ∷ (e i).1)
      (λ τ e. let a : filled h τ s ≡ c = cc in let b : map (filled h τ) ss ≡ cs = cc in λ i. (a i, b i))
      (both_asked (λ τ. filled h τ s) (λ τ. map (filled h τ) ss) c cs (each.0 c) (all_asked ss each.1 cs))

  app_asked : (f : ℕ) (ss : List Shape) → AllByRecursion IsAsked ss → IsAsked (shape.App f ss)
  app_asked f ss each =
      config_cases (λ c. Asked Config (λ τ. filled h τ (shape.App f ss)) c)
      (λ q. inr (λ τ e. state_no_app q f (map (filled h τ) ss) (sym e ∙ filled_app h τ f ss)))
      (λ g cs. ⊎_elim
      (λ same. asked_map (λ τ. map (filled h τ) ss) (λ τ. filled h τ (shape.App f ss)) cs (config.App g cs)
      (λ τ e. filled_app h τ f ss ∙ (λ i. config.App (same i) (e i)))
      (λ τ e. (same_application f g (map (filled h τ) ss) cs (sym (filled_app h τ f ss) ∙ e)).1)
      (all_asked ss each cs))
      (λ differ. inr (λ τ e. differ (same_application f g (map (filled h τ) ss) cs (sym (filled_app h τ f ss) ∙ e)).0))
      (same_number f g))

  pub asked : (s : Shape) (c : Config) → Asked Config (λ τ. filled h τ s) c
  asked = shape_induction IsAsked var_asked state_asked app_asked

-- ---- whether some assignment meets it

abbrev Clash : ℕ → ℕ → ℕ × ℕ → Type 0
Clash v q b = (b.0 ≡ v) × (b.1 ≡ q → ⊥)

clash_known : (v q : ℕ) (b : ℕ × ℕ) → Decided (Clash v q b)
clash_known v q b = both (same_number b.0 v) (⊎_elim (λ same. inr (λ differ. differ same)) (λ differ. inl differ) (same_number b.1 q))

pub bound_at : (bs : List (ℕ × ℕ)) (τ : ℕ → ℕ) (b : ℕ × ℕ) → Binds bs τ → Contains bs b → τ b.0 ≡ b.1
bound_at [] τ b h c = absurd (none b c)
bound_at (z ∷ bs) τ b h c = ⊎_elim (λ same. subst (λ (w : ℕ × ℕ). τ w.0 ≡ w.1) same h.0) (λ later. bound_at bs τ b h.1 later) (parts z b bs c)

pub still_bound : (bs : List (ℕ × ℕ)) (τ : ℕ → ℕ) (v q : ℕ) → Binds bs τ → ((b : ℕ × ℕ) → Contains bs b → Clash v q b → ⊥) → Binds bs (set_at τ v q)
still_bound [] τ v q h free = tt
still_bound (z ∷ bs) τ v q h free = (
  ⊎_elim (λ same. ap (set_at τ v q) same ∙ (set_self τ v q ∙ ⊎_elim (λ e. sym e) (λ differ. absurd (free z (here z bs) (same, differ))) (same_number z.1 q)))
      (λ differ. set_other τ v q z.0 differ ∙ h.0) (same_number z.0 v),
  still_bound bs τ v q h.1 (λ b c k. free b (there z b bs c) k),
)

pub bound_known : (bs : List (ℕ × ℕ)) → Decided ((τ : ℕ → ℕ) × Binds bs τ)
bound_known [] = inl (λ v. 0, tt)
bound_known (z ∷ bs) =
    ⊎_elim
    (λ s. ⊎_elim (λ clash. inr (λ k. clash.2.1 (sym (bound_at bs k.0 clash.0 k.1.1 clash.1) ∙ (ap k.0 clash.2.0 ∙ k.1.0))))
    (λ free. inl (set_at s.0 z.0 z.1, (set_self s.0 z.0 z.1, still_bound bs s.0 z.0 z.1 s.1 (λ b c k. free (b, c, k)))))
    (some_member (clash_known z.0 z.1) bs))
    (λ never. inr (λ k. never (k.0, k.1.1)))
    (bound_known bs)
