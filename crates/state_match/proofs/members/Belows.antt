-- What a pattern can run to at all.
use Rattle.std.proofs.Common.{◌≡◌, ◌↔◌, ◌<◌, ◌≤◌, ◌+◌, ℕ, zero, suc, List, [], ◌∷◌, ◌++◌, length, take, drop, map, get_or, refl, sym, ap, ◌∙◌, subst, Some}
use Rattle.std.specs.List.{Contains, AllZip, slice_get}
use Rattle.std.proofs.lemmas.List.{take_more, take_all}
use Rattle.std.proofs.lemmas.Option.{slice_get_read}
use Rattle.ranked_terms.specs.Terms.{assigned}
use Rattle.ranked_terms.specs.declared.term.Pattern.{Pattern, Var, App as App'}
use Rattle.ranked_terms.specs.declared.term.Pattern.TheOpen as pattern_layer
use Rattle.ranked_terms.specs.declared.term.Pattern.TheVariants.{rolls-App}
use Rattle.ranked_terms.specs.declared.term.Pattern.TheViews.{out-Pattern, out-roll-Pattern}
use Rattle.ranked_terms.specs.declared.term.Config.{Config}
use Rattle.ranked_terms.specs.lemmas.TermLaws.{assigned_app}
use Rattle.ta_core.specs.TreeAutomaton.{TreeAutomaton, IsSound}
use Rattle.ta_core.specs.Runs.{Runs, RunsAll}
use Rattle.ta_core.specs.Reached.{EntersAndReaches}
use Rattle.ta_core.specs.lemmas.RunsLaws.{run_of_app, run_ends}
use Rattle.state_match.specs.Belows.{RunsInto, IsBelow}
use Rattle.state_match.specs.declared.below.Below.{Below}
use Rattle.state_match.specs.declared.below.Below.TheViews.{out-Below}

-- ---- lists side by side

module _ {X Y : Type 0} (R : X → Y → Type 0) where
  pub zip_more : (xs : List X) (ys : List Y) (x : X) (y : Y) → AllZip R xs ys → R x y → AllZip R (xs ++ x ∷ []) (ys ++ y ∷ [])
  zip_more [] [] x y z r = (r, tt)
  zip_more [] (b ∷ ys) x y z r = absurd z
  zip_more (a ∷ xs) [] x y z r = absurd z
  zip_more (a ∷ xs) (b ∷ ys) x y z r = (z.0, zip_more xs ys x y z.1 r)

  pub zip_long : (xs : List X) (ys : List Y) → AllZip R xs ys → length ys ≡ length xs
  zip_long [] [] z = refl
  zip_long [] (b ∷ ys) z = absurd z
  zip_long (a ∷ xs) [] z = absurd z
  zip_long (a ∷ xs) (b ∷ ys) z = ap suc (zip_long xs ys z.1)

  pub zip_from : (k : ℕ) (xs : List X) (ys : List Y) → AllZip R xs ys → AllZip R (drop k xs) (drop k ys)
  zip_from zero xs ys z = z
  zip_from (suc k) [] [] z = tt
  zip_from (suc k) [] (b ∷ ys) z = absurd z
  zip_from (suc k) (a ∷ xs) [] z = absurd z
  zip_from (suc k) (a ∷ xs) (b ∷ ys) z = zip_from k xs ys z.1

  pub zip_at : (k : ℕ) (xs : List X) (ys : List Y) (x : X) (y : Y) → AllZip R xs ys → slice_get xs k ≡ Some x → slice_get ys k ≡ Some y → R x y
  zip_at k [] ys x y z e f = absurd (cc)
  zip_at k (a ∷ xs) [] x y z e f = absurd z
  zip_at zero (a ∷ xs) (b ∷ ys) x y z e f = subst (λ b. R x b) (some_is f) (subst (λ a. R a b) (some_is e) z.0)
    where
      some_is : {Z : Type 0} {v w : Z} → Some v ≡ Some w → v ≡ w
      some_is e = cc
  zip_at (suc k) (a ∷ xs) (b ∷ ys) x y z e f = zip_at k xs ys x y z.1 e f

  -- one more of a list
  pub zip_next : (xs : List X) (i : ℕ) (x : X) (ys next : List Y) (y : Y) → i < length xs → x ≡ get_or xs i x → AllZip R (take i xs) ys → R x y → next ≡ ys ++ y ∷ [] → AllZip R (take (i + 1) xs) next
  zip_next xs i x ys next y l e z r n =
      let more : take (i + 1) xs ≡ take i xs ++ x ∷ [] = take_more xs i x l ∙ ap (λ a. take i xs ++ a ∷ []) (sym e) in
      subst (λ zs. AllZip R zs next) (sym more) (subst (AllZip R (take i xs ++ x ∷ [])) (sym n) (zip_more (take i xs) ys x y z r))

-- ---- sets that have all to which the arguments run

module _ (A : TreeAutomaton) where
  abbrev pub Into : List Config → List (List ℕ) → Type 0
  Into cs sets = AllZip (λ c set. (q : ℕ) → Runs A c q → Contains set q) cs sets

  pub into_given : (σ : ℕ → ℕ) (ps : List Pattern) (sets : List (List ℕ)) → AllZip (RunsInto A) ps sets → Into (map (assigned σ) ps) sets
  into_given σ [] [] z = tt
  into_given σ [] (s ∷ sets) z = absurd z
  into_given σ (p ∷ ps) [] z = absurd z
  into_given σ (p ∷ ps) (s ∷ sets) z = (z.0 σ, into_given σ ps sets z.1)

  pub into_runs : {cs : List Config} {qs : List ℕ} (sets : List (List ℕ)) → Into cs sets → RunsAll A cs qs → AllZip Contains sets qs
  into_runs [] z RunsAll.none = tt
  into_runs (s ∷ sets) z RunsAll.none = absurd z
  into_runs [] z (RunsAll.more r rs) = absurd z
  into_runs (s ∷ sets) z (RunsAll.more r rs) = (z.0 _ r, into_runs sets z.1 rs)

  -- a pattern runs to what its symbol leads to from these
  pub app_into : (p : Pattern) (f : ℕ) (args : List Pattern) (sets : List (List ℕ)) (set : List ℕ) → p ≡ App' f args → AllZip (RunsInto A) args sets → ((q : ℕ) → Contains set q ↔ EntersAndReaches A f sets q) → RunsInto A p set
  app_into p f args sets set e z exact σ q r =
      let g : Pattern → Config = assigned σ in
      let a = run_of_app f (map g args) q (subst (λ c. Runs A c q) (ap g e ∙ assigned_app σ f args) r) in
      (exact q).1 (record { target = a.target; enters = record { args = a.states; fit = into_runs sets (into_given σ args sets z) a.args; has = a.has }; reaches = a.on })

  pub state_into : IsSound A → (p : Pattern) (set : List ℕ) → set ≡ A.states → RunsInto A p set
  state_into sound p set e σ q r = subst (λ xs. Contains xs q) (sym e) (run_ends sound r)

  -- ---- what is below a pattern

  -- the arguments of a pattern, if it is no variable
  abbrev arguments : pattern_layer.Pattern-F Pattern → List Pattern
  arguments (pattern_layer.Var v) = []
  arguments (pattern_layer.App f ps) = ps

  arguments_app : (f : ℕ) (ps : List Pattern) → arguments (out-Pattern (App' f ps)) ≡ ps
  arguments_app f ps = ap (λ p. arguments (out-Pattern p)) (sym (rolls-App f ps)) ∙ ap arguments (out-roll-Pattern (pattern_layer.App f ps))

  pub same_arguments : (f g : ℕ) (ps qs : List Pattern) → App' f ps ≡ App' g qs → ps ≡ qs
  same_arguments f g ps qs e = sym (arguments_app f ps) ∙ (ap (λ p. arguments (out-Pattern p)) e ∙ arguments_app g qs)

  pub sets_below : (p : Pattern) (b : Below) → IsBelow A p b → (f : ℕ) (args : List Pattern) → p ≡ App' f args → AllZip (RunsInto A) args (out-Below b).sets.items
  sets_below p b (IsBelow.is s l d) = s

  pub as_many_below : (p : Pattern) (b : Below) → IsBelow A p b → (f : ℕ) (args : List Pattern) → p ≡ App' f args → length (out-Below b).args.items ≡ length args
  as_many_below p b (IsBelow.is s l d) = l

  pub deeper_below : (p : Pattern) (b : Below) → IsBelow A p b → (f : ℕ) (args : List Pattern) → p ≡ App' f args → (i : ℕ) (arg : Pattern) (deeper : Below) → slice_get args i ≡ Some arg → slice_get (out-Below b).args.items i ≡ Some deeper → IsBelow A arg deeper
  deeper_below p b (IsBelow.is s l d) = d

  pub sets_long : (p : Pattern) (b : Below) → IsBelow A p b → (f : ℕ) (args : List Pattern) → p ≡ App' f args → length (out-Below b).sets.items ≡ length args
  sets_long p b below f args e = zip_long (RunsInto A) args (out-Below b).sets.items (sets_below p b below f args e)

  -- what is below an argument, by its place
  pub below_argument : (p : Pattern) (b : Below) → IsBelow A p b → (f : ℕ) (args items : List Pattern) → p ≡ App' f args → items ≡ args → (i : ℕ) (arg : Pattern) (deeper : Below) → i < length items → arg ≡ get_or items i arg →
      deeper ≡ get_or (out-Below b).args.items i deeper → IsBelow A arg deeper
  below_argument p b below f args items e same i arg deeper l at there =
      let many : length (out-Below b).args.items ≡ length items = as_many_below p b below f args e ∙ ap (λ (ps : List Pattern). length ps) (sym same) in
      deeper_below p b below f args e i arg deeper (ap (λ (ps : List Pattern). slice_get ps i) (sym same) ∙ slice_get_read items (length items) i arg refl l at)
      (slice_get_read (out-Below b).args.items (length items) i deeper (sym many) l there)

  pub below_variable : (p : Pattern) (b : Below) (v : ℕ) → p ≡ Var v → IsBelow A p b
  below_variable p b v e =
      let never : (f : ℕ) (args : List Pattern) → p ≡ App' f args → ⊥ = λ f args h. let same : Var v ≡ App' f args = sym e ∙ h in cc in
      IsBelow.is (λ f args h. absurd (never f args h)) (λ f args h. absurd (never f args h)) (λ f args h. absurd (never f args h))

  -- a pattern whose arguments are these
  pub below_app : (p : Pattern) (sym' : ℕ) (args items : List Pattern) (i : ℕ) (sets : List (List ℕ)) (belows : List Below) (b : Below) → p ≡ App' sym' args → items ≡ args → length items ≤ i → (out-Below b).sets.items ≡ sets → (out-Below b).args.items ≡ belows →
      AllZip (RunsInto A) (take i items) sets × AllZip (IsBelow A) (take i items) belows → IsBelow A p b
  below_app p sym' args items i sets belows b is e end have are both = IsBelow.is
      (λ f others h. subst (AllZip (RunsInto A) others) (sym have) (subst (λ ps. AllZip (RunsInto A) ps sets) (all f others h) both.0))
      (λ f others h. ap (λ (xs : List Below). length xs) are ∙ (zip_long (IsBelow A) (take i items) belows both.1 ∙ ap (λ (ps : List Pattern). length ps) (all f others h)))
      (λ f others h k arg deeper at there. zip_at (IsBelow A) k (take i items) belows arg deeper both.1 (ap (λ (ps : List Pattern). slice_get ps k) (all f others h) ∙ at) (ap (λ (xs : List Below). slice_get xs k) (sym are) ∙ there))
    where
      all : (f : ℕ) (others : List Pattern) → p ≡ App' f others → take i items ≡ others
      all f others h = take_all i items end ∙ (e ∙ sym (same_arguments f sym' others args (sym h ∙ is)))
