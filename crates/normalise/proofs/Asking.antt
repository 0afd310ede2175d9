-- What is asked of an assignment beside what was asked before: that it makes a state, and configurations one after the other.
use Rattle.std.proofs.Common.{◌≡◌, ℕ, zero, suc, get_or, ◌+◌, ◌<◌, ◌≤◌, List, [], ◌∷◌, ◌++◌, map, take, length, All, Contains, refl, sym, ap, subst, ◌∙◌, arith, Result, Ok, Err, IfOk}
use Rattle.ranked_terms.specs.declared.term.Config.{Config}
use Rattle.ranked_terms.specs.declared.term.Config.TheVariants as config
use Rattle.std.proofs.lemmas.List.Elements.{All-contains}
use Rattle.ranked_terms.specs.declared.term.Config.TheOpen as layer
use Rattle.ranked_terms.specs.declared.term.Config.TheViews.{out-Config}
use Rattle.ranked_terms.specs.declared.term.Shape.{Shape}
use Rattle.ranked_terms.specs.declared.term.Shape.TheVariants as shape
use Rattle.ranked_terms.specs.declared.term.Shape.TheOpen as form
use Rattle.ranked_terms.specs.declared.term.Shape.TheViews.{out-Shape}
use Rattle.ranked_terms.specs.lemmas.TermLaws.{same_application}
use Rattle.std.proofs.lemmas.List.{take_more, take_all, map-append, length-map}
use Rattle.ta_core.specs.Acceptance.{image}
use Rattle.list_laws.proofs.Members.{not_empty, same_first, same_rest}
use Rattle.trs_rules.specs.declared.entry.Entry.{Entry}
use Rattle.normalise.specs.Normalising.{Task, Fits, filled}
use Rattle.normalise.specs.AtWork.{Binds, SomeBinds, AlsoMakes, NeverMakes}
use Rattle.normalise.proofs.Shapes.{shape_cases, filled_state, same_state, state_no_app, filled_var, filled_app}
use Rattle.normalise.proofs.Assigning.{bound_at, still_bound, set_at, set_self}

met_already : (bs : List (ℕ × ℕ)) (v q : ℕ) (b : ℕ × ℕ) → SomeBinds bs → Contains bs b → b.0 ≡ v → b.1 ≡ q → AlsoMakes ℕ (λ τ. τ v) q bs bs
met_already bs v q b some c e h = record { some = some; before = λ τ k. k; makes = λ τ k. ap τ (sym e) ∙ (bound_at bs τ b k c ∙ h); all = λ τ k m. k }

pub asked_already : (bs : List (ℕ × ℕ)) (i : ℕ) (v q : ℕ) (b : ℕ × ℕ) → SomeBinds bs → i < length bs → b ≡ get_or bs i b → b.0 ≡ v → b.1 ≡ q → AlsoMakes ℕ (λ τ. τ v) q bs bs
asked_already bs i v q b some l is e h = met_already bs v q b some (i, l, sym is) e h

pub asked_otherwise : (bs : List (ℕ × ℕ)) (i : ℕ) (v q : ℕ) (b : ℕ × ℕ) → i < length bs → b ≡ get_or bs i b → b.0 ≡ v → (b.1 ≡ q → ⊥) → NeverMakes ℕ (λ τ. τ v) q bs
asked_otherwise bs i v q b l is e differ τ k m = differ (sym (bound_at bs τ b k (i, l, sym is)) ∙ (ap τ e ∙ m))

binds_push : (bs : List (ℕ × ℕ)) (τ : ℕ → ℕ) (v q : ℕ) → Binds bs τ → τ v ≡ q → Binds (bs ++ (v, q) ∷ []) τ
binds_push [] τ v q k e = (e, tt)
binds_push (b ∷ bs) τ v q k e = (k.0, binds_push bs τ v q k.1 e)

binds_pushed : (bs : List (ℕ × ℕ)) (τ : ℕ → ℕ) (v q : ℕ) → Binds (bs ++ (v, q) ∷ []) τ → Binds bs τ × (τ v ≡ q)
binds_pushed [] τ v q k = (tt, k.0)
binds_pushed (b ∷ bs) τ v q k = let h = binds_pushed bs τ v q k.1 in ((k.0, h.0), h.1)

pub asked_first : (bs new : List (ℕ × ℕ)) (v q : ℕ) → SomeBinds bs → All (λ (b : ℕ × ℕ). b.0 ≡ v → ⊥) bs → new ≡ bs ++ (v, q) ∷ [] → AlsoMakes ℕ (λ τ. τ v) q bs new
asked_first bs new v q some free is = subst (AlsoMakes ℕ (λ τ. τ v) q bs) (sym is) (record {
  some = (set_at some.0 v q, binds_push bs (set_at some.0 v q) v q (still_bound bs some.0 v q some.1 (λ b c k. All-contains (λ (b : ℕ × ℕ). b.0 ≡ v → ⊥) bs b free c k.0)) (set_self some.0 v q));
  before = λ τ k. (binds_pushed bs τ v q k).0;
  makes = λ τ k. (binds_pushed bs τ v q k).1;
  all = λ τ k m. binds_push bs τ v q k m;
})

-- by way of an equation
pub also_by : {X Y : Type 0} (f : (ℕ → ℕ) → X) (g : (ℕ → ℕ) → Y) (x : X) (y : Y) (old new : List (ℕ × ℕ)) → ((τ : ℕ → ℕ) → f τ ≡ x → g τ ≡ y) → ((τ : ℕ → ℕ) → g τ ≡ y → f τ ≡ x) → AlsoMakes X f x old new → AlsoMakes Y g y old new
also_by f g x y old new to back a = record { some = a.some; before = a.before; makes = λ τ k. to τ (a.makes τ k); all = λ τ k e. a.all τ k (back τ e) }

-- by way of an equation, no assignment makes it
pub never_by : {X Y : Type 0} (f : (ℕ → ℕ) → X) (g : (ℕ → ℕ) → Y) (x : X) (y : Y) (old : List (ℕ × ℕ)) → ((τ : ℕ → ℕ) → g τ ≡ y → f τ ≡ x) → NeverMakes X f x old → NeverMakes Y g y old
never_by f g x y old back never τ k e = never τ k (back τ e)

pub on_ok : {X E : Type 0} (r : Result X E) (P Q : X → Type 0) → ((x : X) → P x → Q x) → IfOk r P → IfOk r Q
on_ok (Ok x) P Q f h = f x h
on_ok (Err e) P Q f h = tt

pub var_yes : (h : List ℕ) (s : Shape) (v q : ℕ) (old new : List (ℕ × ℕ)) → s ≡ shape.Var v → AlsoMakes ℕ (λ τ. τ v) q old new → AlsoMakes Config (λ τ. filled h τ s) (config.State q) old new
var_yes h s v q old new is a =
    also_by (λ τ. τ v) (λ τ. filled h τ s) q (config.State q) old new (λ τ e. ap (filled h τ) is ∙ (filled_var h τ v ∙ ap config.State e))
    (λ τ e. same_state (τ v) q (sym (ap (filled h τ) is ∙ filled_var h τ v) ∙ e)) a

pub var_no : (h : List ℕ) (s : Shape) (v q : ℕ) (old : List (ℕ × ℕ)) → s ≡ shape.Var v → NeverMakes ℕ (λ τ. τ v) q old → NeverMakes Config (λ τ. filled h τ s) (config.State q) old
var_no h s v q old is never τ k e = never τ k (same_state (τ v) q (sym (ap (filled h τ) is ∙ filled_var h τ v) ∙ e))

-- ---- arguments one after the other

-- two lists with one member at the end
never_nothing : {X : Type 0} (xs : List X) (x : X) → [] ≡ xs ++ x ∷ [] → ⊥
never_nothing [] x e = not_empty x [] e
never_nothing (z ∷ xs) x e = not_empty z (xs ++ x ∷ []) e

ends_same : {X : Type 0} (xs ys : List X) (x y : X) → xs ++ x ∷ [] ≡ ys ++ y ∷ [] → (xs ≡ ys) × (x ≡ y)
ends_same [] [] x y e = (refl, same_first x y [] [] e)
ends_same [] (z ∷ ys) x y e = absurd (never_nothing ys y (same_rest x z [] (ys ++ y ∷ []) e))
ends_same (z ∷ xs) [] x y e = absurd (never_nothing xs x (sym (same_rest z y (xs ++ x ∷ []) [] e)))
ends_same (z ∷ xs) (w ∷ ys) x y e =
    let first = same_first z w (xs ++ x ∷ []) (ys ++ y ∷ []) e in
    let rest = ends_same xs ys x y (same_rest z w (xs ++ x ∷ []) (ys ++ y ∷ []) e) in
    ((λ i. first i ∷ rest.0 i), rest.1)

-- one argument more
also_more : (f : (ℕ → ℕ) → List Config) (g : (ℕ → ℕ) → Config) (cs : List Config) (c : Config) (old mid new : List (ℕ × ℕ)) → AlsoMakes (List Config) f cs old mid → AlsoMakes Config g c mid new →
    AlsoMakes (List Config) (λ τ. f τ ++ g τ ∷ []) (cs ++ c ∷ []) old new
also_more f g cs c old mid new a b = record {
  some = b.some;
  before = λ τ k. a.before τ (b.before τ k);
  makes = λ τ k i. a.makes τ (b.before τ k) i ++ b.makes τ k i ∷ [];
  all = λ τ k e. let h = ends_same (f τ) cs (g τ) c e in b.all τ (a.all τ k h.0) h.1;
}

-- the first ones, and the one at the place, of lists that are one
parts_same : (f : Shape → Config) (shapes : List Shape) (cs : List Config) (i : ℕ) (s : Shape) (c : Config) → i < length shapes → i < length cs → s ≡ get_or shapes i s → c ≡ get_or cs i c → map f shapes ≡ cs →
    (map f (take i shapes) ≡ take i cs) × (f s ≡ c)
parts_same f [] cs i s c l m is at e = absurd (omega (arith, l))
parts_same f (x ∷ xs) [] i s c l m is at e = absurd (omega (arith, m))
parts_same f (x ∷ xs) (y ∷ ys) zero s c l m is at e = (refl, ap f is ∙ (same_first (f x) y (map f xs) ys e ∙ sym at))
parts_same f (x ∷ xs) (y ∷ ys) (suc i) s c l m is at e =
    let first = same_first (f x) y (map f xs) ys e in
    let rest = parts_same f xs ys i s c (omega (arith, l)) (omega (arith, m)) is at (same_rest (f x) y (map f xs) ys e) in
    ((λ k. first k ∷ rest.0 k), rest.1)

module _ (h : List ℕ) (shapes : List Shape) (cs : List Config) where
  -- the first ones are asked
  abbrev pub AsksFirst : ℕ → List (ℕ × ℕ) → List (ℕ × ℕ) → Type 0
  AsksFirst n old new = AlsoMakes (List Config) (λ τ. map (filled h τ) (take n shapes)) (take n cs) old new

  pub asks_none : (old : List (ℕ × ℕ)) → SomeBinds old → AsksFirst 0 old old
  asks_none old some = record { some = some; before = λ τ k. k; makes = λ τ k. refl; all = λ τ k e. k }

  pub asks_more : (n : ℕ) (s : Shape) (c : Config) (old mid new : List (ℕ × ℕ)) → n < length shapes → n < length cs → s ≡ get_or shapes n s → c ≡ get_or cs n c → AsksFirst n old mid → AlsoMakes Config (λ τ. filled h τ s) c mid new →
      AsksFirst (n + 1) old new
  asks_more n s c old mid new l m is at a b =
      let shapes' : take (n + 1) shapes ≡ take n shapes ++ s ∷ [] = take_more shapes n s l ∙ ap (λ x. take n shapes ++ x ∷ []) (sym is) in
      let cs' : take (n + 1) cs ≡ take n cs ++ c ∷ [] = take_more cs n c m ∙ ap (λ x. take n cs ++ x ∷ []) (sym at) in
      let two = also_more (λ τ. map (filled h τ) (take n shapes)) (λ τ. filled h τ s) (take n cs) c old mid new a b in
      also_by (λ τ. map (filled h τ) (take n shapes) ++ filled h τ s ∷ []) (λ τ. map (filled h τ) (take (n + 1) shapes)) (take n cs ++ c ∷ []) (take (n + 1) cs) old new
      (λ τ e. same τ shapes' ∙ (e ∙ sym cs')) (λ τ e. sym (same τ shapes') ∙ (e ∙ cs')) two
    where
      same : (τ : ℕ → ℕ) → take (n + 1) shapes ≡ take n shapes ++ s ∷ [] → map (filled h τ) (take (n + 1) shapes) ≡ map (filled h τ) (take n shapes) ++ filled h τ s ∷ []
      same τ e = ap (map (filled h τ)) e ∙ map-append (filled h τ) (take n shapes) (s ∷ [])

  pub asks_never : (n f : ℕ) (t : Shape) (s : Shape) (c : Config) (old mid : List (ℕ × ℕ)) → t ≡ shape.App f shapes → n < length shapes → n < length cs → s ≡ get_or shapes n s → c ≡ get_or cs n c → AsksFirst n old mid →
      NeverMakes Config (λ τ. filled h τ s) c mid → NeverMakes Config (λ τ. filled h τ t) (config.App f cs) old
  asks_never n f t s c old mid root l m is at a never τ k e =
      let all : map (filled h τ) shapes ≡ cs = (same_application f f (map (filled h τ) shapes) cs (sym (ap (filled h τ) root ∙ filled_app h τ f shapes) ∙ e)).1 in
      let both = parts_same (filled h τ) shapes cs n s c l m is at all in
      never τ (a.all τ k both.0) both.1

  pub asks_all : (n f : ℕ) (t : Shape) (old new : List (ℕ × ℕ)) → t ≡ shape.App f shapes → length shapes ≤ n → length cs ≤ n → AsksFirst n old new → AlsoMakes Config (λ τ. filled h τ t) (config.App f cs) old new
  asks_all n f t old new root l m a =
      let whole = take_all n shapes l in
      let whole' = take_all n cs m in
      also_by (λ τ. map (filled h τ) (take n shapes)) (λ τ. filled h τ t) (take n cs) (config.App f cs) old new
      (λ τ e. ap (filled h τ) root ∙ (filled_app h τ f shapes ∙ ap (config.App f) (ap (map (filled h τ)) (sym whole) ∙ (e ∙ whole'))))
      (λ τ e. ap (map (filled h τ)) whole ∙ ((same_application f f (map (filled h τ) shapes) cs (sym (ap (filled h τ) root ∙ filled_app h τ f shapes) ∙ e)).1 ∙ sym whole')) a

-- another symbol, or another number of arguments
pub node_differs : (h : List ℕ) (t : Shape) (f g : ℕ) (ss : List Shape) (cs : List Config) (old : List (ℕ × ℕ)) → t ≡ shape.App f ss → ((f ≡ g) × (length ss ≡ length cs) → ⊥) → NeverMakes Config (λ τ. filled h τ t) (config.App g cs) old
node_differs h t f g ss cs old root differ τ k e =
    let same = same_application f g (map (filled h τ) ss) cs (sym (ap (filled h τ) root ∙ filled_app h τ f ss) ∙ e) in
    differ (same.0, sym (length-map ss (filled h τ)) ∙ ap length same.1)

-- a variable or a state is no node
pub no_node : (h : List ℕ) (t : Shape) (g : ℕ) (cs : List Config) (old : List (ℕ × ℕ)) → ((f : ℕ) (ss : List Shape) → t ≡ shape.App f ss → ⊥) → NeverMakes Config (λ τ. filled h τ t) (config.App g cs) old
no_node h t g cs old other τ k e = shape_cases (λ s. s ≡ t → ⊥)
    (λ v is. state_no_app (τ v) g cs (sym (filled_var h τ v) ∙ (ap (filled h τ) is ∙ e)))
    (λ q is. state_no_app (image h q) g cs (sym (filled_state h τ q) ∙ (ap (filled h τ) is ∙ e)))
    (λ f ss is. other f ss (sym is)) t refl

-- ---- arguments of a shape and of a configuration, and none where it has none

abbrev shapes_at : form.Shape-F Shape → List Shape
shapes_at (form.Var v) = []
shapes_at (form.State q) = []
shapes_at (form.App f ss) = ss

abbrev pub shapes_of : Shape → List Shape
shapes_of s = shapes_at (out-Shape s)

pub shapes_of_app : (s : Shape) (f : ℕ) (ss : List Shape) → s ≡ shape.App f ss → shapes_of s ≡ ss
shapes_of_app s f ss is = ap shapes_of is ∙ ap shapes_at (shape.outs-App f ss)

abbrev args_at : layer.Config-F Config → List Config
args_at (layer.State q) = []
args_at (layer.App f cs) = cs

abbrev pub args_of : Config → List Config
args_of c = args_at (out-Config c)

pub args_of_app : (c : Config) (f : ℕ) (cs : List Config) → c ≡ config.App f cs → args_of c ≡ cs
args_of_app c f cs is = ap args_of is ∙ ap args_at (config.outs-App f cs)

-- ---- entries

module _ (task : Task) (e : Entry) (node : Config) (bs : List (ℕ × ℕ)) (empty : bs ≡ []) where
  abbrev Whole : (ℕ → ℕ) → Config
  Whole τ = filled task.places τ e.whole

  abbrev At : (ℕ → ℕ) → Config
  At τ = filled task.places τ e.at

  abbrev Node : (ℕ → ℕ) → Config
  Node τ = filled task.places τ e.node

  from_none : (τ : ℕ → ℕ) → Binds bs τ
  from_none τ = subst (λ bs. Binds bs τ) (sym empty) tt

  pub whole_never : NeverMakes Config Whole task.whole bs → Fits task node e → ⊥
  whole_never never fit = never fit.τ (from_none fit.τ) fit.whole

  pub at_never : (cs : List (ℕ × ℕ)) → AlsoMakes Config Whole task.whole bs cs → NeverMakes Config At (config.State task.state) cs → Fits task node e → ⊥
  at_never cs a never fit = never fit.τ (a.all fit.τ (from_none fit.τ) fit.whole) fit.at

  pub node_never : (cs ds : List (ℕ × ℕ)) → AlsoMakes Config Whole task.whole bs cs → AlsoMakes Config At (config.State task.state) cs ds → NeverMakes Config Node node ds → Fits task node e → ⊥
  node_never cs ds a b never fit = never fit.τ (b.all fit.τ (a.all fit.τ (from_none fit.τ) fit.whole) fit.at) fit.made

  pub all_three : (cs ds es : List (ℕ × ℕ)) → AlsoMakes Config Whole task.whole bs cs → AlsoMakes Config At (config.State task.state) cs ds → AlsoMakes Config Node node ds es → Fits task node e
  all_three cs ds es a b c =
      let τ = c.some.0 in
      let k = c.some.1 in
      record { τ = τ; whole = a.makes τ (b.before τ (c.before τ k)); at = b.makes τ (c.before τ k); made = c.makes τ k }
