-- The equations of what specs/Terms.antt defines, and inductions over terms and patterns whose arguments are plain lists.
-- Nobody has to believe this: it is proved, for the proofs of the crates above.
use Rattle.std.proofs.Common.{◌≡◌, ℕ, ◌+◌, Bool, true, ◌&&◌, List, [], ◌∷◌, map, sum, length, refl, sym, ap, subst, ◌∙◌}
use Rattle.std.specs.List.{AllByRecursion, list_all}
use Rattle.std.proofs.lemmas.List.{length-map}
use Rattle.std.proofs.lemmas.List.Folds.{list_all-map}
use Rattle.list_laws.proofs.Members.{not_empty, same_first, same_rest}
use Rattle.ranked_terms.specs.Names.{Symbol}
use Rattle.ranked_terms.specs.Terms.{node, size_of, size_step, height_of, height_step, greatest, is_symbol, is_over, is_over_step, pattern_is_over, pattern_is_over_step, instance_of, instance_step, assigned, assigned_step, config_of, config_step, joined, occurrences, occurrences_step}
use Rattle.ranked_terms.specs.declared.term.Term.{Term}
use Rattle.ranked_terms.specs.declared.term.Term.TheOpen.{Term-F}
use Rattle.ranked_terms.specs.declared.term.Term.TheViews.{out-Term, out-roll-Term, roll-out-Term}
use Rattle.ranked_terms.specs.declared.term.Term.TheFolds.{fold-roll-Term, ind-Term}
use Rattle.ranked_terms.specs.declared.term.Pattern.{Pattern}
use Rattle.ranked_terms.specs.declared.term.Pattern.TheOpen as pattern
use Rattle.ranked_terms.specs.declared.term.Pattern.TheOpen.{Pattern-F}
use Rattle.ranked_terms.specs.declared.term.Pattern.TheVariants.{Var, App, rolls-Var, rolls-App}
use Rattle.ranked_terms.specs.declared.term.Pattern.TheViews.{roll-Pattern}
use Rattle.ranked_terms.specs.declared.term.Pattern.TheFolds.{fold-Pattern, fold-roll-Pattern, ind-Pattern, map-Pattern}
use Rattle.ranked_terms.specs.declared.term.Config.{Config}
use Rattle.ranked_terms.specs.declared.term.Config.TheVariants as config
use Rattle.ranked_terms.specs.declared.term.Config.TheOpen as config_layer
use Rattle.ranked_terms.specs.declared.term.Config.TheViews.{roll-Config, out-Config, out-roll-Config}
use Rattle.ranked_terms.specs.declared.term.Config.TheFolds.{ind-Config, map-Config}

-- ---- ground terms

abbrev layer : ℕ → List Term → Term-F Term
layer f ts = record { sym = f; args = ts }

pub size_node : (f : ℕ) (ts : List Term) → size_of (node f ts) ≡ sum (map size_of ts) + 1
size_node f ts = fold-roll-Term ℕ size_step (layer f ts)

pub height_node : (f : ℕ) (ts : List Term) → height_of (node f ts) ≡ greatest (map height_of ts) + 1
height_node f ts = fold-roll-Term ℕ height_step (layer f ts)

pub config_node : (f : ℕ) (ts : List Term) → config_of (node f ts) ≡ config.App f (map config_of ts)
config_node f ts = fold-roll-Term Config config_step (layer f ts)

pub over_node : (s : List Symbol) (f : ℕ) (ts : List Term) → is_over s (node f ts) ≡ (is_symbol s f (length ts) && list_all (λ b. b) (map (is_over s) ts))
over_node s f ts =
    fold-roll-Term Bool (is_over_step s) (layer f ts)
    ∙ ap (λ n. is_symbol s f n && list_all (λ b. b) (map (is_over s) ts)) (length-map ts (is_over s))

pub is_over_node : (s : List Symbol) (f : ℕ) (ts : List Term) → is_over s (node f ts) ≡ (is_symbol s f (length ts) && list_all (is_over s) ts)
is_over_node s f ts = over_node s f ts ∙ ap (λ b. is_symbol s f (length ts) && b) (list_all-map (λ b. b) (is_over s) ts)

-- a term is its symbol and its arguments
pub node_out : (t : Term) → node (out-Term t).sym (out-Term t).args ≡ t
node_out = roll-out-Term

pub out_node : (f : ℕ) (ts : List Term) → out-Term (node f ts) ≡ layer f ts
out_node f ts = out-roll-Term (layer f ts)

same_layer : (f g : ℕ) (ts us : List Term) → node f ts ≡ node g us → layer f ts ≡ layer g us
same_layer f g ts us e = sym (out_node f ts) ∙ (ap out-Term e ∙ out_node g us)

pub node_sym : (f g : ℕ) (ts us : List Term) → node f ts ≡ node g us → f ≡ g
node_sym f g ts us e = ap (λ (x : Term-F Term). x.sym) (same_layer f g ts us e)

pub node_args : (f g : ℕ) (ts us : List Term) → node f ts ≡ node g us → ts ≡ us
node_args f g ts us e = ap (λ (x : Term-F Term). x.args) (same_layer f g ts us e)

pub same_term : (t u : Term) → (out-Term t).sym ≡ (out-Term u).sym → (out-Term t).args ≡ (out-Term u).args → t ≡ u
same_term t u e h = sym (node_out t) ∙ ((λ i. node (e i) (h i)) ∙ node_out u)

-- ---- induction

-- the first parts of a list of values with a fact each
each_such : {X : Type 0} (P : X → Type 0) (ys : List ((x : X) × P x)) → AllByRecursion P (map (λ e. e.0) ys)
each_such P [] = tt
each_such P (y ∷ ys) = (y.1, each_such P ys)

module _ (P : Term → Type 0) (step : (f : ℕ) (ts : List Term) → AllByRecursion P ts → P (node f ts)) where
  pub term_induction : (t : Term) → P t
  term_induction = ind-Term P (λ x y is.
      step x.sym x.args (subst (λ (z : Term-F Term). AllByRecursion P z.args) is (each_such P y.args)))

module _ (P : Pattern → Type 0) (var : (v : ℕ) → P (Var v)) (app : (f : ℕ) (ps : List Pattern) → AllByRecursion P ps → P (App f ps)) where
  at_layer : (y : Pattern-F ((p : Pattern) × P p)) → P (roll-Pattern (map-Pattern ((p : Pattern) × P p) Pattern (λ e. e.0) y))
  at_layer (pattern.Var v) = subst P (sym (rolls-Var v)) (var v)
  at_layer (pattern.App f ps) = subst P (sym (rolls-App f (map (λ e. e.0) ps))) (app f (map (λ e. e.0) ps) (each_such P ps))

  pub pattern_induction : (p : Pattern) → P p
  pattern_induction = ind-Pattern P (λ x y is. subst (λ (z : Pattern-F Pattern). P (roll-Pattern z)) is (at_layer y))

module _ (P : Config → Type 0) (state : (q : ℕ) → P (config.State q)) (app : (f : ℕ) (cs : List Config) → AllByRecursion P cs → P (config.App f cs)) where
  at_config_layer : (y : config_layer.Config-F ((c : Config) × P c)) → P (roll-Config (map-Config ((c : Config) × P c) Config (λ e. e.0) y))
  at_config_layer (config_layer.State q) = subst P (sym (config.rolls-State q)) (state q)
  at_config_layer (config_layer.App f cs) = subst P (sym (config.rolls-App f (map (λ e. e.0) cs))) (app f (map (λ e. e.0) cs) (each_such P cs))

  pub config_induction : (c : Config) → P c
  config_induction = ind-Config P (λ x y is. subst (λ (z : config_layer.Config-F Config). P (roll-Config z)) is (at_config_layer y))

-- ---- patterns

-- the equations of a function by cases
pattern_var : (A : Type 0) (step : Pattern-F A → A) (v : ℕ) → fold-Pattern A step (Var v) ≡ step (pattern.Var v)
pattern_var A step v = ap (fold-Pattern A step) (sym (rolls-Var v)) ∙ fold-roll-Pattern A step (pattern.Var v)

pattern_app : (A : Type 0) (step : Pattern-F A → A) (f : ℕ) (ps : List Pattern) → fold-Pattern A step (App f ps) ≡ step (pattern.App f (map (fold-Pattern A step) ps))
pattern_app A step f ps = ap (fold-Pattern A step) (sym (rolls-App f ps)) ∙ fold-roll-Pattern A step (pattern.App f ps)

pub instance_var : (θ : ℕ → Term) (v : ℕ) → instance_of θ (Var v) ≡ θ v
instance_var θ v = pattern_var Term (instance_step θ) v

pub instance_app : (θ : ℕ → Term) (f : ℕ) (ps : List Pattern) → instance_of θ (App f ps) ≡ node f (map (instance_of θ) ps)
instance_app θ f ps = pattern_app Term (instance_step θ) f ps

pub assigned_var : (σ : ℕ → ℕ) (v : ℕ) → assigned σ (Var v) ≡ config.State (σ v)
assigned_var σ v = pattern_var Config (assigned_step σ) v

pub assigned_app : (σ : ℕ → ℕ) (f : ℕ) (ps : List Pattern) → assigned σ (App f ps) ≡ config.App f (map (assigned σ) ps)
assigned_app σ f ps = pattern_app Config (assigned_step σ) f ps

pub occurrences_var : (v : ℕ) → occurrences (Var v) ≡ v ∷ []
occurrences_var v = pattern_var (List ℕ) occurrences_step v

pub occurrences_app : (f : ℕ) (ps : List Pattern) → occurrences (App f ps) ≡ joined (map occurrences ps)
occurrences_app f ps = pattern_app (List ℕ) occurrences_step f ps

pub pattern_is_over_var : (s : List Symbol) (v : ℕ) → pattern_is_over s (Var v) ≡ true
pattern_is_over_var s v = pattern_var Bool (pattern_is_over_step s) v

pub over_app : (s : List Symbol) (f : ℕ) (ps : List Pattern) → pattern_is_over s (App f ps) ≡ (is_symbol s f (length ps) && list_all (λ b. b) (map (pattern_is_over s) ps))
over_app s f ps =
    pattern_app Bool (pattern_is_over_step s) f ps
    ∙ ap (λ n. is_symbol s f n && list_all (λ b. b) (map (pattern_is_over s) ps)) (length-map ps (pattern_is_over s))

pub pattern_is_over_app : (s : List Symbol) (f : ℕ) (ps : List Pattern) → pattern_is_over s (App f ps) ≡ (is_symbol s f (length ps) && list_all (pattern_is_over s) ps)
pattern_is_over_app s f ps = over_app s f ps ∙ ap (λ b. is_symbol s f (length ps) && b) (list_all-map (λ b. b) (pattern_is_over s) ps)

-- ---- configurations

-- the symbol and the arguments of a configuration, if it is no state
abbrev application : config_layer.Config-F Config → ℕ × List Config
application (config_layer.State q) = (0, [])
application (config_layer.App f cs) = (f, cs)

application_app : (f : ℕ) (cs : List Config) → application (out-Config (config.App f cs)) ≡ (f, cs)
application_app f cs = ap (λ c. application (out-Config c)) (sym (config.rolls-App f cs)) ∙ ap application (out-roll-Config (config_layer.App f cs))

-- one application is one symbol and one list of arguments
pub same_application : (f g : ℕ) (cs ds : List Config) → config.App f cs ≡ config.App g ds → (f ≡ g) × (cs ≡ ds)
same_application f g cs ds e =
    let h : (f, cs) ≡ (g, ds) = sym (application_app f cs) ∙ (ap (λ c. application (out-Config c)) e ∙ application_app g ds) in
    (ap (λ (x : ℕ × List Config). x.0) h, ap (λ (x : ℕ × List Config). x.1) h)

abbrev IsTold : Term → Type 0
IsTold t = (u : Term) → config_of t ≡ config_of u → t ≡ u

all_told : (ts us : List Term) → AllByRecursion IsTold ts → map config_of ts ≡ map config_of us → ts ≡ us
all_told [] [] h e = refl
all_told [] (u ∷ us) h e = absurd (not_empty (config_of u) (map config_of us) e)
all_told (t ∷ ts) [] h e = absurd (not_empty (config_of t) (map config_of ts) (sym e))
all_told (t ∷ ts) (u ∷ us) h e =
    let first = same_first (config_of t) (config_of u) (map config_of ts) (map config_of us) e in
    let rest = same_rest (config_of t) (config_of u) (map config_of ts) (map config_of us) e in
    (λ i. h.0 u first i ∷ all_told ts us h.1 rest i)

-- two ground terms that are one configuration are one term
pub config_of-injective : (t u : Term) → config_of t ≡ config_of u → t ≡ u
config_of-injective = term_induction IsTold (λ f ts each u e.
    let g = (out-Term u).sym in
    let us = (out-Term u).args in
    let h = same_application f g (map config_of ts) (map config_of us) (sym (config_node f ts) ∙ (e ∙ (ap config_of (sym (node_out u)) ∙ config_node g us))) in
    (λ i. node (h.0 i) (all_told ts us each h.1 i)) ∙ node_out u)
