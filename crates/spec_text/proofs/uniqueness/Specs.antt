-- No text spells two specifications: its tokens have one tree, and what a tree declares spells each part in one way.
use Rattle.std.proofs.Common.{◌≡◌, ℕ, List, [], ◌∷◌, ◌++◌, map, refl, sym, ap, subst, ◌∙◌}
use Rattle.std.specs.List.{AllZip}
use Rattle.std.proofs.lemmas.Cmp.{nat_cmp_total}
use Rattle.std.proofs.lemmas.Option.{same_Some}
use Rattle.ranked_terms.specs.Names.{Symbol, names_of}
use Rattle.ranked_terms.specs.Terms.{occurrences, firsts, variables_of}
use Rattle.trs_rules.specs.Rules.{RewriteRule, RewriteEquation}
use Rattle.trs_rules.specs.declared.entry.Entry.{Entry}
use Rattle.ta_core.specs.lemmas.Orders.{trans_total, pair_total}
use Rattle.ta_core.specs.TreeAutomaton.{TreeAutomaton}
use Rattle.ta_core.specs.declared.spec.Spec.{Spec}
use Rattle.timbuk_lex.specs.Lexing.{lexed}
use Rattle.timbuk_grammar.specs.lemmas.Alike.{only_tree}
use Rattle.spec_text.specs.Declarations.{Text}
use Rattle.spec_text.specs.Source.{RuleDeclaration, EquationDeclaration, Arrow, AutomatonDeclaration, ApproximationRule, Source, source_of}
use Rattle.spec_text.specs.Naming.{Names, place_in, transitions_in, moves_in, node_shape, stands_for}
use Rattle.spec_text.specs.SpecText.{IsRuleFrom, IsEquationFrom, IsEntryFrom, IsAutomatonFrom, IsForbiddenFrom, Spells, SpecText, systems_in, equations_in, all_of, extra_states, entries_of, approximation_rules}
use Rattle.spec_text.proofs.uniqueness.Sets.{same_set}
use Rattle.spec_text.proofs.agreement.patterns.Shapes.{shape_of-injective}
use Rattle.spec_text.proofs.uniqueness.Parts.{same_spec}

-- ---- lists

-- where each declaration spells one thing, so do all
same_zip : {X Y : Type 0} (R : X → Y → Type 0) → ((x : X) (y z : Y) → R x y → R x z → y ≡ z) → (xs : List X) (ys zs : List Y) → AllZip R xs ys → AllZip R xs zs → ys ≡ zs
same_zip R one [] [] [] h k = refl
same_zip R one [] [] (z ∷ zs) h k = absurd k
same_zip R one [] (y ∷ ys) zs h k = absurd h
same_zip R one (x ∷ xs) [] zs h k = absurd h
same_zip R one (x ∷ xs) (y ∷ ys) [] h k = absurd k
same_zip R one (x ∷ xs) (y ∷ ys) (z ∷ zs) h k = λ i. one x y z h.0 k.0 i ∷ same_zip R one xs ys zs h.1 k.1 i

-- ---- declarations

same_rule : (names : Names) (d : RuleDeclaration) (r s : RewriteRule) → IsRuleFrom names d r → IsRuleFrom names d s → r ≡ s
same_rule names d r s h k =
    let left = shape_of-injective r.left s.left (same_Some _ _ (sym h.left ∙ k.left)) in
    let right = shape_of-injective r.right s.right (same_Some _ _ (sym h.right ∙ k.right)) in
    let vars = h.is_rule.vars_are ∙ (ap variables_of left ∙ sym k.is_rule.vars_are) in
    λ i. record { left = left i; right = right i; vars = vars i }

same_equation : (names : Names) (d : EquationDeclaration) (r s : RewriteEquation) → IsEquationFrom names d r → IsEquationFrom names d s → r ≡ s
same_equation names d r s h k =
    let left = shape_of-injective r.left s.left (same_Some _ _ (sym h.left ∙ k.left)) in
    let right = shape_of-injective r.right s.right (same_Some _ _ (sym h.right ∙ k.right)) in
    let vars = h.is_equation.vars_are ∙ ((λ i. firsts (occurrences (left i) ++ occurrences (right i))) ∙ sym k.is_equation.vars_are) in
    λ i. record { left = left i; right = right i; vars = vars i }

same_entry : (names : Names) (d : ApproximationRule × Arrow) (e f : Entry) → IsEntryFrom names d e → IsEntryFrom names d f → e ≡ f
same_entry names d e f h k =
    let whole = same_Some e.whole f.whole (sym h.whole ∙ k.whole) in
    let at = same_Some e.at f.at (sym h.at ∙ k.at) in
    let args = same_Some h.args k.args (sym h.are_args ∙ k.are_args) in
    let node = same_Some e.node f.node (sym h.node ∙ (ap (node_shape (stands_for (record { symbols = names.symbols; variables = []; states = [] }) d.1.head)) args ∙ k.node)) in
    let target = h.target ∙ sym k.target in
    λ i. record { whole = whole i; at = at i; node = node i; target = target i }

same_automaton : (symbols : List Symbol) (d : AutomatonDeclaration) (A B : TreeAutomaton) → IsAutomatonFrom symbols d A → IsAutomatonFrom symbols d B → A ≡ B
same_automaton symbols d A B h k =
    let states = h.states_are ∙ sym k.states_are in
    let next = h.next_is ∙ sym k.next_is in
    let finals = same_set nat_cmp_total A.finals B.finals (map (place_in d.states) d.finals) h.finals_are k.finals_are in
    let trans = same_set trans_total A.trans B.trans (transitions_in symbols d.states d.transitions) h.trans_are k.trans_are in
    let eps = same_set pair_total A.eps B.eps (moves_in symbols d.states d.transitions) h.eps_are k.eps_are in
    λ i. record { states = states i; next = next i; finals = finals i; trans = trans i; eps = eps i }

same_forbidden : (symbols : List Symbol) (taken : List Text) (ds : List AutomatonDeclaration) (A B : TreeAutomaton) → IsForbiddenFrom symbols taken ds A → IsForbiddenFrom symbols taken ds B → A ≡ B
same_forbidden symbols taken [] A B h k = h ∙ sym k
same_forbidden symbols taken (second ∷ []) A B h k = same_automaton symbols second A B h.1 k.1
same_forbidden symbols taken (second ∷ third ∷ more) A B h k = absurd h

-- ---- the whole text

same_head : {X : Type 0} (x y : X) (xs ys : List X) → x ∷ xs ≡ y ∷ ys → (x ≡ y) × (xs ≡ ys)
same_head x y xs ys e = (cc, cc)

same_spelled : (source : Source) (a b : Spec) → Spells source a → Spells source b → a ≡ b
same_spelled source a b h k =
    let signature = h.signature ∙ sym k.signature in
    let vars = h.vars ∙ sym k.vars in
    let automata = same_head h.first k.first h.others k.others (sym h.automata ∙ k.automata) in
    let names : List Text → Spec → Names = λ states spec. record { symbols = spec.signature; variables = spec.vars; states = states } in
    let same_names : names [] a ≡ names [] b = λ i. record { symbols = signature i; variables = vars i; states = [] } in
    let extra = extra_states source.sections in
    let all_names : names (h.first.states ++ extra) a ≡ names (k.first.states ++ extra) b = λ i. record { symbols = signature i; variables = vars i; states = (automata.0 i).states ++ extra } in
    let rules = all_of (systems_in source.sections) in
    let equations = all_of (equations_in source.sections) in
    let entries = entries_of (approximation_rules source.sections) in
    same_spec a b signature vars
    (same_zip (IsRuleFrom (names [] b)) (same_rule (names [] b)) rules a.rules b.rules (subst (λ n. AllZip (IsRuleFrom n) rules a.rules) same_names h.rules) k.rules)
    (same_zip (IsEquationFrom (names [] b)) (same_equation (names [] b)) equations a.equations b.equations (subst (λ n. AllZip (IsEquationFrom n) equations a.equations) same_names h.equations) k.equations)
    (same_zip (IsEntryFrom (names (k.first.states ++ extra) b)) (same_entry (names (k.first.states ++ extra) b)) entries a.entries b.entries (subst (λ n. AllZip (IsEntryFrom n) entries a.entries) all_names h.entries) k.entries)
    (h.extra ∙ sym k.extra)
    (h.approximated ∙ sym k.approximated)
    (same_automaton b.signature k.first a.initial b.initial (subst (λ (p : List Symbol × AutomatonDeclaration). IsAutomatonFrom p.0 p.1 a.initial) (λ i. (signature i, automata.0 i)) h.initial) k.initial)
    (same_forbidden b.signature (names_of b.signature ++ b.vars) k.others a.forbidden b.forbidden (subst (λ (p : List Symbol × List Text × List AutomatonDeclaration). IsForbiddenFrom p.0 p.1 p.2 a.forbidden) (λ i. (signature i, names_of (signature i) ++ vars i, automata.1 i)) h.forbidden) k.forbidden)

pub one_spec : (bytes : List ℕ) (a b : Spec) → SpecText bytes a → SpecText bytes b → a ≡ b
one_spec bytes a b h k =
    let tree = only_tree (lexed bytes).tokens h.derivation k.derivation h.tokens k.tokens in
    same_spelled (source_of k.derivation) a b (subst (λ v. Spells (source_of v) a) tree h.spells) k.spells
