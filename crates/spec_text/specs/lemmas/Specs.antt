-- What always holds of the specification that is declared.
-- (Nobody has to believe what stands here: it is proved, for the proofs of this crate and of those above.)
use Rattle.std.proofs.Common.{◌≡◌, ℕ, true, List, All, Contains, length, sym, ap, ◌∙◌}
use Rattle.std.specs.List.{range_with_len, list_all}
use Rattle.std.proofs.lemmas.List.Elements.{All-weaker, All-contains, All-contains_itself}
use Rattle.std.proofs.lemmas.List.Sums.{AllPass-from_list_all, list_all-from_AllPass}
use Rattle.ranked_terms.specs.Names.{Symbol}
use Rattle.ranked_terms.specs.Terms.{is_symbol}
use Rattle.ta_core.specs.SpecRules.{automaton_is_over}
use Rattle.ta_core.specs.TreeAutomaton.{TreeAutomaton}
use Rattle.ta_core.specs.declared.spec.Spec.{Spec}
use Rattle.ta_core.specs.declared.trans.Trans.{Trans}
use Rattle.spec_text.specs.Declarations.{Declared, Started, any}
use Rattle.spec_text.specs.Spelled.{IsAutomatonOf, IsSpecOf}

-- ---- what always holds of a specification

pub automaton_over : (signature : List Symbol) (count : ℕ) (a : Started) (A : TreeAutomaton) → IsAutomatonOf count a A → list_all (λ t. is_symbol signature t.sym (length t.args)) a.trans ≡ true → automaton_is_over signature A ≡ true
automaton_over signature count a A h e =
    let P : Trans → Type 0 = λ t. is_symbol signature t.sym (length t.args) ≡ true in
    let all : All P a.trans = AllPass-from_list_all (λ t. is_symbol signature t.sym (length t.args)) a.trans e in
    let each : All P A.trans = All-weaker (Contains A.trans) P (λ t c. All-contains P a.trans t all ((h.trans_are.members t).0 c)) A.trans (All-contains_itself A.trans) in
    list_all-from_AllPass (λ t. is_symbol signature t.sym (length t.args)) A.trans each

pub states_whole : (count : ℕ) (a : Started) (A : TreeAutomaton) → IsAutomatonOf count a A → A.states ≡ range_with_len 0 A.next
states_whole count a A h = h.states_are ∙ ap (range_with_len 0) (sym h.next_is)

-- a specification says nothing of the last token
pub any_last : (d : Declared) (spec : Spec) → IsSpecOf (record d { last = any }) spec → IsSpecOf d spec
any_last d spec k = record {
  signature = k.signature;
  vars = k.vars;
  rules = k.rules;
  are_rules = k.are_rules;
  equations = k.equations;
  are_equations = k.are_equations;
  entries = k.entries;
  extra = k.extra;
  approximated = k.approximated;
  initial = k.initial;
  forbidden = k.forbidden;
}
