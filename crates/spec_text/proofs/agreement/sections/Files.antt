-- A text's tree against the judge: it is read to its end exactly where its declarations spell a specification, and that is what is read.
use Rattle.std.proofs.Common.{◌≡◌, false, ◌==◌, List, [], ◌++◌, map, Option, Some, None, Ok, Err, refl, sym, ap, subst, ◌∙◌, append_assoc}
use Rattle.std.proofs.lemmas.List.{append-nil}
use Rattle.ranked_terms.specs.Names.{Symbol, names_of}
use Rattle.trs_rules.specs.declared.entry.Entry.{Entry}
use Rattle.ta_core.specs.declared.spec.Spec.{Spec}
use Rattle.timbuk_grammar.specs.Grammar as grammar
use Rattle.timbuk_grammar.specs.Trees.{Value}
use Rattle.spec_text.specs.declared.fault.SpecKind.{SpecKind}
use Rattle.spec_text.specs.Declarations.{Text, Declared, nothing}
use Rattle.spec_text.specs.Source.{symbols_in, variables_in, section_of, source_of}
use Rattle.spec_text.specs.Naming.{signature_of, AreSymbols, AreNewNames}
use Rattle.spec_text.specs.Rows.{when, end_row}
use Rattle.spec_text.specs.Reading.{Outcome, End, end_by}
use Rattle.spec_text.specs.SpecText.{automata_in, Spells}
use Rattle.spec_text.specs.Spelled.{IsSpecOf}
use Rattle.spec_text.proofs.agreement.tokens.Labels.{labelled, judge}
use Rattle.spec_text.specs.Reading.{settled as calm}
use Rattle.spec_text.proofs.agreement.tokens.Last.{forgets}
use Rattle.spec_text.proofs.agreement.tokens.Runs.{when-false, when_none}
use Rattle.spec_text.proofs.agreement.names.Texts.{AreSymbols-nil, AreNewNames-nil}
use Rattle.spec_text.proofs.agreement.names.Heads.{with_symbols, with_variables, maybe_ops_path, maybe_vars_path}
use Rattle.spec_text.proofs.agreement.automata.Specs.{symbols_short}
use Rattle.spec_text.proofs.agreement.tokens.Exact.{reads, Whatever, IsTied, in_turn}
use Rattle.spec_text.proofs.agreement.approximation.Section.{closed}
use Rattle.spec_text.proofs.agreement.approximation.Wholes.{patterns_are_tied}
use Rattle.spec_text.proofs.agreement.sections.Parts.{parts_of}
use Rattle.spec_text.proofs.agreement.sections.One.{ok_below, path_tied}
use Rattle.spec_text.proofs.agreement.sections.States.{Sides, some_there, there_are_some, AreRead, closed_at, spelled_at}
use Rattle.spec_text.proofs.agreement.sections.Many.{AreOrderly, labelled_sections, sections_fine, sections_only}
use Rattle.spec_text.proofs.agreement.sections.Spells.{spelled_by, IsReadAs, spells}

-- ---- the last token

spec_of_forgotten : (d : Declared) (spec : Spec) → IsSpecOf d spec → IsSpecOf (forgets d) spec
spec_of_forgotten d spec h = record {
  signature = h.signature;
  vars = h.vars;
  rules = h.rules;
  are_rules = h.are_rules;
  equations = h.equations;
  are_equations = h.are_equations;
  entries = h.entries;
  extra = h.extra;
  approximated = h.approximated;
  initial = h.initial;
  forbidden = h.forbidden;
}

spec_of_remembered : (d : Declared) (spec : Spec) → IsSpecOf (forgets d) spec → IsSpecOf d spec
spec_of_remembered d spec h = record {
  signature = h.signature;
  vars = h.vars;
  rules = h.rules;
  are_rules = h.are_rules;
  equations = h.equations;
  are_equations = h.are_equations;
  entries = h.entries;
  extra = h.extra;
  approximated = h.approximated;
  initial = h.initial;
  forbidden = h.forbidden;
}

-- ---- the end

none_at_end : (end : End) (d : Declared) → (d.automata == 0) ≡ false → reads end (closed d) [] ≡ Ok (closed d)
unfolding end_row
none_at_end end d h = ap (λ o. calm (end_by o end (closed d))) (when-false (d.automata == 0) _ h)

pub record IsWholeAt (d e : Declared) : Type 0 where
  pub some : (d.automata == 0) ≡ false
  pub is : closed d ≡ e

end_read : (end : End) (d e : Declared) (o : Option SpecKind) → calm (end_by o end (closed d)) ≡ Ok e → (o ≡ None) × (closed d ≡ e)
end_read end d e None h = (refl, cc)
end_read end d e (Some k) h = cc

pub whole_at_end : (end : End) (d e : Declared) → reads end (closed d) [] ≡ Ok e → IsWholeAt d e
unfolding end_row
whole_at_end end d e h =
    let k = end_read end d e (when (d.automata == 0) _) h in
    record { some = when_none (d.automata == 0) _ k.0; is = k.1 }

-- ---- symbols and variables

module _ (end : End) (v : Value grammar.file) where
  abbrev symbols : List Symbol
  symbols = signature_of (symbols_in v.0)

  abbrev variables : List Text
  variables = variables_in v.1.0

  abbrev behind_variables : Declared
  behind_variables = closed (with_variables variables (with_symbols (symbols_in v.0) nothing))

  pub front_tied : IsTied end Whatever nothing (labelled (grammar.maybe grammar.ops) v.0 ++ labelled (grammar.maybe grammar.vars) v.1.0) ((w : AreSymbols (symbols_in v.0)) × AreNewNames (names_of symbols) 1024 variables) (λ w. behind_variables)
  front_tied =
      let d = with_symbols (symbols_in v.0) nothing in
      in_turn (path_tied end nothing (closed d) (labelled (grammar.maybe grammar.ops) v.0) (AreSymbols (symbols_in v.0)) (maybe_ops_path nothing [] v.0 refl AreSymbols-nil))
      (λ w. path_tied end (closed d) behind_variables (labelled (grammar.maybe grammar.vars) v.1.0) (AreNewNames (names_of symbols) 1024 variables) (maybe_vars_path d v.1.0 (AreNewNames-nil (names_of symbols) 1024 w.distinct)))

  pub labels_are : labelled grammar.file v ≡ (labelled (grammar.maybe grammar.ops) v.0 ++ labelled (grammar.maybe grammar.vars) v.1.0) ++ (labelled_sections v.1.1 ++ [])
  labels_are =
      sym (append_assoc (labelled (grammar.maybe grammar.ops) v.0) (labelled (grammar.maybe grammar.vars) v.1.0) (labelled_sections v.1.1))
      ∙ ap (λ l. (labelled (grammar.maybe grammar.ops) v.0 ++ labelled (grammar.maybe grammar.vars) v.1.0) ++ l) (sym (append-nil (labelled_sections v.1.1)))

-- ---- a text that spells a specification

-- what is read of it, without a fault
pub record IsReadTo (end : End) (v : Value grammar.file) (spec : Spec) : Type 0 where
  pub declared : Declared
  pub judged : judge end nothing (labelled grammar.file v) ≡ Ok declared
  pub spec_of : IsSpecOf declared spec

declared_or : Declared → Outcome → Declared
declared_or d (Ok c) = c
declared_or d (Err f) = d

same_declared : (c d : Declared) → calm (Ok c) ≡ Ok d → forgets c ≡ d
unfolding declared_or
same_declared c d e = ap (declared_or d) e

pub file_fine : (end : End) (v : Value grammar.file) (spec : Spec) → Spells (source_of v) spec → IsReadTo end v spec
file_fine end v spec h =
    let k = spelled_by (source_of v) spec h in
    let ss = signature_of (symbols_in v.0) in
    let vs = variables_in v.1.0 in
    let d = spelled_at ss vs (parts_of (map section_of v.1.1)) spec.rules spec.equations spec.entries in
    let sections = sections_fine end (patterns_are_tied end) ss vs (symbols_short (symbols_in v.0) k.symbols) k.variables.short k.variables.distinct v.1.1 spec.rules spec.equations spec.entries k.orderly k.spelled [] tt in
    let all : reads end nothing (labelled grammar.file v) ≡ Ok d =
    ap (reads end nothing) (labels_are end v)
    ∙ ((front_tied end v).fine (k.symbols, k.variables) (labelled_sections v.1.1 ++ []) tt
    ∙ (sections
    ∙ none_at_end end d (some_there (automata_in (map section_of v.1.1)) k.some))) in
    let b = ok_below (judge end nothing (labelled grammar.file v)) d all in
    let same : forgets b.0 ≡ d = same_declared b.0 d (ap calm (sym b.1) ∙ all) in
    record { declared = b.0; judged = b.1; spec_of = spec_of_remembered b.0 spec (subst (λ s. IsSpecOf s spec) (sym same) k.spec_of) }

-- ---- a text that is read

read_as : (v : Value grammar.file) (spec : Spec) (d : Declared) (rs qs : Sides) (es : List Entry) → AreSymbols (symbols_in v.0) → AreNewNames (names_of (signature_of (symbols_in v.0))) 1024 (variables_in v.1.0) → AreOrderly (map section_of v.1.1)
    → AreRead (signature_of (symbols_in v.0)) (variables_in v.1.0) (parts_of (map section_of v.1.1)) rs qs es
    → IsWholeAt (closed_at (signature_of (symbols_in v.0)) (variables_in v.1.0) (parts_of (map section_of v.1.1)) rs qs es) (forgets d) → IsSpecOf d spec → IsReadAs (source_of v) spec
read_as v spec d rs qs es new_symbols new_variables orderly allowed e k = record {
  symbols = new_symbols;
  variables = new_variables;
  orderly = orderly;
  some = there_are_some (automata_in (map section_of v.1.1)) e.some;
  rules = rs;
  equations = qs;
  entries = es;
  read = allowed;
  spec_of = subst (λ s. IsSpecOf s spec) (sym e.is) (spec_of_forgotten d spec k);
}

pub file_only : (end : End) (v : Value grammar.file) (spec : Spec) (d : Declared) → judge end nothing (labelled grammar.file v) ≡ Ok d → IsSpecOf d spec → Spells (source_of v) spec
file_only end v spec d h k =
    let ss = signature_of (symbols_in v.0) in
    let vs = variables_in v.1.0 in
    let front = (front_tied end v).only (labelled_sections v.1.1 ++ []) (forgets d) tt (ap (reads end nothing) (sym (labels_are end v)) ∙ ap calm h) in
    let a = sections_only end (patterns_are_tied end) ss vs (symbols_short (symbols_in v.0) front.0.0) front.0.1.short front.0.1.distinct v.1.1 [] (forgets d) tt front.1 in
    spells (source_of v) spec
    (read_as v spec d a.rules a.equations a.entries front.0.0 front.0.1 a.orderly a.allowed
    (whole_at_end end (closed_at ss vs (parts_of (map section_of v.1.1)) a.rules a.equations a.entries) (forgets d) a.behind) k)
