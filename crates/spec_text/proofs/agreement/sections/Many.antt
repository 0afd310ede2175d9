-- Many sections against the judge.
use Rattle.std.proofs.Common.{◌≡◌, List, [], ◌∷◌, ◌++◌, map, Ok, All, inl, inr, refl, sym, ap, subst, ◌∙◌, append_assoc, arith}
use Rattle.std.specs.Prelude.{flat_map}
use Rattle.std.specs.List.{IsDistinct}
use Rattle.std.specs.Str.{bytes_eq}
use Rattle.std.proofs.lemmas.List.{append-nil, map-append}
use Rattle.std.proofs.lemmas.List.Elements.{All-nil, All-push}
use Rattle.ranked_terms.specs.Names.{Symbol, names_of}
use Rattle.trs_rules.specs.Rules.{RewriteRule, RewriteEquation}
use Rattle.trs_rules.specs.declared.entry.Entry.{Entry}
use Rattle.timbuk_grammar.specs.declared.terminal.Terminal.TheVariants as terminal
use Rattle.timbuk_grammar.specs.Grammar as grammar
use Rattle.timbuk_grammar.specs.Trees.{Value}
use Rattle.timbuk_grammar.specs.lemmas.Differ.{apart}
use Rattle.spec_text.specs.Declarations.{Text, Declared}
use Rattle.spec_text.specs.Source.{Section, section_of}
use Rattle.spec_text.specs.Naming.{IsShort}
use Rattle.spec_text.specs.Reading.{End}
use Rattle.spec_text.specs.SpecText.{title_of, NoneEarly, IsRuleFrom, IsEquationFrom, IsEntryFrom}
use Rattle.spec_text.proofs.agreement.tokens.Labels.{Label, labelled}
use Rattle.spec_text.proofs.agreement.tokens.Last.{NotOpening}
use Rattle.spec_text.proofs.agreement.names.Texts.{AreNewNames-nil}
use Rattle.spec_text.proofs.agreement.tokens.Exact.{reads}
use Rattle.spec_text.proofs.agreement.approximation.Section.{PatternsAreTied}
use Rattle.spec_text.proofs.agreement.sections.Parts.{Parts, parts_of, parts-push, with_section, early-push, early-pop, none_before, all_front, all_last, none_left}
use Rattle.spec_text.proofs.agreement.sections.States.{Sides, names_of_sides, AreSpelled, AreRead, closed_at, spelled_at, SectionFine, SectionOnly, section_fine, section_only}

-- ---- lists from their ends

snoc_induction : {X : Type 0} (A : List X → Type 0) → A [] → ((xs : List X) (x : X) → A xs → A (xs ++ x ∷ [])) → (xs : List X) → A xs
snoc_induction {X = X} A none more xs = go [] xs none
  where
    go : (before xs : List X) → A before → A (before ++ xs)
    go before [] h = subst A (sym (append-nil before)) h
    go before (x ∷ xs) h = subst A (append_assoc before (x ∷ []) xs) (go (before ++ x ∷ []) xs (more before x h))

-- ---- sections

abbrev pub labelled_sections : List (Value grammar.section) → List Label
labelled_sections vs = flat_map (labelled grammar.section) vs

sections-push : (vs : List (Value grammar.section)) (v : Value grammar.section) (rest : List Label) → labelled_sections (vs ++ v ∷ []) ++ rest ≡ labelled_sections vs ++ (labelled grammar.section v ++ rest)
sections-push [] v rest = ap (λ l. l ++ rest) (append-nil (labelled grammar.section v))
sections-push (w ∷ vs) v rest =
    append_assoc (labelled grammar.section w) (labelled_sections (vs ++ v ∷ [])) rest
    ∙ (ap (λ l. labelled grammar.section w ++ l) (sections-push vs v rest)
    ∙ sym (append_assoc (labelled grammar.section w) (labelled_sections vs) (labelled grammar.section v ++ rest)))

-- a section begins with a word
pub section_clear : (v : Value grammar.section) (rest : List Label) → NotOpening (labelled grammar.section v ++ rest)
section_clear (inl v) rest = apart terminal.Trs terminal.OpenParen v.0.lexeme refl v.0.matched
section_clear (inr (inl v)) rest = apart terminal.Automaton terminal.OpenParen v.0.lexeme refl v.0.matched
section_clear (inr (inr (inl v))) rest = apart terminal.Equations terminal.OpenParen v.0.lexeme refl v.0.matched
section_clear (inr (inr (inr v))) rest = apart terminal.Approximation terminal.OpenParen v.0.lexeme refl v.0.matched

abbrev no_parts : Parts
no_parts = record { systems = []; equations = []; automata = []; approximations = [] }

-- the titles of sections are short, and no approximation is early
pub record AreOrderly (sections : List Section) : Type 0 where
  pub titles : All (λ s. IsShort (title_of s)) sections
  pub early : NoneEarly sections

module _ (end : End) (patterns : PatternsAreTied end) (symbols : List Symbol) (variables : List Text) (short_symbols : All IsShort (names_of symbols)) (short_variables : All IsShort variables) (distinct : IsDistinct bytes_eq (names_of symbols ++ variables)) where
  abbrev Spelled : Parts → List RewriteRule → List RewriteEquation → List Entry → Type 0
  Spelled = AreSpelled symbols variables

  abbrev Read : Parts → Sides → Sides → List Entry → Type 0
  Read = AreRead symbols variables

  abbrev spelled : Parts → List RewriteRule → List RewriteEquation → List Entry → Declared
  spelled = spelled_at symbols variables

  abbrev declared : Parts → Sides → Sides → List Entry → Declared
  declared = closed_at symbols variables

  -- ---- sections that spell something are read

  abbrev SectionsFine : List (Value grammar.section) → Type 0
  SectionsFine vs =
      (rs : List RewriteRule) (qs : List RewriteEquation) (es : List Entry) → AreOrderly (map section_of vs) → Spelled (parts_of (map section_of vs)) rs qs es → (rest : List Label) → NotOpening rest
      → reads end (spelled no_parts [] [] []) (labelled_sections vs ++ rest) ≡ reads end (spelled (parts_of (map section_of vs)) rs qs es) rest

  none_fine : SectionsFine []
  none_fine rs qs es orderly h rest clear =
      let r = none_left (IsRuleFrom (names_of_sides symbols variables)) rs h.rules in
      let q = none_left (IsEquationFrom (names_of_sides symbols variables)) qs h.equations in
      let e = none_left (IsEntryFrom (names_of_sides symbols variables)) es h.entries in
      λ i. reads end (spelled no_parts (r i) (q i) (e i)) rest

  abbrev IsFineAt : Value grammar.section → Parts → List RewriteRule → List RewriteEquation → List Entry → Type 0
  IsFineAt = SectionFine end patterns symbols variables short_symbols short_variables distinct

  -- sections, and one behind them
  fine_by : (vs : List (Value grammar.section)) (v : Value grammar.section) → SectionsFine vs → (rs : List RewriteRule) (qs : List RewriteEquation) (es : List Entry) → AreOrderly (map section_of vs)
      → IsFineAt v (parts_of (map section_of vs)) rs qs es → (rest : List Label) → NotOpening rest
      → reads end (spelled no_parts [] [] []) (labelled_sections (vs ++ v ∷ []) ++ rest) ≡ reads end (spelled (with_section (section_of v) (parts_of (map section_of vs))) rs qs es) rest
  fine_by vs v fine rs qs es orderly k rest clear =
      ap (reads end (spelled no_parts [] [] [])) (sections-push vs v rest)
      ∙ (fine k.rules k.equations k.entries orderly k.before (labelled grammar.section v ++ rest) (section_clear v rest) ∙ k.read rest clear)

  more_fine : (vs : List (Value grammar.section)) (v : Value grammar.section) → SectionsFine vs → SectionsFine (vs ++ v ∷ [])
  more_fine vs v fine rs qs es orderly h rest clear =
      let s = section_of v in
      let before = map section_of vs in
      let are : map section_of (vs ++ v ∷ []) ≡ before ++ s ∷ [] = map-append section_of vs (v ∷ []) in
      let parts_are : parts_of (map section_of (vs ++ v ∷ [])) ≡ with_section s (parts_of before) = ap parts_of are ∙ parts-push before s in
      let titles = subst (All (λ s. IsShort (title_of s))) are orderly.titles in
      let early = early-pop before s (subst NoneEarly are orderly.early) in
      fine_by vs v fine rs qs es (record { titles = all_front (λ s. IsShort (title_of s)) before (s ∷ []) titles; early = early.0 })
      (section_fine end patterns symbols variables short_symbols short_variables distinct v (parts_of before) rs qs es
      (all_last (λ s. IsShort (title_of s)) before s titles) (none_before before early.0) (subst (λ p. Spelled p rs qs es) parts_are h)) rest clear
      ∙ ap (λ p. reads end (spelled p rs qs es) rest) (sym parts_are)

  pub sections_fine : (vs : List (Value grammar.section)) → SectionsFine vs
  sections_fine = snoc_induction SectionsFine none_fine more_fine

  -- ---- and sections that are read have sides

  pub record AreReadTo (sections : List Section) (rest : List Label) (e : Declared) : Type 0 where
    pub rules : Sides
    pub equations : Sides
    pub entries : List Entry
    pub orderly : AreOrderly sections
    pub allowed : Read (parts_of sections) rules equations entries
    pub behind : reads end (declared (parts_of sections) rules equations entries) rest ≡ Ok e

  abbrev SectionsOnly : List (Value grammar.section) → Type 0
  SectionsOnly vs = (rest : List Label) (e : Declared) → NotOpening rest → reads end (declared no_parts [] [] []) (labelled_sections vs ++ rest) ≡ Ok e → AreReadTo (map section_of vs) rest e

  none_allowed : Read no_parts [] [] []
  none_allowed = record {
    one_system = omega arith;
    few_rules = omega arith;
    rules = tt;
    one_equations = omega arith;
    few_equations = omega arith;
    equations = tt;
    two_automata = omega arith;
    automata = All-nil _;
    one_approximation = omega arith;
    late = λ e. refl;
    states = AreNewNames-nil (names_of symbols ++ variables) 16384 distinct;
    few_entries = omega arith;
    entries = tt;
  }

  none_only : SectionsOnly []
  none_only rest e clear h = record { rules = []; equations = []; entries = []; orderly = record { titles = All-nil _; early = tt }; allowed = none_allowed; behind = h }

  abbrev IsOnlyAt : Value grammar.section → Parts → List Label → Declared → Type 0
  IsOnlyAt = SectionOnly end patterns symbols variables short_symbols short_variables distinct

  -- sections, and one behind them
  read_to : (vs : List (Value grammar.section)) (v : Value grammar.section) (rest : List Label) (e : Declared) → AreOrderly (map section_of vs) → IsOnlyAt v (parts_of (map section_of vs)) rest e → AreReadTo (map section_of (vs ++ v ∷ [])) rest e
  read_to vs v rest e orderly o =
      let s = section_of v in
      let before = map section_of vs in
      let are : map section_of (vs ++ v ∷ []) ≡ before ++ s ∷ [] = map-append section_of vs (v ∷ []) in
      let parts_are : parts_of (map section_of (vs ++ v ∷ [])) ≡ with_section s (parts_of before) = ap parts_of are ∙ parts-push before s in
      record {
        rules = o.rules;
        equations = o.equations;
        entries = o.entries;
        orderly = record {
          titles = subst (All (λ s. IsShort (title_of s))) (sym are) (All-push (λ s. IsShort (title_of s)) before s orderly.titles o.title);
          early = subst NoneEarly (sym are) (early-push before s orderly.early o.late);
        };
        allowed = subst (λ p. Read p o.rules o.equations o.entries) (sym parts_are) o.allowed;
        behind = ap (λ p. reads end (declared p o.rules o.equations o.entries) rest) parts_are ∙ o.behind;
      }

  more_only : (vs : List (Value grammar.section)) (v : Value grammar.section) → SectionsOnly vs → SectionsOnly (vs ++ v ∷ [])
  more_only vs v only rest e clear h =
      let k = only (labelled grammar.section v ++ rest) e (section_clear v rest) (sym (ap (reads end (declared no_parts [] [] [])) (sections-push vs v rest)) ∙ h) in
      read_to vs v rest e k.orderly
      (section_only end patterns symbols variables short_symbols short_variables distinct v (parts_of (map section_of vs)) k.rules k.equations k.entries rest e k.allowed (none_before (map section_of vs) k.orderly.early) clear k.behind)

  pub sections_only : (vs : List (Value grammar.section)) → SectionsOnly vs
  sections_only = snoc_induction SectionsOnly none_only more_only
