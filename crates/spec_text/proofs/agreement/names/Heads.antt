-- Symbols, variables and titles: what the judge says of their tokens.
use Rattle.std.proofs.Common.{◌≡◌, List, [], ◌∷◌, ◌++◌, length, map, Option, Some, None, Ok, refl, sym, ap, subst, ◌∙◌, append_assoc}
use Rattle.std.specs.Prelude.{flat_map}
use Rattle.std.proofs.lemmas.List.{append-nil}
use Rattle.ranked_terms.specs.Names.{Symbol, names_of}
use Rattle.timbuk_grammar.specs.declared.terminal.Role.TheVariants as role
use Rattle.timbuk_grammar.specs.declared.terminal.Terminal.TheVariants as terminal
use Rattle.timbuk_grammar.specs.Grammar as grammar
use Rattle.timbuk_grammar.specs.Trees.{Token, Value}
use Rattle.spec_text.specs.Declarations.{Text, Declared, Last, any, adds, value_of}
use Rattle.spec_text.specs.Source.{SymbolDeclaration, text_of, symbol_of, symbols_in, variables_in}
use Rattle.spec_text.specs.Naming.{IsShort, signature_of, AreSymbols, AreNewNames}
use Rattle.spec_text.specs.Reading.{End}
use Rattle.spec_text.proofs.agreement.tokens.Labels.{Label, label, labelled, judge}
use Rattle.spec_text.proofs.agreement.names.Rows.{IsResting, IsNew, plain_row, symbol_row, new_symbol, variable_row, new_variable, number_row, small_number, title_row, short_title}
use Rattle.spec_text.proofs.agreement.names.Texts.{IsNewSymbol, IsNewSymbol-middle, AreSymbols-push, IsNew-middle, AreNewNames-push, signature_of-append}
use Rattle.spec_text.proofs.agreement.names.States.{between, between-at_rest}
use Rattle.spec_text.proofs.agreement.tokens.Paths.{Path, path_nowhere, path_by, path_on, path_also, path_before, plain_path, path-fine, path-only}

-- ---- symbols

-- the declarations with these symbols besides
abbrev pub with_symbols : List SymbolDeclaration → Declared → Declared
with_symbols ds d = record d { symbols = d.symbols ++ signature_of ds }

op_path : (d : Declared) (v : Value grammar.op) → Path (between any d) (labelled grammar.op v) (IsNewSymbol d.symbols (symbol_of v)) (between any (with_symbols (symbol_of v ∷ []) d))
unfolding adds
op_path d v = record {
  fine = λ h. (
    symbol_row (between any d) v.0.lexeme (between-at_rest any d tt) v.0.matched h.name,
    (
      plain_row terminal.Colon _ v.1.0.lexeme (record { applications = refl; last = tt }) refl refl v.1.0.matched,
      (number_row _ v.1.1.lexeme (record { applications = refl; last = tt }) v.1.1.matched h.arity, tt),
    ),
  );
  only = λ h. record { name = new_symbol (between any d) v.0.lexeme h.0; arity = small_number _ v.1.1.lexeme h.1.1.0 };
  state = λ h. refl;
}

symbols_grow : (ds : List SymbolDeclaration) (d : SymbolDeclaration) (symbols : List Symbol) → symbols ≡ signature_of ds → symbols ++ (d.name, value_of d.arity) ∷ [] ≡ signature_of (ds ++ d ∷ [])
symbols_grow ds d symbols e = ap (λ s. s ++ (d.name, value_of d.arity) ∷ []) e ∙ sym (signature_of-append ds (d ∷ []))

-- behind the symbols of the declarations `before`
symbols_path : (d : Declared) (before : List SymbolDeclaration) (vs : List (Value grammar.op)) → d.symbols ≡ signature_of before → AreSymbols before → Path (between any d) (flat_map (labelled grammar.op) vs) (AreSymbols (before ++ map symbol_of vs)) (between any (with_symbols (map symbol_of vs) d))
symbols_path d before [] e h =
    path_also _ _ _ [] (Unit {0}) _ (λ k. tt) (λ k. subst AreSymbols (sym (append-nil before)) h) (λ k. ap (λ s. between any (record d { symbols = s })) (sym (append-nil d.symbols))) (path_nowhere (between any d))
symbols_path d before (v ∷ vs) e h =
    let s = symbol_of v in
    let ds = map symbol_of vs in
    let middle = with_symbols (s ∷ []) d in
    path_also (between any d) (between any (with_symbols ds middle)) _ _ (IsNewSymbol d.symbols s × AreSymbols ((before ++ s ∷ []) ++ ds)) _
    (λ k. (subst (λ t. IsNewSymbol t s) (sym e) (IsNewSymbol-middle before ds s k), subst AreSymbols (sym (append_assoc before (s ∷ []) ds)) k))
    (λ k. subst AreSymbols (append_assoc before (s ∷ []) ds) k.1)
    (λ k. ap (λ t. between any (record d { symbols = t })) (append_assoc d.symbols (signature_of (s ∷ [])) (signature_of ds)))
    (path_on (between any d) (between any middle) (between any (with_symbols ds middle)) (labelled grammar.op v) (flat_map (labelled grammar.op) vs) _ _ (op_path d v)
    (λ new. symbols_path middle (before ++ s ∷ []) vs (symbols_grow before s d.symbols e) (AreSymbols-push before s h (subst (λ t. IsNewSymbol t s) e new))))

-- ---- variables

abbrev pub with_variables : List Text → Declared → Declared
with_variables names d = record d { variables = d.variables ++ names }

variable_path : (d : Declared) (v : Token (terminal.Named role.Variable)) → Path (between any d) (label v ∷ []) (IsNew (names_of d.symbols ++ d.variables) (length d.variables) 1024 (text_of v)) (between any (with_variables (text_of v ∷ []) d))
unfolding adds
variable_path d v = path_by (terminal.Named role.Variable) v.lexeme (between any d) _ _ (variable_row (between any d) v.lexeme (between-at_rest any d tt) v.matched) (new_variable (between any d) v.lexeme) (λ h. refl)

variables_path : (d : Declared) (vs : List (Token (terminal.Named role.Variable))) → AreNewNames (names_of d.symbols) 1024 d.variables → Path (between any d) (flat_map (labelled (grammar.name role.Variable)) vs) (AreNewNames (names_of d.symbols) 1024 (d.variables ++ map text_of vs)) (between any (with_variables (map text_of vs) d))
variables_path d [] h =
    path_also _ _ _ [] (Unit {0}) _ (λ k. tt) (λ k. subst (AreNewNames (names_of d.symbols) 1024) (sym (append-nil d.variables)) h) (λ k. ap (λ s. between any (record d { variables = s })) (sym (append-nil d.variables))) (path_nowhere (between any d))
variables_path d (v ∷ vs) h =
    let t = text_of v in
    let ts = map text_of vs in
    let middle = with_variables (t ∷ []) d in
    let same = append_assoc d.variables (t ∷ []) ts in
    path_also (between any d) (between any (with_variables ts middle)) _ _ (IsNew (names_of d.symbols ++ d.variables) (length d.variables) 1024 t × AreNewNames (names_of d.symbols) 1024 ((d.variables ++ t ∷ []) ++ ts)) _
    (λ k. (IsNew-middle (names_of d.symbols) 1024 d.variables ts t k, subst (AreNewNames (names_of d.symbols) 1024) (sym same) k))
    (λ k. subst (AreNewNames (names_of d.symbols) 1024) same k.1)
    (λ k. ap (λ s. between any (record d { variables = s })) same)
    (path_on (between any d) (between any middle) (between any (with_variables ts middle)) (label v ∷ []) (flat_map (labelled (grammar.name role.Variable)) vs) _ _ (variable_path d v)
    (λ new. variables_path middle vs (AreNewNames-push (names_of d.symbols) 1024 d.variables t h new)))

-- ---- the sections of symbols and variables, and titles

module _ (l : Last) (resting : IsResting l) (d : Declared) where
  pub ops_path : (before : List SymbolDeclaration) (v : Value grammar.ops) → d.symbols ≡ signature_of before → AreSymbols before → Path (between l d) (labelled grammar.ops v) (AreSymbols (before ++ symbols_in (Some v))) (between any (with_symbols (symbols_in (Some v)) d))
  unfolding adds
  ops_path before v e h =
      path_before (between l d) (between any d) (between any (with_symbols (map symbol_of v.1) d)) (label v.0 ∷ []) (flat_map (labelled grammar.op) v.1) _
      (plain_path terminal.Ops v.0 (between l d) (between any d) (between-at_rest l d resting) refl refl refl) (symbols_path d before v.1 e h)

  pub vars_path : (v : Value grammar.vars) → AreNewNames (names_of d.symbols) 1024 d.variables → Path (between l d) (labelled grammar.vars v) (AreNewNames (names_of d.symbols) 1024 (d.variables ++ variables_in (Some v))) (between any (with_variables (variables_in (Some v)) d))
  unfolding adds
  vars_path v h =
      path_before (between l d) (between any d) (between any (with_variables (map text_of v.1) d)) (label v.0 ∷ []) (flat_map (labelled (grammar.name role.Variable)) v.1) _
      (plain_path terminal.Vars v.0 (between l d) (between any d) (between-at_rest l d resting) refl refl refl) (variables_path d v.1 h)

  -- a title is fine exactly where it has at most 255 bytes
  pub title_path : (v : Token (terminal.Named role.Title)) → Path (between l d) (label v ∷ []) (IsShort (text_of v)) (between any d)
  unfolding adds
  title_path v = path_by (terminal.Named role.Title) v.lexeme (between l d) (between any d) (IsShort (text_of v)) (title_row (between l d) v.lexeme (between-at_rest l d resting) v.matched) (short_title (between l d) v.lexeme) (λ h. refl)

-- the same where a section may be left out
pub maybe_ops_path : (d : Declared) (before : List SymbolDeclaration) (o : Option (Value grammar.ops)) → d.symbols ≡ signature_of before → AreSymbols before → Path (between any d) (labelled (grammar.maybe grammar.ops) o) (AreSymbols (before ++ symbols_in o)) (between any (with_symbols (symbols_in o) d))
maybe_ops_path d before None e h = symbols_path d before [] e h
maybe_ops_path d before (Some v) e h = ops_path any tt d before v e h

pub maybe_vars_path : (d : Declared) (o : Option (Value grammar.vars)) → AreNewNames (names_of d.symbols) 1024 d.variables → Path (between any d) (labelled (grammar.maybe grammar.vars) o) (AreNewNames (names_of d.symbols) 1024 (d.variables ++ variables_in o)) (between any (with_variables (variables_in o) d))
maybe_vars_path d None h = variables_path d [] h
maybe_vars_path d (Some v) h = vars_path any tt d v h

-- ---- what the judge says

module _ (end : End) (d : Declared) (rest : List Label) where
  pub fine_ops : (before : List SymbolDeclaration) (o : Option (Value grammar.ops)) → d.symbols ≡ signature_of before → AreSymbols before → AreSymbols (before ++ symbols_in o) → judge end (between any d) (labelled (grammar.maybe grammar.ops) o ++ rest) ≡ judge end (between any (with_symbols (symbols_in o) d)) rest
  fine_ops before o e h k = path-fine end _ _ (labelled (grammar.maybe grammar.ops) o) rest _ (maybe_ops_path d before o e h) k

  pub only_ops : (before : List SymbolDeclaration) (o : Option (Value grammar.ops)) (e : Declared) → d.symbols ≡ signature_of before → AreSymbols before → judge end (between any d) (labelled (grammar.maybe grammar.ops) o ++ rest) ≡ Ok e → AreSymbols (before ++ symbols_in o)
  only_ops before o e s h k = path-only end _ _ (labelled (grammar.maybe grammar.ops) o) rest _ e (maybe_ops_path d before o s h) k

  pub fine_vars : (o : Option (Value grammar.vars)) → AreNewNames (names_of d.symbols) 1024 d.variables → AreNewNames (names_of d.symbols) 1024 (d.variables ++ variables_in o) → judge end (between any d) (labelled (grammar.maybe grammar.vars) o ++ rest) ≡ judge end (between any (with_variables (variables_in o) d)) rest
  fine_vars o h k = path-fine end _ _ (labelled (grammar.maybe grammar.vars) o) rest _ (maybe_vars_path d o h) k

  pub only_vars : (o : Option (Value grammar.vars)) (e : Declared) → AreNewNames (names_of d.symbols) 1024 d.variables → judge end (between any d) (labelled (grammar.maybe grammar.vars) o ++ rest) ≡ Ok e → AreNewNames (names_of d.symbols) 1024 (d.variables ++ variables_in o)
  only_vars o e h k = path-only end _ _ (labelled (grammar.maybe grammar.vars) o) rest _ e (maybe_vars_path d o h) k

  pub fine_title : (l : Last) → IsResting l → (v : Token (terminal.Named role.Title)) → IsShort (text_of v) → judge end (between l d) (labelled (grammar.name role.Title) v ++ rest) ≡ judge end (between any d) rest
  fine_title l resting v h = path-fine end _ _ (label v ∷ []) rest _ (title_path l resting d v) h

  pub only_title : (l : Last) → IsResting l → (v : Token (terminal.Named role.Title)) (e : Declared) → judge end (between l d) (labelled (grammar.name role.Title) v ++ rest) ≡ Ok e → IsShort (text_of v)
  only_title l resting v e k = path-only end _ _ (label v ∷ []) rest _ e (title_path l resting d v) k
