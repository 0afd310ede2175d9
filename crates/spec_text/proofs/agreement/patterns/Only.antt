-- Patterns: a tree whose labels are read to their end stands for a pattern that is allowed.
use Rattle.std.proofs.Common.{◌≡◌, ℕ, suc, ◌+◌, ◌≤◌, ◌<◌, true, ◌&&◌, List, [], ◌∷◌, ◌++◌, length, refl, ap, sym, ◌∙◌, arith, append_assoc}
use Rattle.std.specs.Prelude.{nat_le, Ok}
use Rattle.std.proofs.lemmas.Bool.{and_from, not-true, lt-ltb, leb-false}
use Rattle.std.proofs.lemmas.List.{length-append}
use Rattle.ranked_terms.specs.declared.term.Shape.{Shape}
use Rattle.ranked_terms.specs.declared.term.Shape.TheVariants as shape
use Rattle.timbuk_grammar.specs.declared.terminal.Role.{Role}
use Rattle.timbuk_grammar.specs.declared.terminal.Terminal.TheVariants as terminal
use Rattle.timbuk_grammar.specs.Trees.{Token, Tree, Trees, leaf, node, none, comma}
use Rattle.spec_text.specs.Source.{text_of}
use Rattle.spec_text.specs.Naming.{stands_for}
use Rattle.spec_text.specs.Declarations.{Declared, Meaning, unknown, a_variable, a_state, a_symbol, placed}
use Rattle.spec_text.specs.Reading.{End}
use Rattle.spec_text.proofs.agreement.tokens.Labels.{Label, label, labelled_pattern, labelled_more}
use Rattle.spec_text.proofs.agreement.tokens.Last.{settled, NotOpening, onward}
use Rattle.spec_text.proofs.agreement.patterns.Names.{IsPattern, names_at}
use Rattle.spec_text.proofs.agreement.patterns.Fits.{fits, short}
use Rattle.spec_text.proofs.agreement.patterns.Steps.{with_bound, inside, meant_variables, leaf_only, opens_fine, opens_only, comma_fine, comma_only, close_only}
use Rattle.spec_text.proofs.agreement.patterns.Patterns.{variables_in, variables_among, all_short, all_short_among, all_taken, all_taken-append, PatternFits, MoreFit, both_from, applied_from, pattern_clear, more_clear, close_clear, regroup, pattern_fine, more_fine}

-- the tree stands for an allowed pattern
pub record IsFitting {p : Role} (v : Tree p) (d : Declared) : Type 0 where
  pub shape : Shape
  pub fits : PatternFits v d shape

pub record AreFitting {p : Role} (vs : Trees p) (d : Declared) (count arity : ℕ) : Type 0 where
  pub shapes : List Shape
  pub fit : MoreFit vs d count arity shapes

-- A tree whose labels are read is allowed.
abbrev pub TreeOnly : {p : Role} → Tree p → Type 0
TreeOnly v =
    (d e : Declared) (end : End) (rest : List Label) → length d.applications ≤ 100 → NotOpening rest
    → settled end d (labelled_pattern v ++ rest) ≡ Ok e → IsFitting v d

abbrev pub MoreOnly : {p : Role} → Trees p → Type 0
MoreOnly {p} vs =
    (d e : Declared) (f n : ℕ) (args : List Shape) (end : End) (rest : List Label) → length d.applications < 100 → length args ≤ n → NotOpening rest
    → settled end (inside p f n args d) (labelled_more vs ++ rest) ≡ Ok e → AreFitting vs d (length args) n

leaf_taken : (p : Role) (m : Meaning) (d : Declared) → fits p m d ≡ true → all_taken p d.bound d.own (meant_variables m) ≡ true
leaf_taken p unknown d e = refl
leaf_taken p (a_variable v) d e = and_from _ true e refl
leaf_taken p (a_state q) d e = refl
leaf_taken p (a_symbol f n) d e = refl

leaf_fitting : {p : Role} → IsPattern p → (n : Token (terminal.Named p)) → TreeOnly {p = p} (leaf n)
leaf_fitting {p = p} k n d e end rest deep clear h =
    let l = leaf_only k n d e end rest clear h in
    record {
      shape = l.shape;
      fits = record {
        shape = l.is;
        nesting = omega arith;
        short_names = l.name.is_short;
        variables = leaf_taken p (stands_for (names_at p d) (text_of n)) d l.name.allowed;
        start = l.name.start;
      };
    }

-- a symbol with arguments is allowed where it lies at most 100 deep
not_deep : (p : Role) (f n : ℕ) (d : Declared) → fits p (a_symbol f (suc n)) d ≡ true → length d.applications < 100
not_deep p f n d h =
    let positive : 0 < suc n = omega arith in
    leb-false 100 (length d.applications) (ap (λ z. z && nat_le 100 (length d.applications)) (sym (lt-ltb 0 (suc n) positive)) ∙ not-true _ h)

-- an allowed pattern, and what is read behind it
pub record IsPassed {p : Role} (v : Tree p) (d e : Declared) (end : End) (rest : List Label) : Type 0 where
  pub shape : Shape
  pub fits : PatternFits v d shape
  pub behind : settled end (placed p shape (with_bound (variables_in (names_at p d) v) d)) rest ≡ Ok e

passed_by : {p : Role} → IsPattern p → (v : Tree p) → TreeOnly v → (d e : Declared) (end : End) (rest : List Label) → length d.applications ≤ 100 → NotOpening rest
    → settled end d (labelled_pattern v ++ rest) ≡ Ok e → IsPassed v d e end rest
passed_by {p = p} k v only d e end rest deep clear h =
    let t = only d e end rest deep clear h in
    record { shape = t.shape; fits = t.fits; behind = onward (pattern_fine p v k d t.shape t.fits end rest clear) h }

-- all arguments after the first, up to the parenthesis that closes them
record AreClosed {p : Role} (more : Trees p) (d : Declared) (arity : ℕ) : Type 0 where
  pub shapes : List Shape
  pub fit : MoreFit more d 1 arity shapes
  pub full : arity ≤ suc (length shapes)

closed_only : {p : Role} → IsPattern p → (more : Trees p) (closing : Token terminal.CloseParen) → MoreOnly more → (d e : Declared) (f a : ℕ) (s : Shape) (end : End) (rest : List Label)
    → length d.applications < 100 → 1 ≤ a → settled end (inside p f a (s ∷ []) d) (labelled_more more ++ label closing ∷ rest) ≡ Ok e → AreClosed more d a
closed_only {p = p} k more closing only_more d e f a s end rest deep one h =
    let clear = close_clear closing rest in
    let u = only_more d e f a (s ∷ []) end (label closing ∷ rest) deep one clear h in
    let after = with_bound (variables_among (names_at p d) more) d in
    let h0 : settled end (inside p f a (s ∷ u.shapes) after) (label closing ∷ rest) ≡ Ok e =
    onward (more_fine p more k d f a (s ∷ []) u.shapes u.fit end (label closing ∷ rest) clear) h in
    record { shapes = u.shapes; fit = u.fit; full = close_only p f a (s ∷ u.shapes) after e closing end rest h0 }

node_only : {p : Role} → IsPattern p → (n : Token (terminal.Named p)) (opening : Token terminal.OpenParen) (first : Tree p) (more : Trees p) (closing : Token terminal.CloseParen)
    → TreeOnly first → MoreOnly more → TreeOnly (node n opening first more closing)
node_only {p = p} k n opening first more closing only_first only_more d e end rest deep clear h =
    let names = names_at p d in
    let after = labelled_more more ++ label closing ∷ rest in
    let h0 : settled end d (label n ∷ label opening ∷ (labelled_pattern first ++ after)) ≡ Ok e =
    ap (λ z. settled end d (label n ∷ label opening ∷ z)) (sym (regroup (labelled_pattern first) (labelled_more more) rest (label closing))) ∙ h in
    let o = opens_only k n opening d e end (labelled_pattern first ++ after) h0 in
    let f = o.symbol.sym in
    let a = suc o.symbol.less in
    let within : length d.applications < 100 = not_deep p f o.symbol.less d (sym (ap (λ z. fits p z d) o.symbol.is) ∙ o.name.allowed) in
    let h1 : settled end (inside p f a [] d) (labelled_pattern first ++ after) ≡ Ok e =
    onward (opens_fine k n opening d f o.symbol.less o.name o.symbol.is end (labelled_pattern first ++ after)) h0 in
    let t = passed_by k first only_first (inside p f a [] d) e end after (omega (arith, within)) (more_clear more _ (close_clear closing rest)) h1 in
    let vs = variables_in names first in
    let ws = variables_among names more in
    let one : 1 ≤ a = omega arith in
    let u = closed_only k more closing only_more (with_bound vs d) e f a t.shape end rest within one t.behind in
    record {
      shape = shape.App f (t.shape ∷ u.shapes);
      fits = record {
        shape = applied_from f a t.shape u.shapes o.symbol.is t.fits.shape u.fit.shapes (omega (arith, u.full, u.fit.room));
        nesting = omega (arith, t.fits.nesting, u.fit.nesting);
        short_names = and_from (short (text_of n)) (all_short first && all_short_among more) o.name.is_short (and_from (all_short first) (all_short_among more) t.fits.short_names u.fit.short_names);
        variables = all_taken-append p d.bound d.own vs ws ∙ and_from (all_taken p d.bound d.own vs) (all_taken p (with_bound vs d).bound d.own ws) t.fits.variables u.fit.variables;
        start = o.name.start;
      };
    }

comma_fitting : {p : Role} → IsPattern p → (mark : Token terminal.Comma) (next : Tree p) (more : Trees p) → TreeOnly next → MoreOnly more → MoreOnly (comma mark next more)
comma_fitting {p = p} k mark next more only_next only_more d e f n args end rest deep room clear h =
    let names = names_at p d in
    let after = labelled_more more ++ rest in
    let h0 : settled end (inside p f n args d) (label mark ∷ (labelled_pattern next ++ after)) ≡ Ok e =
    ap (λ z. settled end (inside p f n args d) (label mark ∷ z)) (sym (append_assoc (labelled_pattern next) (labelled_more more) rest)) ∙ h in
    let less : length args < n = comma_only p f n args d e mark end (labelled_pattern next ++ after) h0 in
    let h1 : settled end (inside p f n args d) (labelled_pattern next ++ after) ≡ Ok e =
    onward (comma_fine p f n args d mark less end (labelled_pattern next ++ after) (pattern_clear next after)) h0 in
    let t = passed_by k next only_next (inside p f n args d) e end after (omega (arith, deep)) (more_clear more rest clear) h1 in
    let vs = variables_in names next in
    let ws = variables_among names more in
    let pushed : length (args ++ t.shape ∷ []) ≡ length args + 1 = length-append args (t.shape ∷ []) in
    let u = only_more (with_bound vs d) e f n (args ++ t.shape ∷ []) end rest deep (omega (arith, less)) clear t.behind in
    record {
      shapes = t.shape ∷ u.shapes;
      fit = record {
        shapes = both_from {s = t.shape} {ss = u.shapes} t.fits.shape u.fit.shapes;
        nesting = omega (arith, t.fits.nesting, u.fit.nesting);
        short_names = and_from _ _ t.fits.short_names u.fit.short_names;
        variables = all_taken-append p d.bound d.own vs ws ∙ and_from _ _ t.fits.variables u.fit.variables;
        room = omega (arith, u.fit.room);
      };
    }

none_fitting : {p : Role} → MoreOnly {p = p} none
none_fitting d e f n args end rest deep room clear h = record {
  shapes = [];
  fit = record { shapes = refl; nesting = omega (arith, deep); short_names = refl; variables = refl; room = omega (arith, room) };
}

mutual
  pub pattern_only : (p : Role) → (v : Tree p) → IsPattern p → TreeOnly v
  pattern_only p (leaf n) k = leaf_fitting k n
  pattern_only p (node n opening first more closing) k = node_only k n opening first more closing (pattern_only p first k) (more_only p more k)

  pub more_only : (p : Role) → (vs : Trees p) → IsPattern p → MoreOnly vs
  more_only p none k = none_fitting
  more_only p (comma mark next more) k = comma_fitting k mark next more (pattern_only p next k) (more_only p more k)

-- a pattern whose labels are read, and what is read behind it
pub pattern_passed : (p : Role) (v : Tree p) → IsPattern p → (d e : Declared) (end : End) (rest : List Label) → length d.applications ≤ 100 → NotOpening rest
    → settled end d (labelled_pattern v ++ rest) ≡ Ok e → IsPassed v d e end rest
pattern_passed p v k = passed_by k v (pattern_only p v k)
