-- Patterns: the labels of a tree are read to their end exactly where the tree stands for a pattern that is allowed there.
use Rattle.std.proofs.Common.{◌≡◌, ℕ, zero, suc, ◌+◌, ◌≤◌, ◌<◌, Bool, true, false, not, ◌&&◌, ◌==◌, List, [], ◌∷◌, ◌++◌, fold, length, refl, ap, sym, ◌∙◌, arith, append_assoc}
use Rattle.std.specs.Prelude.{nat_lt, if◌then◌else◌, Option, Some, None, unwrap_or}
use Rattle.std.specs.Option.{option_and_then}
use Rattle.std.proofs.lemmas.Bool.{and_parts, and_right, eqb-true, eq-eqb, lt-leb}
use Rattle.std.proofs.lemmas.List.{append-nil, length-append}
use Rattle.std.proofs.lemmas.List.Sums.{fold-append}
use Rattle.ranked_terms.specs.declared.term.Shape.{Shape}
use Rattle.ranked_terms.specs.declared.term.Shape.TheVariants as shape
use Rattle.timbuk_grammar.specs.declared.terminal.Role.{Role}
use Rattle.timbuk_grammar.specs.declared.terminal.Terminal.TheVariants as terminal
use Rattle.timbuk_grammar.specs.Trees.{Token, Tree, Trees, leaf, node, none, comma}
use Rattle.timbuk_grammar.specs.lemmas.Differ.{apart}
use Rattle.spec_text.specs.Source.{text_of}
use Rattle.spec_text.specs.Naming.{Names, stands_for, leaf_shape, node_shape, one_and_more, shape_in, shapes_in, nesting_in, nesting_among}
use Rattle.spec_text.specs.Declarations.{Declared, Meaning, unknown, a_variable, a_state, a_symbol, with_variable, placed}
use Rattle.spec_text.specs.Reading.{End}
use Rattle.spec_text.proofs.agreement.tokens.Labels.{Label, label, labelled_pattern, labelled_more}
use Rattle.spec_text.proofs.agreement.tokens.Last.{settled, NotOpening}
use Rattle.spec_text.proofs.agreement.patterns.Names.{IsPattern, in_left, in_right, in_equation_left, in_equation_right, in_whole, names_at}
use Rattle.spec_text.proofs.agreement.patterns.Fits.{takes, fits, is_variable, starts, short, NameFits}
use Rattle.spec_text.proofs.agreement.patterns.Steps.{with_bound, inside, meant_variables, leaf_fine, opens_fine, comma_fine, close_fine}

-- ---- what is allowed

abbrev mutual
  -- the variables of a tree, from left to right, as often as they stand there
  pub variables_in : {p : Role} → Names → Tree p → List ℕ
  variables_in names (leaf name) = meant_variables (stands_for names (text_of name))
  variables_in names (node name opening first more closing) = variables_in names first ++ variables_among names more

  pub variables_among : {p : Role} → Names → Trees p → List ℕ
  variables_among names none = []
  variables_among names (comma mark next more) = variables_in names next ++ variables_among names more

abbrev mutual
  -- no name is too long
  pub all_short : {p : Role} → Tree p → Bool
  all_short (leaf name) = short (text_of name)
  all_short (node name opening first more closing) = short (text_of name) && (all_short first && all_short_among more)

  pub all_short_among : {p : Role} → Trees p → Bool
  all_short_among none = true
  all_short_among (comma mark next more) = all_short next && all_short_among more

-- what the first name stands for
abbrev pub first_meaning : {p : Role} → Names → Tree p → Meaning
first_meaning names (leaf name) = stands_for names (text_of name)
first_meaning names (node name opening first more closing) = stands_for names (text_of name)

-- the variables may stand after these, one after the other
abbrev pub all_taken : Role → List ℕ → List ℕ → List ℕ → Bool
all_taken p bound own [] = true
all_taken p bound own (v ∷ vs) = takes p bound own v && all_taken p (with_variable bound v) own vs

-- the tree stands for this pattern, which is allowed after these declarations
pub record PatternFits {p : Role} (v : Tree p) (d : Declared) (s : Shape) : Type 0 where
  pub shape : shape_in (names_at p d) v ≡ Some s
  pub nesting : nesting_in v + length d.applications ≤ 100
  pub short_names : all_short v ≡ true
  pub variables : all_taken p d.bound d.own (variables_in (names_at p d) v) ≡ true
  pub start : starts p (first_meaning (names_at p d) v) d ≡ true

-- the arguments after so many, inside of an application of this arity
pub record MoreFit {p : Role} (vs : Trees p) (d : Declared) (count arity : ℕ) (ss : List Shape) : Type 0 where
  pub shapes : shapes_in (names_at p d) vs ≡ Some ss
  pub nesting : nesting_among vs + suc (length d.applications) ≤ 100
  pub short_names : all_short_among vs ≡ true
  pub variables : all_taken p d.bound d.own (variables_among (names_at p d) vs) ≡ true
  pub room : count + length ss ≤ arity

-- ---- parts of a shape

pub record Both (a : Option Shape) (b : Option (List Shape)) (ss : List Shape) : Type 0 where
  pub first : Shape
  pub more : List Shape
  pub first_is : a ≡ Some first
  pub more_are : b ≡ Some more
  pub are : first ∷ more ≡ ss

pub both_parts : (a : Option Shape) (b : Option (List Shape)) (ss : List Shape) → one_and_more a b ≡ Some ss → Both a b ss
both_parts (Some s) (Some more) ss e = record { first = s; more = more; first_is = refl; more_are = refl; are = cc }
both_parts (Some s) None ss e = cc
both_parts None b ss e = cc

pub both_from : {a : Option Shape} {b : Option (List Shape)} {s : Shape} {ss : List Shape} → a ≡ Some s → b ≡ Some ss → one_and_more a b ≡ Some (s ∷ ss)
both_from e f = λ i. one_and_more (e i) (f i)

pub record Applied (m : Meaning) (a : Option Shape) (b : Option (List Shape)) (s : Shape) : Type 0 where
  pub sym : ℕ
  pub first : Shape
  pub more : List Shape
  pub means : m ≡ a_symbol sym (suc (length more))
  pub first_is : a ≡ Some first
  pub more_are : b ≡ Some more
  pub is : shape.App sym (first ∷ more) ≡ s

applied_by : (f n : ℕ) (s : Shape) (ss : List Shape) (whole : Shape) (r : Bool) → (n == suc (length ss)) ≡ r → (if r then Some (shape.App f (s ∷ ss)) else None) ≡ Some whole
    → Applied (a_symbol f n) (Some s) (Some ss) whole
applied_by f n s ss whole true t e = record {
  sym = f;
  first = s;
  more = ss;
  means = ap (a_symbol f) (eqb-true n (suc (length ss)) t);
  first_is = refl;
  more_are = refl;
  is = cc;
}
applied_by f n s ss whole false t e = cc

pub applied_parts : (m : Meaning) (a : Option Shape) (b : Option (List Shape)) (s : Shape) → option_and_then (node_shape m) (one_and_more a b) ≡ Some s → Applied m a b s
applied_parts (a_symbol f n) (Some x) (Some xs) s e = applied_by f n x xs s (n == suc (length xs)) refl e
applied_parts unknown (Some x) (Some xs) s e = cc
applied_parts (a_variable v) (Some x) (Some xs) s e = cc
applied_parts (a_state q) (Some x) (Some xs) s e = cc
applied_parts m (Some x) None s e = cc
applied_parts m None b s e = cc

pub applied_from : {m : Meaning} {a : Option Shape} {b : Option (List Shape)} (f n : ℕ) (s : Shape) (ss : List Shape) → m ≡ a_symbol f n → a ≡ Some s → b ≡ Some ss → n ≡ suc (length ss)
    → option_and_then (node_shape m) (one_and_more a b) ≡ Some (shape.App f (s ∷ ss))
applied_from f n s ss h e g c =
    (λ i. option_and_then (node_shape (h i)) (one_and_more (e i) (g i)))
    ∙ ap (λ r. if r then Some (shape.App f (s ∷ ss)) else None) (eq-eqb n (suc (length ss)) c)

-- ---- lists of variables

bound_twice : (vs ws : List ℕ) (d : Declared) → with_bound ws (with_bound vs d) ≡ with_bound (vs ++ ws) d
bound_twice vs ws d = ap (λ z. record d { bound = z }) (sym (fold-append with_variable d.bound vs ws))

and_groups : (a b c : Bool) → (a && (b && c)) ≡ ((a && b) && c)
and_groups true b c = refl
and_groups false b c = refl

pub all_taken-append : (p : Role) (bound own vs ws : List ℕ) → all_taken p bound own (vs ++ ws) ≡ (all_taken p bound own vs && all_taken p (fold with_variable bound vs) own ws)
all_taken-append p bound own [] ws = refl
all_taken-append p bound own (v ∷ vs) ws =
    ap (λ z. takes p bound own v && z) (all_taken-append p (with_variable bound v) own vs ws)
    ∙ and_groups (takes p bound own v) (all_taken p (with_variable bound v) own vs) (all_taken p (fold with_variable (with_variable bound v) vs) own ws)

-- ---- what follows opens no parenthesis

pub pattern_clear : {p : Role} (v : Tree p) (rest : List Label) → NotOpening (labelled_pattern v ++ rest)
pattern_clear {p = p} (leaf n) rest = apart (terminal.Named p) terminal.OpenParen n.lexeme refl n.matched
pattern_clear {p = p} (node n opening first more closing) rest = apart (terminal.Named p) terminal.OpenParen n.lexeme refl n.matched

pub more_clear : {p : Role} (vs : Trees p) (rest : List Label) → NotOpening rest → NotOpening (labelled_more vs ++ rest)
more_clear none rest clear = clear
more_clear (comma mark next more) rest clear = apart terminal.Comma terminal.OpenParen mark.lexeme refl mark.matched

pub close_clear : (closing : Token terminal.CloseParen) (rest : List Label) → NotOpening (label closing ∷ rest)
close_clear closing rest = apart terminal.CloseParen terminal.OpenParen closing.lexeme refl closing.matched

-- inside of an application any name may begin an argument
starts_inside : {p : Role} → IsPattern p → (m : Meaning) (f n : ℕ) (args : List Shape) (d : Declared) → starts p m (inside p f n args d) ≡ true
starts_inside in_left m f n args d = ap not (and_right (is_variable m) false refl)
starts_inside in_right m f n args d = refl
starts_inside in_equation_left m f n args d = refl
starts_inside in_equation_right m f n args d = refl
starts_inside in_whole m f n args d = refl

-- ---- what is allowed is read

leaf_allowed : (p : Role) (m : Meaning) (s : Shape) (d : Declared) → leaf_shape m ≡ Some s → all_taken p d.bound d.own (meant_variables m) ≡ true → fits p m d ≡ true
leaf_allowed p unknown s d e h = cc
leaf_allowed p (a_variable v) s d e h = (and_parts _ _ h).0
leaf_allowed p (a_state q) s d e h = refl
leaf_allowed p (a_symbol f zero) s d e h = refl
leaf_allowed p (a_symbol f (suc n)) s d e h = cc

leaf_fits : {p : Role} (n : Token (terminal.Named p)) (d : Declared) (s : Shape) → PatternFits {p = p} (leaf n) d s → NameFits p (text_of n) d
leaf_fits {p = p} n d s h = record { is_short = h.short_names; allowed = leaf_allowed p (stands_for (names_at p d) (text_of n)) s d h.shape h.variables; start = h.start }

-- the labels of a tree with arguments, and of what follows
pub regroup : (xs ys rest : List Label) (x : Label) → (xs ++ (ys ++ x ∷ [])) ++ rest ≡ xs ++ (ys ++ x ∷ rest)
regroup xs ys rest x = append_assoc xs (ys ++ x ∷ []) rest ∙ ap (λ z. xs ++ z) (append_assoc ys (x ∷ []) rest)

-- A tree's labels are read.
abbrev pub TreeRead : {p : Role} → Tree p → Type 0
TreeRead {p} v =
    (d : Declared) (s : Shape) → PatternFits v d s → (end : End) (rest : List Label) → NotOpening rest
    → settled end d (labelled_pattern v ++ rest) ≡ settled end (placed p s (with_bound (variables_in (names_at p d) v) d)) rest

abbrev pub MoreRead : {p : Role} → Trees p → Type 0
MoreRead {p} vs =
    (d : Declared) (f n : ℕ) (args ss : List Shape) → MoreFit vs d (length args) n ss → (end : End) (rest : List Label) → NotOpening rest
    → settled end (inside p f n args d) (labelled_more vs ++ rest) ≡ settled end (inside p f n (args ++ ss) (with_bound (variables_among (names_at p d) vs) d)) rest

symbol_allowed : (p : Role) (f n : ℕ) (d : Declared) → length d.applications < 100 → fits p (a_symbol f (suc n)) d ≡ true
symbol_allowed p f n d h = ap (λ z. not (nat_lt 0 (suc n) && z)) (lt-leb 100 (length d.applications) h) ∙ ap not (and_right (nat_lt 0 (suc n)) false refl)

node_read : {p : Role} → IsPattern p → (n : Token (terminal.Named p)) (opening : Token terminal.OpenParen) (first : Tree p) (more : Trees p) (closing : Token terminal.CloseParen)
    → TreeRead first → MoreRead more → TreeRead (node n opening first more closing)
node_read {p = p} k n opening first more closing read_first read_more d s h end rest clear =
    let names = names_at p d in
    let m = stands_for names (text_of n) in
    let a = applied_parts m (shape_in names first) (shapes_in names more) s h.shape in
    let deep : length d.applications < 100 = omega (arith, h.nesting) in
    let short_parts = and_parts (short (text_of n)) _ h.short_names in
    let short_more = and_parts (all_short first) _ short_parts.1 in
    let vs = variables_in names first in
    let ws = variables_among names more in
    let taken = and_parts (all_taken p d.bound d.own vs) _ (sym (all_taken-append p d.bound d.own vs ws) ∙ h.variables) in
    let after = labelled_more more ++ label closing ∷ rest in
    let name : NameFits p (text_of n) d =
    record { is_short = short_parts.0; allowed = ap (λ z. fits p z d) a.means ∙ symbol_allowed p a.sym (length a.more) d deep; start = h.start } in
    let first_fits : PatternFits first (inside p a.sym (suc (length a.more)) [] d) a.first = record {
      shape = a.first_is;
      nesting = omega (arith, h.nesting);
      short_names = short_more.0;
      variables = taken.0;
      start = starts_inside k (first_meaning names first) a.sym (suc (length a.more)) [] d;
    } in
    let more_fit : MoreFit more (with_bound vs d) 1 (suc (length a.more)) a.more = record {
      shapes = a.more_are;
      nesting = omega (arith, h.nesting);
      short_names = short_more.1;
      variables = taken.1;
      room = omega arith;
    } in
    ap (λ z. settled end d (label n ∷ label opening ∷ z)) (regroup (labelled_pattern first) (labelled_more more) rest (label closing))
    ∙ opens_fine k n opening d a.sym (length a.more) name a.means end (labelled_pattern first ++ after)
    ∙ read_first (inside p a.sym (suc (length a.more)) [] d) a.first first_fits end after (more_clear more _ (close_clear closing rest))
    ∙ read_more (with_bound vs d) a.sym (suc (length a.more)) (a.first ∷ []) a.more more_fit end (label closing ∷ rest) (close_clear closing rest)
    ∙ close_fine p a.sym (suc (length a.more)) (a.first ∷ a.more) (with_bound ws (with_bound vs d)) closing (omega arith) end rest clear
    ∙ (λ i. settled end (placed p (a.is i) (bound_twice vs ws d i)) rest)

comma_read : {p : Role} → IsPattern p → (mark : Token terminal.Comma) (next : Tree p) (more : Trees p) → TreeRead next → MoreRead more → MoreRead (comma mark next more)
comma_read {p = p} k mark next more read_next read_more d f n args ss h end rest clear =
    let names = names_at p d in
    let a = both_parts (shape_in names next) (shapes_in names more) ss h.shapes in
    let short_more = and_parts (all_short next) _ h.short_names in
    let vs = variables_in names next in
    let ws = variables_among names more in
    let taken = and_parts (all_taken p d.bound d.own vs) _ (sym (all_taken-append p d.bound d.own vs ws) ∙ h.variables) in
    let after = labelled_more more ++ rest in
    let count : length ss ≡ suc (length a.more) = sym (ap length a.are) in
    let pushed : length (args ++ a.first ∷ []) ≡ length args + 1 = length-append args (a.first ∷ []) in
    let next_fits : PatternFits next (inside p f n args d) a.first = record {
      shape = a.first_is;
      nesting = omega (arith, h.nesting);
      short_names = short_more.0;
      variables = taken.0;
      start = starts_inside k (first_meaning names next) f n args d;
    } in
    let more_fit : MoreFit more (with_bound vs d) (length (args ++ a.first ∷ [])) n a.more = record {
      shapes = a.more_are;
      nesting = omega (arith, h.nesting);
      short_names = short_more.1;
      variables = taken.1;
      room = omega (arith, h.room);
    } in
    ap (λ z. settled end (inside p f n args d) (label mark ∷ z)) (append_assoc (labelled_pattern next) (labelled_more more) rest)
    ∙ comma_fine p f n args d mark (omega (arith, h.room)) end (labelled_pattern next ++ after) (pattern_clear next after)
    ∙ read_next (inside p f n args d) a.first next_fits end after (more_clear more rest clear)
    ∙ read_more (with_bound vs d) f n (args ++ a.first ∷ []) a.more more_fit end rest clear
    ∙ (λ i. settled end (inside p f n (append_assoc args (a.first ∷ []) a.more i) (bound_twice vs ws d i)) rest)
    ∙ ap (λ z. settled end (inside p f n (args ++ z) (with_bound (vs ++ ws) d)) rest) a.are

none_read : {p : Role} → MoreRead {p = p} none
none_read {p = p} d f n args ss h end rest clear =
    let is : [] ≡ ss = ap (λ o. unwrap_or o []) h.shapes in
    ap (λ z. settled end (inside p f n z d) rest) (sym (append-nil args) ∙ ap (λ z. args ++ z) is)

mutual
  pub pattern_fine : (p : Role) → (v : Tree p) → IsPattern p → TreeRead v
  pattern_fine p (leaf n) k = λ d s h end rest clear. leaf_fine k n d s (leaf_fits n d s h) h.shape end rest clear
  pattern_fine p (node n opening first more closing) k = node_read k n opening first more closing (pattern_fine p first k) (more_fine p more k)

  pub more_fine : (p : Role) → (vs : Trees p) → IsPattern p → MoreRead vs
  more_fine p none k = none_read
  more_fine p (comma mark next more) k = comma_read k mark next more (pattern_fine p next k) (more_fine p more k)
