-- The subterms of a pattern in a table.
use Rattle.std.proofs.Common.{◌≡◌, ◌<◌, ◌≤◌, ◌+◌, ◌==◌, ℕ, zero, suc, Bool, true, false, cond, not, List, [], ◌∷◌, ◌++◌, length, take, drop, map, get_or, refl, sym, ap, ◌∙◌, subst, append-nil, append_assoc, length-append, arith}
use Rattle.std.specs.List.{position_or_len}
use Rattle.std.proofs.lemmas.List.{take_more, take_all, get_or_default}
use Rattle.ranked_terms.specs.Terms.{assigned}
use Rattle.ranked_terms.specs.declared.term.Pattern.{Pattern, Var, App as App'}
use Rattle.ranked_terms.specs.declared.term.Config.{State, App}
use Rattle.ranked_terms.specs.lemmas.TermLaws.{assigned_app, assigned_var}
use Rattle.ta_core.specs.Closure.{state_in}
use Rattle.state_match.specs.declared.nodes.Node.{Node}
use Rattle.state_match.specs.declared.nodes.Source.{Source}
use Rattle.state_match.specs.declared.nodes.Source.TheVariants.{Variable, Application}
use Rattle.state_match.specs.Kepts.{IsFrom, IsNode, IsTable, AreNodes, AreArguments, HasPatterns, HasLast, Grows, end_of}

-- ---- fronts of lists

take_take : (u v : ℕ) (xs : List ℕ) → u ≤ v → take u (take v xs) ≡ take u xs
take_take zero v xs l = refl
take_take (suc u) zero xs l = absurd (omega arith)
take_take (suc u) (suc v) [] l = refl
take_take (suc u) (suc v) (x ∷ xs) l = ap (λ ys. x ∷ ys) (take_take u v xs (omega arith))

pub take_less : (u v : ℕ) (xs ys : List ℕ) → u ≤ v → take v xs ≡ take v ys → take u xs ≡ take u ys
take_less u v xs ys l e = sym (take_take u v xs l) ∙ (ap (take u) e ∙ take_take u v ys l)

get_take : (k u : ℕ) (xs : List ℕ) (d : ℕ) → k < u → get_or (take u xs) k d ≡ get_or xs k d
get_take k zero xs d l = absurd (omega arith)
get_take k (suc u) [] d l = refl
get_take zero (suc u) (x ∷ xs) d l = refl
get_take (suc k) (suc u) (x ∷ xs) d l = get_take k u xs d (omega arith)

get_front : (k u : ℕ) (xs ys : List ℕ) (d : ℕ) → k < u → take u xs ≡ take u ys → get_or xs k d ≡ get_or ys k d
get_front k u xs ys d l e = sym (get_take k u xs d l) ∙ (ap (λ zs. get_or zs k d) e ∙ get_take k u ys d l)

module _ {X : Type 0} where
  take_front : (c : ℕ) (xs ys : List X) → c ≤ length xs → take c (xs ++ ys) ≡ take c xs
  take_front zero xs ys l = refl
  take_front (suc c) [] ys l = absurd (omega arith)
  take_front (suc c) (x ∷ xs) ys l = ap (λ zs. x ∷ zs) (take_front c xs ys (omega arith))

  slice_grown : (s c : ℕ) (xs ys : List X) → s + c ≤ length xs → take c (drop s (xs ++ ys)) ≡ take c (drop s xs)
  slice_grown zero c xs ys l = take_front c xs ys (omega arith)
  slice_grown (suc s) c [] ys l = absurd (omega arith)
  slice_grown (suc s) c (x ∷ xs) ys l = slice_grown s c xs ys (omega arith)

  drop_there : (k : ℕ) (xs ys : List X) → length xs ≡ k → drop k (xs ++ ys) ≡ ys
  drop_there zero [] ys e = refl
  drop_there zero (x ∷ xs) ys e = absurd (omega (arith, e))
  drop_there (suc k) [] ys e = absurd (omega (arith, e))
  drop_there (suc k) (x ∷ xs) ys e = drop_there k xs ys (omega (arith, e))

pub place_within : (v : ℕ) (xs : List ℕ) → position_or_len (λ w. v == w) xs ≤ length xs
place_within v [] = omega arith
place_within v (x ∷ xs) = go (v == x) (place_within v xs)
  where
    go : (b : Bool) → position_or_len (λ w. v == w) xs ≤ length xs → cond (not b) (1 + position_or_len (λ w. v == w) xs) 0 ≤ suc (length xs)
    go true l = omega arith
    go false l = omega (arith, l)

-- the states of one more are the same
pub front_more : (k : ℕ) (xs ys : List ℕ) (x y : ℕ) → k < length xs → k < length ys → x ≡ get_or xs k 0 → y ≡ get_or ys k 0 → x ≡ y → take k xs ≡ take k ys → take (k + 1) xs ≡ take (k + 1) ys
front_more k xs ys x y l m a b same e =
    take_more xs k 0 l ∙ ((λ i. e i ++ (sym a ∙ (same ∙ b)) i ∷ []) ∙ sym (take_more ys k 0 m))

-- ---- the table

module _ (vars : List ℕ) where
  pub table_long : (patterns : List Pattern) (k : ℕ) (ns : List Node) (ps : List Pattern) → IsTable vars patterns k ns ps → length ps ≡ length ns
  table_long patterns k [] [] t = refl
  table_long patterns k [] (p ∷ ps) t = absurd t
  table_long patterns k (n ∷ ns) [] t = absurd t
  table_long patterns k (n ∷ ns) (p ∷ ps) t = ap suc (table_long patterns (suc k) ns ps t.1)

  arguments_long : (patterns : List Pattern) (k until : ℕ) (ns : List Node) (ps : List Pattern) → AreArguments vars patterns k until ns ps → length ps ≡ length ns
  arguments_long patterns k until [] [] t = refl
  arguments_long patterns k until [] (p ∷ ps) t = absurd t
  arguments_long patterns k until (n ∷ ns) [] t = absurd t
  arguments_long patterns k until (n ∷ ns) (p ∷ ps) t = ap suc (arguments_long patterns k until ns ps t.2)

  from_grown : (patterns more : List Pattern) (k m : ℕ) (s : Source) (p : Pattern) → k ≤ length patterns → k ≤ m → IsFrom vars patterns k s p → IsFrom vars (patterns ++ more) m s p
  from_grown patterns more k m (Variable place) p l o h = h
  from_grown patterns more k m (Application f start count) p l o h = (omega (arith, h.0, o), h.1 ∙ ap (App' f) (sym (slice_grown start count patterns more (omega (arith, h.0, l)))))

  node_grown : (patterns more : List Pattern) (k m : ℕ) (n : Node) (p : Pattern) → k ≤ length patterns → k ≤ m → IsNode vars patterns k n p → IsNode vars (patterns ++ more) m n p
  node_grown patterns more k m n p l o h = record { decides = h.decides; from = from_grown patterns more k m n.source p l o h.from }

  table_grown : (patterns more : List Pattern) (k : ℕ) (ns : List Node) (ps : List Pattern) → k + length ns ≤ length patterns → IsTable vars patterns k ns ps → IsTable vars (patterns ++ more) k ns ps
  table_grown patterns more k [] [] l t = tt
  table_grown patterns more k [] (p ∷ ps) l t = absurd t
  table_grown patterns more k (n ∷ ns) [] l t = absurd t
  table_grown patterns more k (n ∷ ns) (p ∷ ps) l t = (node_grown patterns more k k n p (omega arith) (omega arith) t.0, table_grown patterns more (suc k) ns ps (omega arith) t.1)

  table_append : (patterns : List Pattern) (k m : ℕ) (ns : List Node) (ps : List Pattern) (ms : List Node) (qs : List Pattern) → m ≡ k + length ns → IsTable vars patterns k ns ps → IsTable vars patterns m ms qs → IsTable vars patterns k (ns ++ ms) (ps ++ qs)
  table_append patterns k m [] [] ms qs e t u = subst (λ j. IsTable vars patterns j ms qs) (omega (arith, e)) u
  table_append patterns k m [] (p ∷ ps) ms qs e t u = absurd t
  table_append patterns k m (n ∷ ns) [] ms qs e t u = absurd t
  table_append patterns k m (n ∷ ns) (p ∷ ps) ms qs e t u = (t.0, table_append patterns (suc k) m ns ps ms qs (omega (arith, e)) t.1 u)

  arguments_table : (patterns more : List Pattern) (k m until : ℕ) (ns : List Node) (ps : List Pattern) → k ≤ length patterns → k ≤ m → AreArguments vars patterns k until ns ps → IsTable vars (patterns ++ more) m ns ps
  arguments_table patterns more k m until [] [] l o t = tt
  arguments_table patterns more k m until [] (p ∷ ps) l o t = absurd t
  arguments_table patterns more k m until (n ∷ ns) [] l o t = absurd t
  arguments_table patterns more k m until (n ∷ ns) (p ∷ ps) l o t = (node_grown patterns more k m n p l o t.1, arguments_table patterns more k (suc m) until ns ps l (omega (arith, o)) t.2)

  arguments_grown : (patterns more : List Pattern) (k m until u : ℕ) (ns : List Node) (ps : List Pattern) → k ≤ length patterns → k ≤ m → until ≤ u → AreArguments vars patterns k until ns ps → AreArguments vars (patterns ++ more) m u ns ps
  arguments_grown patterns more k m until u [] [] l o v t = tt
  arguments_grown patterns more k m until u [] (p ∷ ps) l o v t = absurd t
  arguments_grown patterns more k m until u (n ∷ ns) [] l o v t = absurd t
  arguments_grown patterns more k m until u (n ∷ ns) (p ∷ ps) l o v t = (omega (arith, t.0, v), node_grown patterns more k m n p l o t.1, arguments_grown patterns more k m until u ns ps l o v t.2)

  arguments_push : (patterns : List Pattern) (k u : ℕ) (ns : List Node) (ps : List Pattern) (n : Node) (p : Pattern) → AreArguments vars patterns k u ns ps → n.until ≤ u → IsNode vars patterns k n p → AreArguments vars patterns k u (ns ++ n ∷ []) (ps ++ p ∷ [])
  arguments_push patterns k u [] [] n p t l i = (l, i, tt)
  arguments_push patterns k u [] (q ∷ ps) n p t l i = absurd t
  arguments_push patterns k u (m ∷ ns) [] n p t l i = absurd t
  arguments_push patterns k u (m ∷ ns) (q ∷ ps) n p t l i = (t.0, t.1, arguments_push patterns k u ns ps n p t.2 l i)

  all_decided : (patterns : List Pattern) (k u : ℕ) (ns : List Node) (ps : List Pattern) → AreArguments vars patterns k u ns ps → (σ τ : List ℕ) → take u σ ≡ take u τ → map (assigned (state_in vars σ)) ps ≡ map (assigned (state_in vars τ)) ps
  all_decided patterns k u [] [] t σ τ e = refl
  all_decided patterns k u [] (p ∷ ps) t σ τ e = absurd t
  all_decided patterns k u (n ∷ ns) [] t σ τ e = absurd t
  all_decided patterns k u (n ∷ ns) (p ∷ ps) t σ τ e =
      let first : assigned (state_in vars σ) p ≡ assigned (state_in vars τ) p = t.1.decides σ τ (take_less n.until u σ τ t.0 e) in
      let rest : map (assigned (state_in vars σ)) ps ≡ map (assigned (state_in vars τ)) ps = all_decided patterns k u ns ps t.2 σ τ e in
      λ i. first i ∷ rest i

  -- ---- the node of a variable and of an application

  variable_is : (patterns : List Pattern) (k v place : ℕ) (n : Node) → n.until ≡ place + 1 → n.source ≡ Variable place → place ≡ position_or_len (λ w. v == w) vars → IsNode vars patterns k n (Var v)
  variable_is patterns k v place n u s at = record {
    decides = λ σ τ e.
        let same : state_in vars σ v ≡ state_in vars τ v = get_front (position_or_len (λ w. v == w) vars) n.until σ τ 0 (omega (arith, u, at)) e in
        assigned_var (state_in vars σ) v ∙ (ap State same ∙ sym (assigned_var (state_in vars τ) v));
    from = subst (λ s. IsFrom vars patterns k s (Var v)) (sym s) (v, refl, at);
  }

  application_is : (patterns : List Pattern) (f k m : ℕ) (own : List Node) (args : List Pattern) (n : Node) (count : ℕ) → AreArguments vars patterns k n.until own args → length patterns ≡ k → count ≡ length own → n.source ≡ Application f k count → m ≡ k + count →
      IsNode vars (patterns ++ args) m n (App' f args)
  application_is patterns f k m own args n count are long counted s e = record {
    decides = λ σ τ front.
        assigned_app (state_in vars σ) f args ∙ (ap (App f) (all_decided patterns k n.until own args are σ τ front) ∙ sym (assigned_app (state_in vars τ) f args));
    from = subst (λ s. IsFrom vars (patterns ++ args) m s (App' f args)) (sym s) (
      omega (arith, e),
      ap (App' f) (sym (ap (take count) (drop_there k patterns args long) ∙ take_all count args (omega (arith, counted, arguments_long patterns k n.until own args are)))),
    );
  }

  -- ---- the table grows

  pub grows_variable : (before : List Pattern) (ns : List Node) (n : Node) (v : ℕ) (p : Pattern) → p ≡ Var v → n.until ≡ position_or_len (λ w. v == w) vars + 1 → n.source ≡ Variable (position_or_len (λ w. v == w) vars) →
      AreNodes vars ns before → Grows vars before n p ns
  grows_variable before ns n v p e u s are = record {
    all = before;
    more = [];
    is = sym (append-nil before);
    are = are;
    node = subst (λ p. IsNode vars before (length ns) n p) (sym e) (variable_is before (length ns) v (position_or_len (λ w. v == w) vars) n u s refl);
  }

  -- the arguments so far stand ready behind a table that has all below them
  pub record Gathers (before : List Pattern) (ns own : List Node) (until : ℕ) (args : List Pattern) : Type 0 where
    pub all : List Pattern
    pub more : List Pattern
    pub is : all ≡ before ++ more
    pub are : AreNodes vars ns all
    pub arguments : AreArguments vars all (length ns) until own args

  pub gathers_none : (before : List Pattern) (ns : List Node) → AreNodes vars ns before → Gathers before ns [] 0 []
  gathers_none before ns are = record { all = before; more = []; is = sym (append-nil before); are = are; arguments = tt }

  -- one more argument
  pub gathers_more : (before : List Pattern) (ns own next after : List Node) (until most : ℕ) (items : List Pattern) (i : ℕ) (arg : Pattern) (n : Node) → i < length items → arg ≡ get_or items i arg → Gathers before ns own until (take i items) →
      ((between : List Pattern) → AreNodes vars ns between → Grows vars between n arg after) → next ≡ own ++ n ∷ [] → until ≤ most → n.until ≤ most → Gathers before after next most (take (i + 1) items)
  gathers_more before ns own next after until most items i arg n l at g grows e u v =
      let more : take (i + 1) items ≡ take i items ++ arg ∷ [] = take_more items i arg l ∙ ap (λ a. take i items ++ a ∷ []) (sym at) in
      let h : Grows vars g.all n arg after = grows g.all g.are in
      let long : length g.all ≡ length ns = table_long g.all 0 ns g.all g.are in
      let longer : length h.all ≡ length after = table_long h.all 0 after h.all h.are in
      let sum : length h.all ≡ length g.all + length h.more = ap (λ (ps : List Pattern). length ps) h.is ∙ length-append g.all h.more in
      let earlier : AreArguments vars (g.all ++ h.more) (length after) most own (take i items) = arguments_grown g.all h.more (length ns) (length after) until most own (take i items) (omega (arith, long)) (omega (arith, long, longer, sum)) u g.arguments in
      let now : AreArguments vars h.all (length after) most own (take i items) = subst (λ ps. AreArguments vars ps (length after) most own (take i items)) (sym h.is) earlier in
      let both : AreArguments vars h.all (length after) most (own ++ n ∷ []) (take i items ++ arg ∷ []) = arguments_push h.all (length after) most own (take i items) n arg now v h.node in
      record {
        all = h.all;
        more = g.more ++ h.more;
        is = h.is ∙ (ap (λ ps. ps ++ h.more) g.is ∙ append_assoc before g.more h.more);
        are = h.are;
        arguments = subst (λ ps. AreArguments vars h.all (length after) most next ps) (sym more) (subst (λ ms. AreArguments vars h.all (length after) most ms (take i items ++ arg ∷ [])) (sym e) both);
      }

  -- all of them are put behind it
  pub grows_application : (before : List Pattern) (ns own after : List Node) (items args : List Pattern) (i f start count : ℕ) (n : Node) (p : Pattern) → length items ≤ i → items ≡ args → p ≡ App' f args → Gathers before ns own n.until (take i items) →
      after ≡ ns ++ own → start ≡ length ns → count ≡ length own → n.source ≡ Application f start count → Grows vars before n p after
  grows_application before ns own after items args i f start count n p end same is g e at counted s =
      let whole : take i items ≡ args = take_all i items end ∙ same in
      let are : AreArguments vars g.all (length ns) n.until own args = subst (λ ps. AreArguments vars g.all (length ns) n.until own ps) whole g.arguments in
      let long : length g.all ≡ length ns = table_long g.all 0 ns g.all g.are in
      let many : length args ≡ length own = arguments_long g.all (length ns) n.until own args are in
      let first : IsTable vars (g.all ++ args) 0 ns g.all = table_grown g.all args 0 ns g.all (omega (arith, long)) g.are in
      let second : IsTable vars (g.all ++ args) (length ns) own args = arguments_table g.all args (length ns) (length ns) n.until own args (omega (arith, long)) (omega arith) are in
      let table : AreNodes vars (ns ++ own) (g.all ++ args) = table_append (g.all ++ args) 0 (length ns) ns g.all own args (omega arith) first second in
      let source : n.source ≡ Application f (length ns) count = s ∙ ap (λ k. Application f k count) at in
      let node : IsNode vars (g.all ++ args) (length after) n (App' f args) = application_is g.all f (length ns) (length after) own args n count are long counted source (ap (λ (ms : List Node). length ms) e ∙ (length-append ns own ∙ ap (λ k. length ns + k) (sym counted))) in
      record {
        all = g.all ++ args;
        more = g.more ++ args;
        is = ap (λ ps. ps ++ args) g.is ∙ append_assoc before g.more args;
        are = subst (λ ms. AreNodes vars ms (g.all ++ args)) (sym e) table;
        node = subst (λ q. IsNode vars (g.all ++ args) (length after) n q) (sym is) node;
      }

  -- the pattern's own node comes last
  pub last_node : (ns after : List Node) (n : Node) (p : Pattern) → after ≡ ns ++ n ∷ [] → Grows vars [] n p ns → HasLast vars p after
  last_node ns after n p e g =
      let long : length g.all ≡ length ns = table_long g.all 0 ns g.all g.are in
      let first : IsTable vars (g.all ++ p ∷ []) 0 ns g.all = table_grown g.all (p ∷ []) 0 ns g.all (omega (arith, long)) g.are in
      let node : IsNode vars (g.all ++ p ∷ []) (length ns) n p = node_grown g.all (p ∷ []) (length ns) (length ns) n p (omega (arith, long)) (omega arith) g.node in
      record {
        before = g.all;
        are = subst (λ ms. AreNodes vars ms (g.all ++ p ∷ [])) (sym e) (table_append (g.all ++ p ∷ []) 0 (length ns) ns g.all (n ∷ []) (p ∷ []) (omega arith) first (node, tt));
      }

  -- ---- by places

  pub table_at : (patterns : List Pattern) (j k : ℕ) (ns : List Node) (ps : List Pattern) (n : Node) (p : Pattern) → k < length ns → IsTable vars patterns j ns ps → IsNode vars patterns (j + k) (get_or ns k n) (get_or ps k p)
  table_at patterns j k [] ps n p l t = absurd (omega arith)
  table_at patterns j k (m ∷ ns) [] n p l t = absurd t
  table_at patterns j zero (m ∷ ns) (q ∷ ps) n p l t = subst (λ i. IsNode vars patterns i m q) (omega arith) t.0
  table_at patterns j (suc k) (m ∷ ns) (q ∷ ps) n p l t = subst (λ i. IsNode vars patterns i (get_or ns k n) (get_or ps k p)) (omega arith) (table_at patterns (suc j) k ns ps n p (omega arith) t.1)

  end_from : (patterns : List Pattern) (k : ℕ) (s : Source) (p : Pattern) → IsFrom vars patterns k s p → end_of s ≤ k
  end_from patterns k (Variable place) p h = omega arith
  end_from patterns k (Application f start count) p h = h.0

-- stands at no place
abbrev pub no_node : Node
no_node = record { until = 0; is_listed = false; source = Variable 0 }

pub node_at : (ns : List Node) (k : ℕ) → k < length ns → get_or ns k no_node ≡ get_or ns k (get_or ns k no_node)
node_at ns k l = get_or_default ns k no_node (get_or ns k no_node) l

pub ends_before : (ns : List Node) (k : ℕ) → k < length ns → HasPatterns ns → end_of (get_or ns k no_node).source ≤ k
ends_before ns k l h =
    let p : Pattern = get_or h.patterns k (Var 0) in
    let there : IsNode h.vars h.patterns (0 + k) (get_or ns k no_node) p = table_at h.vars h.patterns 0 k ns h.patterns no_node (Var 0) l h.are in
    let below : end_of (get_or ns k no_node).source ≤ 0 + k = end_from h.vars h.patterns (0 + k) (get_or ns k no_node).source p there.from in
    omega (arith, below)
