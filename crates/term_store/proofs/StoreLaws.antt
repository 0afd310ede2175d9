-- The terms of nodes.
use Rattle.std.proofs.Common.{◌≡◌, ℕ, zero, suc, ◌+◌, ◌<◌, ◌≤◌, ◌⊎◌, Bool, true, false, ◌&&◌, List, [], ◌∷◌, ◌++◌, map, sum, sum_by, length, get_or, slice_get, Some, refl, sym, ap, subst, ◌∙◌, inl, inr, ⊎_elim, append-nil, length-append, arith}
use Rattle.std.specs.List.{All, AllByRecursion, IsDistinct, list_any}
use Rattle.std.proofs.lemmas.Bool.{eqb-true}
use Rattle.std.specs.Cmp.Lexicographic.{pointwise}
use Rattle.indexmap.specs.IndexSet.{insert_key}
use Rattle.term_store.specs.contracts.store.NodePartialEq.TheImpl.{ghosts}
use Rattle.term_store.specs.contracts.store.NodeEq.TheImpl.Laws as equiv_laws
use Rattle.std.proofs.lemmas.List.Sums.{sum-map, sum_by-cons}
use Rattle.std.proofs.lemmas.List.Elements.{All-head, All-tail}
use Rattle.std.proofs.lemmas.Option.{get_or_from_slice_get, slice_get_within}
use Rattle.ranked_terms.specs.Terms.{node, size_of}
use Rattle.ranked_terms.specs.lemmas.TermLaws.{size_node, node_sym, node_args, node_out}
use Rattle.ranked_terms.specs.declared.term.Term.TheViews.{out-Term}
use Rattle.ranked_terms.specs.declared.term.Term.{Term}
use Rattle.term_store.specs.Store.{term_at, applied, terms_after, terms_of_nodes, IsNodeAt, AreNodes, IsStore, Keeps}
use Rattle.term_store.specs.declared.store.Node.{Node}

-- ---- one node more

terms_after-push : (terms : List Term) (nodes : List Node) (n : Node) → terms_after terms (nodes ++ n ∷ []) ≡ terms_after terms nodes ++ applied (terms_after terms nodes) n.sym n.args ∷ []
terms_after-push terms [] n = refl
terms_after-push terms (m ∷ nodes) n = terms_after-push (terms ++ applied terms m.sym m.args ∷ []) nodes n

pub terms-push : (nodes : List Node) (n : Node) → terms_of_nodes (nodes ++ n ∷ []) ≡ terms_of_nodes nodes ++ applied (terms_of_nodes nodes) n.sym n.args ∷ []
terms-push nodes n = terms_after-push [] nodes n

length-terms_after : (terms : List Term) (nodes : List Node) → length (terms_after terms nodes) ≡ length terms + length nodes
length-terms_after terms [] = omega arith
length-terms_after terms (n ∷ nodes) = length-terms_after (terms ++ applied terms n.sym n.args ∷ []) nodes ∙ omega (arith, length-append terms (applied terms n.sym n.args ∷ []))

pub length-terms : (nodes : List Node) → length (terms_of_nodes nodes) ≡ length nodes
length-terms nodes = omega (arith, length-terms_after [] nodes)

-- ---- more terms leave what was made

pub get_or-front : {X : Type 0} (xs ys : List X) (i : ℕ) (d : X) → i < length xs → get_or (xs ++ ys) i d ≡ get_or xs i d
get_or-front [] ys i d l = absurd (omega (arith, l))
get_or-front (x ∷ xs) ys zero d l = refl
get_or-front (x ∷ xs) ys (suc i) d l = get_or-front xs ys i d (omega (arith, l))

same_map : {X Y : Type 0} (f g : X → Y) (xs : List X) → All (λ x. f x ≡ g x) xs → map f xs ≡ map g xs
same_map f g [] h = refl
same_map f g (x ∷ xs) h = let e = All-head (λ x. f x ≡ g x) x xs h in let es = same_map f g xs (All-tail (λ x. f x ≡ g x) x xs h) in λ i. e i ∷ es i

pub applied-front : (terms more : List Term) (sym' : ℕ) (places : List ℕ) → All (λ a. a < length terms) places → applied (terms ++ more) sym' places ≡ applied terms sym' places
applied-front terms more f places h = ap (node f) (same_map (term_at (terms ++ more)) (term_at terms) places (λ k d l. get_or-front terms more (get_or places k d) (node 0 []) (h k d l)))

pub slice_get-front : {X : Type 0} (xs ys : List X) (i : ℕ) (x : X) → slice_get xs i ≡ Some x → slice_get (xs ++ ys) i ≡ Some x
slice_get-front [] ys i x e = cc
slice_get-front (y ∷ xs) ys zero x e = e
slice_get-front (y ∷ xs) ys (suc i) x e = slice_get-front xs ys i x e

slice_get-last : {X : Type 0} (xs : List X) (x : X) → slice_get (xs ++ x ∷ []) (length xs) ≡ Some x
slice_get-last [] x = refl
slice_get-last (y ∷ xs) x = slice_get-last xs x

slice_get-push : {X : Type 0} (xs : List X) (y x : X) (i : ℕ) → slice_get (xs ++ y ∷ []) i ≡ Some x → (slice_get xs i ≡ Some x) ⊎ ((i ≡ length xs) × (y ≡ x))
slice_get-push [] y x zero e = inr (refl, let h : y ≡ x = cc in h)
slice_get-push [] y x (suc i) e = cc
slice_get-push (z ∷ xs) y x zero e = inl e
slice_get-push (z ∷ xs) y x (suc i) e = ⊎_elim (λ h. inl h) (λ h. inr (ap suc h.0, h.1)) (slice_get-push xs y x i e)

pub below : (m n : ℕ) (places : List ℕ) → m ≤ n → All (λ a. a < m) places → All (λ a. a < n) places
below m n places l h = λ k d i. let x = h k d i in omega (arith, x, l)

-- a node with arguments that are there, of a size that is not large, is one more
pub nodes-push : (nodes : List Node) (n : Node) → AreNodes nodes (terms_of_nodes nodes) → All (λ a. a < length (terms_of_nodes nodes)) n.args
    → n.size ≡ size_of (applied (terms_of_nodes nodes) n.sym n.args) → n.size ≤ 1024 → AreNodes (nodes ++ n ∷ []) (terms_of_nodes (nodes ++ n ∷ []))
nodes-push nodes n all args size small place m e =
    subst (λ ts. IsNodeAt ts place m) (sym (terms-push nodes n)) (⊎_elim old new (slice_get-push nodes n m place e))
  where
    before : List Term
    before = terms_of_nodes nodes

    last : Term
    last = applied (terms_of_nodes nodes) n.sym n.args

    old : slice_get nodes place ≡ Some m → IsNodeAt (terms_of_nodes nodes ++ applied (terms_of_nodes nodes) n.sym n.args ∷ []) place m
    old is =
        let h = all place m is in
        let within : place ≤ length (terms_of_nodes nodes) = omega (arith, slice_get_within nodes place m is, length-terms nodes) in
        let same = applied-front (terms_of_nodes nodes) (applied (terms_of_nodes nodes) n.sym n.args ∷ []) m.sym m.args (below place (length (terms_of_nodes nodes)) m.args within h.args) in
        record {
          args = h.args;
          is = slice_get-front (terms_of_nodes nodes) (applied (terms_of_nodes nodes) n.sym n.args ∷ []) place _ h.is ∙ ap Some (sym same);
          size = h.size ∙ ap size_of (sym same);
          small = h.small;
        }

    new : (place ≡ length nodes) × (n ≡ m) → IsNodeAt (terms_of_nodes nodes ++ applied (terms_of_nodes nodes) n.sym n.args ∷ []) place m
    new p =
        let at : place ≡ length (terms_of_nodes nodes) = p.0 ∙ sym (length-terms nodes) in
        let same = applied-front (terms_of_nodes nodes) (applied (terms_of_nodes nodes) n.sym n.args ∷ []) n.sym n.args args in
        subst (λ m. IsNodeAt (terms_of_nodes nodes ++ applied (terms_of_nodes nodes) n.sym n.args ∷ []) place m) p.1 (record {
          args = subst (λ k. All (λ a. a < k) n.args) (sym at) args;
          is = ap (slice_get (terms_of_nodes nodes ++ applied (terms_of_nodes nodes) n.sym n.args ∷ [])) at ∙ (slice_get-last (terms_of_nodes nodes) _ ∙ ap Some (sym same));
          size = size ∙ ap size_of (sym same);
          small = small;
        })

-- ---- sizes

sizes : (terms : List Term) (places : List ℕ) → map size_of (map (term_at terms) places) ≡ map (λ a. size_of (term_at terms a)) places
sizes terms [] = refl
sizes terms (a ∷ places) = ap (λ ns. size_of (term_at terms a) ∷ ns) (sizes terms places)

pub size_applied : (terms : List Term) (f : ℕ) (places : List ℕ) → size_of (applied terms f places) ≡ sum_by (λ a. size_of (term_at terms a)) places + 1
size_applied terms f places = size_node f (map (term_at terms) places) ∙ ap (λ n. n + 1) (ap sum (sizes terms places) ∙ sum-map (λ a. size_of (term_at terms a)) places)

-- ---- equal nodes

abbrev pub eq : Node → Node → Bool
eq = ghosts.eq

first : (a b : Bool) → (a && b) ≡ true → a ≡ true
first true b h = refl
first false b h = h

second : (a b : Bool) → (a && b) ≡ true → b ≡ true
second true b h = h
second false b h = cc

same_numbers : (E : ℕ → ℕ → Bool) → ((x y : ℕ) → E x y ≡ true → x ≡ y) → (xs ys : List ℕ) → pointwise E xs ys ≡ true → xs ≡ ys
same_numbers E told [] [] h = refl
same_numbers E told [] (y ∷ ys) h = cc
same_numbers E told (x ∷ xs) [] h = cc
same_numbers E told (x ∷ xs) (y ∷ ys) h =
    let e = told x y (first _ _ h) in
    let es = same_numbers E told xs ys (second _ _ h) in
    λ i. e i ∷ es i

same_node : (m n : Node) → m.sym ≡ n.sym → m.args ≡ n.args → m.size ≡ n.size → m ≡ n
same_node m n e f g = λ i. record { sym = e i; args = f i; size = g i }

pub eq_is : (m n : Node) → eq m n ≡ true → m ≡ n
eq_is m n h =
    same_node m n (eqb-true m.sym n.sym (first _ _ h)) (same_numbers _ (λ x y k. eqb-true x y k) m.args n.args (first _ _ (second _ _ h))) (eqb-true m.size n.size (second _ _ (second _ _ h)))

pub eq_refl : (n : Node) → eq n n ≡ true
eq_refl n = equiv_laws.lawful.laws.refl n

-- ---- no term stands twice

at_place : {X : Type 0} (P : X → Type 0) (xs : List X) → AllByRecursion P xs → (i : ℕ) (x : X) → slice_get xs i ≡ Some x → P x
at_place P [] h i x e = cc
at_place P (y ∷ xs) h zero x e = let q : y ≡ x = cc in subst P q h.0
at_place P (y ∷ xs) h (suc i) x e = at_place P xs h.1 i x e

pub once_from_distinct : (nodes : List Node) → IsDistinct eq nodes → (i j : ℕ) (n : Node) → slice_get nodes i ≡ Some n → slice_get nodes j ≡ Some n → i ≡ j
unfolding IsDistinct
once_from_distinct [] d i j n e f = cc
once_from_distinct (m ∷ nodes) d zero zero n e f = refl
once_from_distinct (m ∷ nodes) d zero (suc j) n e f = let q : m ≡ n = cc in let no : eq m n ≡ false = at_place (λ y. eq m y ≡ false) nodes d.0 j n f in let yes : eq m n ≡ true = subst (λ y. eq m y ≡ true) q (eq_refl m) in cc
once_from_distinct (m ∷ nodes) d (suc i) zero n e f = let q : m ≡ n = cc in let no : eq m n ≡ false = at_place (λ y. eq m y ≡ false) nodes d.0 i n e in let yes : eq m n ≡ true = subst (λ y. eq m y ≡ true) q (eq_refl m) in cc
once_from_distinct (m ∷ nodes) d (suc i) (suc j) n e f = ap suc (once_from_distinct nodes d.1 i j n e f)

pub node_at : (nodes : List Node) (i : ℕ) → i < length nodes → (n : Node) × (slice_get nodes i ≡ Some n)
node_at [] i l = absurd (omega (arith, l))
node_at (n ∷ nodes) zero l = (n, refl)
node_at (n ∷ nodes) (suc i) l = node_at nodes i (omega (arith, l))

module _ (nodes : List Node) (terms : List Term) (all : AreNodes nodes terms) (once : (i j : ℕ) (n : Node) → slice_get nodes i ≡ Some n → slice_get nodes j ≡ Some n → i ≡ j) where
  abbrev Told : ℕ → Type 0
  Told bound = (i j : ℕ) (m n : Node) → i < bound → slice_get nodes i ≡ Some m → slice_get nodes j ≡ Some n → applied terms m.sym m.args ≡ applied terms n.sym n.args → i ≡ j

  told_places : (bound i j : ℕ) → Told bound → i ≤ bound → i < length nodes → j < length nodes → (xs ys : List ℕ) → All (λ a. a < i) xs → All (λ b. b < j) ys → map (term_at terms) xs ≡ map (term_at terms) ys → xs ≡ ys
  told_places bound i j told l li lj [] [] h k e = refl
  told_places bound i j told l li lj [] (b ∷ ys) h k e = cc
  told_places bound i j told l li lj (a ∷ xs) [] h k e = cc
  told_places bound i j told l li lj (a ∷ xs) (b ∷ ys) h k e =
      let a_below : a < i = All-head (λ a. a < i) a xs h in
      let b_below : b < j = All-head (λ b. b < j) b ys k in
      let m = node_at nodes a (omega (arith, a_below, li)) in
      let n = node_at nodes b (omega (arith, b_below, lj)) in
      let m_is = all a m.0 m.1 in
      let n_is = all b n.0 n.1 in
      let here : term_at terms a ≡ term_at terms b = cc in
      let rest : map (term_at terms) xs ≡ map (term_at terms) ys = cc in
      let same : applied terms m.0.sym m.0.args ≡ applied terms n.0.sym n.0.args = sym (get_or_from_slice_get terms a _ (node 0 []) m_is.is) ∙ (here ∙ get_or_from_slice_get terms b _ (node 0 []) n_is.is) in
      let is : a ≡ b = told a b m.0 n.0 (omega (arith, a_below, l)) m.1 n.1 same in
      let are = told_places bound i j told l li lj xs ys (All-tail (λ a. a < i) a xs h) (All-tail (λ b. b < j) b ys k) rest in
      λ x. is x ∷ are x

  told : (bound : ℕ) → Told bound
  told zero i j m n l e f h = absurd (omega (arith, l))
  told (suc bound) i j m n l e f h =
      let m_is = all i m e in
      let n_is = all j n f in
      let args = told_places bound i j (told bound) (omega (arith, l)) (slice_get_within nodes i m e) (slice_get_within nodes j n f) m.args n.args m_is.args n_is.args (node_args m.sym n.sym _ _ h) in
      let same = same_node m n (node_sym m.sym n.sym _ _ h) args (m_is.size ∙ (ap size_of h ∙ sym n_is.size)) in
      once i j m e (f ∙ ap Some (sym same))

  pub store_is : length terms ≡ length nodes → IsStore terms
  store_is count = record {
    distinct = λ i j d l k e.
        let m = node_at nodes i (omega (arith, l, k, count)) in
        let n = node_at nodes j (omega (arith, k, count)) in
        let m_is = all i m.0 m.1 in
        let n_is = all j n.0 n.1 in
        let same = sym (get_or_from_slice_get terms i _ d m_is.is) ∙ (e ∙ get_or_from_slice_get terms j _ d n_is.is) in
        let is : i ≡ j = told (suc i) i j m.0 n.0 (omega arith) m.1 n.1 same in
        omega (arith, is, l);
    small = λ k d l.
        let n = node_at nodes k (omega (arith, l, count)) in
        let n_is = all k n.0 n.1 in
        let e = n_is.size ∙ ap size_of (sym (get_or_from_slice_get terms k _ d n_is.is)) in
        let s = n_is.small in
        omega (arith, e, s);
  }

-- ---- a node is inserted

-- after an insertion the nodes are the same, or there is one more
insert_cases : (nodes : List Node) (n : Node) (P : List Node → Type 0) → P nodes → P (nodes ++ n ∷ []) → P (insert_key eq nodes n)
insert_cases nodes n P same more = go (list_any (eq n) nodes) refl
  where
    go : (b : Bool) → list_any (eq n) nodes ≡ b → P (insert_key eq nodes n)
    go true e = rw e same
    go false e = rw e more

pub nodes_inserted : (nodes : List Node) (n : Node) → AreNodes nodes (terms_of_nodes nodes) → All (λ a. a < length (terms_of_nodes nodes)) n.args
    → n.size ≡ size_of (applied (terms_of_nodes nodes) n.sym n.args) → n.size ≤ 1024 → (after : List Node) → after ≡ insert_key eq nodes n → AreNodes after (terms_of_nodes after)
nodes_inserted nodes n all args size small after e =
    subst (λ ns. AreNodes ns (terms_of_nodes ns)) (sym e) (insert_cases nodes n (λ ns. AreNodes ns (terms_of_nodes ns)) all (nodes-push nodes n all args size small))

pub keeps_inserted : (nodes : List Node) (n : Node) (after : List Node) → after ≡ insert_key eq nodes n → Keeps (terms_of_nodes nodes) (terms_of_nodes after)
keeps_inserted nodes n after e =
    subst (λ ns. Keeps (terms_of_nodes nodes) (terms_of_nodes ns)) (sym e) (insert_cases nodes n (λ ns. Keeps (terms_of_nodes nodes) (terms_of_nodes ns))
    ([], sym (append-nil (terms_of_nodes nodes)))
    (applied (terms_of_nodes nodes) n.sym n.args ∷ [], terms-push nodes n))

pub inserted_few : (nodes : List Node) (n : Node) (after : List Node) → after ≡ insert_key eq nodes n → (bound : ℕ) → length nodes < bound → length after < bound + 1
inserted_few nodes n after e bound l =
    subst (λ ns. length ns < bound + 1) (sym e) (insert_cases nodes n (λ ns. length ns < bound + 1) (omega (arith, l)) (omega (arith, l, length-append nodes (n ∷ []))))

-- the place that is told has the node's term
pub made_at : (nodes after : List Node) (n k : Node) (at : ℕ) → All (λ a. a < length (terms_of_nodes nodes)) n.args → AreNodes after (terms_of_nodes after) → Keeps (terms_of_nodes nodes) (terms_of_nodes after)
    → slice_get after at ≡ Some k → eq n k ≡ true → slice_get (terms_of_nodes after) at ≡ Some (applied (terms_of_nodes nodes) n.sym n.args)
made_at nodes after n k at args all keeps is same =
    let e = eq_is n k same in
    let h = all at k is in
    h.is ∙ ap Some (ap (λ m. applied (terms_of_nodes after) m.sym m.args) (sym e)
    ∙ (ap (λ ts. applied ts n.sym n.args) keeps.1 ∙ applied-front (terms_of_nodes nodes) keeps.0 n.sym n.args args))

-- ---- a term has more symbols than arguments

size_is_some : (t : Term) → 1 ≤ size_of t
size_is_some t = subst (λ u. 1 ≤ size_of u) (node_out t) (omega (arith, size_node (out-Term t).sym (out-Term t).args))

length-le-sum : {X : Type 0} (f : X → ℕ) → ((x : X) → 1 ≤ f x) → (xs : List X) → length xs ≤ sum_by f xs
length-le-sum f some [] = omega arith
length-le-sum f some (x ∷ xs) = omega (arith, some x, length-le-sum f some xs, sum_by-cons f x xs)

pub args_within_size : (terms : List Term) (f : ℕ) (places : List ℕ) → length places < size_of (applied terms f places)
args_within_size terms f places = omega (arith, size_applied terms f places, length-le-sum (λ a. size_of (term_at terms a)) (λ a. size_is_some (term_at terms a)) places)
