-- Terms that are kept once each, as nodes whose arguments are the places of earlier ones. This project's own.
use Rattle.std.specs.Prelude.{◌≡◌, ◌≢◌, ℕ, ◌<◌, ◌≤◌, List, [], ◌∷◌, ◌++◌, map, slice_index_or, slice_get, Some, All, AllPairs}
use Rattle.ranked_terms.specs.Terms.{node, size_of}
use Rattle.ranked_terms.specs.declared.term.Term.{Term}
use Rattle.term_store.specs.declared.store.Node.{Node}

-- the term at a place that is there
abbrev pub term_at : List Term → ℕ → Term
term_at terms place = slice_index_or terms place (node 0 [])

-- the symbol over the terms at these places
abbrev pub applied : List Term → ℕ → List ℕ → Term
applied terms sym places = node sym (map (term_at terms) places)

-- terms of a store: no two are equal, and none is large
pub record IsStore (terms : List Term) : Type 0 where
  pub distinct : AllPairs (λ t u. t ≢ u) terms
  pub small : All (λ t. size_of t ≤ 1024) terms

-- the later list begins with the earlier one
abbrev pub Keeps : List Term → List Term → Type 0
Keeps before after = (more : List Term) × (after ≡ before ++ more)

-- ---- nodes. These serve private contracts alone

-- the terms of nodes, each made of those before it
abbrev pub terms_after : List Term → List Node → List Term
terms_after terms [] = terms
terms_after terms (n ∷ nodes) = terms_after (terms ++ applied terms n.sym n.args ∷ []) nodes

abbrev pub terms_of_nodes : List Node → List Term
terms_of_nodes nodes = terms_after [] nodes

-- a node has as arguments earlier ones alone, and knows the size of its term, which is at most 1,024
pub record IsNodeAt (terms : List Term) (place : ℕ) (n : Node) : Type 0 where
  pub args : All (λ a. a < place) n.args
  pub is : slice_get terms place ≡ Some (applied terms n.sym n.args)
  pub size : n.size ≡ size_of (applied terms n.sym n.args)
  pub small : n.size ≤ 1024

abbrev pub AreNodes : List Node → List Term → Type 0
AreNodes nodes terms = (place : ℕ) (n : Node) → slice_get nodes place ≡ Some n → IsNodeAt terms place n
