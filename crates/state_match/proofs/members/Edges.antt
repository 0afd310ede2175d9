-- What is wanted down the left edge of a pattern.
use Rattle.std.proofs.Common.{◌≡◌, ◌<◌, ℕ, List, [], ◌∷◌, length, get_or, sym, ap, ◌∙◌, subst, Option, None, Some, Bor, arith}
use Rattle.std.specs.List.{slice_get}
use Rattle.std.specs.Option.{IfSome, option_copied}
use Rattle.ranked_terms.specs.declared.term.Pattern.{Pattern, App}
use Rattle.ta_core.specs.TreeAutomaton.{TreeAutomaton}
use Rattle.state_match.specs.Rows.{IsFirst}
use Rattle.state_match.specs.Edges.{IsEdge}
use Rattle.state_match.specs.declared.edge.Edge.{Edge}
use Rattle.state_match.specs.declared.edge.Edge.TheViews.{out-Edge}
use Rattle.state_match.proofs.members.Belows.{same_arguments}

-- what a reference reads
pub if_some_copied : (P : Edge → Type 0) (o : Option (Bor Edge)) (xs : List Edge) → option_copied o ≡ slice_get xs 0 → ((d : Edge) → slice_get xs 0 ≡ Some d → P d) → IfSome o (λ b. P b.now)
if_some_copied P None xs e h = tt
if_some_copied P (Some b) xs e h = h b.now (sym e)

-- a list that is not empty has a first member
pub head : (items : List Pattern) (x : Pattern) → 0 < length items → x ≡ get_or items 0 x → (tail : List Pattern) × (items ≡ x ∷ tail)
head [] x l e = absurd (omega arith)
head (y ∷ ys) x l e = (ys, λ i. sym e i ∷ ys)

module _ (A : TreeAutomaton) where
  pub first_of_edge : (wanted : List ℕ) (p : Pattern) (e : Edge) → IsEdge A wanted p e → IsFirst A wanted p (out-Edge e).first
  first_of_edge wanted p e (IsEdge.is first deeper) = first

  pub deeper_of_edge : (wanted : List ℕ) (p : Pattern) (e : Edge) → IsEdge A wanted p e → (f : ℕ) (arg : Pattern) (args : List Pattern) (d : Edge) → p ≡ App f (arg ∷ args) → slice_get (out-Edge e).deeper.items 0 ≡ Some d →
      IsEdge A (out-Edge e).first arg d
  deeper_of_edge wanted p e (IsEdge.is first deeper) = deeper

  if_some_at : {X : Type 0} (P : X → Type 0) (o : Option X) (x : X) → o ≡ Some x → IfSome o P → P x
  if_some_at P o x e h = subst (λ o. IfSome o P) e h

  pub edge_is : (wanted : List ℕ) (p : Pattern) (e : Edge) (first : List ℕ) (deeper : List Edge) (f : ℕ) (args items : List Pattern) (arg : Pattern) (found : Option Edge) → (out-Edge e).first ≡ first → (out-Edge e).deeper.items ≡ deeper →
      p ≡ App f args → items ≡ args → 0 < length items → arg ≡ get_or items 0 arg → IsFirst A wanted p first → IfSome found (IsEdge A first arg) → ((d : Edge) → slice_get deeper 0 ≡ Some d → found ≡ Some d) → IsEdge A wanted p e
  edge_is wanted p e first deeper f args items arg found is are whole same l at known inner only = IsEdge.is
      (subst (IsFirst A wanted p) (sym is) known)
      (λ g other others d h there.
      let tail = head items arg l at in
      let lists : other ∷ others ≡ arg ∷ tail.0 = same_arguments A g f (other ∷ others) args (sym h ∙ whole) ∙ (sym same ∙ tail.1) in
      let one : arg ≡ other = sym (ap (λ (ps : List Pattern). get_or ps 0 other) lists) in
      subst (λ (q : Pattern). IsEdge A (out-Edge e).first q d) one (subst (λ (w : List ℕ). IsEdge A w arg d) (sym is)
      (if_some_at (IsEdge A first arg) found d (only d (ap (λ (xs : List Edge). slice_get xs 0) (sym are) ∙ there)) inner)))
