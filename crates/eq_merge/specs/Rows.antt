-- Rows of forced pairs, and lists that grow. This serves private contracts alone.
use Rattle.std.specs.Prelude.{◌≡◌, ◌⊎◌, ◌↔◌, ℕ, List, ◌++◌, drop}
use Rattle.std.specs.List.{Contains}
use Rattle.trs_rules.specs.Rules.{RewriteEquation}
use Rattle.ta_core.specs.TreeAutomaton.{TreeAutomaton}
use Rattle.ta_core.specs.declared.trans.Trans.{Trans}
use Rattle.eq_merge.specs.Merging.{ForcedAmong, pairs_of}
use Rattle.eq_merge.specs.Ends.{across}

-- the numbers of the list, and those that some member of the other list gives
abbrev pub HasMore : {X : Type 0} → List ℕ → List X → (X → ℕ → Type 0) → List ℕ → Type 0
HasMore {X} old xs Q new = (q : ℕ) → Contains new q ↔ (Contains old q ⊎ ((x : X) × Contains xs x × Q x q))

-- from the end, which leads to p, an end across from it leads to q
pub record LeadsAcross (B : TreeAutomaton) (p : ℕ) (t : Trans) (q : ℕ) : Type 0 where
  pub to : t.to ≡ p
  pub other : Trans
  pub has : Contains B.trans other
  pub side : other.sym ≡ across t.sym
  pub rest : List ℕ
  pub args : other.args ≡ t.args ++ rest
  pub leads : other.to ≡ q

-- from some end
abbrev pub IsOpposite : ℕ → TreeAutomaton → ℕ → Type 0
IsOpposite p B q = (t : Trans) × Contains B.trans t × LeadsAcross B p t q

-- of some of the automata
abbrev pub AreOpposite : List TreeAutomaton → ℕ → ℕ → Type 0
AreOpposite all p q = (B : TreeAutomaton) × Contains all B × IsOpposite p B q

-- the forced ones of the pairs whose first state is one of the first so many states
pub record ForcedUpTo (A : TreeAutomaton) (E : List RewriteEquation) (i : ℕ) (done : List (ℕ × ℕ)) : Type 0 where
  pub front : List (ℕ × ℕ)
  pub splits : pairs_of A.states ≡ front ++ pairs_of (drop i A.states)
  pub forced : ForcedAmong A E front done
