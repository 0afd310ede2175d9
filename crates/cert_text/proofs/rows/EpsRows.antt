-- The line of an epsilon transition, and the end.
use Rattle.std.proofs.Common.{◌≡◌, ℕ, ◌<◌, List, [], ◌∷◌, ◌++◌, Option, Some, None, sym, ap, ap₂, subst, ◌∙◌, arith}
use Rattle.std.specs.Prelude.{All, Contains, IfSome}
use Rattle.std.proofs.lemmas.List.{append_assoc}
use Rattle.std.proofs.lemmas.List.Elements.{All-contains}
use Rattle.std.specs.declared.cmp.Ordering.TheVariants.{Less}
use Rattle.ranked_terms.specs.Names.{Symbol}
use Rattle.ta_core.specs.TreeAutomaton.{pair_cmp}
use Rattle.ta_core.specs.declared.trans.Trans.{Trans}
use Rattle.ta_core.specs.declared.spec.Spec.{Spec}
use Rattle.cert_text.specs.declared.certificate.CertKind.{CertKind}
use Rattle.cert_text.specs.declared.certificate.CertKind.TheVariants as kind
use Rattle.ranked_terms.specs.Texts.{Text}
use Rattle.cert_text.specs.Cuts.{Lacks, saturated, IsEps, eps_text}
use Rattle.cert_text.specs.Lines as line
use Rattle.cert_text.specs.Lines.{Line, Follows, map_eps, map_end, trans_eps, trans_end, eps_eps, eps_end}
use Rattle.cert_text.specs.Faults.{Known, Begins, RowFits, field, state, order, ComesAfter}
use Rattle.cert_text.specs.Taking.{Taken, IsRightEps, IsWrongEps, state as wrong_state, order as wrong_order, MayTrans, at_first, behind}
use Rattle.cert_text.specs.Entries.{IsAtTrans}
use Rattle.cert_text.proofs.rows.LineRows.{text_of_line, taken, line_row, place}

-- an epsilon transition may come, or the end
pub record EpsMay (s : List Symbol) (last : Option (ℕ × ℕ)) (o : Option Line) : Type 0 where
  pub follows : (p q : ℕ) → Follows o (line.eps p q)
  pub ends : Follows o line.end
  pub ends_after : ComesAfter s o line.end
  pub after : (p q : ℕ) → IfSome last (λ e. pair_cmp e (p, q) ≡ Less) → ComesAfter s o (line.eps p q)
  pub before : (p q : ℕ) → ComesAfter s o (line.eps p q) → IfSome last (λ e. pair_cmp e (p, q) ≡ Less)

pub behind_eps : (s : List Symbol) (o : Option Line) (last : ℕ × ℕ) → o ≡ Some (line.eps last.0 last.1) → EpsMay s (Some last) o
behind_eps s o last at = subst (EpsMay s (Some last)) (sym at) (record { follows = λ p q. eps_eps; ends = eps_end; ends_after = tt; after = λ p q h. h; before = λ p q h. h })

pub behind_trans : (s : List Symbol) (last : Option Trans) (o : Option Line) → MayTrans s last o → EpsMay s None o
behind_trans s last o (at_first qs) = record { follows = λ p q. map_eps; ends = map_end; ends_after = tt; after = λ p q h. tt; before = λ p q h. tt }
behind_trans s last o (behind t n) = record { follows = λ p q. trans_eps; ends = trans_end; ends_after = tt; after = λ p q h. tt; before = λ p q h. tt }

pub same_signature : (spec : Spec) (s : List Symbol) (last : Option Trans) (k : Known) {ps : List ℕ} → IsAtTrans s last ps spec k → EpsMay spec.signature None k.before
same_signature spec s last k at = subst (λ (x : List Symbol). EpsMay x None k.before) (sym at.signature) (behind_trans s last k.before at.may)

pub end_taken : (spec : Spec) (k : Known) (last : Option (ℕ × ℕ)) (bytes text rest : Text) → EpsMay spec.signature last k.before → bytes ≡ text ++ 10 ∷ rest → text ≡ text_of_line line.end → Taken spec k bytes line.end rest
end_taken spec k last bytes text rest may told is = taken spec k bytes text rest line.end told is may.ends tt (record { symbols = tt; count = tt; states = tt; order = (tt, may.ends_after) })

eps_begin : (spec : Spec) (k : Known) (last : Option (ℕ × ℕ)) (bytes text rest : Text) (p q : ℕ) → EpsMay spec.signature last k.before → bytes ≡ text ++ 10 ∷ rest → text ≡ eps_text p q → Begins k bytes (line.eps p q) rest
eps_begin spec k last bytes text rest p q may told is = record { follows = may.follows p q; formed = tt; told = told ∙ ap (λ x. x ++ 10 ∷ rest) is ∙ sym (append_assoc (text_of_line (line.eps p q)) (10 ∷ []) rest) }

pub number_same : (ps : List ℕ) (m p : ℕ) → All (λ q. q < 16384) ps → m ≡ saturated p → Contains ps m → p ≡ m
number_same ps m p small is in_it = let below : m < 16384 = All-contains (λ q. q < 16384) ps m small in_it in omega (arith, is, below)

pub same_number : (ps : List ℕ) (m p : ℕ) → All (λ q. q < 16384) ps → m ≡ saturated p → Contains ps p → p ≡ m
same_number ps m p small is in_it = let below : p < 16384 = All-contains (λ q. q < 16384) ps p small in_it in omega (arith, is, below)

eps_is : (ps : List ℕ) (x y : ℕ) (text : Text) → All (λ q. q < 16384) ps → IsEps text x y → Contains ps x → Contains ps y → text ≡ eps_text x y
eps_is ps x y text small it a b = it.told ∙ ap₂ eps_text (number_same ps x it.from small it.from_value a) (number_same ps y it.to small it.to_value b)

module _ (spec : Spec) (k : Known) (ps : List ℕ) (last : Option (ℕ × ℕ)) (e : ℕ × ℕ) (bytes text rest : Text)
    (may : EpsMay spec.signature last k.before) (small : All (λ q. q < 16384) ps) (known : k.states ≡ ps) (told : bytes ≡ text ++ 10 ∷ rest) (it : IsEps text e.0 e.1) where
  pub eps_wrong : (kd : CertKind) → IsWrongEps ps last e kd → RowFits spec k bytes kd
  eps_wrong kd (wrong_state bad) =
      field (eps_begin spec k last bytes text rest it.from it.to may told it.told)
      (state tt tt (λ h.
      let from : Contains ps it.from = subst (λ (xs : List ℕ). Contains xs it.from) known h.0 in
      let to : Contains ps it.to = subst (λ (xs : List ℕ). Contains xs it.to) known h.1 in
      bad (subst (Contains ps) (same_number ps e.0 it.from small it.from_value from) from, subst (Contains ps) (same_number ps e.1 it.to small it.to_value to) to)))
  eps_wrong kd (wrong_order a b bad) =
      field (eps_begin spec k last bytes text rest e.0 e.1 may told (eps_is ps e.0 e.1 text small it a b))
      (order tt tt (subst (λ (xs : List ℕ). Contains xs e.0) (sym known) a, subst (λ (xs : List ℕ). Contains xs e.1) (sym known) b) (λ h. bad (h.0, may.before e.0 e.1 h.1)))

  pub eps_right : IsRightEps ps last e → Taken spec k bytes (line.eps e.0 e.1) rest
  eps_right r = record {
    begins = eps_begin spec k last bytes text rest e.0 e.1 may told (eps_is ps e.0 e.1 text small it r.from r.to);
    right = record {
      symbols = tt;
      count = tt;
      states = (subst (λ (xs : List ℕ). Contains xs e.0) (sym known) r.from, subst (λ (xs : List ℕ). Contains xs e.1) (sym known) r.to);
      order = (r.moves, may.after e.0 e.1 r.after);
    };
  }

eps_only : (text : Text) (n o : ℕ) (l : Line) → Follows (Some (line.eps n o)) l → text ≡ text_of_line l → (text ≡ text_of_line line.end → ⊥) → ((p q : ℕ) → text ≡ eps_text p q → ⊥) → ⊥
eps_only text n o l (eps_eps {p = p} {q = q}) e over never = never p q e
eps_only text n o l eps_end e over never = over e

pub eps_row : (spec : Spec) (k : Known) (n o : ℕ) (bytes text rest : Text) → k.before ≡ Some (line.eps n o) → bytes ≡ text ++ 10 ∷ rest → Lacks 10 text → (text ≡ text_of_line line.end → ⊥) → ((p q : ℕ) → text ≡ eps_text p q → ⊥) → RowFits spec k bytes kind.Line
eps_row spec k n o bytes text rest at told free over never =
    line_row spec k bytes text rest (ap place at) told free (λ l follows formed e. eps_only text n o l (subst (λ (x : Option Line). Follows x l) at follows) e over never)
