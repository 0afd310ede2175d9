-- The line of a transition.
use Rattle.std.proofs.Common.{◌≡◌, ℕ, ◌<◌, length, List, [], ◌∷◌, ◌++◌, map, Option, Some, refl, sym, ap, ap₂, subst, ◌∙◌}
use Rattle.std.specs.Prelude.{All, Contains, IfSome}
use Rattle.std.specs.declared.cmp.Ordering.TheVariants.{Less}
use Rattle.std.proofs.lemmas.List.{append_assoc, length-map}
use Rattle.ranked_terms.specs.Names.{Symbol, number_of}
use Rattle.ranked_terms.specs.Words.{IsWord}
use Rattle.ta_core.specs.TreeAutomaton.{trans_of, trans_cmp}
use Rattle.ta_core.specs.declared.trans.Trans.{Trans}
use Rattle.ta_core.specs.declared.spec.Spec.{Spec}
use Rattle.cert_text.specs.declared.certificate.CertKind.{CertKind}
use Rattle.cert_text.specs.declared.certificate.CertKind.TheVariants as kind
use Rattle.ranked_terms.specs.Texts.{Text, number_word, with_args}
use Rattle.cert_text.specs.Cuts.{Lacks, saturated, arrow_text, eps_text}
use Rattle.cert_text.specs.Lines as line
use Rattle.cert_text.specs.Lines.{Line, IsFormed, Follows, map_trans, map_eps, map_end, trans_trans, trans_eps, trans_end}
use Rattle.cert_text.specs.Certificates.{trans_line}
use Rattle.cert_text.specs.Faults.{Known, Begins, RowFits, field, symbol, state, order, ComesAfter, TellsSymbol}
use Rattle.cert_text.specs.Taking.{Taken, IsTransText, IsRightTrans, IsWrongTrans, symbol as wrong_symbol, state as wrong_state, order as wrong_order, MayTrans, at_first, behind}
use Rattle.cert_text.specs.Entries.{IsAtTrans, IsNext}
use Rattle.cert_text.proofs.format.Symbols.{named_back}
use Rattle.cert_text.proofs.rows.LineRows.{text_of_line, line_row, place, same_listed, listed_same}
use Rattle.cert_text.proofs.rows.EpsRows.{number_same, same_number}

pub args_same : (last : Option Trans) (f to : ℕ) (xs ys : List ℕ) → ys ≡ xs → IfSome last (λ u. trans_cmp u (trans_of f xs to) ≡ Less) → IfSome last (λ u. trans_cmp u (trans_of f ys to) ≡ Less)
args_same last f to xs ys same h = subst (λ (zs : List ℕ). IfSome last (λ u. trans_cmp u (trans_of f zs to) ≡ Less)) (sym same) h

-- ---- a line without a form

entry_only : (s : List Symbol) (last : Option Trans) (o : Option Line) (text : Text) (l : Line) → MayTrans s last o → Follows o l → IsFormed l → text ≡ text_of_line l → (text ≡ text_of_line line.end → ⊥) → ((p q : ℕ) → text ≡ eps_text p q → ⊥)
    → ((f : Text) (qs : List ℕ) (q : ℕ) → IsWord f → text ≡ arrow_text (with_args f (map number_word qs)) q → ⊥) → ⊥
entry_only s last o text l (at_first ps) (map_trans {qs = qs} {f = f} {q = q}) word e over eps never = never f qs q word e
entry_only s last o text l (at_first ps) (map_eps {p = p} {q = q}) word e over eps never = eps p q e
entry_only s last o text l (at_first ps) map_end word e over eps never = over e
entry_only s last o text l (behind t n) (trans_trans {g = g} {qs = qs} {q = q}) word e over eps never = never g qs q word e
entry_only s last o text l (behind t n) (trans_eps {p = p} {q = q}) word e over eps never = eps p q e
entry_only s last o text l (behind t n) trans_end word e over eps never = over e

pub may_place : (s : List Symbol) (last : Option Trans) (o : Option Line) → MayTrans s last o → place o ≡ 3
may_place s last o (at_first ps) = refl
may_place s last o (behind t n) = refl

pub entry_row : (spec : Spec) (k : Known) (s : List Symbol) (last : Option Trans) (ps : List ℕ) (bytes text rest : Text) → IsAtTrans s last ps spec k → bytes ≡ text ++ 10 ∷ rest → Lacks 10 text
    → (text ≡ text_of_line line.end → ⊥) → ((p q : ℕ) → text ≡ eps_text p q → ⊥) → ((f : Text) (qs : List ℕ) (q : ℕ) → IsWord f → text ≡ arrow_text (with_args f (map number_word qs)) q → ⊥) → RowFits spec k bytes kind.Line
entry_row spec k s last ps bytes text rest at told free over eps never =
    line_row spec k bytes text rest (may_place s last k.before at.may) told free (λ l follows formed e. entry_only s last k.before text l at.may follows formed e over eps never)

-- ---- a transition

trans_may : (s : List Symbol) (last : Option Trans) (o : Option Line) (f : Text) (qs : List ℕ) (q : ℕ) → MayTrans s last o → Follows o (line.trans f qs q)
trans_may s last o f qs q (at_first ps) = map_trans
trans_may s last o f qs q (behind t n) = trans_trans

some_is : (m n : ℕ) → Some m ≡ Some n → m ≡ n
some_is m n e = cc

-- the order of lines is that of transitions
comes_after : (s : List Symbol) (last : Option Trans) (o : Option Line) (f : Text) (n : ℕ) (qs : List ℕ) (q : ℕ) → MayTrans s last o → number_of s f ≡ Some n → IfSome last (λ u. trans_cmp u (trans_of n qs q) ≡ Less) → ComesAfter s o (line.trans f qs q)
comes_after s last o f n qs q (at_first ps) named h = tt
comes_after s last o f n qs q (behind t is) named h = λ a b x y.
    let first : t.sym ≡ a = some_is t.sym a (sym is ∙ x) in
    let second : n ≡ b = some_is n b (sym named ∙ y) in
    subst (λ (v : ℕ). trans_cmp (trans_of v t.args t.to) (trans_of b qs q) ≡ Less) first (subst (λ (v : ℕ). trans_cmp t (trans_of v qs q) ≡ Less) second h)

came_after : (s : List Symbol) (last : Option Trans) (o : Option Line) (f : Text) (n : ℕ) (qs : List ℕ) (q : ℕ) → MayTrans s last o → number_of s f ≡ Some n → ComesAfter s o (line.trans f qs q) → IfSome last (λ u. trans_cmp u (trans_of n qs q) ≡ Less)
came_after s last o f n qs q (at_first ps) named h = tt
came_after s last o f n qs q (behind t is) named h = h t.sym n is named

module _ (spec : Spec) (k : Known) (s : List Symbol) (last : Option Trans) (ps : List ℕ) (bytes text rest name : Text) (args : List ℕ) (to : ℕ)
    (at : IsAtTrans s last ps spec k) (small : All (λ q. q < 16384) ps) (told : bytes ≡ text ++ 10 ∷ rest) (it : IsTransText text name [] args to) where
  begins : (qs : List ℕ) (q : ℕ) → it.args ≡ qs → it.to ≡ q → Begins k bytes (line.trans name qs q) rest
  begins qs q same_args same_to = record {
    follows = trans_may s last k.before name qs q at.may;
    formed = it.is_word;
    told = told ∙ ap (λ x. x ++ 10 ∷ rest) (it.told ∙ ap₂ (λ xs x. arrow_text (with_args name (map number_word xs)) x) same_args same_to) ∙ sym (append_assoc (text_of_line (line.trans name qs q)) (10 ∷ []) rest);
  }

  as_read : All (Contains ps) args → args ≡ it.args
  as_read h = it.appended ∙ same_listed ps it.args small (subst (All (Contains ps)) it.appended h)

  as_told : All (Contains ps) it.args → args ≡ it.args
  as_told h = it.appended ∙ listed_same ps it.args small h

  same_count : length it.args ≡ length args
  same_count = sym (ap length it.appended ∙ length-map it.args saturated)

  tells : (xs : List ℕ) (count : ℕ) → length xs ≡ count → TellsSymbol s name count → TellsSymbol spec.signature name (length xs)
  tells xs count long h = subst (λ (x : List Symbol). TellsSymbol x name (length xs)) (sym at.signature) (subst (TellsSymbol s name) (sym long) h)

  told_symbol : (xs : List ℕ) (count : ℕ) → length xs ≡ count → TellsSymbol spec.signature name (length xs) → TellsSymbol s name count
  told_symbol xs count long h = subst (λ (x : List Symbol). TellsSymbol x name count) at.signature (subst (TellsSymbol spec.signature name) long h)

  pub trans_wrong : (kd : CertKind) → IsWrongTrans s ps last name args to kd → RowFits spec k bytes kd
  trans_wrong kd (wrong_symbol bad) = field (begins it.args it.to refl refl) (symbol (λ h. bad (told_symbol it.args (length args) same_count h)))
  trans_wrong kd (wrong_state tell bad) = field (begins it.args it.to refl refl) (state (tells it.args (length args) same_count tell) tt (λ h.
      let all = subst (λ (xs : List ℕ). All (Contains xs) it.args) at.known h.0 in
      let target : Contains ps it.to = subst (λ (xs : List ℕ). Contains xs it.to) at.known h.1 in
      bad (subst (All (Contains ps)) (sym (as_told all)) all, subst (Contains ps) (same_number ps to it.to small it.value target) target)))
  trans_wrong kd (wrong_order n named arity all target bad) =
      field (begins args to (sym (as_read all)) (number_same ps to it.to small it.value target))
      (order (tells args (length args) refl (record { sym = n; named = named; arity = arity })) tt (subst (λ (xs : List ℕ). All (Contains xs) args) (sym at.known) all, subst (λ (xs : List ℕ). Contains xs to) (sym at.known) target)
      (λ h. bad (came_after s last k.before name n args to at.may named (subst (λ (x : List Symbol). ComesAfter x k.before (line.trans name args to)) at.signature h.1))))

  pub trans_right : (t : Trans) → IsRightTrans s ps last name args to t → Taken spec k bytes (trans_line s t) rest
  trans_right t r = go (sym r.fields)
    where
      f : ℕ
      f = t.sym

      go : trans_of f args to ≡ t → Taken spec k bytes (trans_line s t) rest
      go is = subst (λ (u : Trans). Taken spec k bytes (trans_line s u) rest) is
          (subst (λ (x : Text). Taken spec k bytes (line.trans x args to) rest) (sym (named_back s name f r.named))
          (record {
            begins = begins args to (sym (as_read r.known)) (number_same ps to it.to small it.value r.target);
            right = record {
              symbols = tells args (length args) refl (record { sym = f; named = r.named; arity = r.arity });
              count = tt;
              states = (subst (λ (xs : List ℕ). All (Contains xs) args) (sym at.known) r.known, subst (λ (xs : List ℕ). Contains xs to) (sym at.known) r.target);
              order = (
                tt,
                subst (λ (x : List Symbol). ComesAfter x k.before (line.trans name args to)) (sym at.signature)
                    (comes_after s last k.before name f args to at.may r.named (subst (λ (u : Trans). IfSome last (λ v. trans_cmp v u ≡ Less)) r.fields r.after)),
              );
            };
          }))

pub next_is : (s : List Symbol) (ps : List ℕ) (last : Option Trans) (name : Text) (args : List ℕ) (to : ℕ) (t : Trans) → IsRightTrans s ps last name args to t → IsNext s ps last t
next_is s ps last name args to t r = record {
  named = record { named = ap (number_of s) (named_back s name t.sym r.named) ∙ r.named; arity = r.arity ∙ ap (λ (u : Trans). Some (length u.args)) (sym r.fields) };
  of = record { args = subst (All (Contains ps)) (ap (λ (u : Trans). u.args) (sym r.fields)) r.known; to = subst (Contains ps) (ap (λ (u : Trans). u.to) (sym r.fields)) r.target };
  after = r.after;
}
