-- What may come next is what is computed.
use Rattle.std.proofs.Common.{◌≡◌, true, false, List, [], ◌∷◌, ◌++◌, refl, ap, sym, ◌∙◌, subst}
use Rattle.std.specs.Prelude.{Option, Some, None, option_map, option_and_then, is_some, IsTrue}
use Rattle.std.specs.Option.{option_map_or}
use Rattle.std.proofs.lemmas.List.{append-nil}
use Rattle.std.proofs.lemmas.Option.{option_and_then_some}
use Rattle.timbuk_lex.specs.declared.lexeme.Lexeme.{Lexeme}
use Rattle.timbuk_grammar.specs.declared.terminal.Terminal.{Terminal}
use Rattle.timbuk_grammar.specs.Grammar.{Part, one, file}
use Rattle.timbuk_grammar.specs.Derivations.{Opens, stay, token, Derives, Next, NextEnd, Stands}
use Rattle.timbuk_grammar.specs.Next.{may_end, Choice, choices, choice_of, open_after, open_after_all, open_parts, terminal_of, terminal_at, next_allowed, end_allowed}
use Rattle.timbuk_grammar.specs.Laws.{NextLaw}
use Rattle.timbuk_grammar.specs.lemmas.Choices.{here, through, choice_opens, all_pass}
use Rattle.timbuk_grammar.specs.lemmas.Next.{told}
use Rattle.timbuk_grammar.specs.lemmas.Decided.{all_decide, file_decides, choice_decides, finds, found_fits}
use Rattle.timbuk_grammar.proofs.Texts.{some_text}

-- ---- several tokens

-- The tokens lead to open parts, which derive the rest.
record Leads (ps : List Part) (xs ys : List Lexeme) (rs : List Part) : Type 0 where
  pub behind : List Part
  pub is_open : open_after_all ps xs ≡ Some behind
  pub decided : all_decide behind ≡ true
  pub after : Opens behind ys rs

leads : (xs : List Lexeme) (ps : List Part) {ys : List Lexeme} {rs : List Part} → all_decide ps ≡ true → Opens ps (xs ++ ys) rs
    → Leads ps xs ys rs
leads [] ps d o = record { behind = ps; is_open = refl; decided = d; after = o }
leads (x ∷ xs) ps {ys = ys} {rs = rs} d o =
    let g = told o in
    let h = leads xs g.choice.behind (choice_decides ps g.among d) g.after in
    let e : open_after ps x ≡ Some g.choice.behind = ap (option_map (λ c. c.behind)) (finds x ps d g.among g.matched) in
    record { behind = h.behind; is_open = ap (option_and_then (λ qs. open_after_all qs xs)) e ∙ h.is_open; decided = h.decided; after = h.after }

-- the parts after the choice
record Chosen (ps : List Part) (x : Lexeme) (qs : List Part) : Type 0 where
  pub choice : Choice
  pub chosen : choice_of ps x ≡ Some choice
  pub behind : choice.behind ≡ qs

chosen : (ps : List Part) (x : Lexeme) (qs : List Part) (o : Option Choice) → choice_of ps x ≡ o
    → option_map (λ c. c.behind) o ≡ Some qs → Chosen ps x qs
chosen ps x qs None f e = cc
chosen ps x qs (Some c) f e = record { choice = c; chosen = f; behind = cc }

step_opens : (ps : List Part) (x : Lexeme) (c : Choice) {xs : List Lexeme} {rs : List Part} → choice_of ps x ≡ Some c
    → Opens c.behind xs rs → Opens ps (x ∷ xs) rs
step_opens ps x c e o = let f = found_fits x (choices ps) c e in through (choice_opens ps f.among) (token f.matched o)

reached : (xs : List Lexeme) (ps qs : List Part) → open_after_all ps xs ≡ Some qs → Opens ps xs qs
reached [] ps qs e = let q : ps ≡ qs = cc in subst (Opens ps []) q stay
reached (x ∷ xs) ps qs e = option_and_then_some (λ rs. open_after_all rs xs) (open_after ps x) qs e (λ rs o f.
    let h = chosen ps x rs (choice_of ps x) refl o in
    step_opens ps x h.choice h.chosen (subst (λ z. Opens z xs qs) (sym h.behind) (reached xs rs qs f)))

-- ---- the laws

no_more : {ps rs : List Part} (xs : List Lexeme) → Opens ps xs rs → Opens ps (xs ++ []) rs
no_more {ps = ps} {rs = rs} xs o = subst (λ z. Opens ps z rs) (sym (append-nil xs)) o

-- The token is taken by this choice after the others.
record Takes (before : List Lexeme) (x : Lexeme) (c : Choice) : Type 0 where
  pub behind : List Part
  pub is_open : open_parts before ≡ Some behind
  pub chosen : choice_of behind x ≡ Some c

takes_at : (before : List Lexeme) (x : Lexeme) (c : Choice) → Takes before x c → terminal_at before x ≡ Some c.terminal
takes_at before x c h = ap (option_and_then (λ ps. terminal_of ps x)) h.is_open ∙ ap (option_map (λ d. d.terminal)) h.chosen

next_takes : (before : List Lexeme) (x : Lexeme) → Next before x → (c : Choice) × Takes before x c
next_takes before x n =
    let l = leads before (file ∷ []) file_decides n.1 in
    let g = told l.after in
    (g.choice, record { behind = l.behind; is_open = l.is_open; chosen = finds x l.behind l.decided g.among g.matched })

stands_takes : (before : List Lexeme) (x : Lexeme) (t : Terminal) (s : Stands before x t) → Takes before x (record { terminal = t; behind = s.behind })
stands_takes before x t s =
    let l = leads before (file ∷ []) file_decides (no_more before s.here) in
    record { behind = l.behind; is_open = l.is_open; chosen = finds x l.behind l.decided ((told l.after).choice _ here) s.matched }

takes_stands : (before : List Lexeme) (x : Lexeme) (c : Choice) → Takes before x c → Stands before x c.terminal
takes_stands before x c h =
    let f = found_fits x (choices h.behind) c h.chosen in
    let r = some_text c.behind in
    record {
      behind = c.behind;
      here = subst (λ z. Opens (file ∷ []) z (one c.terminal ∷ c.behind)) (append-nil before)
          (through (reached before (file ∷ []) h.behind h.is_open) (choice_opens h.behind f.among));
      matched = f.matched;
      rest = r.0;
      whole = r.1;
    }

at_takes : (before : List Lexeme) (x : Lexeme) (t : Terminal) (o : Option (List Part)) → open_parts before ≡ o
    → option_and_then (λ ps. terminal_of ps x) o ≡ Some t → Stands before x t
at_takes before x t None e f = cc
at_takes before x t (Some ps) e f = at_choice (choice_of ps x) refl f
  where
    at_choice : (o : Option Choice) → choice_of ps x ≡ o → option_map (λ c. c.terminal) o ≡ Some t → Stands before x t
    at_choice None g h = cc
    at_choice (Some c) g h = let k : c.terminal ≡ t = cc in subst (Stands before x) k (takes_stands before x c (record { behind = ps; is_open = e; chosen = g }))

some_is : {A : Type 0} (o : Option A) → is_some o ≡ true → (a : A) × (o ≡ Some a)
some_is (Some a) h = (a, refl)
some_is None h = cc

allowed_next : (before : List Lexeme) (x : Lexeme) → IsTrue (next_allowed before x) → Next before x
allowed_next before x h =
    let t = some_is (terminal_at before x) h in
    let s = at_takes before x t.0 (open_parts before) refl t.1 in
    (s.rest, through s.here (token s.matched s.whole))

end_forth : (before : List Lexeme) → NextEnd before → IsTrue (end_allowed before)
end_forth before n =
    let l = leads before (file ∷ []) file_decides (no_more before n) in
    ap (λ o. option_map_or may_end o false) l.is_open ∙ (told l.after).ending refl

end_back : (before : List Lexeme) (o : Option (List Part)) → open_parts before ≡ o → option_map_or may_end o false ≡ true → NextEnd before
end_back before None e h = cc
end_back before (Some ps) e h = subst (Derives (file ∷ [])) (append-nil before) (through (reached before (file ∷ []) ps e) (all_pass ps h))

pub next_law : (before : List Lexeme) → NextLaw before
next_law before = record {
  token = λ x. ((λ n. let h = next_takes before x n in ap is_some (takes_at before x h.0 h.1)), allowed_next before x);
  terminal = λ x t. ((λ s. takes_at before x (record { terminal = t; behind = s.behind }) (stands_takes before x t s)), at_takes before x t (open_parts before) refl);
  end = (end_forth before, end_back before (open_parts before) refl);
}
