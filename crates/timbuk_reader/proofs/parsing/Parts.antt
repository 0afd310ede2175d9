-- One token, and one part, of what is read.
use Rattle.std.proofs.Common.{◌≡◌, Bool, true, false, ◌&&◌, cond, List, [], ◌∷◌, ◌++◌, Option, Some, None, Ok, Err, Result, refl, ap, sym, ◌∙◌, append_assoc}
use Rattle.std.specs.Prelude.{find}
use Rattle.std.specs.List.{list_all}
use Rattle.std.proofs.lemmas.List.{append-nil}
use Rattle.timbuk_lex.specs.declared.lexeme.Lexeme.{Lexeme}
use Rattle.timbuk_grammar.specs.declared.terminal.Role.{Role}
use Rattle.timbuk_grammar.specs.declared.terminal.Terminal.{Terminal}
use Rattle.timbuk_grammar.specs.declared.terminal.Terminal.TheVariants as terminal
use Rattle.timbuk_grammar.specs.Matching.{matches}
use Rattle.timbuk_grammar.specs.Grammar.{Part, one, ◌then◌, maybe, many, pattern, pattern_arguments}
use Rattle.timbuk_grammar.specs.Next.{empties, Choice, begins, choices, choice_of}
use Rattle.timbuk_reader.specs.declared.fault.SpecError.{SpecError}
use Rattle.timbuk_reader.specs.declared.state.Reader.{Reader}
use Rattle.spec_text.specs.Declarations.{Declared}
use Rattle.timbuk_lex.specs.declared.lex.Ending.{Ending}
use Rattle.timbuk_lex.specs.declared.lex.Ending.TheVariants.{Whole, Stopped}
use Rattle.spec_text.specs.Rows.{row, end_row}
use Rattle.spec_text.specs.Reading.{End, outcome, ends_by, end_by, unless, terminal_of}
use Rattle.spec_text.specs.Declarations.{behind, added}
use Rattle.timbuk_reader.specs.View.{Open, closed, declared, end_of, from, as_error}
use Rattle.spec_text.specs.Reading.{settled, sees}
use Rattle.timbuk_reader.specs.Reads.{Advances, Stops, Reads, Turns}

-- ---- open parts that go on alike

-- the same choice at the next token
pub same_choice : (ps qs : List Part) (end : End) (d : Declared) (x : Lexeme) (xs : List Lexeme) → choice_of ps x ≡ choice_of qs x → outcome end ps d (x ∷ xs) ≡ outcome end qs d (x ∷ xs)
same_choice ps qs end d x xs e = ap (λ c. unless (row (terminal_of c) d x) x (outcome end (behind c) (added c x d) xs)) e

-- the same end
ends_alike : (ending : Ending) (ps qs : List Part) (end : End) (d : Declared) → list_all empties ps ≡ list_all empties qs → ends_by ending end ps d ≡ ends_by ending end qs d
ends_alike Whole ps qs end d e = ap (λ b. end_by (end_row b d) end d) e
ends_alike (Stopped why line column) ps qs end d e = refl

pub same_end : (ps qs : List Part) (end : End) (d : Declared) → list_all empties ps ≡ list_all empties qs → outcome end ps d [] ≡ outcome end qs d []
same_end ps qs end d e = ends_alike end.ending ps qs end d e

-- the same choices, and the same end
pub record Alike (ps qs : List Part) : Type 0 where
  pub next : choices ps ≡ choices qs
  pub end : list_all empties ps ≡ list_all empties qs

pub alike : (ps qs : List Part) (end : End) (d : Declared) (xs : List Lexeme) → Alike ps qs → outcome end ps d xs ≡ outcome end qs d xs
alike ps qs end d [] h = same_end ps qs end d h.end
alike ps qs end d (x ∷ xs) h = same_choice ps qs end d x xs (ap (λ cs. find (λ c. matches c.terminal x) cs) h.next)

both_next : (a b : Bool) (xs ys zs : List Choice) → (xs ++ cond a ys []) ++ cond (a && b) zs [] ≡ xs ++ cond a (ys ++ cond b zs []) []
both_next true b xs ys zs = append_assoc xs ys (cond b zs [])
both_next false b xs ys zs = append-nil (xs ++ [])

and_assoc : (a b c : Bool) → ((a && b) && c) ≡ (a && (b && c))
and_assoc true b c = refl
and_assoc false b c = refl

pub both_alike : (a b : Part) (ps : List Part) → Alike ((a then b) ∷ ps) (a ∷ b ∷ ps)
both_alike a b ps = record {
  next = both_next (empties a) (empties b) (begins a (b ∷ ps)) (begins b ps) (choices ps);
  end = and_assoc (empties a) (empties b) (list_all empties ps);
}

-- ---- what a part begins with

-- a part begins with this terminal alone, and these parts are open behind it
pub record Head (a : Part) (t : Terminal) : Type 0 where
  pub after : List Part → List Part
  pub next : (ps : List Part) → begins a ps ≡ record { terminal = t; behind = after ps } ∷ []
  pub some : empties a ≡ false

-- the same of parts one after the other
pub record Front (ps : List Part) (t : Terminal) (qs : List Part) : Type 0 where
  pub next : choices ps ≡ record { terminal = t; behind = qs } ∷ []
  pub end : list_all empties ps ≡ false

pub one_front : (t : Terminal) (ps : List Part) → Front (one t ∷ ps) t ps
one_front t ps = record { next = refl; end = refl }

pub pattern_front : (p : Role) (ps : List Part) → Front (pattern p ∷ ps) (terminal.Named p) (pattern_arguments p ∷ ps)
pattern_front p ps = record { next = refl; end = refl }

pub head_front : (a : Part) (t : Terminal) (ps : List Part) → (h : Head a t) → Front (a ∷ ps) t (h.after ps)
head_front a t ps h = record {
  next = ap (λ b. begins a ps ++ cond b (choices ps) []) h.some ∙ append-nil (begins a ps) ∙ h.next ps;
  end = ap (λ b. b && list_all empties ps) h.some;
}

pub one_head : (t : Terminal) → Head (one t) t
one_head t = record { after = λ ps. ps; next = λ ps. refl; some = refl }

pub then_head : (t : Terminal) (b : Part) → Head (one t then b) t
then_head t b = record { after = λ ps. b ∷ ps; next = λ ps. refl; some = refl }

pub pattern_then_head : (p : Role) (b : Part) → Head (pattern p then b) (terminal.Named p)
pattern_then_head p b = record { after = λ ps. pattern_arguments p ∷ b ∷ ps; next = λ ps. refl; some = refl }

found_first : (t : Terminal) (qs : List Part) (cs : List Choice) (x : Lexeme) → matches t x ≡ true → find (λ c. matches c.terminal x) (record { terminal = t; behind = qs } ∷ cs) ≡ Some (record { terminal = t; behind = qs })
found_first t qs cs x e = rw e refl

found_later : (t : Terminal) (qs : List Part) (cs : List Choice) (x : Lexeme) → matches t x ≡ false → find (λ c. matches c.terminal x) (record { terminal = t; behind = qs } ∷ cs) ≡ find (λ c. matches c.terminal x) cs
found_later t qs cs x e = rw e refl

abbrev first_of : Lexeme → List Choice → Option Choice
first_of x cs = find (λ c. matches c.terminal x) cs

pub choice_seen : (ps : List Part) (t : Terminal) (qs : List Part) (x : Lexeme) → Front ps t qs → matches t x ≡ true → choice_of ps x ≡ Some (record { terminal = t; behind = qs })
choice_seen ps t qs x h e = ap (first_of x) h.next ∙ found_first t qs [] x e

pub choice_unseen : (ps : List Part) (t : Terminal) (qs : List Part) (x : Lexeme) → Front ps t qs → matches t x ≡ false → choice_of ps x ≡ None
choice_unseen ps t qs x h e = ap (first_of x) h.next ∙ found_later t qs [] x e

-- ---- a part at most once, or any number of times

module _ (a : Part) (t : Terminal) (h : Head a t) (end : End) (d : Declared) where
  begins_seen : (ps qs : List Part) (x : Lexeme) → matches t x ≡ true → first_of x (begins a ps ++ choices qs) ≡ Some (record { terminal = t; behind = h.after ps })
  begins_seen ps qs x e = ap (λ cs. first_of x (cs ++ choices qs)) (h.next ps) ∙ found_first t (h.after ps) (choices qs) x e

  begins_unseen : (ps qs : List Part) (x : Lexeme) → matches t x ≡ false → first_of x (begins a ps ++ choices qs) ≡ choice_of qs x
  begins_unseen ps qs x e = ap (λ cs. first_of x (cs ++ choices qs)) (h.next ps) ∙ found_later t (h.after ps) (choices qs) x e

  taken : (ps qs : List Part) (x : Lexeme) → matches t x ≡ true → first_of x (begins a ps ++ choices qs) ≡ choice_of (a ∷ ps) x
  taken ps qs x e = begins_seen ps qs x e ∙ sym (choice_seen (a ∷ ps) t (h.after ps) x (head_front a t ps h) e)

  pub maybe_take : (ps : List Part) (xs : List Lexeme) → sees t xs ≡ true → outcome end (maybe a ∷ ps) d xs ≡ outcome end (a ∷ ps) d xs
  maybe_take ps [] e = cc
  maybe_take ps (x ∷ xs) e = same_choice (maybe a ∷ ps) (a ∷ ps) end d x xs (taken ps ps x e)

  pub maybe_skip : (ps : List Part) (xs : List Lexeme) → sees t xs ≡ false → outcome end (maybe a ∷ ps) d xs ≡ outcome end ps d xs
  maybe_skip ps [] e = same_end (maybe a ∷ ps) ps end d refl
  maybe_skip ps (x ∷ xs) e = same_choice (maybe a ∷ ps) ps end d x xs (begins_unseen ps ps x e)

  pub many_take : (ps : List Part) (xs : List Lexeme) → sees t xs ≡ true → outcome end (many a ∷ ps) d xs ≡ outcome end (a ∷ many a ∷ ps) d xs
  many_take ps [] e = cc
  many_take ps (x ∷ xs) e = same_choice (many a ∷ ps) (a ∷ many a ∷ ps) end d x xs (taken (many a ∷ ps) ps x e)

  pub many_skip : (ps : List Part) (xs : List Lexeme) → sees t xs ≡ false → outcome end (many a ∷ ps) d xs ≡ outcome end ps d xs
  many_skip ps [] e = same_end (many a ∷ ps) ps end d refl
  many_skip ps (x ∷ xs) e = same_choice (many a ∷ ps) ps end d x xs (begins_unseen (many a ∷ ps) ps x e)

-- ---- one part, and then another

run_both : (a b : Part) (o : Open) (ps : List Part) (r : Reader) → from o ((a then b) ∷ ps) r ≡ from o (a ∷ b ∷ ps) r
run_both a b o ps r = ap settled (alike ((a then b) ∷ ps) (a ∷ b ∷ ps) (end_of r) (declared o r) r.tokens.now (both_alike a b ps))

pub then_advances : (a b : Part) (o p q : Open) (r m u : Reader) → Advances a o r p m → Advances b p m q u → Advances (a then b) o r q u
then_advances a b o p q r m u h k = record { by = λ ps. run_both a b o ps r ∙ h.by (b ∷ ps) ∙ k.by ps }

pub then_stops : (a b : Part) (o : Open) (r : Reader) (e : SpecError) → Stops a o r e → Stops (a then b) o r e
then_stops a b o r e h = record { by = λ ne ps. ap as_error (run_both a b o ps r) ∙ h.by ne (b ∷ ps) }

pub later_stops : (a b : Part) (o p : Open) (r m : Reader) (e : SpecError) → Advances a o r p m → Stops b p m e → Stops (a then b) o r e
later_stops a b o p r m e h k = record { by = λ ne ps. ap as_error (run_both a b o ps r ∙ h.by (b ∷ ps)) ∙ k.by ne ps }

-- a part that came last, where its result is handed on
pub then_reads : {X : Type 0} (a b : Part) (o p q : Open) (r m u : Reader) (result : Result X SpecError) → Advances a o r p m → Reads b p m result q u → Reads (a then b) o r result q u
then_reads a b o p q r m u (Ok x) h k = then_advances a b o p q r m u h k
then_reads a b o p q r m u (Err e) h k = later_stops a b o p r m e h k

-- ---- a part any number of times

pub turns_start : (p : Part) (r : Reader) → Turns p r p r
turns_start p r = record { by = λ ps. refl }

pub turns_again : (a : Part) (t : Terminal) (r m u : Reader) → Turns (many a) r (many a) m → Head a t → sees t m.tokens.now ≡ true → Advances a closed m closed u → Turns (many a) r (many a) u
turns_again a t r m u k h e l = record { by = λ ps. k.by ps ∙ ap settled (many_take a t h (end_of m) (declared closed m) ps m.tokens.now e) ∙ l.by (many a ∷ ps) }

pub turns_stop : (a : Part) (t : Terminal) (r m : Reader) → Turns (many a) r (many a) m → Head a t → sees t m.tokens.now ≡ false → Advances (many a) closed r closed m
turns_stop a t r m k h e = record { by = λ ps. k.by ps ∙ ap settled (many_skip a t h (end_of m) (declared closed m) ps m.tokens.now e) }

pub turns_err : (a : Part) (t : Terminal) (r m : Reader) (e : SpecError) → Turns (many a) r (many a) m → Head a t → sees t m.tokens.now ≡ true → Stops a closed m e → Stops (many a) closed r e
turns_err a t r m e k h s l = record { by = λ ne ps. ap as_error (k.by ps ∙ ap settled (many_take a t h (end_of m) (declared closed m) ps m.tokens.now s)) ∙ l.by ne (many a ∷ ps) }

-- ---- a part at most once

pub maybe_advances : (a : Part) (t : Terminal) (o q : Open) (r u : Reader) → Head a t → sees t r.tokens.now ≡ true → Advances a o r q u → Advances (maybe a) o r q u
maybe_advances a t o q r u h e k = record { by = λ ps. ap settled (maybe_take a t h (end_of r) (declared o r) ps r.tokens.now e) ∙ k.by ps }

pub maybe_stops : (a : Part) (t : Terminal) (o : Open) (r : Reader) (e : SpecError) → Head a t → sees t r.tokens.now ≡ true → Stops a o r e → Stops (maybe a) o r e
maybe_stops a t o r e h s k = record { by = λ ne ps. ap as_error (ap settled (maybe_take a t h (end_of r) (declared o r) ps r.tokens.now s)) ∙ k.by ne ps }

-- the part, where its result is handed on
pub maybe_reads : {X : Type 0} (a : Part) (t : Terminal) (o q : Open) (r u : Reader) (result : Result X SpecError) → Head a t → sees t r.tokens.now ≡ true → Reads a o r result q u → Reads (maybe a) o r result q u
maybe_reads a t o q r u (Ok x) h e k = maybe_advances a t o q r u h e k
maybe_reads a t o q r u (Err x) h e k = maybe_stops a t o r x h e k

pub maybe_none : (a : Part) (t : Terminal) (o : Open) (r : Reader) → Head a t → sees t r.tokens.now ≡ false → Advances (maybe a) o r o r
maybe_none a t o r h e = record { by = λ ps. ap settled (maybe_skip a t h (end_of r) (declared o r) ps r.tokens.now e) }
