-- Words with bytes between, and lines one after the other, as the code writes them.
use Rattle.std.proofs.Common.{◌≡◌, ℕ, ◌-◌, ◌≤◌, Bool, length, get_or, take, drop, List, [], ◌∷◌, ◌++◌, map, refl, sym, ap, ap₂, ◌∙◌, arith}
use Rattle.std.specs.Prelude.{codes}
use Rattle.std.specs.List.{join_with_byte, flat_map}
use Rattle.std.proofs.lemmas.List.{append-nil, append_assoc, take_all, map-append}
use Rattle.std.proofs.lemmas.List.Concat.{flat_map-append}
use Rattle.ranked_terms.specs.Names.{Symbol}
use Rattle.ta_core.specs.TreeAutomaton.{TreeAutomaton}
use Rattle.ta_core.specs.declared.trans.Trans.{Trans}
use Rattle.ranked_terms.specs.Texts.{Text, number_word}
use Rattle.cert_text.specs.Words.{line_text, text_of}
use Rattle.cert_text.specs.Numerals.{behind_each}
use Rattle.cert_text.specs.Lines.{Line, words_of, eps as eps_line}
use Rattle.cert_text.specs.Certificates.{trans_line, note_lines, automaton_lines, claim_lines}

-- what is appended to what was appended
pub further : (o p q a b : Text) → p ≡ o ++ a → q ≡ p ++ b → q ≡ o ++ (a ++ b)
further o p q a b e f = f ∙ ap (λ x. x ++ b) e ∙ append_assoc o a b

pub joined_is : (b : ℕ) (w : Text) (ns : List ℕ) → join_with_byte b (w ∷ map number_word ns) ≡ w ++ behind_each b ns
joined_is b w [] = sym (append-nil w)
joined_is b w (n ∷ ns) = ap (λ x. w ++ (b ∷ x)) (joined_is b (number_word n) ns)

pub joined_from : (b : ℕ) (ns : List ℕ) → 1 ≤ length ns → join_with_byte b (map number_word ns) ≡ number_word (get_or ns 0 0) ++ behind_each b (take (length ns - 1) (drop 1 ns))
joined_from b [] some = absurd (omega (arith, some))
joined_from b (n ∷ ns) some = joined_is b (number_word n) ns ∙ ap (λ x. number_word n ++ behind_each b x) (sym (take_all _ _ (omega arith)))

pub lines_are : {X : Type 0} (f : X → Line) (xs : List X) → flat_map line_text (map words_of (map f xs)) ≡ flat_map (λ x. line_text (words_of (f x))) xs
lines_are f [] = refl
lines_are f (x ∷ xs) = ap (λ t. line_text (words_of (f x)) ++ t) (lines_are f xs)

pub lines_append : (ls ms : List Line) → text_of (map words_of (ls ++ ms)) ≡ text_of (map words_of ls) ++ text_of (map words_of ms)
lines_append ls ms = ap text_of (map-append words_of ls ms) ∙ flat_map-append line_text (map words_of ls) (map words_of ms)

abbrev number_line : Text → List ℕ → Text
number_line head ns = line_text (head ∷ map number_word ns)

abbrev automaton_text : List Symbol → TreeAutomaton → List ℕ → Text
automaton_text s A h = number_line (codes "Next") (A.next ∷ []) ++ (number_line (codes "States") A.states ++ (number_line (codes "Finals") A.finals ++ (number_line (codes "Map") h
    ++ (flat_map (λ t. line_text (words_of (trans_line s t))) A.trans ++ flat_map (λ e. line_text (words_of (eps_line e.0 e.1))) A.eps))))

automaton_told : (s : List Symbol) (A : TreeAutomaton) (h : List ℕ) → text_of (map words_of (automaton_lines s A h)) ≡ automaton_text s A h
automaton_told s A h = ap (λ x. number_line (codes "Next") (A.next ∷ []) ++ (number_line (codes "States") A.states ++ (number_line (codes "Finals") A.finals ++ (number_line (codes "Map") h ++ x))))
    (lines_append (map (trans_line s) A.trans) (map (λ e. eps_line e.0 e.1) A.eps) ∙ ap₂ (λ x y. x ++ y) (lines_are (trans_line s) A.trans) (lines_are (λ e. eps_line e.0 e.1) A.eps))

-- the lists as the code has them
abbrev pub claim_text : List Symbol → ℕ → Bool → ℕ → List ℕ → List ℕ → List ℕ → List Trans → List (ℕ × ℕ) → Text
claim_text s i p next states finals h trans eps = codes "Verdict unreachable" ++ (10 ∷ (number_line (codes "Note rounds") (i ∷ []) ++ (text_of (map words_of (note_lines p)) ++
    (number_line (codes "Next") (next ∷ []) ++ (number_line (codes "States") states ++ (number_line (codes "Finals") finals ++ (number_line (codes "Map") h
    ++ (flat_map (λ t. line_text (words_of (trans_line s t))) trans ++ flat_map (λ e. line_text (words_of (eps_line e.0 e.1))) eps))))))))

pub claim_told : (s : List Symbol) (i : ℕ) (p : Bool) (A : TreeAutomaton) (h : List ℕ) (next : ℕ) (states finals images : List ℕ) (trans : List Trans) (eps : List (ℕ × ℕ))
    → next ≡ A.next → states ≡ A.states → finals ≡ A.finals → images ≡ h → trans ≡ A.trans → eps ≡ A.eps → claim_text s i p next states finals images trans eps ≡ text_of (map words_of (claim_lines s i p A h))
claim_told s i p A h next states finals images trans eps e1 e2 e3 e4 e5 e6 =
    ap (λ x. claim_text s i p x states finals images trans eps) e1 ∙ ap (λ x. claim_text s i p A.next x finals images trans eps) e2 ∙ ap (λ x. claim_text s i p A.next A.states x images trans eps) e3
    ∙ ap (λ x. claim_text s i p A.next A.states A.finals x trans eps) e4 ∙ ap (λ x. claim_text s i p A.next A.states A.finals h x eps) e5 ∙ ap (λ x. claim_text s i p A.next A.states A.finals h A.trans x) e6
    ∙ sym (ap (λ x. codes "Verdict unreachable" ++ (10 ∷ (number_line (codes "Note rounds") (i ∷ []) ++ x)))
    (lines_append (note_lines p) (automaton_lines s A h) ∙ ap (λ x. text_of (map words_of (note_lines p)) ++ x) (automaton_told s A h)))

pub claim_written : (s : List Symbol) (i : ℕ) (p : Bool) (A : TreeAutomaton) (h : List ℕ) (next : ℕ) (states finals images : List ℕ) (trans : List Trans) (eps : List (ℕ × ℕ)) (o p1 p2 p3 p4 p5 p6 p7 p8 p9 : Text)
    → next ≡ A.next → states ≡ A.states → finals ≡ A.finals → images ≡ h → trans ≡ A.trans → eps ≡ A.eps
    → p1 ≡ o ++ (codes "Verdict unreachable" ++ 10 ∷ []) → p2 ≡ p1 ++ (number_line (codes "Note rounds") (i ∷ [])) → p3 ≡ p2 ++ (text_of (map words_of (note_lines p))) → p4 ≡ p3 ++ (number_line (codes "Next") (next ∷ [])) → p5 ≡ p4 ++ (number_line (codes "States") states) → p6 ≡ p5 ++ (number_line (codes "Finals") finals) → p7 ≡ p6 ++ (number_line (codes "Map") images) → p8 ≡ p7 ++ (flat_map (λ t. line_text (words_of (trans_line s t))) trans) → p9 ≡ p8 ++ (flat_map (λ e. line_text (words_of (eps_line e.0 e.1))) eps)
    → p9 ≡ o ++ text_of (map words_of (claim_lines s i p A h))
claim_written s i p A h next states finals images trans eps o p1 p2 p3 p4 p5 p6 p7 p8 p9 e1 e2 e3 e4 e5 e6 f1 f2 f3 f4 f5 f6 f7 f8 f9 =
    further o p1 p9 (codes "Verdict unreachable" ++ 10 ∷ []) ((number_line (codes "Note rounds") (i ∷ [])) ++ ((text_of (map words_of (note_lines p))) ++ ((number_line (codes "Next") (next ∷ [])) ++ ((number_line (codes "States") states) ++ ((number_line (codes "Finals") finals) ++ ((number_line (codes "Map") images) ++ ((flat_map (λ t. line_text (words_of (trans_line s t))) trans) ++ (flat_map (λ e. line_text (words_of (eps_line e.0 e.1))) eps)))))))) f1 (further p1 p2 p9 (number_line (codes "Note rounds") (i ∷ [])) ((text_of (map words_of (note_lines p))) ++ ((number_line (codes "Next") (next ∷ [])) ++ ((number_line (codes "States") states) ++ ((number_line (codes "Finals") finals) ++ ((number_line (codes "Map") images) ++ ((flat_map (λ t. line_text (words_of (trans_line s t))) trans) ++ (flat_map (λ e. line_text (words_of (eps_line e.0 e.1))) eps))))))) f2 (further p2 p3 p9 (text_of (map words_of (note_lines p))) ((number_line (codes "Next") (next ∷ [])) ++ ((number_line (codes "States") states) ++ ((number_line (codes "Finals") finals) ++ ((number_line (codes "Map") images) ++ ((flat_map (λ t. line_text (words_of (trans_line s t))) trans) ++ (flat_map (λ e. line_text (words_of (eps_line e.0 e.1))) eps)))))) f3 (further p3 p4 p9 (number_line (codes "Next") (next ∷ [])) ((number_line (codes "States") states) ++ ((number_line (codes "Finals") finals) ++ ((number_line (codes "Map") images) ++ ((flat_map (λ t. line_text (words_of (trans_line s t))) trans) ++ (flat_map (λ e. line_text (words_of (eps_line e.0 e.1))) eps))))) f4 (further p4 p5 p9 (number_line (codes "States") states) ((number_line (codes "Finals") finals) ++ ((number_line (codes "Map") images) ++ ((flat_map (λ t. line_text (words_of (trans_line s t))) trans) ++ (flat_map (λ e. line_text (words_of (eps_line e.0 e.1))) eps)))) f5 (further p5 p6 p9 (number_line (codes "Finals") finals) ((number_line (codes "Map") images) ++ ((flat_map (λ t. line_text (words_of (trans_line s t))) trans) ++ (flat_map (λ e. line_text (words_of (eps_line e.0 e.1))) eps))) f6 (further p6 p7 p9 (number_line (codes "Map") images) ((flat_map (λ t. line_text (words_of (trans_line s t))) trans) ++ (flat_map (λ e. line_text (words_of (eps_line e.0 e.1))) eps)) f7 (further p7 p8 p9 (flat_map (λ t. line_text (words_of (trans_line s t))) trans) (flat_map (λ e. line_text (words_of (eps_line e.0 e.1))) eps) f8 f9)))))))
    ∙ ap (λ x. o ++ x) (claim_told s i p A h next states finals images trans eps e1 e2 e3 e4 e5 e6)
