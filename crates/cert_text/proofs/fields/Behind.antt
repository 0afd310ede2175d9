-- What stands behind the head of a line.
use Rattle.std.proofs.Common.{◌≡◌, ℕ, ◌==◌, length, drop, List, [], ◌∷◌, ◌++◌, map, sym, ap, ◌∙◌, arith}
use Rattle.std.specs.Prelude.{codes}
use Rattle.std.specs.List.{join_with_byte}
use Rattle.std.proofs.lemmas.List.{append-nil}
use Rattle.std.proofs.lemmas.List.Splits.{join_with_byte-slice_split, length-slice_split}
use Rattle.ranked_terms.specs.Texts.{Text, number_word}
use Rattle.cert_text.specs.Cuts.{cut, Lacks, IsParted, AppendsNumbers, AppendsBehind, eps_text}
use Rattle.cert_text.proofs.fields.Texts.{FrontAndRest, front_once, cut_joined}
use Rattle.cert_text.proofs.fields.Numbers.{number_lacks, numbers_lack}
use Rattle.cert_text.proofs.fields.Applied.{never}

pub cancel : (h x y : Text) → h ++ x ≡ h ++ y → x ≡ y
cancel [] x y e = e
cancel (c ∷ cs) x y e = cancel cs x y (ap (drop 1) e)

blank_free : (n : ℕ) → Lacks 32 (number_word n)
blank_free n = number_lacks 32 n (λ d. omega (arith, d.least))

-- ---- a head and numbers

abbrev line_of : Text → List ℕ → Text
line_of head ns = join_with_byte 32 (head ∷ map number_word ns)

pub head_first : (head text : Text) (ns : List ℕ) → ((rest : Text) → text ≡ head ++ rest → ⊥) → text ≡ line_of head ns → ⊥
head_first head text [] never e = never [] (e ∙ sym (append-nil head))
head_first head text (n ∷ ns) never e = never _ e

pub blank_next : (head text rest : Text) (ns : List ℕ) → text ≡ head ++ rest → (rest ≡ [] → ⊥) → ((words : Text) → rest ≡ 32 ∷ words → ⊥) → text ≡ line_of head ns → ⊥
blank_next head text rest [] told some never e = some (cancel head rest [] (sym told ∙ e ∙ sym (append-nil head)))
blank_next head text rest (n ∷ ns) told some never e = never _ (cancel head rest _ (sym told ∙ e))

pub numbers_yes : (head text rest words : Text) (old new : List ℕ) → text ≡ head ++ rest → rest ≡ 32 ∷ words → AppendsNumbers (cut 32 words) old new → AppendsBehind head text old new
numbers_yes head text rest words old new told blank r = record { numbers = r.numbers; told = told ∙ ap (λ x. head ++ x) blank ∙ go r.numbers r.told; appended = r.appended }
  where
    go : (ns : List ℕ) → cut 32 words ≡ map number_word ns → head ++ 32 ∷ words ≡ line_of head ns
    go [] e = let some = length-slice_split (λ x. x == 32) words in let none : length (cut 32 words) ≡ 0 = ap length e in absurd (omega (arith, some, none))
    go (n ∷ ns) e = ap (λ x. head ++ 32 ∷ x) (sym (join_with_byte-slice_split 32 words) ∙ ap (join_with_byte 32) e)

pub numbers_no : (head text rest words : Text) (ns : List ℕ) → text ≡ head ++ rest → rest ≡ 32 ∷ words → ((ms : List ℕ) → cut 32 words ≡ map number_word ms → ⊥) → text ≡ line_of head ns → ⊥
numbers_no head text rest words [] told blank never e = let none : [] ≡ 32 ∷ words = cancel head [] (32 ∷ words) (append-nil head ∙ sym e ∙ told ∙ ap (λ x. head ++ x) blank) in absurd cc
numbers_no head text rest words (n ∷ ns) told blank never e =
    let same : words ≡ join_with_byte 32 (map number_word (n ∷ ns)) = ap (drop 1) (cancel head (32 ∷ words) (32 ∷ join_with_byte 32 (map number_word (n ∷ ns))) (ap (λ x. head ++ x) (sym blank) ∙ sym told ∙ e)) in
    never (n ∷ ns) (ap (cut 32) same ∙ cut_joined 32 (number_word n) (map number_word ns) (numbers_lack 32 (n ∷ ns) (λ d. omega (arith, d.least))))

-- ---- a head and a number

pub no_number : (head text rest : Text) (m : ℕ) → text ≡ head ++ rest → ((n : ℕ) → rest ≡ number_word n → ⊥) → text ≡ head ++ number_word m → ⊥
no_number head text rest m told never e = never m (cancel head rest (number_word m) (sym told ∙ e))

-- ---- an epsilon transition

behind_e : (text rest : Text) (p q : ℕ) → text ≡ codes "E " ++ rest → text ≡ eps_text p q → rest ≡ number_word p ++ 32 ∷ (codes "-> " ++ number_word q)
behind_e text rest p q told e = ap (drop 2) (sym told ∙ e)

pub eps_unparted : (text rest : Text) (p q : ℕ) → text ≡ codes "E " ++ rest → Lacks 32 rest → text ≡ eps_text p q → ⊥
eps_unparted text rest p q told lacks e = never 32 rest (number_word p) (codes "-> " ++ number_word q) lacks (blank_free p) (behind_e text rest p q told e)

pub eps_parted : (text rest front back : Text) (p q : ℕ) → text ≡ codes "E " ++ rest → IsParted 32 rest front back → text ≡ eps_text p q → FrontAndRest front (number_word p) back (codes "-> " ++ number_word q)
eps_parted text rest front back p q told parted e =
    front_once 32 front (number_word p) back (codes "-> " ++ number_word q) parted.lacks (blank_free p) (sym parted.told ∙ behind_e text rest p q told e)
