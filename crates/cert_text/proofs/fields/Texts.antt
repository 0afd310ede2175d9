-- Words joined by a byte that none of them has are got back, and so is the first of two lines.
use Rattle.std.proofs.Common.{◌≡◌, ℕ, ◌==◌, false, [], ◌∷◌, ◌++◌, refl, sym, ap, ◌∙◌}
use Rattle.std.specs.Prelude.{All}
use Rattle.std.specs.List.{slice_split, join_with_byte}
use Rattle.std.proofs.lemmas.Bool.{eq-eqb}
use Rattle.std.proofs.lemmas.List.{append_assoc}
use Rattle.std.proofs.lemmas.List.Elements.{All-head, All-tail, All-append, All-cons, All-nil, All-same}
use Rattle.std.proofs.lemmas.List.Splits.{slice_split_none, slice_split_at, join_with_byte-slice_split}
use Rattle.ranked_terms.specs.Texts.{Text}
use Rattle.cert_text.specs.Words.{Words, line_text}
use Rattle.cert_text.specs.Cuts.{IsParted}
pub use Rattle.cert_text.specs.Cuts.{Lacks}

abbrev pub cut : ℕ → Text → Words
cut b text = slice_split (λ x. x == b) text

pub cut_joined : (b : ℕ) (w : Text) (ws : Words) → All (Lacks b) (w ∷ ws) → cut b (join_with_byte b (w ∷ ws)) ≡ w ∷ ws
cut_joined b w [] h = slice_split_none (λ x. x == b) w (All-head (Lacks b) w [] h)
cut_joined b w (v ∷ ws) h =
    slice_split_at (λ x. x == b) w b (join_with_byte b (v ∷ ws)) (All-head (Lacks b) w (v ∷ ws) h) (eq-eqb b b refl)
    ∙ ap (λ rest. w ∷ rest) (cut_joined b v ws (All-tail (Lacks b) w (v ∷ ws) h))

pub cut_parted : (b : ℕ) (text front rest : Text) → IsParted b text front rest → cut b text ≡ front ∷ cut b rest
cut_parted b text front rest parted = ap (cut b) parted.told ∙ slice_split_at (λ x. x == b) front b rest parted.lacks (eq-eqb b b refl)

pub cut_lacking : (b : ℕ) (text : Text) → Lacks b text → cut b text ≡ text ∷ []
cut_lacking b text lacks = slice_split_none (λ x. x == b) text lacks

-- two lists of words that are joined to one text are the same
pub joined_once : (b : ℕ) (v w : Text) (vs ws : Words) → All (Lacks b) (v ∷ vs) → All (Lacks b) (w ∷ ws) → join_with_byte b (v ∷ vs) ≡ join_with_byte b (w ∷ ws) → v ∷ vs ≡ w ∷ ws
joined_once b v w vs ws h k e = sym (cut_joined b v vs h) ∙ ap (cut b) e ∙ cut_joined b w ws k

-- the words lack a byte that the joined text is not joined by
pub joined_lacks : (b c : ℕ) (ws : Words) → (c == b) ≡ false → All (Lacks b) ws → Lacks b (join_with_byte c ws)
joined_lacks b c [] other h = All-nil (λ x. (x == b) ≡ false)
joined_lacks b c (w ∷ []) other h = All-head (Lacks b) w [] h
joined_lacks b c (w ∷ v ∷ ws) other h =
    All-append (λ x. (x == b) ≡ false) w (c ∷ join_with_byte c (v ∷ ws)) (All-head (Lacks b) w (v ∷ ws) h)
    (All-cons (λ x. (x == b) ≡ false) c (join_with_byte c (v ∷ ws)) other (joined_lacks b c (v ∷ ws) other (All-tail (Lacks b) w (v ∷ ws) h)))

-- a text up to the first b, and the text behind it
pub record FrontAndRest (a c x y : Text) : Type 0 where
  pub front : a ≡ c
  pub rest : x ≡ y

abbrev first_of : Words → Text
first_of [] = []
first_of (w ∷ ws) = w

abbrev others_of : Words → Words
others_of [] = []
others_of (w ∷ ws) = ws

pub front_once : (b : ℕ) (a c x y : Text) → Lacks b a → Lacks b c → a ++ b ∷ x ≡ c ++ b ∷ y → FrontAndRest a c x y
front_once b a c x y h k e =
    let same : a ∷ cut b x ≡ c ∷ cut b y = sym (slice_split_at (λ z. z == b) a b x h (eq-eqb b b refl)) ∙ ap (cut b) e ∙ slice_split_at (λ z. z == b) c b y k (eq-eqb b b refl) in
    record {
      front = ap first_of same;
      rest = sym (join_with_byte-slice_split b x) ∙ ap (λ ws. join_with_byte b (others_of ws)) same ∙ join_with_byte-slice_split b y;
    }

-- the words of a line: one at least, without a blank or a newline
pub record IsLine (words : Words) : Type 0 where
  pub word : Text
  pub others : Words
  pub some : words ≡ word ∷ others
  pub blanks : All (Lacks 32) words
  pub newlines : All (Lacks 10) words

abbrev joined : Words → Text
joined words = join_with_byte 32 words

newline_free : (words : Words) → IsLine words → Lacks 10 (joined words)
newline_free words line = joined_lacks 10 32 words refl line.newlines

-- one text begins with one line at most
pub record SameLine (v w : Words) (x y : Text) : Type 0 where
  pub words : v ≡ w
  pub rest : x ≡ y

words_once : (v w : Words) → IsLine v → IsLine w → joined v ≡ joined w → v ≡ w
words_once v w a b e =
    a.some ∙ joined_once 32 a.word b.word a.others b.others (All-same (Lacks 32) (a.word ∷ a.others) v (sym a.some) a.blanks) (All-same (Lacks 32) (b.word ∷ b.others) w (sym b.some) b.blanks)
    (ap joined (sym a.some) ∙ e ∙ ap joined b.some) ∙ sym b.some

pub line_once : (v w : Words) (x y : Text) → IsLine v → IsLine w → line_text v ++ x ≡ line_text w ++ y → SameLine v w x y
line_once v w x y a b e =
    let one : joined v ++ 10 ∷ x ≡ joined w ++ 10 ∷ y = sym (append_assoc (joined v) (10 ∷ []) x) ∙ e ∙ append_assoc (joined w) (10 ∷ []) y in
    let both = front_once 10 (joined v) (joined w) x y (newline_free v a) (newline_free w b) one in
    record { words = words_once v w a b both.front; rest = both.rest }
