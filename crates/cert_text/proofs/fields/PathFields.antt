-- The fields of a step's line.
use Rattle.std.proofs.Common.{◌≡◌, ℕ, ◌≤◌, ◌<◌, ◌==◌, length, drop, List, [], ◌∷◌, ◌++◌, map, refl, sym, ap, subst, ◌∙◌, arith}
use Rattle.std.specs.Prelude.{codes, All}
use Rattle.std.specs.List.{join_with_byte}
use Rattle.std.proofs.lemmas.List.Elements.{All-nil, All-head, All-tail}
use Rattle.std.proofs.lemmas.List.Splits.{join_with_byte-slice_split, length-slice_split}
use Rattle.ranked_terms.specs.Texts.{Text, number_word}
use Rattle.cert_text.specs.Words.{position_word}
use Rattle.cert_text.specs.Cuts.{cut, Lacks, saturated, IsParted, AppendsNumbers}
use Rattle.cert_text.specs.Lines.{IsPlace}
use Rattle.cert_text.specs.Paths.{ArePlaces, IsPosition, AreFields, fields_text, IsStepText}
use Rattle.cert_text.proofs.fields.Texts.{front_once, cut_joined}
use Rattle.cert_text.proofs.fields.Numbers.{number_once, numbers_once, number_lacks, numbers_lack}
use Rattle.cert_text.proofs.fields.Applied.{never}
use Rattle.cert_text.proofs.format.Formed.{position_free}

-- ---- three fields

free : (r : ℕ) → Lacks 32 (number_word r)
free r = number_lacks 32 r (λ d. omega (arith, d.least))

behind_step : (text rest position t : Text) (r : ℕ) → text ≡ codes "Step " ++ rest → text ≡ fields_text r position t → rest ≡ number_word r ++ 32 ∷ (position ++ 32 ∷ t)
behind_step text rest position t r told e = ap (drop 5) (sym told ∙ e)

pub no_blank : (text rest position t : Text) (r : ℕ) → text ≡ codes "Step " ++ rest → Lacks 32 rest → text ≡ fields_text r position t → ⊥
no_blank text rest position t r told lacks e = never 32 rest (number_word r) (position ++ 32 ∷ t) lacks (free r) (behind_step text rest position t r told e)

module _ (text rest rule more position t : Text) (r : ℕ) (told : text ≡ codes "Step " ++ rest) (parted : IsParted 32 rest rule more) (e : text ≡ fields_text r position t) where
  pub rule_is : rule ≡ number_word r
  rule_is = (front_once 32 rule (number_word r) more (position ++ 32 ∷ t) parted.lacks (free r) (sym parted.told ∙ behind_step text rest position t r told e)).front

  pub more_is : more ≡ position ++ 32 ∷ t
  more_is = (front_once 32 rule (number_word r) more (position ++ 32 ∷ t) parted.lacks (free r) (sym parted.told ∙ behind_step text rest position t r told e)).rest

pub one_blank : (more position t : Text) → Lacks 32 more → Lacks 32 position → more ≡ position ++ 32 ∷ t → ⊥
one_blank more position t lacks free e = never 32 more position t lacks free e

pub fields_are : (text rest rule more position t : Text) (n m : ℕ) → text ≡ codes "Step " ++ rest → IsParted 32 rest rule more → IsParted 32 more position t → rule ≡ number_word m → n ≡ saturated m → AreFields text n position t
fields_are text rest rule more position t n m told parted again number value = record {
  lacks = again.lacks;
  rule = m;
  told = told ∙ ap (λ x. codes "Step " ++ x) (parted.told ∙ ap (λ x. x ++ 32 ∷ more) number ∙ ap (λ x. number_word m ++ 32 ∷ x) again.told);
  value = value;
}

-- ---- positions

place_saturated : (k : ℕ) → IsPlace (saturated k) → k ≡ saturated k
place_saturated k p = let most = p.most in omega (arith, most)

place_small : (k : ℕ) → IsPlace k → saturated k ≡ k
place_small k p = let most = p.most in omega (arith, most)

places_read : (ks : List ℕ) → All IsPlace (map saturated ks) → map saturated ks ≡ ks
places_read [] h = refl
places_read (k ∷ ks) h =
    let one = sym (place_saturated k (All-head IsPlace (saturated k) (map saturated ks) h)) in
    let others = places_read ks (All-tail IsPlace (saturated k) (map saturated ks) h) in
    (λ i. one i ∷ others i)

places_told : (ks : List ℕ) → All IsPlace ks → map saturated ks ≡ ks
places_told [] h = refl
places_told (k ∷ ks) h =
    let one = place_small k (All-head IsPlace k ks h) in
    let others = places_told ks (All-tail IsPlace k ks h) in
    (λ i. one i ∷ others i)

pub root_position : (word : Text) (at : List ℕ) → word ≡ codes "e" → at ≡ [] → IsPosition word at
root_position word at is none = subst (IsPosition word) (sym none) (record { told = is; places = record { few = omega arith; each = All-nil IsPlace } })

digits_of_word : (k : ℕ) (ks : List ℕ) → All (Lacks 46) (map number_word (k ∷ ks))
digits_of_word k ks = numbers_lack 46 (k ∷ ks) (λ d. omega (arith, d.least))

word_cut : (word : Text) (k : ℕ) (ks : List ℕ) → word ≡ position_word (k ∷ ks) → cut 46 word ≡ map number_word (k ∷ ks)
word_cut word k ks e = ap (cut 46) e ∙ cut_joined 46 (number_word k) (map number_word ks) (digits_of_word k ks)

pub no_position : (word : Text) (ks : List ℕ) → (word ≡ codes "e" → ⊥) → ((ns : List ℕ) → cut 46 word ≡ map number_word ns → ⊥) → word ≡ position_word ks → ⊥
no_position word [] other bad e = other e
no_position word (k ∷ ks) other bad e = bad (k ∷ ks) (word_cut word k ks e)

pub position_is : (word : Text) (old new : List ℕ) → old ≡ [] → AppendsNumbers (cut 46 word) old new → ArePlaces new → IsPosition word new
position_is word old new none r places =
    let read : new ≡ map saturated r.numbers = r.appended ∙ ap (λ xs. xs ++ map saturated r.numbers) none in
    let same : new ≡ r.numbers = read ∙ places_read r.numbers (subst (All IsPlace) read places.each) in
    record { told = go r.numbers r.told ∙ ap position_word (sym same); places = places }
  where
    go : (ns : List ℕ) → cut 46 word ≡ map number_word ns → word ≡ position_word ns
    go [] e = let some = length-slice_split (λ x. x == 46) word in let none : length (cut 46 word) ≡ 0 = ap length e in absurd (omega (arith, some, none))
    go (n ∷ ns) e = sym (join_with_byte-slice_split 46 word) ∙ ap (join_with_byte 46) e

pub no_places : (word : Text) (old new ks : List ℕ) → old ≡ [] → (word ≡ codes "e" → ⊥) → AppendsNumbers (cut 46 word) old new → (ArePlaces new → ⊥) → ArePlaces ks → word ≡ position_word ks → ⊥
no_places word old new [] none other r bad places e = other e
no_places word old new (k ∷ ks) none other r bad places e =
    let same : r.numbers ≡ k ∷ ks = numbers_once r.numbers (k ∷ ks) (sym r.told ∙ word_cut word k ks e) in
    let read : new ≡ k ∷ ks = r.appended ∙ ap (λ xs. xs ++ map saturated r.numbers) none ∙ ap (map saturated) same ∙ places_told (k ∷ ks) places.each in
    bad (subst ArePlaces (sym read) places)

-- ---- a step's line

module _ (text position term : Text) (n r : ℕ) (ks t : List ℕ) (it : AreFields text n position term) (e : text ≡ fields_text r (position_word ks) t) where
  told_rule : number_word it.rule ≡ number_word r
  told_rule = (front_once 32 (number_word it.rule) (number_word r) (position ++ 32 ∷ term) (position_word ks ++ 32 ∷ t) (free it.rule) (free r) (ap (drop 5) (sym it.told ∙ e))).front

  pub rule_value : n ≡ saturated r
  rule_value = it.value ∙ ap saturated (number_once it.rule r told_rule)

  told_rest : position ++ 32 ∷ term ≡ position_word ks ++ 32 ∷ t
  told_rest = (front_once 32 (number_word it.rule) (number_word r) (position ++ 32 ∷ term) (position_word ks ++ 32 ∷ t) (free it.rule) (free r) (ap (drop 5) (sym it.told ∙ e))).rest

  pub position_value : position ≡ position_word ks
  position_value = (front_once 32 position (position_word ks) term t it.lacks (position_free ks) told_rest).front

pub large_rule : (text position term : Text) (n r : ℕ) (ks t : List ℕ) → AreFields text n position term → 4095 < n → r ≤ 4095 → text ≡ fields_text r (position_word ks) t → ⊥
large_rule text position term n r ks t it large small e = let value = rule_value text position term n r ks t it e in omega (arith, value, large, small)

pub step_is : (text position term : Text) (n : ℕ) (at : List ℕ) → AreFields text n position term → n ≤ 4095 → IsPosition position at → IsStepText text n at term
step_is text position term n at it small is =
    let value = it.value in
    let same : it.rule ≡ n = omega (arith, value, small) in
    record { rule = small; places = is.places; told = it.told ∙ ap (λ x. fields_text x position term) same ∙ ap (λ w. fields_text n w term) is.told }

-- a step's line has one term
pub term_is : (text word : Text) (r : ℕ) (ks : List ℕ) → IsStepText text r ks word → (n : ℕ) (js : List ℕ) (t : Text) → text ≡ fields_text n (position_word js) t → t ≡ word
term_is text word r ks it n js t e =
    let behind = (front_once 32 (number_word n) (number_word r) (position_word js ++ 32 ∷ t) (position_word ks ++ 32 ∷ word) (free n) (free r) (ap (drop 5) (sym e ∙ it.told))).rest in
    (front_once 32 (position_word js) (position_word ks) t word (position_free js) (position_free ks) behind).rest
