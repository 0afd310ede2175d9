-- Ranges, and lists of states that are moved.
use Rattle.std.proofs.Common.{◌≡◌, ℕ, zero, suc, ◌+◌, ◌-◌, ◌<◌, ◌≤◌, List, [], ◌∷◌, ◌++◌, map, All, Contains, refl, sym, ap, ◌∙◌, arith}
use Rattle.std.specs.List.{range_with_len}
use Rattle.std.proofs.lemmas.List.{append-nil, append_assoc}
use Rattle.std.proofs.lemmas.List.Elements.{All-head, All-tail}
use Rattle.std.proofs.lemmas.List.FromFn.{length-range_with_len, get_or-range_with_len}
use Rattle.ta_core.specs.TreeAutomaton.{TreeAutomaton}
use Rattle.ta_core.specs.KeptAside.{with_states}
use Rattle.ta_core.specs.Growth.{with_state}
use Rattle.ta_core.specs.Acceptance.{image}
use Rattle.eq_merge.specs.Quotients.{apart}

-- ---- ranges

pub range_had : (a n q : ℕ) → Contains (range_with_len a n) q → (a ≤ q) × (q < a + n)
range_had a n q c =
    let inside : c.0 < n = let l = length-range_with_len a n in let i = c.1 in omega (arith, l, i) in
    let at = get_or-range_with_len a n c.0 q inside in
    let is = c.2 in
    (omega (arith, inside, at, is), omega (arith, inside, at, is))

pub range_has : (a n q : ℕ) → a ≤ q → q < a + n → Contains (range_with_len a n) q
range_has a n q low high =
    let inside : q - a < n = omega (arith, low, high) in
    (q - a, (let l = length-range_with_len a n in omega (arith, l, inside)), get_or-range_with_len a n (q - a) q inside ∙ omega (arith, low))

range_last : (a n : ℕ) → range_with_len a (suc n) ≡ range_with_len a n ++ (a + n) ∷ []
range_last a zero = ap (λ x. x ∷ []) (omega arith)
range_last a (suc n) = ap (λ xs. a ∷ xs) (range_last (a + 1) n ∙ ap (λ x. range_with_len (a + 1) n ++ x ∷ []) (omega arith))

-- a range, and the numbers behind it
pub ranges_join : (a b n m : ℕ) → b ≡ a + n → range_with_len a n ++ range_with_len b m ≡ range_with_len a (n + m)
ranges_join a b zero m e =
    let start : b ≡ a = omega (arith, e) in
    let long : m ≡ 0 + m = omega arith in
    λ i. range_with_len (start i) (long i)
ranges_join a b (suc n) m e =
    let rest = ranges_join (a + 1) b n m (omega (arith, e)) in
    let long : suc (n + m) ≡ suc n + m = omega arith in
    ap (λ xs. a ∷ xs) rest ∙ ap (range_with_len a) long

-- ---- fresh states

pub no_states : (A : TreeAutomaton) → with_states A 0 ≡ A
no_states A =
    let states = append-nil A.states in
    let next : A.next + 0 ≡ A.next = omega arith in
    λ i. record A { states = states i; next = next i }

pub one_state_more : (A : TreeAutomaton) (n m : ℕ) → m ≡ n + 1 → with_states A m ≡ with_state (with_states A n)
one_state_more A n m e =
    let more : m ≡ suc n = omega (arith, e) in
    let last : range_with_len A.next m ≡ range_with_len A.next n ++ (A.next + n) ∷ [] = ap (range_with_len A.next) more ∙ range_last A.next n in
    let states : A.states ++ range_with_len A.next m ≡ (A.states ++ range_with_len A.next n) ++ (A.next + n) ∷ [] =
    ap (λ ys. A.states ++ ys) last ∙ sym (append_assoc A.states (range_with_len A.next n) ((A.next + n) ∷ [])) in
    let next : A.next + m ≡ A.next + n + 1 = omega (arith, e) in
    λ i. record (with_states A n) { states = states i; next = next i }

-- ---- moved lists

pub apart_at : (next q : ℕ) → q < next → image (apart next) q ≡ q
apart_at next q below = get_or-range_with_len 0 next q 0 below ∙ omega arith

-- maps that agree on states
pub images_same : (f g : ℕ → ℕ) (P : ℕ → Type 0) → ((p : ℕ) → P p → f p ≡ g p) → (ps : List ℕ) → All P ps → map f ps ≡ map g ps
images_same f g P h [] all = refl
images_same f g P h (p ∷ ps) all = λ i. h p (All-head P p ps all) i ∷ images_same f g P h ps (All-tail P p ps all) i

pub map_map : (f g : ℕ → ℕ) (ps : List ℕ) → map f (map g ps) ≡ map (λ p. f (g p)) ps
map_map f g [] = refl
map_map f g (p ∷ ps) = ap (λ l. f (g p) ∷ l) (map_map f g ps)

pub map_itself : (ps : List ℕ) → map (λ p. p) ps ≡ ps
map_itself [] = refl
map_itself (p ∷ ps) = ap (λ l. p ∷ l) (map_itself ps)

-- what is there is moved nowhere
pub moved_nowhere : (next : ℕ) (ps : List ℕ) → All (λ p. p < next) ps → map (image (apart next)) ps ≡ ps
moved_nowhere next ps all = images_same (image (apart next)) (λ p. p) (λ p. p < next) (λ p below. apart_at next p below) ps all ∙ map_itself ps
