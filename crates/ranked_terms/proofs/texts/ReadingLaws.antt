-- How a term is read from a text: its symbol, its arguments one by one, and what stands behind them.
use Rattle.std.proofs.Common.{◌≡◌, ◌≢◌, ◌↔◌, ℕ, ◌+◌, ◌-◌, ◌<◌, ◌≤◌, true, true≢false, ◌&&◌, List, [], ◌∷◌, ◌++◌, map, length, sum, Option, Some, None, refl, sym, ap, subst, ◌∙◌, arith, append_assoc, append-nil, length-append}
use Rattle.std.specs.List.{list_all}
use Rattle.std.specs.Cmp.{first_so, second_so}
use Rattle.std.proofs.lemmas.Bool.{eqb-true, eq-eqb}
use Rattle.std.proofs.lemmas.List.Sums.{sum_by-cons}
use Rattle.ranked_terms.specs.Names.{Symbol, arity_of}
use Rattle.ranked_terms.specs.Terms.{is_arity, is_over, is_symbol, node, size_of}
use Rattle.ranked_terms.specs.Texts.{Text, BeginsNoSymbol, BeginsNoTerm, BeginsWith, IsHead, IsTextOf, Stops, symbol_text, term_text, to_come}
use Rattle.ranked_terms.specs.SignatureRules.{IsSignature}
use Rattle.ranked_terms.specs.declared.term.Term.{Term}
use Rattle.ranked_terms.specs.declared.term.Term.TheViews.{out-Term}
use Rattle.ranked_terms.specs.lemmas.TermLaws.{is_over_node, node_out, size_node}
use Rattle.ranked_terms.proofs.places.PositionLaws.{args_of}
use Rattle.ranked_terms.proofs.texts.TextLaws.{texts, text_node, text_of_term}
use Rattle.ranked_terms.proofs.texts.ReadLaws.{named_by, words_once, name_stops, name_word, argument_stops, symbol_once, term_once}

abbrev pub sizes : List Term → ℕ
sizes ts = sum (map size_of ts)

sizes-cons : (t : Term) (ts : List Term) → sizes (t ∷ ts) ≡ size_of t + sizes ts
sizes-cons t ts = sum_by-cons (λ x. x) (size_of t) (map size_of ts)

sizes-append : (ts us : List Term) → sizes (ts ++ us) ≡ sizes ts + sizes us
sizes-append [] us = let z : sizes us ≡ 0 + sizes us = omega arith in z
sizes-append (t ∷ ts) us = omega (arith, sizes-cons t (ts ++ us), sizes-cons t ts, sizes-append ts us)

map-append : (s : List Symbol) (ts us : List Term) → texts s (ts ++ us) ≡ texts s ts ++ texts s us
map-append s [] us = refl
map-append s (t ∷ ts) us = ap (λ r. term_text s t ∷ r) (map-append s ts us)

all-append : (s : List Symbol) (ts us : List Term) → list_all (is_over s) ts ≡ true → list_all (is_over s) us ≡ true → list_all (is_over s) (ts ++ us) ≡ true
all-append s [] us a b = b
all-append s (t ∷ ts) us a b =
    (λ i. first_so (is_over s t) (list_all (is_over s) ts) a i && all-append s ts us (second_so (is_over s t) (list_all (is_over s) ts) a) b i)

all-rest : (s : List Symbol) (ts us : List Term) → list_all (is_over s) (ts ++ us) ≡ true → list_all (is_over s) us ≡ true
all-rest s [] us a = a
all-rest s (t ∷ ts) us a = all-rest s ts us (second_so (is_over s t) (list_all (is_over s) (ts ++ us)) a)

symbol_by : (s : List Symbol) (f n : ℕ) (o : Option ℕ) → arity_of s f ≡ o → is_symbol s f n ≡ true → o ≡ Some n
symbol_by s f n None e h = absurd (true≢false (sym h ∙ ap (is_arity n) e))
symbol_by s f n (Some a) e h = let same : n ≡ a = eqb-true n a (sym (ap (is_arity n) e) ∙ h) in ap Some (sym same)

arity_from : (s : List Symbol) (f n : ℕ) → is_symbol s f n ≡ true → arity_of s f ≡ Some n
arity_from s f n h = symbol_by s f n (arity_of s f) refl h

pub has_symbol : (s : List Symbol) (f n : ℕ) → arity_of s f ≡ Some n → is_symbol s f n ≡ true
has_symbol s f n e = ap (is_arity n) e ∙ eq-eqb n n refl

count_is : (s : List Symbol) (f n count : ℕ) → arity_of s f ≡ Some n → is_symbol s f count ≡ true → count ≡ n
count_is s f n count e h = eqb-true count n (sym (ap (is_arity count) e) ∙ h)

module _ (s : List Symbol) (arity room : ℕ) (behind : Text) where
  -- so many arguments are read
  pub record AreRead (args : List Term) (mark : ℕ) (rest : Text) (left : ℕ) : Type 0 where
    pub over : list_all (is_over s) args ≡ true
    pub size : sizes args + 1 + left ≡ room
    pub have : (more : List Term) (y : Text) → rest ≡ to_come mark (texts s more) ++ y → behind ≡ to_come 40 (texts s (args ++ more)) ++ y
    pub only : (us : List Term) (y : Text) → length us ≡ arity → list_all (is_over s) us ≡ true → Stops y → behind ≡ to_come 40 (texts s us) ++ y → (more : List Term) × (us ≡ args ++ more) × (rest ≡ to_come mark (texts s more) ++ y)

module _ (s : List Symbol) (valid : IsSignature s) (text : Text) (f arity room : ℕ) (behind : Text) (head : IsHead s text f arity behind) where
  -- the arguments of a term with which the text begins
  pub record Inside (u : Term) (y : Text) (more : ℕ) : Type 0 where
    pub symbol : (out-Term u).sym ≡ f
    pub count : length (args_of u) ≡ arity
    pub over : list_all (is_over s) (args_of u) ≡ true
    pub text_is : behind ≡ to_come 40 (texts s (args_of u)) ++ y
    pub size : sizes (args_of u) + 1 + more ≡ room

  pub inside : (u : Term) (y : Text) (more : ℕ) → BeginsWith s text room u y more → Inside u y more
  inside u y more h =
      let g = (out-Term u).sym in
      let us = args_of u in
      let both = sym (is_over_node s g us) ∙ ap (is_over s) (node_out u) ∙ h.over in
      let there = first_so (is_symbol s g (length us)) (list_all (is_over s) us) both in
      let m = named_by s valid.symbols f arity (has_symbol s f arity head.arity_is) in
      let n = named_by s valid.symbols g (length us) there in
      let cut = words_once (symbol_text s f) (symbol_text s g) behind (to_come 40 (texts s us) ++ y) (name_word s f m) (name_word s g n) head.ends (name_stops s us y h.stops)
      (sym head.text_is ∙ h.text_is ∙ ap (λ r. r ++ y) (text_of_term s u) ∙ append_assoc (symbol_text s g) (to_come 40 (texts s us)) y) in
      let same = symbol_once s valid f g m n cut.0 in
      let size = ap size_of (sym (node_out u)) ∙ size_node g us in
      record {
        symbol = sym same;
        count = count_is s f arity (length us) head.arity_is (ap (λ k. is_symbol s k (length us)) same ∙ there);
        over = second_so (is_symbol s g (length us)) (list_all (is_over s) us) both;
        text_is = cut.1;
        size = let e = h.size in omega (arith, size, e);
      }

  abbrev Reads : List Term → ℕ → Text → ℕ → Type 0
  Reads = AreRead s arity room behind

  pub none_read : 0 < room → Reads [] 40 behind (room - 1)
  none_read l = record { over = refl; size = omega (arith, l); have = λ more y e. e; only = λ us y n o st e. (us, refl, e) }

  module _ (args : List Term) (mark : ℕ) (rest : Text) (left : ℕ) (read : Reads args mark rest left) where
    record Next (u : Term) (y : Text) : Type 0 where
      v : Term
      others : List Term
      is : args_of u ≡ args ++ v ∷ others
      rest_is : rest ≡ mark ∷ (term_text s v ++ (to_come 44 (texts s others) ++ y))

    next_by : (u : Term) (y : Text) → length args < length (args_of u) → (more : List Term) → args_of u ≡ args ++ more → rest ≡ to_come mark (texts s more) ++ y → Next u y
    next_by u y l [] is e = absurd (omega (arith, l, ap length is, length-append args []))
    next_by u y l (v ∷ others) is e = record { v = v; others = others; is = is; rest_is = e ∙ ap (λ r. mark ∷ r) (append_assoc (term_text s v) (to_come 44 (texts s others)) y) }

    -- the next argument of a term with which the text begins
    next : length args < arity → (u : Term) (y : Text) (more : ℕ) → BeginsWith s text room u y more → Next u y
    next l u y more h =
        let i = inside u y more h in
        let r = read.only (args_of u) y i.count i.over h.stops i.text_is in
        let c = i.count in
        next_by u y (omega (arith, l, c)) r.0 r.1 r.2

    pub no_mark : length args < arity → ((z : Text) → rest ≢ mark ∷ z) → BeginsNoTerm s text room
    no_mark l n u y more h = let r = next l u y more h in n (term_text s r.v ++ (to_come 44 (texts s r.others) ++ y)) r.rest_is

    module _ (inner : Text) (marked : rest ≡ mark ∷ inner) where
      argument_over : (u : Term) (r : (v : Term) × (others : List Term) × (args_of u ≡ args ++ v ∷ others)) → list_all (is_over s) (args_of u) ≡ true → is_over s r.0 ≡ true
      argument_over u r o = first_so (is_over s r.0) (list_all (is_over s) r.1) (all-rest s args (r.0 ∷ r.1) (sym (ap (list_all (is_over s)) r.2) ∙ o))

      begins_inner : (u : Term) (y : Text) (more : ℕ) (h : BeginsWith s text room u y more) (r : Next u y) → BeginsWith s inner left r.v (to_come 44 (texts s r.others) ++ y) (left - size_of r.v)
      begins_inner u y more h r =
          let i = inside u y more h in
          let same : inner ≡ term_text s r.v ++ (to_come 44 (texts s r.others) ++ y) = (let e = sym marked ∙ r.rest_is in cc) in
          let a = i.size in
          let b = read.size in
          let whole = ap sizes r.is ∙ sizes-append args (r.v ∷ r.others) in
          let first = sizes-cons r.v r.others in
          record {
            over = argument_over u (r.v, r.others, r.is) i.over;
            text_is = same;
            stops = argument_stops s r.others y;
            size = omega (arith, a, b, whole, first);
          }

      pub no_argument : length args < arity → BeginsNoTerm s inner left → BeginsNoTerm s text room
      no_argument l n u y more h = let r = next l u y more h in n r.v (to_come 44 (texts s r.others) ++ y) (left - size_of r.v) (begins_inner u y more h r)

      pub one_more : length args < arity → (t : Term) (z : Text) (less : ℕ) (new : List Term) → BeginsWith s inner left t z less → new ≡ args ++ t ∷ [] → Reads new 44 z less
      one_more l t z less new b e = subst (λ ts. Reads ts 44 z less) (sym e) (record {
        over = all-append s args (t ∷ []) read.over (ap (λ o. o && true) b.over);
        size = let a = read.size in let c = b.size in omega (arith, a, c, sizes-append args (t ∷ []), sizes-cons t []);
        have = λ more y e. read.have (t ∷ more) y (whole more y e) ∙ ap (λ ts. to_come 40 (texts s ts) ++ y) (sym (append_assoc args (t ∷ []) more));
        only = λ us y n o st e. let r = read.only us y n o st e in go us y n o r.0 r.1 r.2;
      })
        where
          whole : (more : List Term) (y : Text) → z ≡ to_come 44 (texts s more) ++ y → rest ≡ to_come mark (texts s (t ∷ more)) ++ y
          whole more y e = marked ∙ ap (λ r. mark ∷ r) (b.text_is ∙ (ap (λ r. term_text s t ++ r) e ∙ sym (append_assoc (term_text s t) (to_come 44 (texts s more)) y)))

          go : (us : List Term) (y : Text) → length us ≡ arity → list_all (is_over s) us ≡ true → (more : List Term) → us ≡ args ++ more → rest ≡ to_come mark (texts s more) ++ y
              → (more : List Term) × (us ≡ (args ++ t ∷ []) ++ more) × (z ≡ to_come 44 (texts s more) ++ y)
          go us y n o [] is at = absurd (omega (arith, l, n, ap length is, length-append args []))
          go us y n o (v ∷ more) is at =
              let put : mark ∷ inner ≡ mark ∷ ((term_text s v ++ to_come 44 (texts s more)) ++ y) = sym marked ∙ at in
              let same : inner ≡ (term_text s v ++ to_come 44 (texts s more)) ++ y = cc in
              let over_v = first_so (is_over s v) (list_all (is_over s) more) (all-rest s args (v ∷ more) (sym (ap (list_all (is_over s)) is) ∙ o)) in
              let once = term_once s valid t v z (to_come 44 (texts s more) ++ y) b.over over_v b.stops (argument_stops s more y)
              (sym b.text_is ∙ same ∙ append_assoc (term_text s v) (to_come 44 (texts s more)) y) in
              (more, is ∙ (ap (λ x. args ++ x ∷ more) (sym once.0) ∙ sym (append_assoc args (t ∷ []) more)), once.1)

    -- all are read
    module _ (all : arity ≤ length args) where
      nothing_more : (us more : List Term) → us ≡ args ++ more → length us ≡ arity → more ≡ []
      nothing_more us [] e n = refl
      nothing_more us (v ∷ more) e n = absurd (omega (arith, all, n, ap length e, length-append args (v ∷ more)))

      pub not_ended : ((y : Text) → Stops y → rest ≢ to_come mark [] ++ y) → BeginsNoTerm s text room
      not_ended n u y more h =
          let i = inside u y more h in
          let r = read.only (args_of u) y i.count i.over h.stops i.text_is in
          n y h.stops (r.2 ∙ ap (λ ts. to_come mark (texts s ts) ++ y) (nothing_more (args_of u) r.0 r.1 i.count))

      pub whole_read : length args ≤ arity → (y : Text) → rest ≡ to_come mark [] ++ y → Stops y → BeginsWith s text room (node f args) y left
      whole_read few y e st = record {
        over = is_over_node s f args ∙ (λ i. symbol i && read.over i);
        text_is = head.text_is ∙ (ap (λ r. symbol_text s f ++ r) (read.have [] y e ∙ ap (λ ts. to_come 40 (texts s ts) ++ y) (append-nil args))
            ∙ (sym (append_assoc (symbol_text s f) (to_come 40 (texts s args)) y) ∙ ap (λ r. r ++ y) (sym (text_node s f args))));
        stops = st;
        size = let a = read.size in omega (arith, a, size_node f args);
      }
        where
          symbol : is_symbol s f (length args) ≡ true
          symbol = ap (is_symbol s f) (let n : length args ≡ arity = omega (arith, all, few) in n) ∙ has_symbol s f arity head.arity_is

-- ---- where no symbol begins the text, and where the text ends behind the term

module _ (s : List Symbol) (valid : IsSignature s) (text : Text) where
  pub no_symbol : (room : ℕ) → BeginsNoSymbol s text → BeginsNoTerm s text room
  no_symbol room n u y more h =
      let g = (out-Term u).sym in
      let us = args_of u in
      let both = sym (is_over_node s g us) ∙ ap (is_over s) (node_out u) ∙ h.over in
      let there = first_so (is_symbol s g (length us)) (list_all (is_over s) us) both in
      n g (length us) (to_come 40 (texts s us) ++ y) (record {
        arity_is = arity_from s g (length us) there;
        text_is = h.text_is ∙ ap (λ r. r ++ y) (text_of_term s u) ∙ append_assoc (symbol_text s g) (to_come 40 (texts s us)) y;
        ends = name_stops s us y h.stops;
      })

  begins_whole : (t : Term) → IsTextOf s text t → BeginsWith s text 1024 t [] (1024 - size_of t)
  begins_whole t h = record { over = h.over; text_is = h.text_is ∙ sym (append-nil (term_text s t)); stops = tt; size = let l = h.small in omega (arith, l) }

  none_some : {A : Type 0} (t : Term) → None ≡ Some t → A
  none_some t e = cc

  pub no_text : BeginsNoTerm s text 1024 → (t : Term) → (None ≡ Some t) ↔ IsTextOf s text t
  no_text n t = (λ e. none_some t e, λ h. absurd (n t [] (1024 - size_of t) (begins_whole t h)))

  module _ (u : Term) (y : Text) (left : ℕ) (begins : BeginsWith s text 1024 u y left) where
    once : (t : Term) → IsTextOf s text t → (u ≡ t) × (y ≡ [])
    once t h = term_once s valid u t y [] begins.over h.over begins.stops tt (sym begins.text_is ∙ h.text_is ∙ sym (append-nil (term_text s t)))

    pub more_text : y ≢ [] → (t : Term) → (None ≡ Some t) ↔ IsTextOf s text t
    more_text n t = (λ e. none_some t e, λ h. absurd (n (once t h).1))

    pub whole_text : y ≡ [] → (t : Term) → (Some u ≡ Some t) ↔ IsTextOf s text t
    whole_text e t = (
      λ same. subst (IsTextOf s text) (let i : u ≡ t = cc in i) (record { over = begins.over; text_is = begins.text_is ∙ (ap (λ r. term_text s u ++ r) e ∙ append-nil (term_text s u)); small = let z = begins.size in omega (arith, z) }),
      λ h. ap Some (once t h).0,
    )
