-- What the result of a test shows.
use Rattle.std.proofs.Common.{◌≡◌, Bool, true, false, ◌||◌, Option, Some, None, if◌then◌else◌, refl, ap, true≢false, sym}
use Rattle.std.specs.Option.{is_some}

pub neither : (a b : Bool) → (a || b) ≡ false → (a ≡ false) × (b ≡ false)
neither true b h = absurd (true≢false h)
neither false b h = (refl, h)

pub if_true : {A : Type 0} (b : Bool) (x y : A) → b ≡ true → (if b then x else y) ≡ x
if_true true x y h = refl
if_true false x y h = absurd (true≢false (sym h))

pub if_false : {A : Type 0} (b : Bool) (x y : A) → b ≡ false → (if b then x else y) ≡ y
if_false true x y h = absurd (true≢false h)
if_false false x y h = refl

pub if_none : {A : Type 0} (b : Bool) (x : A) (o : Option A) → (if b then Some x else o) ≡ None → (b ≡ false) × (o ≡ None)
if_none true x o h = absurd (true≢false (ap is_some h))
if_none false x o h = (refl, h)
