-- What an answer by cases says where the case is known.
use Rattle.std.proofs.Common.{◌≡◌, Bool, true, false, Option, Some, None, subst}
use Rattle.std.specs.Prelude.{MatchBool, MatchOption}

pub when_true : (A B : Type 0) (r : Bool) → r ≡ true → MatchBool r A B → A
when_true A B true e h = h
when_true A B false e h = cc

pub when_false : (A B : Type 0) (r : Bool) → r ≡ false → MatchBool r A B → B
when_false A B true e h = cc
when_false A B false e h = h

pub when_none : {X : Type 0} (A : Type 0) (P : X → Type 0) (o : Option X) → o ≡ None → MatchOption o A P → A
when_none A P None e h = h
when_none A P (Some x) e h = cc

pub when_some : {X : Type 0} (A : Type 0) (P : X → Type 0) (o : Option X) (x : X) → o ≡ Some x → MatchOption o A P → P x
when_some A P None x e h = cc
when_some A P (Some y) x e h = let q : y ≡ x = cc in subst P q h
