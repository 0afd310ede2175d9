-- Faults one after the other: the first that is there is told, and where none is the answer stands.
use Rattle.std.proofs.Common.{◌≡◌, ◌&&◌, Bool, true, false, true≢false, refl, List, [], ◌∷◌, Option, None}
use Rattle.clap.specs.Walk.{Rule}
use Rattle.clap.specs.Simple.{Shape, new_shape}
use Rattle.clap.specs.Kinds.{Kinds, or_else}
use Rattle.command_words.specs.Line.{Text}

-- what a command of these rules is, once built
abbrev pub shape : Text → List Rule → Shape
shape name c = record (new_shape name) { rules = c; disable_help_flag = true; disable_help_subcommand = true; is_built = true }

-- the answer, where there is no fault
abbrev pub when_none : {X : Type 0} → Kinds → Option X → Option X
when_none [] next = next
when_none (k ∷ ks) next = None

abbrev pub passes : Kinds → Bool
passes [] = true
passes (k ∷ ks) = false

pub past_both : {X : Type 0} (a b : Kinds) (next : Option X) → when_none (or_else a b) next ≡ when_none a (when_none b next)
past_both [] b next = refl
past_both (k ∷ ks) b next = refl

pub regroup : (a b d : Kinds) → or_else (or_else a b) d ≡ or_else a (or_else b d)
regroup [] b d = refl
regroup (k ∷ ks) b d = refl

pub or_nil : (a : Kinds) → or_else a [] ≡ a
or_nil [] = refl
or_nil (k ∷ ks) = refl

pub refuse : {X : Type 0} (a b : Kinds) (after : Option X) → passes a ≡ false → when_none (or_else a b) after ≡ None
refuse [] b after bad = absurd (true≢false bad)
refuse (k ∷ ks) b after bad = refl

pub refuses : {X : Type 0} (a : Kinds) (after : Option X) → passes a ≡ false → when_none a after ≡ None
refuses [] after bad = absurd (true≢false bad)
refuses (k ∷ ks) after bad = refl

pub first_refuses : (a b : Kinds) → passes a ≡ false → passes (or_else a b) ≡ false
first_refuses [] b bad = absurd (true≢false bad)
first_refuses (k ∷ ks) b bad = refl

pub and_false : (a b : Bool) → b ≡ false → (a && b) ≡ false
and_false true b e = e
and_false false b e = refl
