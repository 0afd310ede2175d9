-- The state between declarations.
use Rattle.std.proofs.Common.{◌≡◌, [], refl}
use Rattle.spec_text.specs.Declarations.{Declared, Last, no_head}
use Rattle.spec_text.proofs.agreement.names.Rows.{IsResting, IsAtRest}

-- the state with nothing open
abbrev pub between : Last → Declared → Declared
between l d = record d { name = []; applications = []; shapes = []; bound = []; own = []; head = no_head; head_args = []; last = l }

-- nothing is open, and the last token was no symbol
pub record IsClear (d : Declared) : Type 0 where
  pub name : d.name ≡ []
  pub applications : d.applications ≡ []
  pub shapes : d.shapes ≡ []
  pub bound : d.bound ≡ []
  pub own : d.own ≡ []
  pub head : d.head ≡ no_head
  pub head_args : d.head_args ≡ []
  pub last : IsResting d.last

pub clear-between : (d : Declared) → IsClear d → d ≡ between d.last d
clear-between d h = λ i. record d { name = h.name i; applications = h.applications i; shapes = h.shapes i; bound = h.bound i; own = h.own i; head = h.head i; head_args = h.head_args i }

pub IsClear-between : (l : Last) (d : Declared) → IsResting l → IsClear (between l d)
IsClear-between l d h = record { name = refl; applications = refl; shapes = refl; bound = refl; own = refl; head = refl; head_args = refl; last = h }

pub IsClear-at_rest : (d : Declared) → IsClear d → IsAtRest d
IsClear-at_rest d h = record { applications = h.applications; last = h.last }

pub between-at_rest : (l : Last) (d : Declared) → IsResting l → IsAtRest (between l d)
between-at_rest l d h = record { applications = refl; last = h }
