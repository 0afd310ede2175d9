use Rattle.eq_merge.proofs.quotients.Composition.{followed_leasts, quotient_twice, quotient_sound}
use Rattle.eq_merge.proofs.least.LeastMerges.{quotient_in_order}
use Rattle.eq_merge.proofs.laws.quotients_compose.Goals as goal

pub returns-clause-sound : goal.returns-clause-sound
returns-clause-sound c = λ A h sound order leasts. (quotient_sound sound h leasts, quotient_in_order A h order)

pub returns-clause-compose : goal.returns-clause-compose
returns-clause-compose c = λ A f g sound first second. (followed_leasts sound first second, quotient_twice sound first second)
