use Rattle.std.proofs.Common.{rules, subst}
use Rattle.cert_text.specs.Paths.{ArePlaces}
use Rattle.cert_text.proofs.rows.Told.{is_not, is_so}
use Rattle.cert_text.proofs.fields.PathFields.{root_position, no_position, position_is, no_places}
use Rattle.cert_text.proofs.path.position_of.Goals as goal

pub returns-then-root-clause-yes : goal.returns-then-root-clause-yes
returns-then-root-clause-yes c = λ _. root_position c.args.word.now c.clear.new.self.items (is_so c.is_text-root.result _ (search rules) c.is_text-root.ensures) c.clear.ensures.items

pub returns-then-not-branch-clause-no : goal.returns-then-not-branch-clause-no
returns-then-not-branch-clause-no c = λ _ ks places e.
    no_position c.args.word.now ks (is_not c.is_text-root.result _ (search rules) c.is_text-root.ensures) (c.read_numbers.ensures.no (search rules)) e

pub returns-clause-yes : goal.returns-clause-yes
returns-clause-yes c = λ ok.
    position_is c.args.word.now c.clear.new.self.items c.read_numbers.new.numbers.items c.clear.ensures.items (c.read_numbers.ensures.yes (search rules)) (subst ArePlaces (search rules) (c.are_places-places.ensures.0 (search rules)))

pub returns-clause-no : goal.returns-clause-no
returns-clause-no c = λ ok ks places e.
    no_places c.args.word.now c.clear.new.self.items c.read_numbers.new.numbers.items ks c.clear.ensures.items (is_not c.is_text-root.result _ (search rules) c.is_text-root.ensures) (c.read_numbers.ensures.yes (search rules))
    (λ h. is_not c.are_places-places.result (ArePlaces c.as_slice.result.now) (search rules) c.are_places-places.ensures (subst ArePlaces (search rules) h)) places e
