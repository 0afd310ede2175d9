use Rattle.std.proofs.Common.{◌≡◌, ◌<◌, [], ◌∷◌, ◌++◌, List, length, sym, ap, subst, ◌∙◌, append_assoc, arith}
use Rattle.std.specs.Prelude.{MatchOption}
use Rattle.std.specs.List.{Contains}
use Rattle.std.proofs.lemmas.List.Elements.{Contains-append_right, All-contains}
use Rattle.ranked_terms.specs.Terms.{size_of}
use Rattle.term_store.specs.Found.{changed, IsLiftOf, AreLifted}
use Rattle.term_store.specs.declared.found.Found.{Found}
use Rattle.term_store.proofs.FoundLaws.{changed_stays, lift_more, keeps_more}
use Rattle.term_store.proofs.found.lift_all.Goals as goal

member_at : (xs ys : List Found) (x : Found) (all : List Found) → all ≡ xs ++ x ∷ ys → Contains all x
member_at xs ys x all e = subst (λ zs. Contains zs x) (sym e) (Contains-append_right xs (x ∷ ys) x (0, omega arith, ap (λ y. y) (λ i. x)))

pub returns-in_default-2-clause-lifted : goal.returns-in_default-2-clause-lifted
returns-in_default-2-clause-lifted c =
    let store = c.args.store.now in
    let b = c.in-Some.step in
    let inv = c.loop-step.invariant in
    let split : c.args.below ≡ c.pop.new.self.items ++ b ∷ inv.1.0 = inv.1.1 ∙ (ap (λ xs. xs ++ inv.1.0) c.in-Some.ensures.items ∙ append_assoc c.pop.new.self.items (b ∷ []) inv.1.0) in
    let member = member_at c.pop.new.self.items inv.1.0 b c.args.below split in
    let there : b.term < length store = All-contains (λ (b : Found). b.term < length store) c.args.below b c.requires.below member in
    let large = subst (λ o. MatchOption o (1024 < size_of (changed c.loop-step.store c.args.sym c.args.args.now c.args.place b)) (IsLiftOf c.args.sym c.args.args.now c.args.place c.loop-step.store c.lift.new.store b)) c.in_default-2.is c.in_ok-lifted.ensures.lifted in
    record {
      step = b;
      member = member;
      large = subst (λ t. 1024 < size_of t) (changed_stays c.args.sym c.args.args.now c.args.place store c.requires.args c.loop-step.store inv.0 b there) large;
    }

pub loop-step-preserved : goal.loop-step-preserved
loop-step-preserved c =
    let store = c.args.store.now in
    let b = c.in-Some.step in
    let inv = c.loop-step.invariant in
    let split : c.args.below ≡ c.pop.new.self.items ++ b ∷ inv.1.0 = inv.1.1 ∙ (ap (λ xs. xs ++ inv.1.0) c.in-Some.ensures.items ∙ append_assoc c.pop.new.self.items (b ∷ []) inv.1.0) in
    let member = member_at c.pop.new.self.items inv.1.0 b c.args.below split in
    let there : b.term < length store = All-contains (λ (b : Found). b.term < length store) c.args.below b c.requires.below member in
    let is = subst (λ o. MatchOption o (1024 < size_of (changed c.loop-step.store c.args.sym c.args.args.now c.args.place b)) (IsLiftOf c.args.sym c.args.args.now c.args.place c.loop-step.store c.lift.new.store b)) c.in-Some-2.is c.in_ok-lifted.ensures.lifted in
    let more = lift_more c.args.sym c.args.args.now c.args.place store c.requires.args c.loop-step.store c.lift.new.store inv.1.0 c.args.founds.now c.loop-step.founds b c.in-Some-2.lifted inv.0 c.in_ok-lifted.ensures.kept there inv.1.2 is in (
      keeps_more store c.loop-step.store c.lift.new.store inv.0 c.in_ok-lifted.ensures.kept,
      (b ∷ inv.1.0, split, subst (AreLifted c.args.sym c.args.args.now c.args.place store c.lift.new.store (b ∷ inv.1.0) c.args.founds.now) (sym c.in_ok-push.ensures.ok) more),
    )
