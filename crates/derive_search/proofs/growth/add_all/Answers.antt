use Rattle.std.proofs.Common.{[], ◌∷◌, ◌++◌, Some, refl, sym, ap, subst, ◌∙◌, ⊎_elim, append_assoc, append-nil, arith}
use Rattle.std.specs.List.{Contains}
use Rattle.list_laws.proofs.Members.{parts, none}
use Rattle.derive_search.proofs.GrowthLaws.{nothing_added, one_added, added_is_there, added_keeps, member_at}
use Rattle.derive_search.proofs.growth.add_all.Goals as goal

pub loop-found-init : goal.loop-found-init
loop-found-init c = (
  nothing_added c.args.parent c.args.founds c.args.levels.now.ids.keys c.args.levels.now.origins.items,
  (c.requires.few, ([], sym c.into_vec-rest.ensures ∙ sym (append-nil c.into_vec-rest.result.items), λ f m. absurd (none f m))),
)

pub returns-then-limit-len-clause-added : goal.returns-then-limit-len-clause-added
returns-then-limit-len-clause-added c =
    let b = c.in-Some.found in let inv = c.loop-found.invariant in
    let member = member_at c.pop.new.self.items inv.1.1.0 b c.args.founds (inv.1.1.1 ∙ (ap (λ xs. xs ++ inv.1.1.0) c.in-Some.ensures.items ∙ append_assoc c.pop.new.self.items (b ∷ []) inv.1.1.0)) in
    one_added c.args.parent c.args.founds c.args.levels.now.ids.keys c.args.levels.now.origins.items b.term (Some (record { parent = c.args.parent; rule = b.rule; back = b.back }))
    c.loop-found.levels.ids.keys c.loop-found.levels.origins.items c.add.new.levels.ids.keys c.add.new.levels.origins.items inv.0 c.in_ok-add.ensures
    (record { found = b; member = member; is_id = refl; is_origin = refl })

pub loop-found-preserved : goal.loop-found-preserved
loop-found-preserved c =
    let b = c.in-Some.found in let inv = c.loop-found.invariant in
    let split = inv.1.1.1 ∙ (ap (λ xs. xs ++ inv.1.1.0) c.in-Some.ensures.items ∙ append_assoc c.pop.new.self.items (b ∷ []) inv.1.1.0) in
    let member = member_at c.pop.new.self.items inv.1.1.0 b c.args.founds split in (
      one_added c.args.parent c.args.founds c.args.levels.now.ids.keys c.args.levels.now.origins.items b.term (Some (record { parent = c.args.parent; rule = b.rule; back = b.back }))
          c.loop-found.levels.ids.keys c.loop-found.levels.origins.items c.add.new.levels.ids.keys c.add.new.levels.origins.items inv.0 c.in_ok-add.ensures
          (record { found = b; member = member; is_id = refl; is_origin = refl }),
      (
        omega (arith, c.if-limit-len.false, c.len.ensures.len),
        (
          b ∷ inv.1.1.0,
          split,
          λ f m. ⊎_elim
              (λ same. subst (λ g. Contains c.add.new.levels.ids.keys g.term) same (added_is_there b.term (Some (record { parent = c.args.parent; rule = b.rule; back = b.back })) c.loop-found.levels.ids.keys c.loop-found.levels.origins.items c.add.new.levels.ids.keys c.add.new.levels.origins.items c.in_ok-add.ensures))
              (λ later. added_keeps b.term (Some (record { parent = c.args.parent; rule = b.rule; back = b.back })) c.loop-found.levels.ids.keys c.loop-found.levels.origins.items c.add.new.levels.ids.keys c.add.new.levels.origins.items c.in_ok-add.ensures f.term (inv.1.1.2 f later))
              (parts b f inv.1.1.0 m),
        ),
      ),
    )
