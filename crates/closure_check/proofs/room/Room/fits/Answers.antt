use Rattle.std.proofs.Common.{◌<◌, All, length, ap, sym, subst, ◌∙◌, arith}
use Rattle.ta_core.specs.declared.trans.Trans.{Trans}
use Rattle.closure_check.specs.Rooms.{Sizes, HasTables, sets_of_rules}
use Rattle.closure_check.proofs.room.Room.fits.Goals as goal

pub returns : goal.returns
returns c =
    let sets = c.len-sets.result in
    rw (← c.self.view_is) (
      λ t. record {
        countable = c.is_countable.ensures.0 c.if-not-is_countable.false;
        some = omega (arith, c.if-sets-eq0.false, c.len-sets.ensures, c.self.inside.sets.ok.0);
        arguments = subst (All (λ (t : Trans). length t.args < length c.self.inside.sets.items)) c.trans.ensures.value (subst (λ n. All (λ (t : Trans). length t.args < n) c.trans.result.now) (c.len-sets.ensures ∙ c.self.inside.sets.ok.0) (c.arguments_fit.ensures.0 c.if-not-arguments_fit.false));
        sets = omega (arith, c.rules_fit.ensures.0 c.if-not-rules_fit.false, c.len-sets.ensures, c.self.inside.sets.ok.0, ap sets_of_rules c.as_slice.ensures);
        states = omega (arith, c.if-next-self.false, c.next.ensures.value);
        tables = subst (λ (room : Sizes). HasTables room c.args.automaton.now) (sym c.self.view_is) (c.has_tables.ensures.0 c.if-not-has_tables.false);
        paired_states = (c.fits.ensures.0 t).first;
        places = (c.fits.ensures.0 t).first_uses;
        forbidden_states = (c.fits.ensures.0 t).second;
        forbidden_places = (c.fits.ensures.0 t).second_uses;
      },
      λ f. c.fits.ensures.1 (record { first = f.paired_states; second = f.forbidden_states; first_uses = f.places; second_uses = f.forbidden_places }),
    )
