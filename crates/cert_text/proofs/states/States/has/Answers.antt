use Rattle.std.proofs.Common.{◌≡◌, false, get_or, ap, ◌∙◌, refl, Option, Some, None, Bool, Bor, option_map, arith}
use Rattle.std.specs.Option.{unwrap_or, option_copied}
use Rattle.list_laws.proofs.Members.{is_member}
use Rattle.cert_text.proofs.states.States.has.Goals as goal

copied : (o : Option (Bor Bool)) → unwrap_or (option_copied o) false ≡ unwrap_or (option_map (λ (x : Bor Bool). x.now) o) false
copied (Some x) = refl
copied None = refl

pub returns : goal.returns
returns c =
    let flag : c.unwrap_or.result ≡ get_or c.self.inside.flags.items c.args.state false =
    (c.unwrap_or.ensures ∙ ap (λ o. unwrap_or o false) c.copied.ensures) ∙ (copied c.get.result ∙ (c.get.ensures.lookup.4 (omega arith) false ∙ ap (λ l. get_or l c.args.state false) c.deref.ensures.value)) in
    rw (← c.self.view_is) (is_member c.self.inside.listed.items c.args.state c.unwrap_or.result (flag ∙ c.self.invariant c.args.state))
