use Rattle.std.proofs.Common.{◌≡◌, ◌≢◌, ◌∷◌, ◌++◌, [], length, is_some, false, ap, ◌∙◌, sym}
use Rattle.ranked_terms.specs.Names.{number_of}
use Rattle.ranked_terms.specs.SignatureRules.{symbols_of}
use Rattle.ranked_terms.proofs.signatures.SignatureLemmas.{added_entries, names-distinct, IsSignature-added}
use Rattle.ranked_terms.proofs.signature.Signature.add.Goals as goal

pub invariant_of-self-2 : goal.invariant_of-self-2
invariant_of-self-2 c =
    let s = symbols_of c.self.inside.symbols.entries in
    let view : s ≡ c.args.self.now = c.self.view_is in
    let absent : is_some (number_of c.args.self.now c.args.name.now) ≡ false = cc in
    let added = added_entries c.self.inside.symbols.entries c.insert.new.self.entries c.in_ok-key.key c.args.name.now c.args.arity c.args.self.now view c.in_ok-key.ensures.ok absent c.in_ok-insert.ensures.entries in
    let room : length s ≢ 4096 = λ e. c.if-number-eq-MAX_SYMBOLS.false (c.len-number.ensures.value ∙ ap length (sym view) ∙ e) in
    IsSignature-added s _ c.args.name.now c.args.arity c.self.invariant (added ∙ ap (λ l. l ++ (c.args.name.now, c.args.arity) ∷ []) (sym view)) (names-distinct c.insert.new.self.entries c.in_ok-insert.ensures.unique) room c.requires.name c.requires.arity

pub returns-clause-added : goal.returns-clause-added
returns-clause-added c =
    let view : symbols_of c.self.inside.symbols.entries ≡ c.args.self.now = c.self.view_is in
    let absent : is_some (number_of c.args.self.now c.args.name.now) ≡ false = cc in
    added_entries c.self.inside.symbols.entries c.insert.new.self.entries c.in_ok-key.key c.args.name.now c.args.arity c.args.self.now view c.in_ok-key.ensures.ok absent c.in_ok-insert.ensures.entries
