use Rattle.std.proofs.Common.{◌≡◌, ◌≢◌, ◌⊎◌, inl, inr, List, ◌<◌, ◌+◌, ◌-◌, ℕ, suc, get_or, length, drop, sym, ◌∙◌, ap, arith, Some}
use Rattle.timbuk_lex.specs.Bytes.{close_at}
use Rattle.timbuk_lex.proofs.Closing.{shifted, shifted_zero, shifted_once, close_here, close_on, close_short}
use Rattle.timbuk_lex.proofs.piece.close_at.Goals as goal
use Rattle.timbuk_lex.proofs.piece.close_at.Goals.{else-bytes-i-eq42-via-then-bytes-i-eq42+else-bytes-i-eq41, else-bytes-i-eq42-via-else-bytes-i-eq42}

pub loop-i-init : goal.loop-i-init
loop-i-init c = sym (shifted_zero (close_at c.args.bytes.now))

pub returns-then-bytes-i-eq41-clause-value : goal.returns-then-bytes-i-eq41-clause-value
returns-then-bytes-i-eq41-clause-value c =
    let lt : c.loop-i.i < length c.args.bytes.now = omega arith in
    let e : c.loop-i.i ≡ suc (c.loop-i.i - 1) = omega arith in
    let here = close_here c.args.bytes.now (c.loop-i.i - 1) c.loop-i.i e lt c.if-bytes-i-eq42.true c.if-bytes-i-eq41.true in
    let k : c.loop-i.i - 1 + 0 ≡ c.loop-i.i - 1 = omega arith in
    sym (c.loop-i.invariant ∙ ap (shifted (c.loop-i.i - 1)) here ∙ ap Some k)

goes : (bs : List ℕ) (i j k : ℕ) → j ≡ suc i → k ≡ j → j < length bs → (get_or bs i 0 ≢ 42) ⊎ (get_or bs j 0 ≢ 41) → close_at bs ≡ shifted i (close_at (drop i bs)) → close_at bs ≡ shifted k (close_at (drop k bs))
goes bs i j k e f h p q = rw f (q ∙ ap (shifted i) (close_on bs i j e h p) ∙ shifted_once i j (close_at (drop j bs)) (omega arith))

pub loop-i-preserved : goal.loop-i-preserved
loop-i-preserved c =
    let bs = c.args.bytes.now in
    let i = c.loop-i.i in
    let e : i ≡ suc (i - 1) = omega arith in
    let f : i + 1 - 1 ≡ i = omega arith in
    let h : i < length bs = omega arith in
    goes bs (i - 1) i (i + 1 - 1) e f h
    (elim c.else-bytes-i-eq42.branch [
      | else-bytes-i-eq42-via-then-bytes-i-eq42+else-bytes-i-eq41 w ↦ inr w.if-bytes-i-eq41.false
      | else-bytes-i-eq42-via-else-bytes-i-eq42 w ↦ inl w.if-bytes-i-eq42.false
    ])
    c.loop-i.invariant

pub returns-clause-value : goal.returns-clause-value
returns-clause-value c =
    let bs = c.args.bytes.now in
    let i = c.loop-i.i in
    let h : length bs < i - 1 + 2 = omega arith in
    sym (c.loop-i.invariant ∙ ap (shifted (i - 1)) (close_short bs (i - 1) h))
