use mathlib.Core.Path.{◌≡◌, refl, ap, ap₂, ◌∙◌}
use Prim.Native.Nat.{ℕ}
use native.Mathlib.Omega.{arith}
use lib.ListN.{length, get_or, take}
use Rattle.xor.specs.Total.{total}
use Rattle.xor.proofs.TotalLaws.{total_none, total_more}
use Rattle.answer.specs.Answers.{number}
use Rattle.shape.proofs.GoodLaws.{stripe_done}
use Rattle.checking.specs.Check.{count, breaks, chain_bits, broken_chains, differing_bits}
use Rattle.checking.specs.Bits.{Chain}
use Rattle.checking.proofs.Counting.{count_start, chain_sound, chain_broken, bits_front, bits_at}
use Rattle.checking.proofs.counted.Goals as goal
use Rattle.checking.proofs.counted.Goals.{After-bits_by_chain-by_chain, In-loop-differing, then-differing-ne0, else-differing-ne0}

-- as many chains are counted as the shape has
many : (c : After-bits_by_chain-by_chain) → length (take c.args.stripe.shape.n c.bits_by_chain-by_chain.result) ≡ c.args.stripe.shape.n
many c = bits_front c.args.stripe.shape c.args.stripe.bytes.now c.bits_by_chain-by_chain.result c.bits_by_chain-by_chain.ensures c.args.stripe.good.n_fits.1

-- the chain that is counted next
more : (c : In-loop-differing) → Chain c.args.stripe.shape c.args.stripe.bytes.now
    c.loop-differing.differing-index (get_or (take c.args.stripe.shape.n c.bits_by_chain-by_chain.result) c.loop-differing.differing-index 0)
more c = bits_at c.args.stripe.shape c.args.stripe.bytes.now c.bits_by_chain-by_chain.result c.bits_by_chain-by_chain.ensures c.loop-differing.differing-index c.loop-differing-test.true

pub loop-differing-init : goal.loop-differing-init
loop-differing-init c = (omega arith, omega arith, count_start _, total_none _)

pub overflow_add-broken : goal.overflow_add-broken
overflow_add-broken c = omega arith

pub loop-differing-preserved : goal.loop-differing-preserved
loop-differing-preserved c =
    let at = c.loop-differing in
    let sh = c.args.stripe.shape in
    let s = c.args.stripe.bytes.now in
    let b = more (goal.at.loop-differing-preserved c).In-loop-differing in
    let sum = total_more (chain_bits sh s) at.differing-index at.invariant.3 (c.from-bits.ensures ∙ b.0) in
    elim c.if-differing-ne0.branch [
      | then-differing-ne0 w ↦ (omega arith, omega arith, w.broken-is ∙ chain_broken sh s at.differing-index at.invariant.2 b.0 w.if-differing-ne0.true, sum)
      | else-differing-ne0 w ↦ (omega arith, omega arith, w.broken-is ∙ chain_sound sh s at.differing-index at.invariant.2 b.0 w.if-differing-ne0.false, sum)
    ]

pub returns : goal.returns
unfolding number broken_chains differing_bits
returns c =
    let at = c.loop-differing in
    let sh = c.args.stripe.shape in
    let s = c.args.stripe.bytes.now in
    let e : at.differing-index ≡ sh.n = omega (arith, many (goal.at.returns c).After-bits_by_chain-by_chain) in record {
      answer = (stripe_done _ _).0 (c.args.stripe.good, c.args.stripe.whole);
      refused = λ ne. absurd (ne refl);
      done = λ z.
          ap₂ (λ (x y : ℕ). (x, y)) (at.invariant.2 ∙ ap (λ (k : ℕ). count k (breaks sh s)) e)
          (at.invariant.3 ∙ ap (λ (k : ℕ). total k (chain_bits sh s)) e);
    }
