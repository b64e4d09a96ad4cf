-- `unframed`: the rows of 12, one by one.
use mathlib.Core.Logic.{inl, inr}
use Prim.Native.Nat.{◌+◌, ◌<◌}
use native.Mathlib.Omega.{arith}
use lib.ListN.{length}
use borrow.Author.Tests.{lt-ltb, ltb-true}
use Rattle.xor.proofs.TellsLaws.{tells_true}
use Rattle.records.specs.Record.{counted}
use Rattle.records.proofs.unframed.Goals as goal

pub returns-then-counted-lt-SHORTEST : goal.returns-then-counted-lt-SHORTEST
unfolding counted
returns-then-counted-lt-SHORTEST c = tells_true (inr (inl (omega (arith, c.two_bytes-counted.ensures.0))))

pub returns-then-counted-gt-LONGEST : goal.returns-then-counted-gt-LONGEST
unfolding counted
returns-then-counted-gt-LONGEST c = tells_true (inr (inr (inl (omega (arith, c.two_bytes-counted.ensures.0)))))

pub returns : goal.returns
unfolding counted
returns c =
    let is = c.two_bytes-counted.ensures.0 in
    let long = length c.args.input.now in
    let ends = 2 + c.two_bytes-counted.result in record {
      yes = λ e.
          let h : long < ends = ltb-true long ends e in
          inr (inr (inr (omega (arith, is))));
      no = λ z.
          lt-ltb long ends
          (elim z [ inl h ↦ absurd (omega arith) | inr (inl h) ↦ absurd (omega (arith, is)) | inr (inr (inl h)) ↦ absurd (omega (arith, is)) | inr (inr (inr h)) ↦ omega (arith, is) ]);
    }
