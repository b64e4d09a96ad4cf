-- `letters`: what the search passed, as bytes of the text.
use mathlib.Core.Path.{◌∙◌}
use Prim.Native.Nat.{◌≤◌, ◌<◌}
use native.Mathlib.Omega.{arith}
use Rattle.std.proofs.Common.{rules}
use Rattle.std.proofs.lemmas.Iterator.{IsFirst-from_position, YieldsList-from_slice}
use Rattle.std.proofs.lemmas.Slice.{between_to_end}
use borrow.Author.Tests.{tests}
use Rattle.words.specs.Words.{blank}
use Rattle.words.proofs.WordsLaws.{passed_some, passed_none, letters_passed}
use Rattle.words.proofs.letters.Goals as goal

pub returns-in-Some : goal.returns-in-Some
returns-in-Some c =
    let part = YieldsList-from_slice _ (c.iter.ensures.rest ∙ between_to_end c.args.text.now c.args.from _ (omega arith)) in
    letters_passed
    (passed_some (λ b. b ≤ blank) (λ b. blank < b) _ _ c.requires _ _ c.in-Some.is
    (IsFirst-from_position _ _ _ (λ b. b ≤ blank) (λ b. blank < b) c.position.ensures.ran part (λ x q k. search (rules, tests)) (λ x q k. search (rules, tests))))

pub returns-in-None : goal.returns-in-None
returns-in-None c =
    let part = YieldsList-from_slice _ (c.iter.ensures.rest ∙ between_to_end c.args.text.now c.args.from _ (omega arith)) in
    letters_passed
    (passed_none (λ b. b ≤ blank) (λ b. blank < b) _ _ c.requires _ c.in-None.is
    (IsFirst-from_position _ _ _ (λ b. b ≤ blank) (λ b. blank < b) c.position.ensures.ran part (λ x q k. search (rules, tests)) (λ x q k. search (rules, tests))))
