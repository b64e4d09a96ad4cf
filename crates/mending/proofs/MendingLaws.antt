-- Kind 6: a rebuild of the front of the buffer is a rebuild of the stripe, and leaves the rest.
-- To cite: lost_done, lost_refused, told_mend.
use mathlib.Core.Path.{◌≡◌, refl, sym, ap, ◌∙◌}
use mathlib.Core.Logic.{◌≢◌}
use mathlib.Core.Bool.{cond}
use mathlib.Core.List.{List, ◌++◌}
use Prim.Native.Nat.{ℕ}
use lib.Dec.{eqb}
use lib.ListN.{length, get_or, take, drop}
use borrow.Author.Tests.{ne_eqb}
use Rattle.shape.specs.declared.Shape.{Shape}
use Rattle.answer.specs.Answers.{Answer, number}
use Rattle.shape.specs.Good.{Good}
use Rattle.rule.specs.declared.Losses.{Losses}
use Rattle.rule.specs.Losses.{named}
use Rattle.rebuild.specs.Rebuild.{Cleared, Rebuild}
use Rattle.std.specs.Prelude.{Some}
use Rattle.kinds.specs.declared.Deed.{Deed}
use Rattle.kinds.specs.Kinds.{Held, rebuilding, kind_number, Wrong, deed, With, Rebuilds, TellsOf}
use Rattle.kinds.specs.Holding.{Front}
use Rattle.kinds.proofs.FrontLaws.{outcome_long, front_take, front_stripe, front_inside}
use Rattle.kinds.proofs.HoldingLaws.{late, with_some}
use Rattle.kinds.proofs.ToldLaws.{told_0}

-- "x columns lost", and 0 where the call is refused
pub lost_done : (k count : ℕ) → k ≡ 0 → count ≡ cond (eqb k 0) count 0
lost_done k count e = rw e refl

pub lost_refused : (k count : ℕ) → k ≢ 0 → 0 ≡ cond (eqb k 0) count 0
lost_refused k count ne = rw (ne_eqb k 0 ne) refl

module _ (h : Held) (sh : Shape) (held : (h ≡ Some sh) × Good sh) (p : List ℕ) (right : ¬ Wrong rebuilding p) (s : List ℕ) (end : ℕ) (f : Front sh (length s) end)
    (room : ℕ) (ys work : List ℕ) where
  -- what stands in the front after the call is the stripe, with the workspace clear
  rebuilds_front : (a : Answer) (d : Deed) (x : ℕ) → Rebuild sh (named (get_or p 0 0) (get_or p 1 0) (get_or p 2 0)) (take end s) room a ys work
      → x ≡ cond (eqb (number a) 0) (get_or p 0 0) 0 → d ≡ deed h (number a) x 0
      → (clear : List ℕ) → Cleared room clear → With h (λ sh. Rebuilds sh p s room d (ys ++ drop end s) clear)
  rebuilds_front a d x call ex ed clear zero =
      let same : length ys ≡ length (take end s) = outcome_long (λ w. w.long) call.outcome in
      let left : Rebuild sh (named (get_or p 0 0) (get_or p 1 0) (get_or p 2 0)) (take end s) room a ys clear = record { outcome = call.outcome; cleared = zero } in
      with_some (λ sh. Rebuilds sh p s room d (ys ++ drop end s) clear) h sh held.0 (
        a,
        rw (front_stripe sh s end f ys same) (rw (sym (front_take sh s end f)) left),
        front_inside sh s end f ys same,
        ed ∙ ap (λ (k : Held). deed k (number a) x 0) held.0 ∙ ap (λ (k : ℕ). deed (Some sh) (number a) k 0) ex,
      )

  -- the losses that the code makes of the payload, and what it tells of them
  pub told_mend : (count b c : ℕ) → count ≡ get_or p 0 0 → b ≡ get_or p 1 0 → c ≡ get_or p 2 0 → (lost : Losses) → lost ≡ named count b c
      → (a : Answer) → Rebuild sh lost (take end s) room a ys work → (x : ℕ) (d : Deed) → x ≡ cond (eqb (number a) 0) count 0 → d ≡ deed h (number a) x 0
      → (clear : List ℕ) → Cleared room clear → TellsOf 6 h p s room d (ys ++ drop end s) clear
  unfolding kind_number
  told_mend count b c ec eb el lost is a call x d ex ed clear zero =
      told_0 h p s room clear d rebuilding (late rebuilding h sh held.0 held.1) (ys ++ drop end s) right
      (rebuilds_front a d x (rw (sym ec, sym eb, sym el, sym is) call) (rw (sym ec) ex) ed clear zero)
