-- The demands on a rebuild and on locate: the laws of their floors.
use mathlib.Core.Path.{◌≡◌, refl, sym, ◌∙◌}
use mathlib.Core.Logic.{inl, inr, ⊎_elim}
use lib.ListN.{length}
use Rattle.std.specs.Prelude.{Ok, Err}
use Rattle.answer.specs.declared.Refusal.TheVariants.{Disagree}
use Rattle.answer.specs.Answers.{Answer}
use Rattle.answer.proofs.AnswersLaws.{number_done, refused, given}
use Rattle.shape.proofs.GoodLaws.{good_m, good_room}
use Rattle.rule.proofs.SolvesLaws.{solves_one}
use Rattle.locating.proofs.Explains.{explains_is_mends}
use Rattle.locating.proofs.LocateLaws.{mends_one}
use Rattle.rebuild.specs.Rebuild.{Cleared}
use Rattle.rebuild.proofs.RebuildLaws.{rebuild_otherwise, rebuild_decides, rebuild_solves, rebuild_old_bytes, rebuild_either}
use Rattle.demands.specs.Sequences.{Request, encode, check, locate, small_write, raw_store, rebuild, read_column, fill, choose, prices, stock, job, Served}
use Rattle.demands.specs.Demands.{Lends, ZeroAfter, ComesBack, RebuildExactly, OneStripe, EitherOrder, OneExplains, OneDamagedColumn, OldBytes}

pub zero_after : ZeroAfter
zero_after before e lent h = at e.request lent h.served
  where
    at : (q : Request) → Lends q → Served q (before.own e.client) before.work e.reply (e.after.own e.client) e.after.work
        → Cleared (length before.work) e.after.work
    at (rebuild sh lost s) lent p = p.2.cleared
    at (job i from s) lent p = p.2.cleared
    at (encode sh s) lent p = absurd lent
    at (check sh s) lent p = absurd lent
    at (locate sh s) lent p = absurd lent
    at (small_write sh s c i x) lent p = absurd lent
    at (raw_store sh s c i x) lent p = absurd lent
    at (read_column sh s c) lent p = absurd lent
    at (fill sh s lost c b) lent p = absurd lent
    at (choose sh s lost c b) lent p = absurd lent
    at (prices sh) lent p = absurd lent
    at (stock i) lent p = absurd lent

pub comes_back : ComesBack
comes_back sh lost s hurt room good long bytes obeys agrees a x u h =
    rebuild_solves sh lost hurt room a x u h good s (record { long = long; bytes = bytes; obeys = obeys; agrees = agrees })

pub rebuild_exactly : RebuildExactly
rebuild_exactly sh lost s room a x u h = (
  (λ e. let o = rebuild_otherwise sh lost s room a x u h (inr e) in (o, λ y sol. never (sym (rebuild_solves sh lost s room a x u h o y sol).0 ∙ e))),
  (λ o none. ⊎_elim (λ z. z.1) (λ z. absurd (z.0 none)) (rebuild_decides sh lost s room a x u h o)),
  (λ e. (rebuild_otherwise sh lost s room a x u h (inl e), h.outcome.done ((number_done a).1 e))),
  (λ o y sol. rebuild_solves sh lost s room a x u h o y sol),
  (λ o. ⊎_elim (λ z. inr z.1) (λ z. inl z.1) (rebuild_decides sh lost s room a x u h o)),
)
  where
    never : ◌≡◌ {A = Answer} (Ok tt) (Err Disagree) → ⊥
    never e = refused e (given {x = Ok tt} refl)

pub one_stripe : OneStripe
one_stripe sh good lost fit apart s x y len p q = solves_one sh good lost fit apart s len x y p q

pub either_order : EitherOrder
either_order = rebuild_either

pub old_bytes : OldBytes
old_bytes sh lost s s₂ room a b x y u v len agree p q = rebuild_old_bytes sh lost s s₂ len agree room a b x y u v p q

pub one_damaged_column : OneDamagedColumn
one_damaged_column sh good s len bad c e p q = mends_one sh s good len bad c e p q

pub one_explains : OneExplains
one_explains sh good s len bytes bad c e hc he p q =
    mends_one sh s good len bad c e ((explains_is_mends sh (good_m sh good) (good_room sh good) s len c hc bytes).0 p)
    ((explains_is_mends sh (good_m sh good) (good_room sh good) s len e he bytes).0 q)
