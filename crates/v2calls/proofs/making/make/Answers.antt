-- `make`: each arm is the call of its number; choose and column only hand out.
use mathlib.Core.Path.{refl, sym, ap}
use Rattle.answer.specs.Answers.{number}
use Rattle.v2calls.specs.Calls.{call_number}
use Rattle.v2calls.specs.Told.{Makes}
use Rattle.v2calls.proofs.CallLaws.{handing}
use Rattle.v2calls.proofs.making.make.Goals as goal

pub returns-in-Encode : goal.returns-in-Encode
unfolding call_number
returns-in-Encode c = Makes.encodes c.encode.result (ap call_number c.in-Encode.is) c.encode.ensures refl c.answered.ensures

pub returns-in-Check : goal.returns-in-Check
unfolding call_number
returns-in-Check c = Makes.checks (ap call_number c.in-Check.is) c.checked.ensures refl refl

pub returns-in-Locate : goal.returns-in-Locate
unfolding call_number
returns-in-Locate c = Makes.locates (ap call_number c.in-Locate.is) c.located.ensures refl refl

pub returns-in-SmallWrite : goal.returns-in-SmallWrite
unfolding call_number
returns-in-SmallWrite c = Makes.writes c.small_write.result (ap call_number c.in-SmallWrite.is) c.small_write.ensures refl c.answered-in-SmallWrite.ensures

pub returns-in-RawStore : goal.returns-in-RawStore
unfolding call_number
returns-in-RawStore c = Makes.stores c.raw_store.result (ap call_number c.in-RawStore.is) c.raw_store.ensures refl c.answered-in-RawStore.ensures

pub returns-in-Rebuild : goal.returns-in-Rebuild
unfolding call_number
returns-in-Rebuild c = Makes.rebuilds (ap call_number c.in-Rebuild.is) c.rebuilt.ensures

pub returns-in-Fill : goal.returns-in-Fill
unfolding call_number
returns-in-Fill c = Makes.fills c.fill.result (ap call_number c.in-Fill.is) (rw (sym c.named.ensures) c.fill.ensures) refl c.answered-in-Fill.ensures

pub returns-in-Choose : goal.returns-in-Choose
unfolding number
returns-in-Choose c =
    let (low, high) = handing _ c.in-Choose.is in Makes.hands low high refl refl c.answered-in-Choose.ensures

pub returns-in-Prices : goal.returns-in-Prices
unfolding call_number
returns-in-Prices c = Makes.prices (ap call_number c.in-Prices.is) c.priced.ensures refl refl

pub returns-in-Stock : goal.returns-in-Stock
unfolding call_number
returns-in-Stock c = Makes.stocks (ap call_number c.in-Stock.is) c.stocked.ensures refl refl
