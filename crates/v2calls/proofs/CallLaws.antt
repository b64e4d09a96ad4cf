-- Laws of the numbers of calls: they tell the calls apart, and lie from 1 to 11.
use mathlib.Core.Path.{◌≡◌, refl, sym, ap, ◌∙◌}
use mathlib.Core.Logic.{◌≢◌, ◌⊎◌, inl, inr}
use mathlib.Core.List.{List, [], ◌∷◌}
use Prim.Native.Nat.{ℕ, ◌-◌, ◌≤◌}
use native.Mathlib.Omega.{arith}
use lib.ListN.{get_or}
use Rattle.v2calls.specs.declared.call.Call.{Call}
use Rattle.v2calls.specs.declared.call.Call.TheVariants.{Encode, Check, Locate, SmallWrite, RawStore, Rebuild, Fill, Choose, Column, Prices, Stock}
use Rattle.v2calls.specs.Calls.{call_number}

in_order : List Call
in_order =
    Encode ∷ Check ∷ Locate ∷ SmallWrite ∷ RawStore ∷ Rebuild
    ∷ Fill ∷ Choose ∷ Column ∷ Prices ∷ Stock ∷ []

at_number : (call : Call) → get_or in_order (call_number call - 1) Encode ≡ call
unfolding call_number in_order
at_number Encode = refl
at_number Check = refl
at_number Locate = refl
at_number SmallWrite = refl
at_number RawStore = refl
at_number Rebuild = refl
at_number Fill = refl
at_number Choose = refl
at_number Column = refl
at_number Prices = refl
at_number Stock = refl

apart : (a b : Call) → call_number a ≡ call_number b → a ≡ b
apart a b e = sym (at_number a) ∙ ap (λ (k : ℕ). get_or in_order (k - 1) Encode) e ∙ at_number b

-- another call has another number
pub number_not : (a b : Call) → a ≢ b → call_number a ≢ call_number b
number_not a b ne e = ne (apart a b e)

-- from 1 to 11
pub within : (call : Call) → (1 ≤ call_number call) × (call_number call ≤ 11)
unfolding call_number
within Encode = (omega arith, omega arith)
within Check = (omega arith, omega arith)
within Locate = (omega arith, omega arith)
within SmallWrite = (omega arith, omega arith)
within RawStore = (omega arith, omega arith)
within Rebuild = (omega arith, omega arith)
within Fill = (omega arith, omega arith)
within Choose = (omega arith, omega arith)
within Column = (omega arith, omega arith)
within Prices = (omega arith, omega arith)
within Stock = (omega arith, omega arith)

-- a rebuild, a fill and a choose stand from 6 to 8, a choose and a column from 8 to 9
pub with_losses : (call : Call) → (call ≡ Rebuild) ⊎ ((call ≡ Fill) ⊎ (call ≡ Choose)) → (6 ≤ call_number call) × (call_number call ≤ 8)
unfolding call_number
with_losses call (inl e) = rw e (omega arith, omega arith)
with_losses call (inr (inl e)) = rw e (omega arith, omega arith)
with_losses call (inr (inr e)) = rw e (omega arith, omega arith)

pub handing : (call : Call) → (call ≡ Choose) ⊎ (call ≡ Column) → (8 ≤ call_number call) × (call_number call ≤ 9)
unfolding call_number
handing call (inl e) = rw e (omega arith, omega arith)
handing call (inr e) = rw e (omega arith, omega arith)
