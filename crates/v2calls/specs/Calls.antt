-- THE CALLS OF A CALL FILE AND THEIR NUMBERS (the page on call files, the table of the calls). Definitions only.
use Rattle.std.specs.Prelude.{◌≡◌, ◌≢◌, ℕ, Option, Some, None}
use Rattle.v2calls.specs.declared.call.Call.{Call}
use Rattle.v2calls.specs.declared.call.Call.TheVariants.{Encode, Check, Locate, SmallWrite, RawStore, Rebuild, Fill, Choose, Column, Prices, Stock}

-- the number of each call
unfoldable pub call_number : Call → ℕ
call_number Encode = 1
call_number Check = 2
call_number Locate = 3
call_number SmallWrite = 4
call_number RawStore = 5
call_number Rebuild = 6
call_number Fill = 7
call_number Choose = 8
call_number Column = 9
call_number Prices = 10
call_number Stock = 11

-- the call of a number; none where it is "an unknown call"
abbrev pub CallOf : ℕ → Option Call → Type 0
CallOf k (Some call) = call_number call ≡ k
CallOf k None = (call : Call) → call_number call ≢ k
