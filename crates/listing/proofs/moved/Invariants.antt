-- `moved`. The invariant: the entries before i are moved.
use Rattle.std.proofs.Common.{◌≡◌, ℕ, ◌+◌, ◌%◌, ◌^◌, ◌<◌, length, get_or}
use Rattle.listing.proofs.moved.Given as goal

abbrev pub invariant-loop-i : goal.invariant-loop-i
invariant-loop-i l = (length l.to ≡ 32) × ((j : ℕ) → j < l.i → get_or l.to j 0 ≡ (get_or l.list j 0 + l.by) % 2 ^ 16)
