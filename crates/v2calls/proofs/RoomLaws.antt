-- Laws of Room: one byte put, and two.
use mathlib.Core.Path.{◌≡◌, ◌∙◌}
use mathlib.Core.List.{List}
use Prim.Native.Nat.{ℕ, ◌+◌, ◌-◌, ◌/◌, ◌%◌, ◌≤◌}
use native.Mathlib.Omega.{arith}
use lib.ListN.{length, set, length-set}
use lib.Seq.{get_or-set_same, get_or-set_other}
use Rattle.io.specs.Digits.{hex_digit_ascii}
use Rattle.v2calls.specs.Room.{Room, Last, Spells}

pub last_put : (out : List ℕ) (at byte : ℕ) → at + 2 ≤ length out → Room (set out at byte) (at + 1) × Last (set out at byte) (at + 1) byte
last_put out at byte h =
    let e : at + 1 - 1 ≡ at = omega arith in
    let l = length-set out at byte in
    ((omega arith, omega arith), (omega arith, rw e (get_or-set_same out at byte 0 (omega arith))))

pub spells_put : (out : List ℕ) (at a b byte : ℕ) → at + 2 ≤ length out → a ≡ hex_digit_ascii (byte / 16) → b ≡ hex_digit_ascii (byte % 16)
    → Room (set (set out at a) (at + 1) b) (at + 2) × Spells (set (set out at a) (at + 1) b) (at + 2) byte
spells_put out at a b byte h p q =
    let l = length-set out at a in
    let k = length-set (set out at a) (at + 1) b in
    let e : at + 2 - 2 ≡ at = omega arith in
    let f : at + 2 - 1 ≡ at + 1 = omega arith in (
      (omega arith, omega arith),
      (
        omega arith,
        rw e (get_or-set_other (set out at a) (at + 1) at b 0 (λ z. omega arith) ∙ (get_or-set_same out at a 0 (omega arith) ∙ p)),
        rw f (get_or-set_same (set out at a) (at + 1) b 0 (omega arith) ∙ q),
      ),
    )
