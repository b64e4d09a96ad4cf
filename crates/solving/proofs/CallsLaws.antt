-- The two functions that call each other, on either side: what they call `own` with, and what it leaves behind.
use mathlib.Core.Path.{◌≡◌, ◌∙◌}
use mathlib.Core.Bool.{cond}
use mathlib.Core.List.{List}
use Prim.Native.Nat.{ℕ, ◌+◌, ◌-◌, ◌≤◌, ◌<◌}
use native.Mathlib.Omega.{arith}
use lib.Dec.{ltb}
use lib.ListN.{length, get_or}
use Rattle.xor.specs.Xor.{◌⊕◌}
use Rattle.xor.specs.Spanned.{Spanned}
use Rattle.shape.specs.Good.{Good, size}
use Rattle.shape.specs.Place.{byte}
use Rattle.listing.specs.Places.{Table}
use Rattle.sourcing.specs.Sources.{besides}
use Rattle.summing.specs.Sums.{Apart}
use Rattle.solving.specs.declared.Gone.{Gone}
use Rattle.solving.specs.Outer.{spot, chain_of, Solved, Stores, Ready}
use Rattle.solving.proofs.StoresLaws.{ready_room, ready_next, ready_apart, stores_alone, stores_after}

module _ (g : Gone) (side d : ℕ) (s out : List ℕ) (r : Ready g side d s out) (p at : ℕ) (ea : at ≡ spot g side d) where
  -- what `own` is called with
  abbrev pub Called : List ℕ → ℕ → List ℕ → Type 0
  Called table b mid =
      Good g.shape × (length s ≡ size g.shape) × (p < g.shape.n) × (side ≤ 1) × (d < g.shape.m) × (d < d + g.walk) × Table g.shape table
      × (at + g.shape.w ≤ length mid)
      × (d + g.walk < g.shape.m → (b + g.shape.w ≤ length mid) × (b + g.shape.w ≤ 262144) × Apart at b g.shape.w)

  pub called_alone : (table : List ℕ) (b : ℕ) → Table g.shape table → p < g.shape.n → g.shape.m ≤ d + g.walk → Called table b out
  called_alone table b tab hp far =
      (r.good, r.whole, hp, r.side_is, r.high, omega (arith, r.near), tab, omega (arith, ea, (ready_room g side d s out r).0), λ z. absurd (omega arith))

  pub called_after : (table : List ℕ) (b : ℕ) (mid : List ℕ) → Table g.shape table → p < g.shape.n → (h : d + g.walk < g.shape.m) → length mid ≡ length out
      → b ≡ spot g (1 - side) (d + g.walk) → Called table b mid
  called_after table b mid tab hp h e eb =
      let there = ready_room g (1 - side) (d + g.walk) s out (ready_next g side d s out r h) in (
        r.good,
        r.whole,
        hp,
        r.side_is,
        r.high,
        omega (arith, r.near),
        tab,
        omega (arith, ea, e, (ready_room g side d s out r).0),
        λ z. (omega (arith, eb, e, there.0), omega (arith, eb, there.1), rw (ea, eb) (ready_apart g side d s out r h)),
      )

  -- what it leaves
  abbrev Own : ℕ → List ℕ → List ℕ → Type 0
  Own b mid out' =
      Spanned (λ t. besides g.shape.m g.shape.n (byte g.shape s t) p side d side (d + g.walk) ⊕ cond (ltb (d + g.walk) g.shape.m) (get_or mid (b + t) 0) 0) mid out' at g.shape.w

  abbrev Left : ℕ → ℕ → List ℕ → Type 0
  Left i h out' = (length out' ≡ length out) × ((v : ℕ → ℕ → ℕ → ℕ) → Solved g s v → Stores g v i h out out')

  pub left_alone : (b : ℕ) (out' : List ℕ) → p ≡ chain_of g side d → g.shape.m ≤ d + g.walk → Own b out out' → Left side d out'
  left_alone b out' ep far own = (own.long, λ v sol. stores_alone g s v sol side d r.side_is r.column r.high p b at ep ea out out out' own far)

  pub left_after : (b : ℕ) (mid out' : List ℕ) → p ≡ chain_of g side d → d + g.walk < g.shape.m → b ≡ spot g (1 - side) (d + g.walk)
      → Left (1 - side) (d + g.walk) mid → Own b mid out' → Left side d out'
  left_after b mid out' ep near eb asked own =
      (own.long ∙ asked.0, λ v sol. stores_after g s v sol side d r.side_is r.column r.high p b at ep ea out mid out' own near eb (asked.1 v sol))
