-- Where the symbols stand that a chain is tested with: those of the buffer, and the one that a sum is compared with.
-- To cite: one_small, two_small, asked_fits, compared_lt, compared_fits.
use mathlib.Core.Path.{◌≡◌, refl, ◌∙◌}
use mathlib.Core.Bool.{cond}
use mathlib.Core.List.{List}
use Prim.Native.Nat.{ℕ, ◌+◌, ◌≤◌, ◌<◌}
use native.Mathlib.Omega.{arith}
use native.Mathlib.Decide.{dec_lt}
use lib.Dec.{ltb}
use lib.ListN.{length}
use borrow.Author.Tests.{lt-ltb, le-ltb}
use Rattle.shape.specs.Place.{place}
use Rattle.shape.proofs.GoodLaws.{good_m}
use Rattle.shape.proofs.Fits.{place_ends}
use Rattle.solving.specs.declared.Gone.{Gone}
use Rattle.solving.specs.Outer.{base_of}
use Rattle.agreeing.specs.Agreeing.{Patchable}

module _ (g : Gone) (s out : List ℕ) (ok : Patchable g s out) where
  one_fits : (d at : ℕ) → d < g.shape.m → at ≡ g.one + place g.shape d 0 0 → at + g.shape.w ≤ length out
  unfolding base_of
  one_fits d at hd e = omega (arith, (ok.room 0 d (omega arith) hd).0)

  pub two_small : g.two ≤ 262144
  unfolding base_of
  two_small = omega (arith, (ok.room 1 0 (omega arith) (good_m g.shape ok.good)).1)

  pub one_small : g.one ≤ 262144
  unfolding base_of
  one_small = omega (arith, (ok.room 0 0 (omega arith) (good_m g.shape ok.good)).1)

  pub asked_fits : (h b : ℕ) → b ≡ cond (ltb h g.shape.m) (g.two + place g.shape h 0 0) 0 → h < g.shape.m
      → (b + g.shape.w ≤ length out) × (b + g.shape.w ≤ 262144)
  unfolding base_of
  asked_fits h b e l =
      let f : b ≡ g.two + place g.shape h 0 0 = e ∙ rw (lt-ltb h g.shape.m l) refl in
      let z = ok.room 1 h (omega arith) l in (omega (arith, z.0), omega (arith, z.1))

  -- the symbol that is compared is one, and lies in its slice
  pub compared_lt : (d e : ℕ) → e ≡ cond (ltb d g.shape.m) d 0 → e < g.shape.m
  compared_lt d e q = on (dec_lt d g.shape.m)
    where
      on : Dec (d < g.shape.m) → e < g.shape.m
      on (yes l) = let f : e ≡ d = q ∙ rw (lt-ltb d g.shape.m l) refl in omega arith
      on (no l) = let f : e ≡ 0 = q ∙ rw (le-ltb d g.shape.m (omega arith)) refl in omega (arith, good_m g.shape ok.good)

  pub compared_fits : (p d at : ℕ) (u : List ℕ) → p < g.shape.n → u ≡ cond (ltb d g.shape.m) out s
      → at ≡ cond (ltb d g.shape.m) (g.one + place g.shape d 0 0) (place g.shape 0 p 0) → at + g.shape.w ≤ length u
  compared_fits p d at u hp eu ea = on (dec_lt d g.shape.m)
    where
      on : Dec (d < g.shape.m) → at + g.shape.w ≤ length u
      on (yes l) = let t = lt-ltb d g.shape.m l in let f : u ≡ out = eu ∙ rw t refl in rw f (one_fits d at l (ea ∙ rw t refl))
      on (no l) =
          let t = le-ltb d g.shape.m (omega arith) in
          let f : u ≡ s = eu ∙ rw t refl in
          let i : at ≡ place g.shape 0 p 0 = ea ∙ rw t refl in
          rw f (omega (arith, i, ok.whole, place_ends g.shape ok.good 0 p (good_m g.shape ok.good) hp))
