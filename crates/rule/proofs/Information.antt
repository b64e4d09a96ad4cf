-- Two stripes with the same information, whose parity goes by their information in the same way, are the same.
use mathlib.Core.Path.{◌≡◌}
use mathlib.Core.List.{List}
use Prim.Native.Nat.{ℕ, zero, suc, ◌≤◌, ◌<◌}
use native.Mathlib.Omega.{arith}
use lib.ListN.{length}
use Rattle.shape.specs.declared.Shape.{Shape}
use Rattle.shape.specs.Good.{Good, size}
use Rattle.shape.specs.Place.{byte}
use Rattle.shape.proofs.PlaceLaws.{byte_ext}
use Rattle.shape.proofs.GoodLaws.{good_m, good_w, good_room}
use Rattle.rule.specs.Rule.{others}
use Rattle.rule.proofs.ChainLaws.{others_cong}

module _ (sh : Shape) (good : Good sh) (x y : List ℕ) (lx : length x ≡ size sh) (ly : length y ≡ size sh)
    (info : (d c t : ℕ) → 1 ≤ d → d < sh.m → c < sh.n → t < sh.w → byte sh x t d c ≡ byte sh y t d c) where
  pub by_information : ((p t : ℕ) → p < sh.n → t < sh.w → others sh.m sh.n (byte sh x t) p ≡ others sh.m sh.n (byte sh y t) p
      → byte sh x t 0 p ≡ byte sh y t 0 p) → x ≡ y
  by_information parity = byte_ext sh (good_m sh good) (good_w sh good) x y lx ly at
    where
      at : (d c t : ℕ) → d < sh.m → c < sh.n → t < sh.w → byte sh x t d c ≡ byte sh y t d c
      at zero c t hd hc ht = parity c t hc ht
          (others_cong sh.m sh.n (omega (arith, good_room sh good, good_m sh good)) c hc (byte sh x t) (byte sh y t) (λ d j lo hi hj. info d j t lo hi hj ht))
      at (suc d) c t hd hc ht = info (suc d) c t (omega arith) hd hc ht
