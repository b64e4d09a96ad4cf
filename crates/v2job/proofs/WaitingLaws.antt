-- Laws of the buffers where bytes wait. To cite: lines_added, a line put after those that wait; kept_all and kept_front, the bytes that wait still wait; shows_collects.
use mathlib.Core.Path.{◌≡◌, sym, ap, ◌∙◌}
use Rattle.std.specs.Prelude.{Option, None, Some}
use mathlib.Core.List.{List, ◌++◌}
use Prim.Native.Nat.{ℕ, ◌+◌, ◌-◌, ◌≤◌}
use native.Mathlib.Nat.{le_refl}
use native.Mathlib.Omega.{arith}
use borrow.Rule.Slice.PartMut.{put_mid, take_put}
use lib.ListN.{length, take, drop, length-append}
use lib.Seq.{length-take-le, take-take, take-append-add, take-append-le, take-append_seam}
use Rattle.line.specs.declared.Line.{Line}
use Rattle.v2job.specs.declared.Shelf.{Shelf}
use Rattle.v2job.specs.Waiting.{Collects, Shows}

-- the first bytes of a part that was lent from `from` on
pub lines_added : (from : ℕ) (s part line rest : List ℕ) → from ≤ length s → part ≡ line ++ rest → take (from + length line) (put_mid from (length s - from) s part) ≡ take from s ++ line
lines_added from s part line rest fit e =
    let front = take from s in
    let back = drop (length s - from) (drop from s) in
    let long : from ≡ length front = sym (length-take-le from s fit) in
    let within : length line ≤ length (line ++ rest) = omega (arith, length-append line rest) in
    ap (λ (j : ℕ). take (j + length line) (front ++ (part ++ back))) long ∙ take-append-add front (part ++ back) (length line)
    ∙ ap (λ (xs : List ℕ). front ++ xs) (ap (λ (xs : List ℕ). take (length line) (xs ++ back)) e ∙ take-append-le (length line) (line ++ rest) back within ∙ take-append_seam line rest)

-- nothing was read: all that waited waits
pub kept_all : (start end : ℕ) (s : List ℕ) → take (end - start) (take (end - start) (drop start s)) ≡ take (end - start) (drop start s)
kept_all start end s = take-take (end - start) (end - start) (drop start s) (le_refl (end - start))

-- the bytes that waited, moved to the front of the buffer s₁, are the first of what waits when the part from `len` on was read into
pub kept_front : (start end len more : ℕ) (s s₁ part : List ℕ) → len ≡ end - start → len ≤ length s₁ → take len s₁ ≡ take len (drop start s)
    → take (end - start) (take (len + more - 0) (drop 0 (put_mid len (length s₁ - len) s₁ part))) ≡ take (end - start) (drop start s)
kept_front start end len more s s₁ part e fit moved = rw (sym e) (take-take len (len + more - 0) (put_mid len (length s₁ - len) s₁ part) (omega arith) ∙ take_put len (length s₁ - len) s₁ part fit ∙ moved)

-- lines wait inside their buffer, whether one was added or not
pub shows_collects : (line : Option Line) (f : Shelf) (s : List ℕ) (f' : Shelf) (s' : List ℕ) → Shows line f s f' s' → Collects f (length s) → Collects f' (length s')
shows_collects (Some l) f s f' s' h c = h.collects
shows_collects None f s f' s' h c = rw h.0 (rw h.1 c)
