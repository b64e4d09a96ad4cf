-- `column`: refused, the empty part; done, the part of the stripe from column·m·w on, which ends inside the stripe.
use mathlib.Core.Path.{◌≡◌, refl}
use Prim.Native.Nat.{◌+◌, ◌*◌, ◌≤◌}
use native.Mathlib.Omega.{arith}
use lib.ListN.{length}
use Rattle.shape.specs.Good.{Good, size}
use Rattle.shape.proofs.Asked.{done_stripe}
use Rattle.handing.proofs.Guards.{guard_stops, guard_passes}
use Rattle.handing.proofs.HandedLaws.{column_ends, column_part, handed_stop, handed_6, handed_done}
use Rattle.handing.proofs.column.Goals as goal
use Rattle.handing.proofs.column.Goals.{After-column_length-length, Else-is_err, then-is_err-via-then-is_err, then-is_err-via-else-is_err+then-shape-column}

-- past the guard the shape is good and the stripe is of its length
whole : (c : Else-is_err) → let s = c.args in Good s.shape × (length s.stripe.now ≡ size s.shape)
whole c = done_stripe _ _ _ c.accept_stripe.ensures (guard_passes _ _ c.is_err.ensures.value c.if-is_err.false)

-- the code's sums end inside the stripe
ends : (c : After-column_length-length)
    → let a = c.args in a.column * c.column_length-length.result + c.column_length-length.result ≤ size a.shape
ends c = let a = c.args in
    rw c.column_length-length.ensures.is (column_ends a.shape a.column (omega arith))

pub returns-then-is_err : goal.returns-then-is_err
returns-then-is_err c = elim c.then-is_err.branch [
  | then-is_err-via-then-is_err w ↦ handed_stop _ _ _ _ _ c.accept_stripe.ensures (guard_stops _ _ c.is_err.ensures.value w.if-is_err.true) refl
  | then-is_err-via-else-is_err+then-shape-column w ↦
      let (good, len) = done_stripe _ _ _ c.accept_stripe.ensures (guard_passes _ _ c.is_err.ensures.value w.if-is_err.false) in
      handed_6 _ _ _ _ good len w.if-shape-column.true refl
]

pub column_length-length-requires : goal.column_length-length-requires
column_length-length-requires c = (whole (goal.at.column_length-length-requires c).Else-is_err).0

pub overflow_mul-at : goal.overflow_mul-at
overflow_mul-at c = let e = ends c in omega (arith, c.column_length-length.ensures.small)

pub overflow_add-end : goal.overflow_add-end
overflow_add-end c = let e = ends c in omega (arith, c.column_length-length.ensures.small)

pub slice_bounds-result-end-2 : goal.slice_bounds-result-end-2
slice_bounds-result-end-2 c = let e = ends c in let w = whole (goal.at.slice_bounds-result-end-2 c).Else-is_err in omega (arith, w.1)

pub returns : goal.returns
returns c =
    let (good, len) = whole (goal.at.returns c).Else-is_err in
    handed_done _ _ _ _ good len (omega arith) (column_part _ _ _ _ c.column_length-length.ensures.is)
    (record { block = refl; start = rw c.column_length-length.ensures.is (omega arith) })
