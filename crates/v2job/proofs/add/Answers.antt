use mathlib.Core.Path.{◌≡◌, ap}
use mathlib.Core.List.{List, ◌++◌}
use Prim.Native.Nat.{ℕ, ◌+◌, ◌-◌, ◌≤◌}
use native.Mathlib.Nat.{le_refl}
use native.Mathlib.Omega.{arith}
use borrow.Author.Rules.{rules}
use borrow.Rule.Slice.PartMut.{mid_of, mid_len, post_of}
use lib.ListN.{length, take, drop, length-append}
use Rattle.line.specs.Printed.{text, longest_line}
use Rattle.v2job.proofs.WaitingLaws.{lines_added}
use Rattle.v2job.proofs.add.Goals as goal
use Rattle.v2job.proofs.add.Goals.{After-make_room-ready}

-- `add`: the line is printed after what waits, and the longest one has room there.
-- the part of the buffer after what waits
abbrev part : After-make_room-ready → List ℕ
part c = let s = c.args.output.now in mid_of c.make_room-ready.result.filled (length s - c.make_room-ready.result.filled) s

part-long : (c : After-make_room-ready) → length (part c) ≡ length c.args.output.now - c.make_room-ready.result.filled
part-long c = mid_len c.make_room-ready.result.filled _ c.args.output.now (le_refl _)

-- the longest line has room there
roomy : (c : After-make_room-ready) → longest_line ≤ length (part c)
roomy c = omega (arith, c.make_room-ready.ensures.roomy, part-long c)

pub returns : goal.returns
returns c =
    let room = (goal.at.returns c).After-make_room-ready in
    let line = text c.args.line in
    let s = c.args.output.now in
    let from = c.make_room-ready.result.filled in
    let whole = c.print-more.ensures.whole (roomy room) in
    let kept : length c.print-more.new.out ≡ length (part room) = c.print-more.auto.out in
    let fits : from + c.print-more.result ≤ length s = omega (arith, part-long room, c.make_room-ready.ensures.roomy, kept, whole.0, ap length whole.1, length-append line (drop (length line) (part room))) in
    let long : length (take from s ++ (c.print-more.new.out ++ post_of from (length s - from) s)) ≡ length s = search rules in
    record {
      collects = record { to = omega (arith, long, fits); roomy = omega (arith, long, c.make_room-ready.ensures.roomy) };
      from = from;
      since = c.make_room-ready.ensures.same;
      lines = rw whole.0 (lines_added from s c.print-more.new.out line (drop (length line) (part room)) (omega (arith, c.make_room-ready.ensures.roomy)) whole.1);
    }
