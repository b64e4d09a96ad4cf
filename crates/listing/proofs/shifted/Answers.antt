use Rattle.std.proofs.Common.{◌≡◌, ℕ, ◌-◌, ◌*◌, ◌<◌, ap, arith}
use Rattle.shape.specs.declared.Shape.{Shape}
use Rattle.shape.specs.Good.{Good}
use Rattle.shape.specs.Place.{column_length}
use Rattle.listing.proofs.PlacesLaws.{top_in, start_fits, straight_of}
use Rattle.listing.proofs.shifted.Goals as goal

-- `shifted`: the table moved by as many columns as there are from its chain to p.
-- a column's start, by the column's length as the code has it
starts : (sh : Shape) → Good sh → (c r : ℕ) → c < sh.n → r ≡ column_length sh → c * r < 65536
starts sh good c r h e = let f : c * r ≡ c * column_length sh = ap (λ (z : ℕ). c * z) e in omega (arith, f, start_fits sh good c h)

pub overflow_cast-here : goal.overflow_cast-here
overflow_cast-here c = omega (arith, starts c.args.sh c.requires.0 c.args.p c.column_length-column.result c.requires.1 c.column_length-column.ensures.is)

pub overflow_cast-there : goal.overflow_cast-there
overflow_cast-there c = omega (arith, starts c.args.sh c.requires.0 (c.args.sh.m - 1) c.column_length-column.result (top_in c.args.sh c.requires.0) c.column_length-column.ensures.is)

pub returns : goal.returns
returns c =
    let a = c.args in
    let k = c.column_length-column.result in
    let is = c.column_length-column.ensures.is in
    let here : a.p * k ≡ a.p * column_length a.sh = ap (λ (z : ℕ). a.p * z) is in
    let there : (a.sh.m - 1) * k ≡ (a.sh.m - 1) * column_length a.sh = ap (λ (z : ℕ). (a.sh.m - 1) * z) is in
    let here_in = starts a.sh c.requires.0 a.p k c.requires.1 is in
    let there_in = starts a.sh c.requires.0 (a.sh.m - 1) k (top_in a.sh c.requires.0) is in
    straight_of a.sh c.requires.0 a.p _ c.requires.1 a.list.now _ c.requires.2 (omega (arith, here, there, here_in, there_in)) c.moved.ensures
