-- THE SHAPE HELD: the accepted one, and the part of the buffer that is its stripe. Definitions only.
use Rattle.std.specs.Prelude.{◌≡◌, ◌⊎◌, ℕ, ◌≤◌, None, Some}
use Rattle.shape.specs.declared.Shape.{Shape}
use Rattle.shape.specs.Good.{Good, size}
use Rattle.kinds.specs.Kinds.{Held, Shapeless}

-- what is held, the accepted shape looked for: there is none, or it is this one
abbrev pub Accepted : Held → Held → Type 0
Accepted h None = Shapeless h
Accepted h (Some sh) = (h ≡ Some sh) × Good sh

-- r bytes of a buffer of `room` bytes are the stripe of a shape, all of them where the buffer is too short
pub record Front (sh : Shape) (room r : ℕ) : Type 0 where
  pub inside : r ≤ room
  pub most : r ≤ size sh
  pub whole : (r ≡ size sh) ⊎ (r ≡ room)
