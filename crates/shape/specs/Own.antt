-- THE CALLER'S OWN BYTES (document 01): a part is "handed out as the caller's own bytes, never as a copy". Definitions only.
use Rattle.std.specs.Prelude.{◌≡◌, List, ℕ, ◌+◌}
use Rattle.std.specs.Borrow.{Bor}

-- the part r lies in the same memory as s, `from` bytes on
pub record PartOf (s r : Bor (List ℕ)) (from : ℕ) : Type 0 where
  pub block : r.ref_ptr.0 ≡ s.ref_ptr.0
  pub start : r.ref_ptr.1 ≡ s.ref_ptr.1 + from
