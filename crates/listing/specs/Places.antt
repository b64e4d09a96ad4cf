-- THE PLACES OF A CHAIN'S SYMBOLS, in a list for the longest chain. Definitions only.
use Rattle.std.specs.Prelude.{◌≡◌, ℕ, ◌+◌, ◌-◌, ◌*◌, ◌%◌, ◌^◌, ◌<◌, ◌≤◌, List, length, slice_index, slice_index_or}
use Rattle.shape.specs.declared.Shape.{Shape}
use Rattle.shape.specs.Good.{size}
use Rattle.shape.specs.Place.{place}
use Rattle.shape.specs.Step.{left, right}

-- of the heights below e of chain p the list has where the symbols start: of height d the left one at 2d - 2, the right one at 2d - 1
pub record Listed (sh : Shape) (p e : ℕ) (list : List ℕ) : Type 0 where
  pub long : length list ≡ 32
  pub lefts : (d : ℕ) → 1 ≤ d → d < e → slice_index list (2 * d - 2) ≡ place sh d (left sh.n p d) 0
  pub rights : (d : ℕ) → 1 ≤ d → d < e → slice_index list (2 * d - 1) ≡ place sh d (right sh.n p d) 0

-- of all heights of chain p, and of its parity symbol at 2m - 2
pub record Laid (sh : Shape) (p : ℕ) (list : List ℕ) : Type 0 where
  pub information : Listed sh p sh.m list
  pub parity : slice_index_or list (2 * sh.m - 2) 0 ≡ place sh 0 p 0

-- the table of a shape: the list of its first chain that does not wrap
abbrev pub Table : Shape → List ℕ → Type 0
Table sh list = Laid sh (sh.m - 1) list

-- every entry is further by the same number, modulo 65,536
pub record Moved (list : List ℕ) (by : ℕ) (to : List ℕ) : Type 0 where
  pub long : length to ≡ 32
  pub each : (i : ℕ) → i < 32 → slice_index to i ≡ (slice_index list i + by) % 2 ^ 16

-- of chain p the list has where the parity symbol starts, and every symbol before the wrap on its side;
-- the symbols beyond it are a stripe's length too low on the left, and as much too high on the right, modulo 65,536
pub record Straight (sh : Shape) (p : ℕ) (list : List ℕ) : Type 0 where
  pub long : length list ≡ 32
  pub lefts : (d : ℕ) → 1 ≤ d → d < sh.m → d ≤ p → slice_index list (2 * d - 2) ≡ place sh d (left sh.n p d) 0
  pub rights : (d : ℕ) → 1 ≤ d → d < sh.m → p + d < sh.n → slice_index list (2 * d - 1) ≡ place sh d (right sh.n p d) 0
  pub lefts_beyond : (d : ℕ) → d < sh.m → p < d → (slice_index list (2 * d - 2) + size sh) % 2 ^ 16 ≡ place sh d (left sh.n p d) 0
  pub rights_beyond : (d : ℕ) → 1 ≤ d → d < sh.m → sh.n ≤ p + d → slice_index list (2 * d - 1) ≡ (place sh d (right sh.n p d) 0 + size sh) % 2 ^ 16
  pub parity : slice_index_or list (2 * sh.m - 2) 0 ≡ place sh 0 p 0

-- i is start, or start + 2, and so on below end
abbrev pub EverySecond : ℕ → ℕ → ℕ → Type 0
EverySecond start end i = (start ≤ i) × (i < end) × ((i - start) % 2 ≡ 0)

-- every second entry from start on, below end, is further by the same number, modulo 65,536, and the others are as they were
pub record Further (list : List ℕ) (start end by : ℕ) (to : List ℕ) : Type 0 where
  pub long : length to ≡ 32
  pub each : (i : ℕ) → EverySecond start end i → slice_index to i ≡ (slice_index list i + by) % 2 ^ 16
  pub others : (i : ℕ) → ¬ EverySecond start end i → slice_index to i ≡ slice_index list i
