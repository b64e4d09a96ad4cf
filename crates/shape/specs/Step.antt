-- COLUMNS BY STEPS (document 01): columns are "counted modulo n". Definitions only.
use Rattle.std.specs.Prelude.{ℕ, ◌+◌, ◌-◌, ◌%◌}

-- the column c-d
unfoldable pub left : ℕ → ℕ → ℕ → ℕ
left n c d = (c + (n - d)) % n

-- the column c+d
unfoldable pub right : ℕ → ℕ → ℕ → ℕ
right n c d = (c + d) % n
