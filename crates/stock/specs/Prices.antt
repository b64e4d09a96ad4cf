-- PRICE LIST (document 01): "for a shape, in symbol XORs". Definitions only.
use Rattle.std.specs.Prelude.{◌≡◌, ℕ, ◌-◌, ◌*◌, Result, Ok, Err}
use Rattle.shape.specs.declared.Shape.{Shape}
use Rattle.stock.specs.declared.Priced.{Priced}
use Rattle.answer.specs.declared.Refusal.{Refusal}
use Rattle.answer.specs.Answers.{number}
use Rattle.shape.specs.Refusals.{shape_table}
use Rattle.answer.specs.Outcome.{Outcome}

-- "encode n(2m-3)"
unfoldable pub encode_price : Shape → ℕ
encode_price sh = sh.n * (2 * sh.m - 3)

-- "one column m(2m-3)"
unfoldable pub one_price : Shape → ℕ
one_price sh = sh.m * (2 * sh.m - 3)

-- "two columns 2m(2m-3)"
unfoldable pub two_price : Shape → ℕ
two_price sh = 2 * sh.m * (2 * sh.m - 3)

-- "The symbols read for one column are taken from document 002: 2m(m-1)-1."
unfoldable pub symbols_read : Shape → ℕ
symbols_read sh = 2 * sh.m * (sh.m - 1) - 1

abbrev pub Four : Type 0
Four = ℕ × ℕ × ℕ × ℕ

-- the figures of a price list; those of a refused call are 0
abbrev pub figures : Result Priced Refusal → Four
figures (Ok list) = (list.encode, list.one, list.two, list.reads)
figures (Err refusal) = (0, 0, 0, 0)

abbrev pub Prices : Shape → Result Priced Refusal → Type 0
Prices sh r =
    Outcome (shape_table sh) (0, 0, 0, 0) (λ (x : Four). x ≡ (encode_price sh, one_price sh, two_price sh, symbols_read sh)) (number r) (figures r)
