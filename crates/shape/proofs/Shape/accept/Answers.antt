use mathlib.Core.Logic.{inl, inr}
use native.Mathlib.Omega.{arith}
use Rattle.shape.specs.Good.{size}
use Rattle.answer.specs.Answers.{refusal_number, number}
use Rattle.shape.proofs.GoodLaws.{shape_done, shape_1, shape_2, shape_3}
use Rattle.shape.proofs.Shape.accept.Goals as goal

-- `Shape::accept` is the table of the shape, row by row: each return is the first row that applies, and no product is taken before its ranges.
pub returns-then-m-lt-FEWEST_ROWS : goal.returns-then-m-lt-FEWEST_ROWS
unfolding number refusal_number
returns-then-m-lt-FEWEST_ROWS c = shape_1 _ (inl (omega arith))

pub returns-then-m-gt-MOST_ROWS : goal.returns-then-m-gt-MOST_ROWS
unfolding number refusal_number
returns-then-m-gt-MOST_ROWS c = shape_1 _ (inr (omega arith))

pub returns-then-n-m : goal.returns-then-n-m
unfolding number refusal_number
returns-then-n-m c = shape_2 _ (omega arith) (inl (omega arith))

pub returns-then-n-gt-MOST_COLUMNS : goal.returns-then-n-gt-MOST_COLUMNS
unfolding number refusal_number
returns-then-n-gt-MOST_COLUMNS c = shape_2 _ (omega arith) (inr (omega arith))

pub returns-then-w-lt-SHORTEST_SYMBOL : goal.returns-then-w-lt-SHORTEST_SYMBOL
unfolding number refusal_number
returns-then-w-lt-SHORTEST_SYMBOL c = shape_3 _ (omega arith) (omega arith) (inl (inl (omega arith)))

pub returns-then-w-gt-LONGEST_SYMBOL : goal.returns-then-w-gt-LONGEST_SYMBOL
unfolding number refusal_number
returns-then-w-gt-LONGEST_SYMBOL c = shape_3 _ (omega arith) (omega arith) (inl (inr (omega arith)))

pub returns-then-m-n-gt-LARGEST_STRIPE : goal.returns-then-m-n-gt-LARGEST_STRIPE
unfolding number refusal_number size
returns-then-m-n-gt-LARGEST_STRIPE c = shape_3 _ (omega arith) (omega arith) (inr (omega arith))

pub returns : goal.returns
unfolding number refusal_number size
returns c = (shape_done _).0 (record { m_fits = omega arith; n_fits = omega arith; w_fits = omega arith; all_fits = omega arith })
