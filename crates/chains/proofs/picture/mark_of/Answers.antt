-- `mark_of`: the height of a row of the shape is one of its heights.
use borrow.Author.Rules.{rules}
use Rattle.shape.specs.Place.{height}
use Rattle.chains.proofs.picture.mark_of.Goals as goal

pub left-left-requires : goal.left-left-requires
unfolding height
left-left-requires c = search rules

pub right-right-requires : goal.right-right-requires
unfolding height
right-right-requires c = search rules
