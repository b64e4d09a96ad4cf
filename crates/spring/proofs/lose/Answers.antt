-- `lose`: the columns that are not lost are copied and stay.
use Rattle.spring.proofs.Told.{spoilt_told}
use Rattle.spring.proofs.lose.Goals as goal

pub returns : goal.returns
returns c = spoilt_told c.copy_from_slice.new.self c.spoil.new.s c.copy_from_slice.ensures.after c.spoil.ensures c.spoil-2.ensures
