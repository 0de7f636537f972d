-- `relocs::relocation` stores its five numbers.
use Rattle.format.specs.Lists.{numbers_of}
use Rattle.format.proofs.PutLaws.{◌then◌}
use Rattle.relocs.proofs.relocation.Goals as goal

pub returns : goal.returns
unfolding numbers_of
returns c =
    c.number-a.ensures then c.number-b.ensures then c.number-c.ensures then c.number-d.ensures then c.number.ensures
