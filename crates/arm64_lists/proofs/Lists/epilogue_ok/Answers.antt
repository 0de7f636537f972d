-- `Lists::epilogue_ok` meets its contract.
use Rattle.arm64.specs.Writer.{epilogue_ok_at}
use Rattle.arm64_lists.proofs.Lists.epilogue_ok.Goals as goal

pub returns : goal.returns
unfolding epilogue_ok_at
returns c = rw (c.number.ensures, c.number-2.ensures) at c.codes_ok_in.ensures
