-- `call_sites::Entry::put` meets its contract.
use mathlib.Core.Path.{refl}
use native.Mathlib.Omega.{arith}
use Rattle.format.specs.CallSiteReader.{site_of}
use Rattle.format.proofs.Copied.{copied}
use Rattle.call_sites.specs.Listed.{landing_numbers}
use Rattle.call_sites.proofs.Entry.put.Goals as goal

pub returns : goal.returns
unfolding landing_numbers site_of
returns c = (copied {n = 3} c.copy_from_slice.ensures.after refl (omega arith) c.requires).stored
