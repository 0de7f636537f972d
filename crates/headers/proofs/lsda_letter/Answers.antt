-- `lsda_letter` stores the LSDA's encoding, if there is one.
use native.Mathlib.Omega.{arith}
use Rattle.format.specs.Headers.{lsda_letter}
use Rattle.format.proofs.PutLaws.{idle}
use Rattle.header_keys.specs.Kinds.{lsda_of}
use Rattle.headers.proofs.lsda_letter.Goals as goal

pub byte-requires : goal.byte-requires
unfolding lsda_letter lsda_of
byte-requires c = omega (arith, rw c.in-Some.is at c.requires.1)

pub returns-in-Some : goal.returns-in-Some
unfolding lsda_letter lsda_of
returns-in-Some c = rw c.in-Some.is c.byte.ensures

pub returns-in-None : goal.returns-in-None
unfolding lsda_letter lsda_of
returns-in-None c = rw c.in-None.is idle
