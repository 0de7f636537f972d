-- `Header::first_word` meets its contract.
use Rattle.arm64_header.proofs.Forms.{first_single, first_plain}
use native.Mathlib.Omega.{arith}
use Rattle.arm64_header.proofs.Header.first_word.Goals as goal

pub returns-in-Single : goal.returns-in-Single
returns-in-Single c = (rw c.in-Single.is (first_single c.args.self.length), omega (arith, c.requires))

pub returns-in-Scoped : goal.returns-in-Scoped
returns-in-Scoped c = (rw c.in-Scoped.is (first_plain c.args.self.length), omega (arith, c.requires))
