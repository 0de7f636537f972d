-- `letters_size` goes by the personality.
use native.Mathlib.Omega.{arith}
use Rattle.format.specs.Headers.{letters}
use Rattle.headers.proofs.Lengths.{bit_low, letters-length}
use Rattle.headers.proofs.Personalities.{names, names_none}
use Rattle.headers.proofs.Head.letters_size.Goals as goal

pub returns-in-Some : goal.returns-in-Some
returns-in-Some c = (
  rw ((names c.args.self.now.extent.now c.personality.ensures c.in-Some.is).lettered, letters-length c.in-Some.p)
      (omega (arith, rw c.is_some.ensures at c.from.ensures)),
  omega (arith, c.from.ensures, bit_low c.is_some.result),
)

pub returns-in-None : goal.returns-in-None
unfolding letters
returns-in-None c = (rw (names_none c.args.self.now.extent.now c.personality.ensures c.in-None.is).0, omega arith)
