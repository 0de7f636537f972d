-- `named_data` stores its four parts.
use native.Mathlib.Omega.{arith}
use lib.ListN.{length-append, length-replicate}
use borrow.Author.Rules.{rules}
use Prim.Native.Nat.{ℕ}
use Rattle.format.proofs.PutLaws.{◌then◌}
use Rattle.headers.specs.Kinds.{named_data}
use Rattle.headers.proofs.named_data.Goals as goal

pub byte-a-requires : goal.byte-a-requires
unfolding named_data
byte-a-requires c = omega (arith, c.requires.1)

pub fill-b-requires : goal.fill-b-requires
unfolding named_data
fill-b-requires c = let h = simp (length-append, length-replicate {A = ℕ} c.args.size 0) at c.requires.1 in search rules

pub lsda_letter-c-requires : goal.lsda_letter-c-requires
unfolding named_data
lsda_letter-c-requires c =
    let h = simp length-append at c.requires.1 in
    (c.requires.0.1, search rules)

pub byte-requires : goal.byte-requires
unfolding named_data
byte-requires c = let h = simp length-append at c.requires.1 in search rules

pub returns : goal.returns
unfolding named_data
returns c = c.byte-a.ensures then c.fill-b.ensures then c.lsda_letter-c.ensures then c.byte.ensures
