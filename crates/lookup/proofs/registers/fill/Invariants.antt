use Rattle.std.specs.Prelude.{length}
use Rattle.reads.specs.Places.{rules_of}
use Rattle.lookup.specs.Registers.{registers_in}
use Rattle.lookup.proofs.Listing.{Listing}
use Rattle.lookup.proofs.registers.fill.Given as goal

abbrev pub invariant-loop-q : goal.invariant-loop-q
invariant-loop-q l = Listing (λ q. rules_of l.section l.located q l.p) (registers_in (length l.initial.rules)) l.initial.rules l.rules l.q
