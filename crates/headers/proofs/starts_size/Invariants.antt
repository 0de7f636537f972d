use Rattle.format.specs.Headers.{leading}
use Rattle.header_keys.specs.Functions.{body_of}
use Rattle.headers.proofs.Turns.{Sizing}
use Rattle.headers.proofs.starts_size.Given as goal

abbrev pub invariant-loop-i : goal.invariant-loop-i
invariant-loop-i l = Sizing l.f.machine.now.word (leading l.f.machine.now (body_of l.f.extent l.f.rows.now)) l.size l.i
