-- `header_size` adds up.
use Prim.Native.Nat.{◌+◌}
use native.Mathlib.Omega.{arith}
use Rattle.format.proofs.EntryBack.{padding_small}
use Rattle.headers.proofs.Words.{word_bounds}
use Rattle.headers.proofs.Turns.{starts_short}
use Rattle.headers.proofs.Keys.{header_length}
use Rattle.headers.proofs.header_size.Goals as goal

pub invariant_of-head : goal.invariant_of-head
invariant_of-head c = record { small = (word_bounds c.args.f.now.machine.now.word c.args.f.now.sound.machine.is_word).1 }

pub overflow_add-n-2 : goal.overflow_add-n-2
overflow_add-n-2 c = omega (arith, c.starts_size.ensures, starts_short c.args.f.now.machine.now c.args.f.now.extent c.args.f.now.rows.now c.args.f.now.sound, c.fields_size.ensures.1)

pub overflow_add-at : goal.overflow_add-at
overflow_add-at c = omega (arith, c.starts_size.ensures, starts_short c.args.f.now.machine.now c.args.f.now.extent c.args.f.now.rows.now c.args.f.now.sound, c.fields_size.ensures.1, c.requires)

pub overflow_add-result : goal.overflow_add-result
overflow_add-result c =
    omega (
      arith,
      c.starts_size.ensures,
      starts_short c.args.f.now.machine.now c.args.f.now.extent c.args.f.now.rows.now c.args.f.now.sound,
      c.fields_size.ensures.1,
      c.padding.ensures,
      padding_small c.args.f.now.align (c.args.at + (4 + c.fields_size.result + c.starts_size.result)) c.args.f.now.aligned.some_bytes,
      c.args.f.now.aligned.at_most_8,
    )

pub returns : goal.returns
returns c =
    rw (header_length c.args.f.now.machine.now c.args.f.now.extent c.args.f.now.rows.now c.args.f.now.debug c.args.f.now.align c.args.at, ← c.fields_size.ensures.0, ← c.starts_size.ensures, ← c.padding.ensures)
