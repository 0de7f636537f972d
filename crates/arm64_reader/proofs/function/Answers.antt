-- `arm64_reader::function` meets its contract.
use mathlib.Core.Path.{refl, ap}
use native.Mathlib.Omega.{arith}
use Rattle.std.specs.Prelude.{Ok}
use Rattle.arm64.specs.Packed.{packed_epilogue}
use Rattle.arm64.specs.Reader.{unwound}
use Rattle.arm64_records.proofs.Lent.{same}
use Rattle.arm64_reader.proofs.Answers.{refuses, found_none, packed_whole, packed_late, packed_function, whole_counts, whole_stored, no_room, stored}
use Rattle.arm64_reader.proofs.function.Goals as goal

pub returns-then-w-m : goal.returns-then-w-m
unfolding packed_epilogue
returns-then-w-m c = (refuses (found_none c.args.to.now.epilogues.now c.args.to.now.codes.now (packed_late c.args.w.fields c.requires.1 c.requires.0 (omega (arith, c.if-w-m.true, c.count_slots-m.ensures.0)))) refl, same)

pub returns-in_err-room : goal.returns-in_err-room
unfolding packed_epilogue
returns-in_err-room c = (no_room c.args.to.now.epilogues.now c.args.to.now.codes.now (packed_function c.args.w.fields c.requires.1 c.requires.0 (omega (arith, c.if-w-m.false, c.count_slots-m.ensures.0))) (whole_counts c.args.w.fields c.count_slots-n.ensures.0 c.count_slots-m.ensures.0) c.in_err-room.ensures.1 (grind (arith, c.from_residual.ensures, c.in_err-room.ensures.0)), same)

pub returns : goal.returns
unfolding packed_epilogue packed_whole unwound
returns c = (stored c.args.to.now.epilogues.now c.args.to.now.codes.now (packed_function c.args.w.fields c.requires.1 c.requires.0 (omega (arith, c.if-w-m.false, c.count_slots-m.ensures.0))) (whole_counts c.args.w.fields c.count_slots-n.ensures.0 c.count_slots-m.ensures.0) c.in_ok-room.ensures (ap Ok c.reading.ensures) (whole_stored c.args.w.fields c.count_slots-n.ensures.0 c.count_slots-m.ensures.0 c.put_three.ensures c.put_slots.ensures c.put_slots-2.ensures), record { epilogues = refl; codes = refl })
