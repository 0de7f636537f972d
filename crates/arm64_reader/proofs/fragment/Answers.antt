-- `arm64_reader::fragment` meets its contract.
use mathlib.Core.Path.{refl, ◌≡◌, ap, ◌∙◌}
use Prim.Native.Nat.{◌+◌}
use native.Mathlib.Omega.{arith}
use Rattle.std.specs.Prelude.{Ok}
use Rattle.arm64.specs.Reader.{unwound}
use Rattle.arm64_records.proofs.Lent.{same}
use Rattle.arm64_reader.proofs.Answers.{packed_part, packed_fragment, part_counts, part_stored, no_room, stored}
use Rattle.arm64_reader.specs.Answers.{roomy}
use Rattle.arm64_reader.proofs.fragment.Goals as goal

pub returns-in_err-room : goal.returns-in_err-room
returns-in_err-room c =
    let z : c.count_slots-n.result + 0 ≡ c.count_slots-n.result = omega arith in
    (no_room c.args.to.now.epilogues.now c.args.to.now.codes.now (packed_fragment c.args.w.fields c.requires.1 c.requires.0) (part_counts c.args.w.fields c.count_slots-n.ensures.0) (ap (roomy c.args.to.now.epilogues.now c.args.to.now.codes.now 0) z ∙ c.in_err-room.ensures.1) (grind (arith, c.from_residual.ensures, c.in_err-room.ensures.0)), same)

pub returns : goal.returns
unfolding packed_part unwound
returns c =
    let z : c.count_slots-n.result + 0 ≡ c.count_slots-n.result = omega arith in
    (stored c.args.to.now.epilogues.now c.args.to.now.codes.now (packed_fragment c.args.w.fields c.requires.1 c.requires.0) (part_counts c.args.w.fields c.count_slots-n.ensures.0) (ap (roomy c.args.to.now.epilogues.now c.args.to.now.codes.now 0) z ∙ c.in_ok-room.ensures) (ap Ok c.reading.ensures) (part_stored c.args.w.fields c.count_slots-n.ensures.0 c.put_slots.ensures.stored), record { epilogues = refl; codes = refl })
