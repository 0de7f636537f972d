-- `arm64_back::read_both_forms` meets its contract.
use Rattle.arm64_back.proofs.Together.{packed_as_full}
use Rattle.arm64_back.proofs.read_both_forms.Goals as goal

pub returns-clause-same : goal.returns-clause-same
returns-clause-same c =
    let x = c.unwind_read_arm64-packed.ensures in
    let y = c.unwind_read_arm64-full.ensures in
    packed_as_full c.args.word c.args.xdata.now c.args.place
    (record { reading = x.value; epilogues = x.epilogues_after; codes = x.codes_after })
    (record { reading = y.value; epilogues = y.epilogues_after; codes = y.codes_after })
