-- `Checked::put_infos` meets its contract.
use Rattle.arm64_table.proofs.Loops.{describing, mark_room, info_room, described, all_marked, all_described}
use Rattle.arm64_table.proofs.Checked.put_infos.Goals as goal

pub loop-k-init : goal.loop-k-init
loop-k-init c = describing _ _ c.requires.0 c.requires.1

pub put_info-past-requires : goal.put_info-past-requires
put_info-past-requires c = (c.args.self.now.fine.each_one _ c.loop-k-test.true, info_room c.loop-k.invariant c.loop-k-test.true)

pub number-requires : goal.number-requires
number-requires c = mark_room c.loop-k.invariant c.loop-k-test.true

pub loop-k-preserved : goal.loop-k-preserved
loop-k-preserved c = described c.loop-k.invariant c.loop-k-test.true c.put_info-past.ensures c.mark.ensures c.number.ensures

pub shape_of-markers : goal.shape_of-markers
shape_of-markers c = c.loop-k.invariant.marks_in.left.kept

pub shape_of-info : goal.shape_of-info
shape_of-info c = c.loop-k.invariant.infos_in.left.kept

pub returns : goal.returns
returns c = (all_marked c.loop-k.invariant c.loop-k-test.false, all_described c.loop-k.invariant c.loop-k-test.false)
