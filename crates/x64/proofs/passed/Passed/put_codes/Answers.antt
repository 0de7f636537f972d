-- `passed::Passed::put_codes` meets its contract.
use mathlib.Core.Path.{ap, ◌∙◌}
use native.Mathlib.Omega.{arith}
use Rattle.x64.specs.Given.{codes_left}
use Rattle.x64.proofs.Infos.{agreed}
use Rattle.x64.proofs.Walks.{putting, put_asked, put_low, put_room, put_turn, all-put}
use Rattle.x64.proofs.passed.Passed.put_codes.Goals as goal

pub loop-c-init : goal.loop-c-init
loop-c-init c =
    let e = ap codes_left c.into_iter-c-iterator.ensures.into_iter_gives ∙ c.codes-c-items.ensures in
    putting e (omega (arith, c.requires.0)) c.requires.1 (agreed _ _ c.args.self.now.passed).codes

pub nodes-n-requires : goal.nodes-n-requires
nodes-n-requires c = put_asked c.loop-c.invariant c.in-Some.ensures.steps

pub overflow_sub-to : goal.overflow_sub-to
overflow_sub-to c = put_low c.loop-c.invariant c.in-Some.ensures.steps c.nodes-n.ensures

pub put_nodes-requires : goal.put_nodes-requires
put_nodes-requires c = (c.nodes-n.ensures.most, put_room c.loop-c.invariant c.in-Some.ensures.steps c.nodes-n.ensures)

pub loop-c-preserved : goal.loop-c-preserved
loop-c-preserved c = put_turn c.loop-c.invariant c.in-Some.ensures.steps c.nodes-n.ensures c.put_nodes.ensures

pub shape_of-out : goal.shape_of-out
shape_of-out c = c.loop-c.invariant.kept

pub returns : goal.returns
returns c = rw c.requires.0 (all-put c.loop-c.invariant c.in-None.ensures.steps.0)
