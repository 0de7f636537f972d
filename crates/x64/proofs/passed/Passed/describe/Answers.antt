-- `passed::Passed::describe` meets its contract.
use Rattle.x64.proofs.Infos.{agreed, described}
use Rattle.codes.proofs.Sizes.{info_parts}
use Rattle.format.proofs.PutLaws.{kept}
use Rattle.x64.specs.Given.{codes_by}
use native.Mathlib.Omega.{arith}
use Rattle.x64.proofs.passed.Passed.describe.Goals as goal

pub overflow_cast-self : goal.overflow_cast-self
overflow_cast-self c = omega (arith, (agreed _ _ c.args.self.now.passed).ends)

pub overflow_cast-held : goal.overflow_cast-held
overflow_cast-held c = omega (arith, c.slots-held.ensures, (agreed _ _ c.args.self.now.passed).few)

pub head-a-requires : goal.head-a-requires
head-a-requires c = omega (arith, c.requires, info_parts c.args.self.now.span.end (codes_by c.args.self.now.span) c.slots-held.ensures)

pub put_codes-b-requires : goal.put_codes-b-requires
put_codes-b-requires c = let e = c.slots-held.ensures in (e, omega (arith, c.requires, info_parts c.args.self.now.span.end (codes_by c.args.self.now.span) e, c.head-a.ensures.past, kept c.head-a.ensures))

pub fill-requires : goal.fill-requires
fill-requires c = let e = c.slots-held.ensures in omega (arith, c.requires, info_parts c.args.self.now.span.end (codes_by c.args.self.now.span) e, c.head-a.ensures.past, kept c.head-a.ensures, c.put_codes-b.ensures.past, kept c.put_codes-b.ensures)

pub returns : goal.returns
returns c = described (codes_by c.args.self.now.span) c.slots-held.ensures c.frame_byte-frame.ensures c.head-a.ensures c.put_codes-b.ensures c.fill.ensures
