-- `Header::put` meets its contract.
use Rattle.format.proofs.LebBack.{little-length}
use mathlib.Core.Path.{sym, ◌∙◌}
use Rattle.arm64.specs.Records.{only_in, count_in}
use Rattle.arm64_header.proofs.Forms.{long_size, short_size, wrote_long, wrote_short}
use native.Mathlib.Omega.{arith}
use Rattle.arm64_header.proofs.Header.put.Goals as goal

pub le-a-requires : goal.le-a-requires
le-a-requires c = omega (arith, c.requires.3, long_size c.args.self.length (only_in c.args.self.epilogues) (count_in c.args.self.epilogues) c.args.self.words (sym c.is_long.ensures ∙ c.if-is_long.true))

pub le-requires : goal.le-requires
le-requires c = omega (arith, c.requires.3, long_size c.args.self.length (only_in c.args.self.epilogues) (count_in c.args.self.epilogues) c.args.self.words (sym c.is_long.ensures ∙ c.if-is_long.true), little-length 4 c.first_word-first.result, c.le-a.ensures.past)

pub returns-then-is_long : goal.returns-then-is_long
returns-then-is_long c = wrote_long _ _ _ _ c.is_long.ensures c.first_word-first.ensures.0 c.count-count.ensures c.if-is_long.true c.le-a.ensures c.le.ensures

pub le-requires-2 : goal.le-requires-2
le-requires-2 c = omega (arith, c.requires.3, short_size c.args.self.length (only_in c.args.self.epilogues) (count_in c.args.self.epilogues) c.args.self.words (sym c.is_long.ensures ∙ c.if-is_long.false))

pub returns : goal.returns
returns c = wrote_short _ _ _ _ c.is_long.ensures c.first_word-first.ensures.0 c.count-count.ensures c.if-is_long.false c.le-2.ensures
