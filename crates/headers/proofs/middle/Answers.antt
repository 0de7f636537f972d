-- `middle` stores its four fields.
use mathlib.Core.Path.{◌∙◌}
use native.Mathlib.Omega.{arith}
use lib.ListN.{length-append}
use borrow.Author.Rules.{rules}
use Rattle.format.proofs.PutLaws.{◌then◌}
use Rattle.rows.proofs.Signs.{passed}
use Rattle.headers.specs.Kinds.{middle}
use Rattle.headers.proofs.Words.{word_bounds}
use Rattle.headers.proofs.middle.Goals as goal

pub ending-a-requires : goal.ending-a-requires
unfolding middle
ending-a-requires c = omega (arith, simp length-append at c.requires)

pub uleb-b-requires : goal.uleb-b-requires
unfolding middle
uleb-b-requires c = let h = simp length-append at c.requires in search rules

pub sleb-c-requires : goal.sleb-c-requires
unfolding middle
sleb-c-requires c =
    let h = simp length-append at c.requires in
    rw (passed c.data_factor.result c.data_factor.type_inv ∙ c.data_factor.ensures) (search rules)

pub uleb-requires : goal.uleb-requires
unfolding middle
uleb-requires c =
    let h = simp length-append at c.requires in
    let s = rw (passed c.data_factor.result c.data_factor.type_inv ∙ c.data_factor.ensures) at c.sleb-c.ensures in
    search rules

pub returns : goal.returns
unfolding middle
returns c =
    c.ending-a.ensures
    then c.uleb-b.ensures
    then (rw (passed c.data_factor.result c.data_factor.type_inv ∙ c.data_factor.ensures) at c.sleb-c.ensures)
    then c.uleb.ensures

pub data_factor-requires : goal.data_factor-requires
data_factor-requires c = (word_bounds c.args.f.now.machine.now.word c.args.f.now.sound.machine.is_word).1
