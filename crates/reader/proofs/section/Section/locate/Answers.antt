-- `reader::section::Section::locate` meets its contract.
use mathlib.Core.Path.{◌∙◌}
use Rattle.std.proofs.lemmas.Result.{err_from_is_err_and}
use Rattle.format.specs.Lists.{relocations_of}
use Rattle.format.specs.Prelude.{onward}
use Rattle.reader.proofs.Whole.{locate_both}
use Rattle.reader.proofs.section.Section.locate.Goals as goal

pub returns-in_err-header : goal.returns-in_err-header
unfolding onward
returns-in_err-header c =
    let x = c.args.self.now in
    let p = err_from_is_err_and c.from_residual.result c.from_residual.ensures.1 in
    rw (p.1, p.2) (locate_both x.bytes.now (relocations_of x.relocations.now) x.layout.debug x.layout.word c.args.k ∙ rw c.in_err-header.ensures)

pub parse-requires : goal.parse-requires
parse-requires c = (c.in_ok-header.ensures.0, c.in_ok-header.ensures.1)

pub returns : goal.returns
unfolding onward
returns c =
    let x = c.args.self.now in
    rw (locate_both x.bytes.now (relocations_of x.relocations.now) x.layout.debug x.layout.word c.args.k, c.in_ok-header.ensures.2) c.parse.ensures.located
