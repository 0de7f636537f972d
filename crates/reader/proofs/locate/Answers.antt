-- `reader::locate` meets its contract.
use Rattle.reader.proofs.Asked.{not_laid, laid}
use Rattle.reader.proofs.locate.Goals as goal

pub returns-in_default : goal.returns-in_default
returns-in_default c = not_laid _ _ _ _ _ (rw c.in_default.is at c.section_of.ensures)

pub returns : goal.returns
returns c =
    let a = c.args in
    let d = rw c.in-Some.is at c.section_of.ensures in
    rw (laid a.section.now a.relocations.now a.kind a.word a.k d.2.0) (rw (d.0, d.1, d.2.1, d.2.2) at c.locate.ensures)
