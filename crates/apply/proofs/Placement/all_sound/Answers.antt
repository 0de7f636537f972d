-- `Placement::all_sound` meets its contract.
use Rattle.std.proofs.Common.{length, ◌/◌, refl, ◌∙◌, arith, rules}
use borrow.Author.Tests.{tests}
use Rattle.std.proofs.lemmas.Iterator.{YieldsList-from_range}
use Rattle.std.proofs.lemmas.Iterator.Search.{all_from_yields_List}
use Rattle.apply.specs.Apply.{sound}
use Rattle.apply.specs.Standing.{placed}
use Rattle.apply.proofs.Loops.{asked, all_asked}
use Rattle.apply.proofs.Placement.all_sound.Goals as goal

pub returns : goal.returns
unfolding sound
returns c =
    let a = c.args in
    let test = sound (placed a.self.now) a.size in
    all_from_yields_List (asked a.relocs.now test) _ _ _ c.all.ensures.ran (YieldsList-from_range _ _ (length a.relocs.now / 5) refl (omega arith)) (λ x b q k. search (rules, tests))
    ∙ all_asked a.relocs.now test
