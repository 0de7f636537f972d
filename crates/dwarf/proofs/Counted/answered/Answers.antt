-- `dwarf::Counted::answered` meets its contract.
use mathlib.Core.Path.{refl}
use Rattle.header_keys.specs.Inputs.{inputs_of}
use Rattle.dwarf.proofs.Passed.{counted}
use Rattle.dwarf.proofs.Cleared.{cleared}
use Rattle.dwarf.proofs.Whole.{lists_passed, asked_passed, says_all}
use Rattle.dwarf.proofs.Surveying.{behind_say}
use Rattle.dwarf.proofs.Counted.answered.Goals as goal
use Rattle.dwarf.proofs.Counted.answered.Goals.{Start}

pub tried-requires : goal.tried-requires
tried-requires c = c.requires

pub invariant_of-entries : goal.invariant_of-entries
invariant_of-entries c =
    let s = (goal.at.invariant_of-entries c).Start in
    let b = behind_say (inputs_of s.args.self.now.input.now) c.tried.ensures.0 c.in-Some.is in
    record { cleared = cleared (inputs_of s.args.self.now.input.now) s.args.self.now.input.now.fits (counted s.args.self.now.input.now.lists.functions.now s.args.self.now.sums) b.0; owned = b.2 }

pub roomed-requires : goal.roomed-requires
roomed-requires c =
    let s = (goal.at.roomed-requires c).Start in
    (behind_say (inputs_of s.args.self.now.input.now) c.tried.ensures.0 c.in-Some.is).1

pub returns-in-Some : goal.returns-in-Some
returns-in-Some c =
    let s = (goal.at.returns-in-Some c).Start in
    let b = behind_say (inputs_of s.args.self.now.input.now) c.tried.ensures.0 c.in-Some.is in
    (says_all (inputs_of s.args.self.now.input.now) s.args.to.now.places.now s.args.to.now.bytes.now s.args.to.now.relocations.now s.args.to.now.sites.now (lists_passed (inputs_of s.args.self.now.input.now) s.args.self.now.sums b.0) (asked_passed (inputs_of s.args.self.now.input.now) s.args.self.now.sums b.0) refl c.roomed.ensures.0, c.roomed.ensures.1)

pub asked-requires : goal.asked-requires
asked-requires c =
    record { enough = rw c.unchain.ensures.0 c.tried.ensures.1; clear = c.unchain.ensures.1 }

pub returns : goal.returns
returns c = c.asked.ensures
