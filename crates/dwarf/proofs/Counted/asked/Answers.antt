-- `dwarf::Counted::asked` meets its contract.
use mathlib.Core.Bool.{not}
use mathlib.Core.Path.{ap}
use Rattle.std.proofs.lemmas.Result.{err_from_is_err_and}
use Rattle.format.specs.Coded.{numbered_at}
use Rattle.lists.proofs.Lent.{same}
use Rattle.header_keys.specs.Inputs.{inputs_of}
use Rattle.lists.proofs.Answers.{accepted, refused}
use Rattle.dwarf.proofs.Whole.{behind_sums, askable_is, cleared_is, says_13, says_no, says_all}
use Rattle.dwarf.proofs.Counted.asked.Goals as goal

pub returns-then-not-functions_ok : goal.returns-then-not-functions_ok
returns-then-not-functions_ok c = rw c.into.ensures
    (says_13 (inputs_of c.args.self.now.input.now) c.args.to.now.places.now c.args.to.now.bytes.now c.args.to.now.relocations.now c.args.to.now.sites.now (refused (behind_sums (inputs_of c.args.self.now.input.now) c.args.self.now.sums (rw c.count-n.ensures at c.functions_ok.ensures)) (ap not c.if-not-functions_ok.true)), same)

pub all_asks-requires : goal.all_asks-requires
all_asks-requires c =
    askable_is (inputs_of c.args.self.now.input.now) c.args.self.now.input.now.fits (accepted (behind_sums (inputs_of c.args.self.now.input.now) c.args.self.now.sums (rw c.count-n.ensures at c.functions_ok.ensures)) (ap not c.if-not-functions_ok.false))

pub returns-in_err-all_asks : goal.returns-in_err-all_asks
returns-in_err-all_asks c = let p = err_from_is_err_and c.from_residual.result c.from_residual.ensures.1 in rw (p.1, p.2)
    (says_no (inputs_of c.args.self.now.input.now) c.args.to.now.places.now c.args.to.now.bytes.now c.args.to.now.relocations.now c.args.to.now.sites.now (accepted (behind_sums (inputs_of c.args.self.now.input.now) c.args.self.now.sums (rw c.count-n.ensures at c.functions_ok.ensures)) (ap not c.if-not-functions_ok.false)) c.all_asks.ensures (ap numbered_at c.in_err-all_asks.was), same)

pub fitted-requires : goal.fitted-requires
fitted-requires c =
    (cleared_is (inputs_of c.args.self.now.input.now) c.args.self.now.input.now.fits (accepted (behind_sums (inputs_of c.args.self.now.input.now) c.args.self.now.sums (rw c.count-n.ensures at c.functions_ok.ensures)) (ap not c.if-not-functions_ok.false)) c.all_asks.ensures (ap numbered_at c.in_ok-all_asks.was), c.requires)

pub returns : goal.returns
returns c =
    (says_all (inputs_of c.args.self.now.input.now) c.args.to.now.places.now c.args.to.now.bytes.now c.args.to.now.relocations.now c.args.to.now.sites.now (accepted (behind_sums (inputs_of c.args.self.now.input.now) c.args.self.now.sums (rw c.count-n.ensures at c.functions_ok.ensures)) (ap not c.if-not-functions_ok.false)) c.all_asks.ensures (ap numbered_at c.in_ok-all_asks.was) c.fitted.ensures.0, c.fitted.ensures.1)
