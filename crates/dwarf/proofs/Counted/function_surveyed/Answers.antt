-- `dwarf::Counted::function_surveyed` meets its contract.
use mathlib.Core.Bool.{not}
use mathlib.Core.Path.{ap}
use native.Mathlib.Omega.{arith}
use Rattle.dwarf.proofs.Passed.{counted, pairs_taken, rows_taken, rows_few_at}
use Rattle.lists.proofs.Answers.{accepted}
use Rattle.dwarf.proofs.Surveying.{rows_say}
use Rattle.header_keys.specs.Inputs.{inputs_of}
use Rattle.format.proofs.Choice.{is_yes_lem}
use Rattle.dwarf.proofs.Counted.function_surveyed.Goals as goal

pub outline_ok-requires : goal.outline_ok-requires
outline_ok-requires c = omega (arith, c.requires)

pub returns-then-not-outline_ok : goal.returns-then-not-outline_ok
returns-then-not-outline_ok c = tt

pub function-e-requires : goal.function-e-requires
function-e-requires c = omega (arith, c.requires)

pub fields_ok-requires : goal.fields_ok-requires
fields_ok-requires c =
    rw c.function-e.ensures (pairs_taken c.args.self.now.input.now.lists.functions.now c.args.self.now.input.now.lists.rows.now c.args.self.now.input.now.lists.landings.now c.args.self.now.input.now.lists.pairs.now (counted _ c.args.self.now.sums) _ c.requires (is_yes_lem (accepted c.outline_ok.ensures (ap not c.if-not-outline_ok.false))) _)

pub returns-then-not-fields_ok : goal.returns-then-not-fields_ok
returns-then-not-fields_ok c = tt

pub surveyed_rows-requires : goal.surveyed_rows-requires
surveyed_rows-requires c =
    let o = is_yes_lem (accepted c.outline_ok.ensures (ap not c.if-not-outline_ok.false)) in
    (c.args.self.now.input.now.fits.is_word, rw c.function-e.ensures (rows_taken c.args.self.now.input.now.lists.functions.now c.args.self.now.input.now.lists.rows.now c.args.self.now.input.now.lists.landings.now c.args.self.now.input.now.lists.pairs.now (counted _ c.args.self.now.sums) _ c.requires o _), rw c.function-e.ensures (rows_few_at c.args.self.now.input.now.lists.functions.now c.args.self.now.input.now.lists.rows.now c.args.self.now.input.now.lists.landings.now c.args.self.now.input.now.lists.pairs.now (counted _ c.args.self.now.sums) _ c.requires _))

pub returns : goal.returns
returns c =
    rows_say (inputs_of c.args.self.now.input.now) c.args.k (accepted c.outline_ok.ensures (ap not c.if-not-outline_ok.false))
    (rw c.function-e.ensures at (c.fields_ok.ensures c.if-not-fields_ok.false)) c.surveyed_rows.result (rw c.function-e.ensures at c.surveyed_rows.ensures)
