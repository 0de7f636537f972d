-- `struct_entries::pack` meets its contract.
use mathlib.Core.Path.{◌∙◌}
use Rattle.struct_entries.proofs.Packing.{says_no, says_yes}
use Rattle.struct_entries.proofs.pack.Goals as goal

pub returns-then-not-ready : goal.returns-then-not-ready
returns-then-not-ready c = says_no c.args.numbers.now c.args.functions.now c.args.rows.now c.ready.result c.ready.ensures (rw c.if-not-ready.true tt)

pub returns : goal.returns
returns c =
    let y = says_yes c.args.numbers.now c.args.functions.now c.args.rows.now c.ready.result c.ready.ensures (rw c.if-not-ready.false tt) in
    (y.0, (rw c.put_all.ensures at c.put_all-2.ensures) ∙ y.1)
