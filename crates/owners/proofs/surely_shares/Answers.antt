-- `owners::surely_shares` meets its contract.
use mathlib.Core.Bool.{not}
use mathlib.Core.Path.{ap}
use native.Mathlib.Omega.{arith}
use mir.Facts.{eqb_yes}
use Rattle.rows.proofs.WholeNumbers.{never}
use Rattle.format.proofs.Choice.{is_yes_lem}
use Rattle.header_keys.specs.Inputs.{inputs_of}
use Rattle.owners.proofs.Comparing.{rows_taken}
use Rattle.owners.proofs.Sharing.{sharing}
use Rattle.owners.proofs.surely_shares.Goals as goal

pub returns-then-not-same_kind_and_signal : goal.returns-then-not-same_kind_and_signal
returns-then-not-same_kind_and_signal c = λ p. never p

pub returns-then-a-b : goal.returns-then-a-b
returns-then-a-b c = λ p. never p

pub ahead-requires : goal.ahead-requires
ahead-requires c = rows_taken c.args.x.now.section c.args.x.now.lists.functions.now c.args.x.now.lists.rows.now c.args.j c.function-a.result c.function-a.ensures (c.requires.0.rows_ready c.args.j (omega (arith, c.requires.1)))

pub returns-then-ahead-gt0 : goal.returns-then-ahead-gt0
returns-then-ahead-gt0 c = λ p. never p

pub ahead-requires-2 : goal.ahead-requires-2
ahead-requires-2 c = rows_taken c.args.x.now.section c.args.x.now.lists.functions.now c.args.x.now.lists.rows.now c.args.k c.function-b.result c.function-b.ensures (c.requires.0.rows_ready c.args.k (omega (arith, c.requires.1)))

pub returns : goal.returns
returns c = λ p.
    sharing {x = inputs_of c.args.x.now} (record { first = c.function-a.ensures; second = c.function-b.ensures; answer = c.same_kind_and_signal.ensures }) (ap not c.if-not-same_kind_and_signal.false) c.if-a-b.false
    (omega (arith, c.ahead.ensures.0, c.if-ahead-gt0.false)) (omega (arith, c.ahead-2.ensures.0, eqb_yes {a = c.ahead-2.result} {b = 0} (is_yes_lem p)))
