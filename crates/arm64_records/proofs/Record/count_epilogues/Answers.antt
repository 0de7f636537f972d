-- `Record::count_epilogues` meets its contract.
use mathlib.Core.Path.{sym, ap}
use native.Mathlib.Omega.{arith}
use lib.ListN.{length}
use Rattle.format.proofs.Asked.{value_is}
use Rattle.arm64.specs.Reader.{run_at}
use Rattle.arm64_runs.specs.Runs.{count_of}
use Rattle.arm64_records.proofs.Whole.{codes_short, one_late, one_there}
use Rattle.arm64_records.proofs.Record.count_epilogues.Goals as goal

pub returns-in_ok-m-in-Single : goal.returns-in_ok-m-in-Single
returns-in_ok-m-in-Single c =
    let e = value_is (count_of (run_at c.args.self.now.codes.now c.in-Single.index)) (sym c.in_ok-m-in-Single.ensures.0) in
    let late = one_late c.args.self.now.section.now c.args.self.now.header c.args.self.now.spelled c.in-Single.is e in
    let there = one_there c.args.self.now.section.now c.args.self.now.header c.args.self.now.spelled c.in-Single.is e in
    let l = codes_short c.args.self.now.section.now c.args.self.now.header c.args.self.now.inside in
    let w = c.args.self.now.inside.narrow.low_words in
    (grind (arith, late, there, c.then_some.ensures), grind (arith, c.then_some.ensures, c.in_ok-m-in-Single.ensures.1, ap length c.args.self.now.spelled, l, w))
