-- `Record::put_epilogues` meets its contract.
use mathlib.Core.Path.{ap}
use native.Mathlib.Omega.{arith}
use lib.ListN.{length}
use mathlib.Core.Option.{Option}
use mathlib.Core.List.{List}
use Rattle.arm64.specs.Lists.{Epilogue}
use Rattle.arm64.specs.Reader.{record_epilogues, epilogue_codes}
use Rattle.arm64_records.specs.Parts.{epilogues_in}
use Rattle.arm64_records.proofs.Whole.{total_some, many_all, many_one, by_words, one, listed_one}
use Rattle.arm64_records.proofs.Record.put_epilogues.Goals as goal

pub overflow_sub-start : goal.overflow_sub-start
overflow_sub-start c = omega (arith, (one c.args.self.now.section.now c.args.self.now.header c.args.self.now.spelled c.in-Single.is c.requires.0).fits)

pub overflow_sub-start-in-Single : goal.overflow_sub-start-in-Single
overflow_sub-start-in-Single c = omega (arith, (one c.args.self.now.section.now c.args.self.now.header c.args.self.now.spelled c.in-Single.is c.requires.0).fits)

pub at-requires : goal.at-requires
at-requires c = (one c.args.self.now.section.now c.args.self.now.header c.args.self.now.spelled c.in-Single.is c.requires.0).run

pub put_one-requires : goal.put_one-requires
put_one-requires c =
    let o = one c.args.self.now.section.now c.args.self.now.header c.args.self.now.spelled c.in-Single.is c.requires.0 in
    (omega (arith, many_one c.args.self.now.header c.in-Single.is, c.requires.1), omega (arith, o.size, ap length c.at.ensures, c.requires.2))

pub returns-in-Single : goal.returns-in-Single
returns-in-Single c =
    let o = one c.args.self.now.section.now c.args.self.now.header c.args.self.now.spelled c.in-Single.is c.requires.0 in
    (listed_one c.args.self.now.section.now c.args.self.now.header c.args.self.now.spelled c.in-Single.is o (rw c.at.ensures at c.put_one.ensures.0), c.put_one.ensures.1)

pub put-requires : goal.put-requires
put-requires c =
    let w = by_words c.args.self.now.section.now c.args.self.now.header c.args.self.now.spelled c.in-Scoped.is in
    let t = total_some (record_epilogues c.args.self.now.header c.args.self.now.section.now) c.requires.0 in (
      rw w at t.0,
      omega (arith, many_all c.args.self.now.header c.in-Scoped.is, c.requires.1),
      omega (arith, ap (λ (x : Option (List Epilogue)). length (epilogue_codes (epilogues_in x))) w, t.1, c.requires.2),
    )

pub returns-in-Scoped : goal.returns-in-Scoped
returns-in-Scoped c = (rw (by_words c.args.self.now.section.now c.args.self.now.header c.args.self.now.spelled c.in-Scoped.is) c.put.ensures.0, c.put.ensures.1)
