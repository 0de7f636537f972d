-- `arm64_reader::record_with` meets its contract.
use mathlib.Core.Path.{◌≡◌, refl, sym, ap, ◌∙◌}
use mathlib.Core.Option.{some}
use Prim.Native.Nat.{ℕ, ◌≤◌}
use native.Mathlib.Omega.{arith}
use lib.ListN.{length}
use Rattle.std.specs.Prelude.{Ok}
use Rattle.format.proofs.PutLaws.{length-put}
use Rattle.format.specs.declared.question.Question.TheVariants.{X64Codes}
use Rattle.format.proofs.Asked.{none_is, value_is, given, lacking}
use Rattle.arm64.specs.Lists.{code_numbers}
use Rattle.arm64.specs.Meaning.{reverse}
use Rattle.arm64.specs.Reader.{run_at, record_epilogues, record_unwound, unwound}
use Rattle.arm64_runs.specs.Runs.{count_of}
use Rattle.arm64_runs.specs.Left.{codes_left}
use Rattle.arm64_records.specs.Parts.{total_of, how_many}
use Rattle.arm64_records.proofs.Epilogues.{counted_run, no_run}
use Rattle.arm64_records.proofs.Whole.{codes_short}
use Rattle.arm64_records.proofs.Lent.{same}
use Rattle.arm64_reader.proofs.Answers.{Counts, refuses, found_none, record_no_run, record_no_epilogues, total_none, recorded, record_found, record_counts, has_room, no_room, stored}
use Rattle.arm64_reader.proofs.record_with.Goals as goal
use Rattle.arm64_reader.proofs.record_with.Goals.{After-epilogues_in-k}

-- the run at 0 has n codes, and the epilogues m
run_counted : (c : After-epilogues_in-k) → count_of (run_at c.args.x.now.codes.now 0) ≡ some c.in_ok-n.n
run_counted c = value_is (count_of (run_at c.args.x.now.codes.now 0)) (sym c.count_run.ensures.0 ∙ given _ _ (sym c.ok_or.ensures.value ∙ c.in_ok-n.was))

all_counted : (c : After-epilogues_in-k) → total_of (record_epilogues c.args.x.now.header c.args.x.now.section.now) ≡ some c.in_ok-m.m
all_counted c = value_is (total_of (record_epilogues c.args.x.now.header c.args.x.now.section.now)) (sym c.count_epilogues.ensures.0 ∙ given _ _ (sym c.ok_or-2.ensures.value ∙ c.in_ok-m.was))

few : (c : After-epilogues_in-k) → (c.in_ok-n.n ≤ 1020) × (c.in_ok-m.m ≤ 66846720)
few c = (
  omega (arith, rw (given _ _ (sym c.ok_or.ensures.value ∙ c.in_ok-n.was)) at c.count_run.ensures.1, ap length c.args.x.now.spelled, codes_short c.args.x.now.section.now c.args.x.now.header c.args.x.now.inside, c.args.x.now.inside.narrow.low_words),
  rw (given _ _ (sym c.ok_or-2.ensures.value ∙ c.in_ok-m.was)) at c.count_epilogues.ensures.1,
)

found_it : (c : After-epilogues_in-k) → record_unwound c.args.x.now.header c.args.x.now.section.now ≡ some (recorded c.args.x.now.header c.args.x.now.section.now c.args.x.now.codes.now)
found_it c = record_found c.args.x.now.section.now c.args.x.now.header c.args.x.now.spelled (run_counted c) (all_counted c)

counts : (c : After-epilogues_in-k) {k : ℕ} → k ≡ how_many c.args.x.now.header → Counts (recorded c.args.x.now.header c.args.x.now.section.now c.args.x.now.codes.now) c.in_ok-n.n c.in_ok-m.m k
counts c e = record_counts c.args.x.now.section.now c.args.x.now.header c.args.x.now.spelled (run_counted c) (all_counted c) e

pub returns-in_err-n : goal.returns-in_err-n
returns-in_err-n c =
    let n = lacking _ _ (sym c.ok_or.ensures.value ∙ c.in_err-n.was) in
    let e = no_run (run_at c.args.x.now.codes.now 0) (none_is (count_of (run_at c.args.x.now.codes.now 0)) (sym c.count_run.ensures.0 ∙ n.0)) in
    (refuses {q = X64Codes} (found_none c.args.to.now.epilogues.now c.args.to.now.codes.now (record_no_run c.args.x.now.header c.args.x.now.section.now c.args.x.now.spelled e)) (grind (arith, c.from_residual.ensures, n.1)), same)

pub returns-in_err-m : goal.returns-in_err-m
returns-in_err-m c =
    let r = counted_run (run_at c.args.x.now.codes.now 0) (value_is (count_of (run_at c.args.x.now.codes.now 0)) (sym c.count_run.ensures.0 ∙ given _ _ (sym c.ok_or.ensures.value ∙ c.in_ok-n.was))) in
    let n = lacking _ _ (sym c.ok_or-2.ensures.value ∙ c.in_err-m.was) in
    let e = total_none (record_epilogues c.args.x.now.header c.args.x.now.section.now) (none_is (total_of (record_epilogues c.args.x.now.header c.args.x.now.section.now)) (sym c.count_epilogues.ensures.0 ∙ n.0)) in
    (refuses {q = X64Codes} (found_none c.args.to.now.epilogues.now c.args.to.now.codes.now (record_no_epilogues c.args.x.now.header c.args.x.now.section.now c.args.x.now.spelled r.0 e)) (grind (arith, c.from_residual-in_err-m.ensures, n.1)), same)

pub returns-in_err-room : goal.returns-in_err-room
returns-in_err-room c =
    let w = (goal.at.returns-in_err-room c).After-epilogues_in-k in
    (no_room c.args.to.now.epilogues.now c.args.to.now.codes.now (found_it w) (counts w c.epilogues_in-k.ensures) c.in_err-room.ensures.1 (grind (arith, c.from_residual-in_err-room.ensures, c.in_err-room.ensures.0)), same)

pub overflow_mul-n : goal.overflow_mul-n
overflow_mul-n c = omega (arith, (few (goal.at.overflow_mul-n c).After-epilogues_in-k).0)

pub at-requires : goal.at-requires
at-requires c = (counted_run (run_at c.args.x.now.codes.now 0) (run_counted (goal.at.at-requires c).After-epilogues_in-k)).0

pub put_back-requires : goal.put_back-requires
put_back-requires c =
    let e = counted_run (run_at c.args.x.now.codes.now 0) (run_counted (goal.at.put_back-requires c).After-epilogues_in-k) in
    (rw c.at.ensures (omega (arith, e.1)), omega (arith, (has_room c.args.to.now.epilogues.now c.args.to.now.codes.now c.in_ok-room.ensures).1))

pub put_epilogues-requires : goal.put_epilogues-requires
put_epilogues-requires c =
    let r = has_room c.args.to.now.epilogues.now c.args.to.now.codes.now c.in_ok-room.ensures in (
      all_counted (goal.at.put_epilogues-requires c).After-epilogues_in-k,
      omega (arith, r.0, c.epilogues_in-k.ensures),
      omega (arith, r.1, ap length c.put_back.ensures, length-put c.args.to.now.codes.now 0 (code_numbers (reverse (codes_left c.at.result)))),
    )

pub returns : goal.returns
unfolding recorded unwound
returns c =
    let w = (goal.at.returns c).After-epilogues_in-k in (
      stored c.args.to.now.epilogues.now c.args.to.now.codes.now (found_it w) (counts w c.epilogues_in-k.ensures) c.in_ok-room.ensures (ap Ok c.reading.ensures)
          (record { numbers = c.put_epilogues.ensures.0.numbers; codes = c.put_epilogues.ensures.0.codes ∙ rw (c.put_back.ensures, c.at.ensures) refl }),
      let s = c.put_epilogues.ensures.1 in record { epilogues = s.epilogues; codes = s.codes },
    )
