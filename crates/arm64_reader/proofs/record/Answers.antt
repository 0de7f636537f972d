-- `arm64_reader::record` meets its contract.
use mathlib.Core.Path.{sym, ◌∙◌}
use native.Mathlib.Omega.{arith}
use Rattle.format.proofs.Asked.{none_is, value_is, given, lacking}
use Rattle.format.specs.declared.question.Question.TheVariants.{X64Header}
use Rattle.arm64_records.specs.Parts.{headed_at}
use Rattle.arm64_records.proofs.Lent.{same}
use Rattle.arm64_reader.proofs.Answers.{refuses, no_record, by_header}
use Rattle.arm64_reader.proofs.record.Goals as goal

pub returns-in_err-h : goal.returns-in_err-h
returns-in_err-h c =
    let n = lacking _ _ (sym c.ok_or.ensures.value ∙ c.in_err-h.was) in
    (refuses {q = X64Header} (no_record c.args.s.now c.args.place c.args.to.now.epilogues.now c.args.to.now.codes.now (none_is (headed_at c.args.s.now c.args.place) (sym c.header.ensures.0 ∙ n.0))) (grind (arith, c.from_residual.ensures, n.1)), same)

pub returns : goal.returns
returns c =
    let h = value_is (headed_at c.args.s.now c.args.place) (sym c.header.ensures.0 ∙ given _ _ (sym c.ok_or.ensures.value ∙ c.in_ok-h.was)) in
    let o = c.of.ensures in (
      rw (by_header c.args.s.now c.args.place c.args.to.now.epilogues.now c.args.to.now.codes.now h) (rw (o.0, o.1) at c.record_with.ensures.0),
      c.record_with.ensures.1,
    )
