-- `reader::section::Section::parse` meets its contract.
use native.Mathlib.Omega.{arith}
use Rattle.std.proofs.lemmas.Result.{err_from_is_err_and}
use Rattle.reader.proofs.Whole.{fields_header, header_held, fields_record, record_held, fields_there}
use Rattle.reader.proofs.section.Section.parse.Goals as goal

pub returns-in_err-header-clause-located : goal.returns-in_err-header-clause-located
returns-in_err-header-clause-located c =
    let p = err_from_is_err_and c.from_residual.result c.from_residual.ensures.1 in
    rw (p.1, p.2) (fields_header c.args.self.now.bytes.now c.args.self.now.layout.debug c.args.self.now.layout.word c.args.cie.at c.args.cie.end c.args.fde.at c.args.fde.end (rw (c.body.ensures.0, c.body.ensures.1) at c.in_err-header.ensures))

pub returns-in_err-record-clause-located : goal.returns-in_err-record-clause-located
returns-in_err-record-clause-located c =
    let p = err_from_is_err_and c.from_residual-in_err-record.result c.from_residual-in_err-record.ensures.1 in
    rw (p.1, p.2) (fields_record c.args.self.now.bytes.now c.args.self.now.layout.debug c.args.self.now.layout.word c.args.cie.at c.args.cie.end c.args.fde.at c.args.fde.end (rw (c.body.ensures.0, c.body.ensures.1) at c.in_ok-header.ensures) (rw (c.body-2.ensures.0, c.body-2.ensures.1) at c.in_err-record.ensures))

pub overflow_add-result-2 : goal.overflow_add-result-2
overflow_add-result-2 c = record { fits = omega (arith, header_held c.args.self.now.bytes.now c.args.self.now.layout.debug c.args.self.now.layout.word c.args.cie.at c.args.cie.end c.args.fde.at c.args.fde.end (rw (c.body.ensures.0, c.body.ensures.1) at c.in_ok-header.ensures) c.requires.0.0 c.requires.0.1) }

pub overflow_add-result-4 : goal.overflow_add-result-4
overflow_add-result-4 c = record { fits = omega (arith, record_held c.args.self.now.bytes.now c.args.self.now.layout.debug c.args.self.now.layout.word c.args.cie.at c.args.cie.end c.args.fde.at c.args.fde.end (rw (c.body.ensures.0, c.body.ensures.1) at c.in_ok-header.ensures) (rw (c.body-2.ensures.0, c.body-2.ensures.1) at c.in_ok-record.ensures) c.requires.1.0 c.requires.1.1) }

pub returns-clause-located : goal.returns-clause-located
returns-clause-located c = fields_there c.args.self.now.bytes.now c.args.self.now.layout.debug c.args.self.now.layout.word c.args.cie.at c.args.cie.end c.args.fde.at c.args.fde.end (rw (c.body.ensures.0, c.body.ensures.1) at c.in_ok-header.ensures) (rw (c.body-2.ensures.0, c.body-2.ensures.1) at c.in_ok-record.ensures) c.args.self.now.layout.is_word c.requires.0.0 c.requires.0.1 c.requires.1.0 c.requires.1.1
