-- `arm64_reader::unwind_read_arm64` meets its contract.
use Rattle.arm64.specs.Reader.{read_arm64}
use Rattle.arm64_reader.proofs.Answers.{answered}
use Rattle.arm64_reader.proofs.unwind_read_arm64.Goals as goal

pub returns-clause-value : goal.returns-clause-value
returns-clause-value c = answered (read_arm64 c.args.word c.args.info.now c.args.place c.args.epilogues.now c.args.codes.now) c.read.result c.read.ensures.0.reading c.unwrap_or_else.ensures
