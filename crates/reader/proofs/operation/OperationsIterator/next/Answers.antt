-- `Operations`' `next` meets its contract.
use Rattle.std.proofs.Common.{rules, sym, ◌∙◌}
use Rattle.operations.proofs.OperationLaws.{operation_ahead}
use Rattle.reader.proofs.operation.OperationsIterator.next.Goals as goal

pub returns-clause-goes : goal.returns-clause-goes
returns-clause-goes c =
    let e = operation_ahead c.args.self.now.word c.args.self.now.bytes.now c.args.self.now.at (sym c.operation.ensures ∙ c.in-Some.is) in
    search (rules, e.0, e.1)
