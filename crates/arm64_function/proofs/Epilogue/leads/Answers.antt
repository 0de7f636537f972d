-- `Epilogue::leads` meets its contract.
use Rattle.arm64_function.proofs.Own.{leads_is}
use Rattle.arm64_function.proofs.Epilogue.leads.Goals as goal

pub returns : goal.returns
returns c = leads_is c.args.self.now.function.epilogues.now c.args.self.now.function.codes.now c.args.self.now.function.parts c.args.self.now.i c.run.ensures.0 c.prologue.ensures.0 c.leads.ensures
