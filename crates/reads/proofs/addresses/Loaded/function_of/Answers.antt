-- `reads::addresses::Loaded::function_of` meets its contract.
use Rattle.reads.proofs.Addressing.{function_bad, function_there}
use Rattle.std.proofs.Common.{sym, ◌∙◌}
use Rattle.reads.proofs.addresses.Loaded.function_of.Goals as goal

pub returns-in_err-field : goal.returns-in_err-field
returns-in_err-field c =
    let a = c.args in
    c.from_residual.ensures ∙ function_bad a.self.now.section.bytes.now a.self.now.section.layout.debug a.self.now.section.layout.word a.self.now.address a.fde.at a.fde.end (sym (rw (c.body.ensures.0, c.body.ensures.1) at c.fields_of.ensures) ∙ c.in_err-field.was)

pub returns : goal.returns
returns c =
    let a = c.args in
    function_there a.self.now.section.bytes.now a.self.now.section.layout.debug a.self.now.section.layout.word a.self.now.address a.fde.at a.fde.end (sym (rw (c.body.ensures.0, c.body.ensures.1) at c.fields_of.ensures) ∙ c.in_ok-field.was) c.start_of-start.ensures
