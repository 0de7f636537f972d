-- `Checked::put_codes` meets its contract.
use native.Mathlib.Omega.{arith}
use mathlib.Core.Path.{sym, ap, ◌∙◌}
use lib.ListN.{length}
use Rattle.format.proofs.PutLaws.{kept, ◌then◌}
use Rattle.arm64.specs.Runs.{no_pair, run_fits, backwards}
use Rattle.arm64_function.proofs.Own.{prologue_is}
use Rattle.arm64_function.proofs.Codes.{codes_length, codes_parts, put_room}
use Rattle.arm64_function.proofs.Checked.put_codes.Goals as goal

pub put_run-q-requires : goal.put_run-q-requires
put_run-q-requires c = (ap (run_fits no_pair) c.prologue.ensures.0 ∙ c.args.self.now.whole.fitted.prologue, c.prologue_size.ensures.0 ∙ sym (ap (λ x. length (backwards x)) (prologue_is c.args.self.now.function.codes.now c.args.self.now.function.parts c.prologue.ensures.0)), omega (arith, c.requires, codes_length c.args.self.now.function.epilogues.now c.args.self.now.function.codes.now c.args.self.now.function.parts c.prologue_size.ensures.0))

pub put_owns-requires : goal.put_owns-requires
put_owns-requires c = (put_room c.args.self.now.function.epilogues.now c.args.self.now.function.codes.now c.args.self.now.function.parts c.requires (rw (prologue_is c.args.self.now.function.codes.now c.args.self.now.function.parts c.prologue.ensures.0) at c.put_run-q.ensures) c.prologue_size.ensures.0)

pub shape_of-out : goal.shape_of-out
shape_of-out c = kept c.put_owns.ensures ∙ kept c.put_run-q.ensures

pub returns : goal.returns
returns c = rw (sym (codes_parts c.args.self.now.function.epilogues.now c.args.self.now.function.codes.now c.args.self.now.function.parts)) ((rw (prologue_is c.args.self.now.function.codes.now c.args.self.now.function.parts c.prologue.ensures.0) at c.put_run-q.ensures) then c.put_owns.ensures)
