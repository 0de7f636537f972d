-- `Checked::put_words` meets its contract.
use native.Mathlib.Omega.{arith}
use Rattle.arm64_function.proofs.Record.{scopes_none, scopes_all}
use Rattle.arm64_function.proofs.Scopes.{words_length}
use Rattle.format.proofs.PutLaws.{idle}
use Rattle.format.proofs.Wrote.{Wrote}
use lib.ListN.{length}
use Prim.Native.Nat.{◌-◌}
use mathlib.Core.Path.{subst, sym, ap}
use Rattle.arm64.specs.Records.{only_in}
use Rattle.arm64_function.proofs.Checked.put_words.Goals as goal

pub returns-in-Single : goal.returns-in-Single
returns-in-Single c = subst (Wrote c.args.out.now c.args.out.now c.args.at c.args.at) (scopes_none c.args.self.now.function.epilogues.now c.args.self.now.function.codes.now c.args.self.now.function.parts (ap only_in c.in-Single.is)) idle

pub put_scopes-requires : goal.put_scopes-requires
put_scopes-requires c = (omega (arith, c.requires, ap length (scopes_all c.args.self.now.function.epilogues.now c.args.self.now.function.codes.now c.args.self.now.function.parts (ap only_in c.in-Scoped.is)), words_length c.args.self.now.function.epilogues.now c.args.self.now.function.codes.now c.args.self.now.function.parts c.args.self.now.function.parts.first (c.args.self.now.function.parts.end - c.args.self.now.function.parts.first)))

pub returns-in-Scoped : goal.returns-in-Scoped
returns-in-Scoped c = rw (sym (scopes_all c.args.self.now.function.epilogues.now c.args.self.now.function.codes.now c.args.self.now.function.parts (ap only_in c.in-Scoped.is))) c.put_scopes.ensures
