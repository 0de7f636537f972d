-- `Epilogue::scope_of` meets its contract.
use native.Mathlib.Omega.{arith}
use mathlib.Core.Path.{sym, ◌∙◌}
use Rattle.arm64_function.proofs.Indexes.{index_own, index_shared}
use Rattle.arm64_function.proofs.Own.{none_size, one_size, own_leading, own_shared, own_alone}
use Rattle.arm64_function.proofs.Epilogue.scope_of.Goals as goal

pub leading_index-index-requires : goal.leading_index-index-requires
leading_index-index-requires c = sym c.leads.ensures ∙ c.if-leads.true

pub returns-then-leads : goal.returns-then-leads
returns-then-leads c = (c.leading_index-index.ensures, omega (arith, none_size (own_leading c.args.self.now.function.epilogues.now c.args.self.now.function.codes.now c.args.self.now.function.parts c.args.self.now.i (sym c.leads.ensures ∙ c.if-leads.true))))

pub returns-in-Some : goal.returns-in-Some
returns-in-Some c = (c.index_in-index.ensures ∙ c.requires.2.known c.in-Some.j (rw c.in-Some.is at c.nearest.ensures.0).low c.in-Some.ensures.1 ∙ index_shared (rw c.in-Some.is at c.nearest.ensures.0) c.in-Some.ensures.1, omega (arith, none_size (own_shared c.args.self.now.function.epilogues.now c.args.self.now.function.codes.now c.args.self.now.function.parts c.args.self.now.i (rw c.in-Some.is at c.nearest.ensures.0) (sym c.leads.ensures ∙ c.if-leads.false) c.in-Some.ensures.1)))

pub returns : goal.returns
returns c = (index_own c.requires.0 c.args.self.now.among.0 c.args.self.now.among.1 (rw c.in_default.is at c.nearest.ensures.0) (sym c.leads.ensures ∙ c.if-leads.false) (omega arith), omega (arith, c.size-size.ensures.0, one_size (own_alone c.args.self.now.function.epilogues.now c.args.self.now.function.codes.now c.args.self.now.function.parts c.args.self.now.i (rw c.in_default.is at c.nearest.ensures.0) (sym c.leads.ensures ∙ c.if-leads.false) (omega arith))))
