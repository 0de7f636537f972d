-- `Checked::record_size` meets its contract.
use native.Mathlib.Omega.{arith}
use lib.ListN.{length}
use Rattle.arm64_header.specs.Header.{header_by}
use Rattle.arm64_function.proofs.Record.{length-single, length-other}
use mathlib.Core.Path.{ap, ◌∙◌}
use Rattle.arm64.specs.Records.{only_in}
use Rattle.arm64_function.proofs.Checked.record_size.Goals as goal

pub returns-in-Single : goal.returns-in-Single
returns-in-Single c =
    let e = c.header-header.ensures in
    (omega (arith, length-single c.shape-s.ensures (c.size.ensures.0 ∙ ap (λ h. length (header_by h)) e) (ap only_in c.in-Single.is), ap (λ h. h.words) e), omega (arith, c.size.ensures.2, c.shape-s.ensures.small, ap (λ h. h.words) e))

pub returns-in-Scoped : goal.returns-in-Scoped
returns-in-Scoped c =
    let e = c.header-header.ensures in
    (omega (arith, length-other c.shape-s.ensures (c.size.ensures.0 ∙ ap (λ h. length (header_by h)) e) (ap only_in c.in-Scoped.is), ap (λ h. h.words) e), omega (arith, c.size.ensures.2, c.shape-s.ensures.small, ap (λ h. h.words) e, c.args.self.now.whole.few))
