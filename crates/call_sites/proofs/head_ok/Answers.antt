-- `call_sites::head_ok` meets its contract.
use mathlib.Core.Path.{◌≡◌}
use mathlib.Core.Bool.{false}
use mathlib.Core.Logic.{◌⊎◌, inl, inr, ◌≢◌}
use Prim.Native.Nat.{ℕ}
use borrow.Author.Tests.{eq-eqb, ne_eqb}
use Rattle.format.specs.CallSiteReader.{head_ok}
use Rattle.call_sites.proofs.head_ok.Goals as goal

other : (b t e : ℕ) → ((b ≡ 255) × (t ≢ 255)) ⊎ (b ≢ 255) → false ≡ head_ok b t e
unfolding head_ok
other b t e (inl h) = rw (eq-eqb b 255 h.0, ne_eqb t 255 h.1)
other b t e (inr n) = rw (ne_eqb b 255 n)

pub returns-then-types-eq-DW_EH_PE_OMIT : goal.returns-then-types-eq-DW_EH_PE_OMIT
unfolding head_ok
returns-then-types-eq-DW_EH_PE_OMIT c = rw (eq-eqb _ 255 c.if-types-eq-DW_EH_PE_OMIT.true.0, eq-eqb _ 255 c.if-types-eq-DW_EH_PE_OMIT.true.1)

pub returns-else-types-eq-DW_EH_PE_OMIT : goal.returns-else-types-eq-DW_EH_PE_OMIT
returns-else-types-eq-DW_EH_PE_OMIT c =
    let e = other c.args.base c.args.types c.args.encoding c.if-types-eq-DW_EH_PE_OMIT.either in
    cc
