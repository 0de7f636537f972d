-- `Placement::store_all` meets its contract.
use Rattle.std.proofs.Common.{◌+◌, ◌≤◌, T, length, sym, ap, ◌∙◌, subst, arith, rules}
use Rattle.format.specs.Lists.{Relocation, relocation_at}
use Rattle.apply.specs.declared.Kind.{Kind}
use Rattle.apply.specs.Kinds.{kind_of, size_ok}
use Rattle.apply.specs.Values.{store_of}
use Rattle.apply.specs.Standing.{placed, beside}
use Rattle.apply.proofs.Tests.{sound_store}
use Rattle.apply.proofs.Loops.{place_start, here_sound, place_turn, place_ended}
use Rattle.apply.proofs.Placement.store_all.Goals as goal
use Rattle.apply.proofs.Placement.store_all.Goals.{After-in_list-x}

pub loop-i-init : goal.loop-i-init
loop-i-init c =
    let a = c.args in
    place_start a.relocs.now (placed a.self.now) a.copy.now c.requires

-- what the test of the list says of the relocation at i
passed : (c : After-in_list-x)
    → (c.in_list-x.result.reloc.place + c.in_list-x.result.reloc.bytes ≤ length c.args.copy.now) × T (size_ok (kind_of c.in_list-x.result.reloc.kind) c.in_list-x.result.reloc.bytes)
passed c =
    let k = c.loop-i in
    let a = c.args in
    let h = here_sound a.relocs.now k.invariant (rw c.count-i-end.ensures at c.loop-i-test.true) in
    let x = sound_store (placed a.self.now) (length a.copy.now) _ (relocation_at a.relocs.now k.i) _ h in
    subst (λ (r : Relocation). (r.place + r.bytes ≤ length a.copy.now) × T (size_ok (kind_of r.kind) r.bytes)) (sym c.in_list-x.ensures.1) x

pub invariant_of-store : goal.invariant_of-store
invariant_of-store c =
    let x = c.in_list-x.result in
    record { sized = subst (λ (k : Kind). T (size_ok k x.reloc.bytes)) (sym x.named) (passed (goal.at.invariant_of-store c).After-in_list-x).1 }

pub store-requires : goal.store-requires
store-requires c = omega (arith, (passed (goal.at.store-requires c).After-in_list-x).0, c.loop-i.invariant.kept)

pub loop-i-preserved : goal.loop-i-preserved
loop-i-preserved c =
    let k = c.loop-i in
    let a = c.args in
    let l = placed a.self.now in
    place_turn a.relocs.now k.invariant (rw c.count-i-end.ensures at c.loop-i-test.true) c.store.new.copy (search rules)
    (c.store.ensures
    ∙ ap (λ (r : Relocation). store_of l k.copy r (beside c.in_list-x.result.behind)) c.in_list-x.ensures.1
    ∙ ap (store_of l k.copy (relocation_at a.relocs.now k.i)) c.in_list-x.ensures.2)

pub returns : goal.returns
returns c = place_ended c.args.relocs.now c.loop-i.invariant (rw c.count-i-end.ensures at c.loop-i-test.false)
