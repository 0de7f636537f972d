-- `Placement::store` meets its contract.
use Rattle.std.proofs.Common.{◌+◌, ◌-◌, ◌%◌, ◌^◌, rules, sym, ◌∙◌}
use Rattle.apply.specs.Values.{symbols_of, sum_of}
use Rattle.apply.specs.Standing.{placed, meant, beside}
use Rattle.apply.proofs.Patches.{set_is, sub_is}
use Rattle.apply.proofs.Stores.{set_inside, sub_inside, set_stored, sub_stored, whole_stored, none_stored}
use Rattle.apply.proofs.Placement.store.Goals as goal

pub patch-requires : goal.patch-requires
patch-requires c =
    let a = c.args in
    (set_inside (placed a.self.now) a.copy.now (meant a.f.now.of.now.reloc) (beside a.f.now.of.now.behind) a.f.now.of.now.named c.requires a.f.now.sized c.in-Set.w c.in-Set.is, λ x y. tt)

pub patch-requires-in-Sub : goal.patch-requires-in-Sub
patch-requires-in-Sub c =
    let a = c.args in
    (sub_inside (placed a.self.now) a.copy.now (meant a.f.now.of.now.reloc) (beside a.f.now.of.now.behind) a.f.now.of.now.named c.requires a.f.now.sized c.in-Sub.w c.in-Sub.is, λ x y. tt)

pub returns-in-Set : goal.returns-in-Set
returns-in-Set c =
    let a = c.args in
    let r = meant a.f.now.of.now.reloc in
    c.patch.ensures (λ x y. y) (λ x y v e. search rules)
    ∙ set_is c.in-Set.w a.copy.now r.place (sum_of (symbols_of a.self.now.addresses.now) r)
    ∙ set_stored (placed a.self.now) a.copy.now r (beside a.f.now.of.now.behind) a.f.now.of.now.named c.in-Set.w c.in-Set.is

pub returns-in-Sub : goal.returns-in-Sub
returns-in-Sub c =
    let a = c.args in
    let r = meant a.f.now.of.now.reloc in
    c.patch-in-Sub.ensures (λ x y. (x + (2 ^ 64 - y)) % 2 ^ 64) (λ x y v e. search rules)
    ∙ sub_is c.in-Sub.w a.copy.now r.place (sum_of (symbols_of a.self.now.addresses.now) r)
    ∙ sub_stored (placed a.self.now) a.copy.now r (beside a.f.now.of.now.behind) a.f.now.of.now.named c.in-Sub.w c.in-Sub.is

pub returns-in-Some : goal.returns-in-Some
returns-in-Some c =
    let a = c.args in
    c.le.ensures.stored
    ∙ whole_stored (placed a.self.now) a.copy.now (meant a.f.now.of.now.reloc) (beside a.f.now.of.now.behind) a.f.now.of.now.named c.in_default.not-Set c.in_default.not-Sub (sym c.in-Some.is ∙ c.value.ensures)

pub returns-in_default-value : goal.returns-in_default-value
returns-in_default-value c =
    let a = c.args in
    none_stored (placed a.self.now) a.copy.now (meant a.f.now.of.now.reloc) (beside a.f.now.of.now.behind) a.f.now.of.now.named c.in_default.not-Set c.in_default.not-Sub (sym c.in_default-value.is ∙ c.value.ensures)
