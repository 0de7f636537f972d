-- `Placement::apply` meets its contract.
use Rattle.std.proofs.Common.{not, ap, ◌∙◌, arith}
use Rattle.format.specs.Lists.{relocations_of}
use Rattle.apply.specs.Values.{layout_of}
use Rattle.apply.specs.Apply.{stores}
use Rattle.apply.proofs.Pairs.{pairs_hold}
use Rattle.apply.proofs.Copies.{whole_front}
use Rattle.apply.proofs.Entry.{stores-length, front_changed, short, unsound, far, applied}
use Rattle.apply.proofs.Placement.apply.Goals as goal

pub returns-then-out-n : goal.returns-then-out-n
returns-then-out-n c =
    let a = c.args in
    record {
      applied = short a.bytes.now a.relocs.now a.self.now.addresses.now a.self.now.section a.self.now.image a.out.now c.if-out-n.true;
      pairs = λ e. absurd (omega (arith, e));
    }

pub returns-then-not-all_sound : goal.returns-then-not-all_sound
returns-then-not-all_sound c =
    let a = c.args in
    record {
      applied = unsound a.bytes.now a.relocs.now a.self.now.addresses.now a.self.now.section a.self.now.image a.out.now c.if-out-n.false c.all_sound.ensures (ap not c.if-not-all_sound.true);
      pairs = λ e. absurd (omega (arith, e));
    }

pub returns-then-not-all_near : goal.returns-then-not-all_near
returns-then-not-all_near c =
    let a = c.args in
    record {
      applied = far a.bytes.now a.relocs.now a.self.now.addresses.now a.self.now.section a.self.now.image a.out.now c.if-out-n.false c.all_sound.ensures (ap not c.if-not-all_sound.false) c.all_near.ensures (ap not c.if-not-all_near.true);
      pairs = λ e. absurd (omega (arith, e));
    }

pub returns : goal.returns
returns c =
    let a = c.args in
    let l = layout_of a.self.now.addresses.now a.self.now.section a.self.now.image in
    let rs = relocations_of a.relocs.now in
    let done = applied a.bytes.now a.relocs.now a.self.now.addresses.now a.self.now.section a.self.now.image a.out.now c.if-out-n.false c.all_sound.ensures (ap not c.if-not-all_sound.false) c.all_near.ensures (ap not c.if-not-all_near.false) _
    (front_changed a.out.now a.bytes.now (λ x. stores l x rs) (λ x. stores-length l x rs) c.if-out-n.false
    (c.copy_in.ensures ∙ whole_front a.out.now a.bytes.now c.if-out-n.false) c.store_all.ensures) in
    record {
      applied = done;
      pairs = pairs_hold a.bytes.now a.relocs.now a.self.now.addresses.now a.self.now.section a.self.now.image a.out.now done (λ q. omega (arith, c.type_inv.bytes q));
    }
