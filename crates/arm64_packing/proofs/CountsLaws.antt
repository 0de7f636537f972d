-- What a code counts, and the fields of a word.
use mathlib.Core.Path.{◌≡◌, refl}
use Prim.Native.Nat.{ℕ, ◌+◌, ◌-◌, ◌/◌}
use lib.Dec.{eqb}
use Rattle.format.specs.Prelude.{pick}
use Rattle.arm64.specs.declared.Code.{Code}
use Rattle.arm64.specs.declared.Packed.{Packed}
use Rattle.arm64.specs.Packing.{integers_in, vectors_in, down_in, chain_behind, tally, as_fields}
use Rattle.arm64_packing.specs.declared.Chain.{Chain}
use Rattle.arm64_packing.specs.declared.Chain.TheVariants.{Unchained, Saved, Signed, Recorded}
use Rattle.arm64_packing.specs.declared.Counts.{Counts}
use Rattle.arm64_packing.specs.Places.{chain_number, counted}

pub tally_by : (n : Counts) (c : Code) (h : Chain) {v i d : ℕ} → v ≡ vectors_in c → i ≡ integers_in c → chain_number h ≡ chain_behind (chain_number n.chain) c → d ≡ down_in c
    → ◌≡◌ {A = Packed} (counted (record { length = n.length; vectors = n.vectors + v; registers = n.registers + i; chain = h; frame = n.frame + d })) (tally (counted n) c)
unfolding tally
tally_by n c h e f g d = rw (e, f, g, d) refl

pub fields_by : (n : Counts) {v h : ℕ} → v ≡ n.vectors - 1 → h ≡ chain_number n.chain
    → ◌≡◌ {A = Packed} (record { flag = 1; length = n.length; vectors = v; registers = n.registers; homes = 0; chain = h; frame = n.frame / 16 }) (as_fields (counted n))
unfolding as_fields
fields_by n e f = rw (e, f) refl

pub recorded_other : (h : Chain) → (h ≡ Signed → ⊥) → ◌≡◌ {A = ℕ} 3 (pick (eqb (chain_number h) 2) 2 3)
unfolding pick
recorded_other Unchained n = refl
recorded_other Saved n = refl
recorded_other Signed n = absurd (n refl)
recorded_other Recorded n = refl

pub saved_other : (h : Chain) → (h ≡ Unchained → ⊥) → chain_number h ≡ pick (eqb (chain_number h) 0) 1 (chain_number h)
unfolding pick
saved_other Unchained n = absurd (n refl)
saved_other Saved n = refl
saved_other Signed n = refl
saved_other Recorded n = refl
