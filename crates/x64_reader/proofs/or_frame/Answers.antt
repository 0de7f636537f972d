-- `x64_reader::or_frame` meets its contract.
use mathlib.Core.Path.{◌≡◌, refl}
use Prim.Native.Nat.{ℕ}
use mathlib.Core.Bool.{false}
use lib.IntN.{ℤ}
use Rattle.format.specs.declared.Seh.{Seh}
use Rattle.format.specs.declared.Seh.TheVariants.{Push, Alloc, Frame, Save}
use Rattle.format.specs.X64Reader.{is_frame}
use Rattle.x64_reader.proofs.or_frame.Goals as goal

other : (s : Seh) → ((reg : ℕ) (z : ℤ) → s ≡ Frame reg z → ⊥) → is_frame s ≡ false
unfolding is_frame
other (Push reg) n = refl
other (Alloc z) n = refl
other (Frame reg z) n = absurd (n reg z refl)
other (Save reg vector z) n = refl

pub returns-in-Frame : goal.returns-in-Frame
unfolding is_frame
returns-in-Frame c = rw c.in-Frame.is

pub returns-in_default : goal.returns-in_default
returns-in_default c = rw (other c.args.code c.in_default.not-Frame, c.if-framed.false)
