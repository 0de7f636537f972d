-- The size of a pointer, where its encoding is accepted.
use mathlib.Core.Path.{◌≡◌, refl}
use Prim.Native.Nat.{ℕ}
use mathlib.Core.Option.{Option, none, some}
use Rattle.std.specs.Option.{unwrap_or}
use Rattle.format.proofs.Asked.{option_of}
use Rattle.format.specs.Headers.{size_or0}

-- the bytes that are written
pub bytes_of : (o : Option ℕ) → unwrap_or (option_of o) 0 ≡ size_or0 o
unfolding size_or0
bytes_of none = refl
bytes_of (some n) = refl
