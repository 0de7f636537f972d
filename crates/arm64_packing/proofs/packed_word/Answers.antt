-- `arm64_packing::packed_word` meets its contract.
use Rattle.arm64.specs.Packing.{packed_word}
use mathlib.Core.Path.{refl}
use Rattle.arm64_packing.proofs.packed_word.Goals as goal

pub returns : goal.returns
unfolding packed_word
returns c = refl
