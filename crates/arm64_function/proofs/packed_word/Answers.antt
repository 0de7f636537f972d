-- `arm64_function::packed_word` meets its contract.
use native.Mathlib.Omega.{arith}
use mathlib.Core.Path.{◌≡◌, refl}
use Rattle.arm64_function.specs.PackedWord.{packed_at}
use Rattle.arm64_function.proofs.PackedWord.{word_other, word_only}
use Rattle.arm64_function.proofs.Taken.{given, one_given, only_taken}
use Rattle.arm64_function.proofs.packed_word.Goals as goal

pub returns-then-f-ne1 : goal.returns-then-f-ne1
returns-then-f-ne1 c = word_other c.args.x.now.functions.now c.args.x.now.epilogues.now c.args.x.now.codes.now c.args.k c.of-f.ensures.parts c.if-f-ne1.true

pub packed_one-requires : goal.packed_one-requires
packed_one-requires c = only_taken c.of-f.ensures c.requires (omega arith) c.if-f-ne1.false

pub returns : goal.returns
returns c = word_only c.args.x.now.functions.now c.args.x.now.epilogues.now c.args.x.now.codes.now c.args.k refl (one_given c.of-f.ensures c.if-f-ne1.false) (given c.of-f.ensures (λ es cs p n. c.packed_one.result ≡ packed_at es cs p n) c.packed_one.ensures)
