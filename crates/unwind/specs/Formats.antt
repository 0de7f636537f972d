-- The formats of object files by name.
use Rattle.std.specs.Prelude.{◌≡◌, ℕ, ◌<◌, Result, MatchResult}
use Rattle.format.specs.declared.question.Question.{Question}
use Rattle.format.specs.declared.question.Question.TheVariants.{Interface}
use Rattle.format.specs.Constants.{elf, coff, mach_o, plan9}
use Rattle.unwind.specs.declared.object.Format.{Format}
use Rattle.unwind.specs.declared.object.Format.TheVariants.{Elf, Coff, MachO, Wasm, Plan9}

abbrev pub format_number : Format → ℕ
format_number Elf = elf
format_number Coff = coff
format_number MachO = mach_o
format_number Wasm = 3
format_number Plan9 = plan9

-- the format of a number; from 5 on there is none, which is question 11
abbrev pub Named : ℕ → Result Format Question → Type 0
Named n r = MatchResult r (λ f. n ≡ format_number f) (λ q. (q ≡ Interface) × (4 < n))
