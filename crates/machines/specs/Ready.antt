-- The ready machines beside x86-64. On each a call pushes nothing, and DWARF's first numbers are the integer
-- registers of these numbers.
use Rattle.std.specs.Prelude.{◌++◌, replicate, List, [], ◌∷◌, ℕ}
use Rattle.format.specs.Machine.{machine_with}
use Rattle.format.specs.declared.Machine.{Machine}

abbrev pub sixteen : List ℕ
sixteen = 0 ∷ 1 ∷ 2 ∷ 3 ∷ 4 ∷ 5 ∷ 6 ∷ 7 ∷ 8 ∷ 9 ∷ 10 ∷ 11 ∷ 12 ∷ 13 ∷ 14 ∷ 15 ∷ []

abbrev pub next_sixteen : List ℕ
next_sixteen = 16 ∷ 17 ∷ 18 ∷ 19 ∷ 20 ∷ 21 ∷ 22 ∷ 23 ∷ 24 ∷ 25 ∷ 26 ∷ 27 ∷ 28 ∷ 29 ∷ 30 ∷ 31 ∷ []

-- AArch64 (DWARF for the Arm 64-bit Architecture, 4.1): stack pointer 31, return address 30, frame pointer 29
abbrev pub aarch64 : Machine
aarch64 = machine_with 8 0 31 30 29 (sixteen ++ (next_sixteen ++ replicate 32 255))

-- ARM of 32 bits (DWARF for the Arm Architecture, 4.1): stack pointer 13, return address 14, frame pointer 11
abbrev pub arm : Machine
arm = machine_with 4 0 13 14 11 (sixteen ++ replicate 48 255)

-- RISC-V (RISC-V ELF psABI, "DWARF Register Numbers"): stack pointer 2, return address 1, frame pointer 8
abbrev pub riscv : (word : ℕ) → Machine
riscv word = machine_with word 0 2 1 8 (sixteen ++ (next_sixteen ++ replicate 32 255))

abbrev pub riscv64 : Machine
riscv64 = riscv 8

abbrev pub riscv32 : Machine
riscv32 = riscv 4
