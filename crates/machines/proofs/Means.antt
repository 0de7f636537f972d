-- The numbers of each ready machine mean it, and question 11 takes them.
use mathlib.Core.Path.{◌≡◌, refl}
use mathlib.Core.Bool.{true}
use Rattle.format.specs.Machine.{x8664, machine_of, machine_ok, is_word_size}
use Rattle.format.specs.Prelude.{all}
use Rattle.format.specs.declared.Machine.{Machine}
use Rattle.machines.specs.Ready.{aarch64, arm, riscv64, riscv32}
use Rattle.machines.specs.Numbers.{machine_numbers}

record Ready (m : Machine) : Type 0 where
  means : machine_of (machine_numbers m) ≡ m
  taken : machine_ok (machine_numbers m) ≡ true

x86_64_ready : Ready x8664
unfolding machine_numbers machine_of machine_ok is_word_size all
x86_64_ready = record { means = refl; taken = refl }

aarch64_ready : Ready aarch64
unfolding machine_numbers machine_of machine_ok is_word_size all
aarch64_ready = record { means = refl; taken = refl }

arm_ready : Ready arm
unfolding machine_numbers machine_of machine_ok is_word_size all
arm_ready = record { means = refl; taken = refl }

riscv64_ready : Ready riscv64
unfolding machine_numbers machine_of machine_ok is_word_size all
riscv64_ready = record { means = refl; taken = refl }

riscv32_ready : Ready riscv32
unfolding machine_numbers machine_of machine_ok is_word_size all
riscv32_ready = record { means = refl; taken = refl }
