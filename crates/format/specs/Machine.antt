-- The machine (document 01, "Machine, function and row"): its constant, and what register a DWARF number is.
use Rattle.std.specs.Prelude.{ℕ, ◌-◌, ◌%◌, ◌^◌, Bool, true, false, ◌&&◌, ◌||◌, List, [], ◌∷◌, ◌++◌, length, get_or, take, drop, replicate, leb, ltb, eqb}
use Rattle.std.proofs.Math.Option.{Option, none, some}
use Rattle.format.specs.Prelude.{pick, all}
use Rattle.format.specs.declared.Machine.{Machine}

abbrev pub machine_with : (word pushed stack ret frame : ℕ) (map : List ℕ) → Machine
machine_with word pushed stack ret frame map = record { word = word; pushed = pushed; stack = stack; ret = ret; frame = frame; map = map }

-- x86-64's integer registers by DWARF number: DWARF 0 to 15 are machine numbers 0, 2, 1, 3, 6, 7, 5, 4, 8 to 15 (System V psABI, figure 3.36)
abbrev pub integers : List ℕ
integers = 0 ∷ 2 ∷ 1 ∷ 3 ∷ 6 ∷ 7 ∷ 5 ∷ 4 ∷ 8 ∷ 9 ∷ 10 ∷ 11 ∷ 12 ∷ 13 ∷ 14 ∷ 15 ∷ []

-- DWARF 17 to 32 are vector registers 0 to 15
abbrev pub vectors : List ℕ
vectors = 128 ∷ 129 ∷ 130 ∷ 131 ∷ 132 ∷ 133 ∷ 134 ∷ 135 ∷ 136 ∷ 137 ∷ 138 ∷ 139 ∷ 140 ∷ 141 ∷ 142 ∷ 143 ∷ []

-- x86-64 (System V psABI, 3.2.1 and figure 3.36): return address 16, stack pointer 7, frame pointer 6
abbrev pub x8664 : Machine
x8664 = machine_with 8 8 7 16 6 (integers ++ (255 ∷ (vectors ++ replicate 31 255)))

-- the number of no frame pointer: no row's register is it
abbrev pub no_frame_pointer : ℕ
no_frame_pointer = 65536

-- a register of the machine: its number, and whether it is a vector register
pub record Register : Type 0 where
  pub number : ℕ
  pub vector : Bool

-- what register a DWARF number is: below 128 integer register n, below 255 vector register n - 128, else none; from 64 on there is none
unfoldable pub register_of : Machine → ℕ → Option Register
register_of m d =
    let n : ℕ = get_or m.map d 255 in
    pick (ltb n 128) (some (record { number = n; vector = false }))
    (pick (ltb n 255) (some (record { number = n - 128; vector = true })) none)

-- ---- the machine list

-- 70 numbers: word, pushed bytes, stack pointer, return address, frame pointer, a 0, and 64 of the map
abbrev pub machine_stride : ℕ
machine_stride = 70

unfoldable pub machine_of : List ℕ → Machine
machine_of ms = machine_with (get_or ms 0 0) (get_or ms 1 0) (get_or ms 2 0) (get_or ms 3 0) (get_or ms 4 0) (take 64 (drop 6 ms))

-- word 2, 4 or 8
unfoldable pub is_word_size : ℕ → Bool
is_word_size w = eqb w 2 || eqb w 4 || eqb w 8

-- question 11: a machine as document 01 has it
unfoldable pub machine_ok : List ℕ → Bool
machine_ok ms =
    let m : Machine = machine_of ms in
    leb machine_stride (length ms) && is_word_size m.word && eqb (m.pushed % m.word) 0 && ltb m.pushed (2 ^ 31)
    && ltb m.stack 65536 && ltb m.ret 65536 && leb m.frame no_frame_pointer && eqb (get_or ms 5 0) 0
    && all (λ n. leb n 255) m.map
