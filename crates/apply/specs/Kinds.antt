-- The kinds of relocations by number, and the fields that they stand at (document 01, "Machine, function and row").
use Rattle.std.specs.Prelude.{ℕ, Bool, false, ◌==◌}
use Rattle.format.specs.Prelude.{pick}
use Rattle.format.specs.Machine.{is_word_size}
use Rattle.apply.specs.declared.Width.{Width}
use Rattle.apply.specs.declared.Width.TheVariants.{W6, W8, W16, W32}
use Rattle.apply.specs.declared.Kind.{Kind}
use Rattle.apply.specs.declared.Kind.TheVariants.{Data, Address, SumPlus, SumMinus, Image, Set, Sub, Unknown}

unfoldable pub kind_of : ℕ → Kind
kind_of n =
    pick (n == 0) Data
    (pick (n == 1) Address
    (pick (n == 2) SumPlus
    (pick (n == 3) SumMinus
    (pick (n == 4) Image
    (pick (n == 5) (Set W6)
    (pick (n == 6) (Sub W6)
    (pick (n == 7) (Set W8)
    (pick (n == 8) (Sub W8)
    (pick (n == 9) (Set W16)
    (pick (n == 10) (Sub W16)
    (pick (n == 11) (Set W32)
    (pick (n == 12) (Sub W32) Unknown))))))))))))

-- a field of Set and Sub: its bits, and the bytes that hold it (RISC-V psABI, R_RISCV_SET6 to R_RISCV_SUB32)
abbrev pub bits_of : Width → ℕ
bits_of W6 = 6
bits_of W8 = 8
bits_of W16 = 16
bits_of W32 = 32

abbrev pub bytes_of : Width → ℕ
bytes_of W6 = 1
bytes_of W8 = 1
bytes_of W16 = 2
bytes_of W32 = 4

-- the sizes that the writers give each kind: an address has those of a word; a kind that is none of theirs has no size
unfoldable pub size_ok : Kind → ℕ → Bool
size_ok Data n = n == 4
size_ok Address n = is_word_size n
size_ok SumPlus n = is_word_size n
size_ok SumMinus n = is_word_size n
size_ok Image n = n == 4
size_ok (Set w) n = n == bytes_of w
size_ok (Sub w) n = n == bytes_of w
size_ok Unknown n = false
