-- Unwind codes: their kinds, how each is spelled in bytes, and one code read (Microsoft, "ARM64 exception handling", "Unwind codes").
use Rattle.std.specs.Prelude.{ℕ, zero, suc, ◌+◌, ◌-◌, ◌*◌, ◌/◌, ◌%◌, ◌^◌, Bool, ◌&&◌, ◌||◌, List, [], ◌∷◌, ◌++◌, length, get_or, leb, ltb, eqb}
use Rattle.std.proofs.Math.Option.{Option, none, some}
use Rattle.format.specs.Prelude.{pick}
use Rattle.arm64.specs.declared.Code.{Code}
use Rattle.arm64.specs.declared.Form.{Form}

-- ---- the kinds, in the source's order

abbrev pub k_alloc : ℕ
k_alloc = 0

abbrev pub k_r19_r20_x : ℕ
k_r19_r20_x = 1

abbrev pub k_fplr : ℕ
k_fplr = 2

abbrev pub k_fplr_x : ℕ
k_fplr_x = 3

abbrev pub k_regp : ℕ
k_regp = 4

abbrev pub k_regp_x : ℕ
k_regp_x = 5

abbrev pub k_reg : ℕ
k_reg = 6

abbrev pub k_reg_x : ℕ
k_reg_x = 7

abbrev pub k_lrpair : ℕ
k_lrpair = 8

abbrev pub k_fregp : ℕ
k_fregp = 9

abbrev pub k_fregp_x : ℕ
k_fregp_x = 10

abbrev pub k_freg : ℕ
k_freg = 11

abbrev pub k_freg_x : ℕ
k_freg_x = 12

abbrev pub k_set_fp : ℕ
k_set_fp = 13

abbrev pub k_add_fp : ℕ
k_add_fp = 14

abbrev pub k_nop : ℕ
k_nop = 15

abbrev pub k_save_next : ℕ
k_save_next = 16

abbrev pub k_pac_sign_lr : ℕ
k_pac_sign_lr = 17

-- the end of a run of codes, and a first byte that `describe` never writes: kinds of forms, not of codes
abbrev pub k_end : ℕ
k_end = 18

abbrev pub k_reserved : ℕ
k_reserved = 19

-- a code by its three numbers
abbrev pub code : (kind register offset : ℕ) → Code
code kind register offset = record { kind = kind; register = register; offset = offset }

-- the link register x30 and the frame pointer x29; the first registers that prologues save
abbrev pub lr : ℕ
lr = 30

abbrev pub fp : ℕ
fp = 29

-- ---- how codes are spelled

-- the number of a code's fields is `unit` times the register's and the offset's; see the declared struct
abbrev pub form : (kind op size unit first step scale more : ℕ) → Form
form kind op size unit first step scale more =
    record { kind = kind; op = op; size = size; unit = unit; first = first; step = step; scale = scale; more = more }

-- a code that is its opcode alone
abbrev pub alone : (kind op : ℕ) → Form
alone kind op = form kind op 1 1 0 0 8 0

-- a first byte that is no code's
abbrev pub reserved : Form
reserved = alone k_reserved 0

-- alloc_s, alloc_m, alloc_l: in sixteens, 5, 11 and 24 bits
abbrev pub f_alloc_s : Form
f_alloc_s = form k_alloc 0x00 1 (2 ^ 5) 0 0 16 0

abbrev pub f_alloc_m : Form
f_alloc_m = form k_alloc 0xc0 2 (2 ^ 11) 0 0 16 0

abbrev pub f_alloc_l : Form
f_alloc_l = form k_alloc 0xe0 4 (2 ^ 24) 0 0 16 0

-- the others: in eights; a form that moves the stack pointer down, but save_r19r20_x, counts one less than it moves
abbrev pub f_r19_r20_x : Form
f_r19_r20_x = form k_r19_r20_x 0x20 1 (2 ^ 5) 0 0 8 0

abbrev pub f_fplr : Form
f_fplr = form k_fplr 0x40 1 (2 ^ 6) 0 0 8 0

abbrev pub f_fplr_x : Form
f_fplr_x = form k_fplr_x 0x80 1 (2 ^ 6) 0 0 8 8

abbrev pub f_regp : Form
f_regp = form k_regp 0xc8 2 (2 ^ 6) 19 1 8 0

abbrev pub f_regp_x : Form
f_regp_x = form k_regp_x 0xcc 2 (2 ^ 6) 19 1 8 8

abbrev pub f_reg : Form
f_reg = form k_reg 0xd0 2 (2 ^ 6) 19 1 8 0

abbrev pub f_reg_x : Form
f_reg_x = form k_reg_x 0xd4 2 (2 ^ 5) 19 1 8 8

abbrev pub f_lrpair : Form
f_lrpair = form k_lrpair 0xd6 2 (2 ^ 6) 19 2 8 0

abbrev pub f_fregp : Form
f_fregp = form k_fregp 0xd8 2 (2 ^ 6) 8 1 8 0

abbrev pub f_fregp_x : Form
f_fregp_x = form k_fregp_x 0xda 2 (2 ^ 6) 8 1 8 8

abbrev pub f_freg : Form
f_freg = form k_freg 0xdc 2 (2 ^ 6) 8 1 8 0

abbrev pub f_freg_x : Form
f_freg_x = form k_freg_x 0xde 2 (2 ^ 5) 8 1 8 8

abbrev pub f_set_fp : Form
f_set_fp = alone k_set_fp 0xe1

abbrev pub f_add_fp : Form
f_add_fp = form k_add_fp 0xe2 2 (2 ^ 8) 0 0 8 0

abbrev pub f_nop : Form
f_nop = alone k_nop 0xe3

abbrev pub f_end : Form
f_end = alone k_end 0xe4

abbrev pub f_save_next : Form
f_save_next = alone k_save_next 0xe6

abbrev pub f_pac_sign_lr : Form
f_pac_sign_lr = alone k_pac_sign_lr 0xfc

-- the form of a first byte: of one byte below 0xc0, of two below 0xdf, and the rest
unfoldable pub short_form : ℕ → Form
short_form b = pick (ltb b 0x20) f_alloc_s (pick (ltb b 0x40) f_r19_r20_x (pick (ltb b 0x80) f_fplr f_fplr_x))

unfoldable pub integer_form : ℕ → Form
integer_form b =
    pick (ltb b 0xc8) f_alloc_m
    (pick (ltb b 0xcc) f_regp (pick (ltb b 0xd0) f_regp_x (pick (ltb b 0xd4) f_reg (pick (ltb b 0xd6) f_reg_x f_lrpair))))

unfoldable pub vector_form : ℕ → Form
vector_form b =
    pick (ltb b 0xda) f_fregp (pick (ltb b 0xdc) f_fregp_x (pick (ltb b 0xde) f_freg (pick (ltb b 0xdf) f_freg_x reserved)))

unfoldable pub other_form : ℕ → Form
other_form b =
    pick (eqb b 0xe0) f_alloc_l
    (pick (eqb b 0xe1) f_set_fp
    (pick (eqb b 0xe2) f_add_fp
    (pick (eqb b 0xe3) f_nop
    (pick (eqb b 0xe4) f_end
    (pick (eqb b 0xe6) f_save_next
    (pick (eqb b 0xfc) f_pac_sign_lr reserved))))))

unfoldable pub form_of : ℕ → Form
form_of b = pick (ltb b 0xc0) (short_form b) (pick (ltb b 0xd8) (integer_form b) (pick (ltb b 0xe0) (vector_form b) (other_form b)))

-- ---- one code read

-- the number behind the opcode of the code at p, first byte highest
unfoldable pub field_at : Form → List ℕ → ℕ → ℕ
field_at f s p =
    pick (eqb f.size 1) (get_or s p 0 - f.op)
    (pick (eqb f.size 2) (256 * (get_or s p 0 - f.op) + get_or s (p + 1) 0)
    (65536 * get_or s (p + 1) 0 + 256 * get_or s (p + 2) 0 + get_or s (p + 3) 0))

-- what a form with the number v says
unfoldable pub code_in : Form → ℕ → Code
code_in f v = code f.kind (f.first + f.step * (v / f.unit)) (f.scale * (v % f.unit) + f.more)

-- the code at p by its form, and the place past it: the code is one that `describe` writes, and complete
unfoldable pub code_as : Form → List ℕ → ℕ → Option (Code × ℕ)
code_as f s p =
    pick (eqb f.kind k_reserved) none
    (pick (leb (p + f.size) (length s)) (some (code_in f (field_at f s p), p + f.size)) none)

unfoldable pub code_at : List ℕ → ℕ → Option (Code × ℕ)
code_at s p = pick (ltb p (length s)) (code_as (form_of (get_or s p 0)) s p) none

-- ---- one code written (`Code::bytes` of the source)

-- a number in `size` bytes, the first highest
unfoldable pub big : (size : ℕ) → ℕ → List ℕ
big zero n = []
big (suc k) n = big k (n / 256) ++ (n % 256 ∷ [])

-- the field of a code's register, and of its offset
unfoldable pub register_field : Form → Code → ℕ
register_field f c = pick (eqb f.step 0) 0 ((c.register - f.first) / f.step)

unfoldable pub offset_field : Form → Code → ℕ
offset_field f c = (c.offset - f.more) / f.scale

-- a code in a form
unfoldable pub spelled : Form → Code → List ℕ
spelled f c = big f.size (f.op * 256 ^ (f.size - 1) + f.unit * register_field f c + offset_field f c)

-- the shortest form of an allocation
unfoldable pub alloc_form : (size : ℕ) → Form
alloc_form size = pick (ltb (size / 16) (2 ^ 5)) f_alloc_s (pick (ltb (size / 16) (2 ^ 11)) f_alloc_m f_alloc_l)

-- the forms of the other kinds, in their order
abbrev pub kind_forms : List Form
kind_forms =
    f_alloc_l ∷ f_r19_r20_x ∷ f_fplr ∷ f_fplr_x ∷ f_regp ∷ f_regp_x ∷ f_reg ∷ f_reg_x ∷ f_lrpair ∷ f_fregp ∷ f_fregp_x ∷ f_freg ∷ f_freg_x ∷ f_set_fp ∷ f_add_fp
    ∷ f_nop ∷ f_save_next ∷ f_pac_sign_lr ∷ []

unfoldable pub form_for : Code → Form
form_for c = pick (eqb c.kind k_alloc) (alloc_form c.offset) (get_or kind_forms c.kind reserved)

unfoldable pub code_bytes : Code → List ℕ
code_bytes c = spelled (form_for c) c

-- the last register that `describe` spells in a kind; 0 where the kind has none
abbrev pub last_registers : List ℕ
last_registers = 0 ∷ 0 ∷ 0 ∷ 0 ∷ 28 ∷ 28 ∷ 30 ∷ 30 ∷ 27 ∷ 14 ∷ 14 ∷ 15 ∷ 15 ∷ 0 ∷ 0 ∷ 0 ∷ 0 ∷ 0 ∷ []

-- a register that a form can name, and an offset that it can say
unfoldable pub register_fits : Form → Code → Bool
register_fits f c =
    eqb f.step 0
    || (leb f.first c.register && leb c.register (get_or last_registers c.kind 0) && eqb ((c.register - f.first) % f.step) 0)

unfoldable pub offset_fits : Form → Code → Bool
offset_fits f c = leb f.more c.offset && eqb (c.offset % f.scale) 0 && ltb (offset_field f c) f.unit

-- a code whose values its fields hold (question 83)
unfoldable pub code_fits : Code → Bool
code_fits c = register_fits (form_for c) c && offset_fits (form_for c) c
