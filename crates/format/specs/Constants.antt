-- Numbers that have a name in the documents.
use Rattle.std.specs.Prelude.{ℕ}

-- formats of an object file (document 01, "Machine, function and row"); from 5 on there is none
abbrev pub elf : ℕ
elf = 0

abbrev pub coff : ℕ
coff = 1

abbrev pub mach_o : ℕ
mach_o = 2

abbrev pub plan9 : ℕ
plan9 = 4

-- kinds of a row in a list, in document 01's order; the last two are document 02's (W-207)
abbrev pub def_cfa_kind : ℕ
def_cfa_kind = 0

abbrev pub def_cfa_offset_kind : ℕ
def_cfa_offset_kind = 1

abbrev pub def_cfa_register_kind : ℕ
def_cfa_register_kind = 2

abbrev pub offset_kind : ℕ
offset_kind = 3

abbrev pub restore_kind : ℕ
restore_kind = 4

abbrev pub undefined_kind : ℕ
undefined_kind = 5

abbrev pub remember_state_kind : ℕ
remember_state_kind = 6

abbrev pub restore_state_kind : ℕ
restore_state_kind = 7

abbrev pub negate_ra_state_kind : ℕ
negate_ra_state_kind = 8

abbrev pub same_value_kind : ℕ
same_value_kind = 9

abbrev pub in_register_kind : ℕ
in_register_kind = 10

-- kinds of an x64 code in a list
abbrev pub push_kind : ℕ
push_kind = 0

abbrev pub alloc_kind : ℕ
alloc_kind = 1

abbrev pub frame_kind : ℕ
frame_kind = 2

abbrev pub save_kind : ℕ
save_kind = 3

-- kinds of a relocation: a distance, an address, a sum's two parts, an offset in the image; and the fields that a linker sets, each with its Sub as the next number
abbrev pub data_reloc : ℕ
data_reloc = 0

abbrev pub address_reloc : ℕ
address_reloc = 1

abbrev pub sum_plus_reloc : ℕ
sum_plus_reloc = 2

abbrev pub sum_minus_reloc : ℕ
sum_minus_reloc = 3

abbrev pub image_reloc : ℕ
image_reloc = 4

abbrev pub set6_reloc : ℕ
set6_reloc = 5

abbrev pub set8_reloc : ℕ
set8_reloc = 7

abbrev pub set16_reloc : ℕ
set16_reloc = 9

abbrev pub set32_reloc : ℕ
set32_reloc = 11

-- symbols that are not the caller's: the personality reference, EXCEPT_TABLE and .debug_frame
abbrev pub personality_symbol : ℕ
personality_symbol = 0

abbrev pub except_table : ℕ
except_table = 1

abbrev pub debug_frame : ℕ
debug_frame = 2

-- opcodes (DWARF 5, 7.24, table 7.29): the first three hold a number in their low six bits; the last is of DWARF for the Arm 64-bit Architecture
abbrev pub DW_CFA_advance_loc : ℕ
DW_CFA_advance_loc = 0x40

abbrev pub DW_CFA_offset : ℕ
DW_CFA_offset = 0x80

abbrev pub DW_CFA_restore : ℕ
DW_CFA_restore = 0xc0

abbrev pub DW_CFA_nop : ℕ
DW_CFA_nop = 0x00

abbrev pub DW_CFA_advance_loc1 : ℕ
DW_CFA_advance_loc1 = 0x02

abbrev pub DW_CFA_advance_loc2 : ℕ
DW_CFA_advance_loc2 = 0x03

abbrev pub DW_CFA_advance_loc4 : ℕ
DW_CFA_advance_loc4 = 0x04

abbrev pub DW_CFA_offset_extended : ℕ
DW_CFA_offset_extended = 0x05

abbrev pub DW_CFA_restore_extended : ℕ
DW_CFA_restore_extended = 0x06

abbrev pub DW_CFA_undefined : ℕ
DW_CFA_undefined = 0x07

abbrev pub DW_CFA_same_value : ℕ
DW_CFA_same_value = 0x08

abbrev pub DW_CFA_register : ℕ
DW_CFA_register = 0x09

abbrev pub DW_CFA_remember_state : ℕ
DW_CFA_remember_state = 0x0a

abbrev pub DW_CFA_restore_state : ℕ
DW_CFA_restore_state = 0x0b

abbrev pub DW_CFA_def_cfa : ℕ
DW_CFA_def_cfa = 0x0c

abbrev pub DW_CFA_def_cfa_register : ℕ
DW_CFA_def_cfa_register = 0x0d

abbrev pub DW_CFA_def_cfa_offset : ℕ
DW_CFA_def_cfa_offset = 0x0e

abbrev pub DW_CFA_offset_extended_sf : ℕ
DW_CFA_offset_extended_sf = 0x11

abbrev pub DW_CFA_def_cfa_sf : ℕ
DW_CFA_def_cfa_sf = 0x12

abbrev pub DW_CFA_def_cfa_offset_sf : ℕ
DW_CFA_def_cfa_offset_sf = 0x13

abbrev pub DW_CFA_AARCH64_negate_ra_state : ℕ
DW_CFA_AARCH64_negate_ra_state = 0x2d

-- pointer encodings (LSB, "DWARF Exception Header Encoding"); the middle three are pcrel with udata4, with sdata4, and the latter read through a pointer
abbrev pub DW_EH_PE_absptr : ℕ
DW_EH_PE_absptr = 0x00

abbrev pub DW_EH_PE_uleb128 : ℕ
DW_EH_PE_uleb128 = 0x01

abbrev pub DW_EH_PE_udata4 : ℕ
DW_EH_PE_udata4 = 0x03

abbrev pub DW_EH_PE_udata8 : ℕ
DW_EH_PE_udata8 = 0x04

abbrev pub DW_EH_PE_sdata4 : ℕ
DW_EH_PE_sdata4 = 0x0b

abbrev pub DW_EH_PE_sdata8 : ℕ
DW_EH_PE_sdata8 = 0x0c

abbrev pub DW_EH_PE_pcrel : ℕ
DW_EH_PE_pcrel = 0x10

abbrev pub pcrel_udata4 : ℕ
pcrel_udata4 = 0x13

abbrev pub pcrel_sdata4 : ℕ
pcrel_sdata4 = 0x1b

abbrev pub indirect_pcrel_sdata4 : ℕ
indirect_pcrel_sdata4 = 0x9b

abbrev pub DW_EH_PE_indirect : ℕ
DW_EH_PE_indirect = 0x80

abbrev pub DW_EH_PE_omit : ℕ
DW_EH_PE_omit = 0xff

-- letters of an augmentation string (LSB, "Augmentation String Format")
abbrev pub letter_z : ℕ
letter_z = 0x7a

abbrev pub letter_p : ℕ
letter_p = 0x50

abbrev pub letter_l : ℕ
letter_l = 0x4c

abbrev pub letter_r : ℕ
letter_r = 0x52

abbrev pub letter_s : ℕ
letter_s = 0x53

-- operations of an x64 unwind code (Microsoft, "Unwind operation code"); the far form of a save is the next number
abbrev pub UWOP_PUSH_NONVOL : ℕ
UWOP_PUSH_NONVOL = 0

abbrev pub UWOP_ALLOC_LARGE : ℕ
UWOP_ALLOC_LARGE = 1

abbrev pub UWOP_ALLOC_SMALL : ℕ
UWOP_ALLOC_SMALL = 2

abbrev pub UWOP_SET_FPREG : ℕ
UWOP_SET_FPREG = 3

abbrev pub UWOP_SAVE_NONVOL : ℕ
UWOP_SAVE_NONVOL = 4

abbrev pub UWOP_SAVE_NONVOL_FAR : ℕ
UWOP_SAVE_NONVOL_FAR = 5

abbrev pub UWOP_SAVE_XMM128 : ℕ
UWOP_SAVE_XMM128 = 8

abbrev pub UWOP_SAVE_XMM128_FAR : ℕ
UWOP_SAVE_XMM128_FAR = 9
