-- The packed word of an entry (Microsoft, "ARM64 exception handling", "Packed unwind data"), and the prologue and epilogue that it stands for.
use Rattle.std.specs.Prelude.{ℕ, zero, suc, ◌+◌, ◌-◌, ◌*◌, ◌/◌, ◌%◌, ◌^◌, Bool, true, false, not, List, [], ◌∷◌, leb, ltb, eqb}
use Rattle.std.proofs.Math.Option.{Option, none, some}
use Rattle.format.specs.Prelude.{pick}
use Rattle.arm64.specs.declared.Code.{Code}
use Rattle.arm64.specs.declared.Packed.{Packed}
use Rattle.arm64.specs.declared.Part.{Part}
use Rattle.arm64.specs.declared.Part.TheVariants.{Prologue, Epilogue}
use Rattle.arm64.specs.Codes.{code, lr, k_alloc, k_r19_r20_x, k_fplr, k_fplr_x, k_regp, k_reg, k_reg_x, k_lrpair, k_fregp, k_fregp_x, k_freg, k_set_fp, k_nop, k_pac_sign_lr}

-- flag 2 bits, length 11, RegF 3, RegI 4, H 1, CR 2, FrameSize 9
unfoldable pub packed_of : ℕ → Packed
packed_of w =
    record {
      flag = w % 4;
      length = w / 2 ^ 2 % 2 ^ 11;
      vectors = w / 2 ^ 13 % 8;
      registers = w / 2 ^ 16 % 16;
      homes = w / 2 ^ 20 % 2;
      chain = w / 2 ^ 21 % 4;
      frame = w / 2 ^ 23;
    }

-- ---- sizes, in bytes

-- CR 1: lr is saved with the integer registers
unfoldable pub saves_lr : Packed → ℕ
saves_lr p = pick (eqb p.chain 1) 1 0

unfoldable pub integer_size : Packed → ℕ
integer_size p = 8 * p.registers + 8 * saves_lr p

-- RegF counts one less than are saved
unfoldable pub vector_count : Packed → ℕ
vector_count p = pick (eqb p.vectors 0) 0 (p.vectors + 1)

unfoldable pub saved_size : Packed → ℕ
saved_size p = (integer_size p + 8 * vector_count p + 64 * p.homes + 15) / 16 * 16

unfoldable pub local_size : Packed → ℕ
local_size p = 16 * p.frame - saved_size p

-- CR 2 and 3 store the frame record in the locals
unfoldable pub chain_ok : Packed → Bool
chain_ok p = pick (leb 2 p.chain) (not (eqb (local_size p) 0)) true

-- a word that the page defines
unfoldable pub packed_ok : Packed → Bool
packed_ok p =
    pick (leb p.registers 10)
    (pick (leb (saved_size p) (16 * p.frame))
    (pick (eqb p.chain 1) (not (eqb p.registers 1))
    (pick (eqb p.homes 1) (pick (eqb (integer_size p + 8 * vector_count p) 0) false (chain_ok p)) (chain_ok p))) false) false

-- ---- the prologue, by its places: 0 signs, 1 to 6 save integer registers, 7 to 10 vector registers, 11 to 14 store parameters, 15 to 18 take the locals

-- place 0. CR 2: pacibsp
unfoldable pub sign_slot : Packed → Option Code
sign_slot p = pick (eqb p.chain 2) (some (code k_pac_sign_lr 0 0)) none

-- a register alone in place j: the first save moves the stack pointer
unfoldable pub lone : Packed → (j register : ℕ) → Code
lone p j r = pick (eqb j 0) (code k_reg_x r (saved_size p)) (code k_reg r (16 * j))

-- registers 19 + 2j and 20 + 2j
unfoldable pub integer_pair : Packed → (j : ℕ) → Code
integer_pair p j = pick (eqb j 0) (code k_r19_r20_x 0 (saved_size p)) (code k_regp (19 + 2 * j) (16 * j))

-- an odd last register alone or, with CR 1, beside lr
unfoldable pub integer_odd : Packed → (j : ℕ) → Code
integer_odd p j = pick (eqb p.chain 1) (code k_lrpair (19 + 2 * j) (16 * j)) (lone p j (19 + 2 * j))

-- behind an even number of registers CR 1 saves lr alone
unfoldable pub integer_slot : Packed → (j : ℕ) → Option Code
integer_slot p j =
    pick (ltb (2 * j + 1) p.registers) (some (integer_pair p j))
    (pick (eqb (2 * j + 1) p.registers) (some (integer_odd p j))
    (pick (eqb (2 * j) p.registers) (pick (eqb p.chain 1) (some (lone p j lr)) none) none))

-- the first pair of vector registers moves the stack pointer where no integer register did
unfoldable pub vector_pair : Packed → (j : ℕ) → Code
vector_pair p j = pick (eqb (integer_size p + j) 0) (code k_fregp_x 8 (saved_size p)) (code k_fregp (8 + 2 * j) (integer_size p + 16 * j))

-- registers d(8 + 2j) and d(9 + 2j) as a pair, an odd last one alone
unfoldable pub vector_slot : Packed → (j : ℕ) → Option Code
vector_slot p j =
    pick (ltb (2 * j + 1) (vector_count p)) (some (vector_pair p j))
    (pick (eqb (2 * j + 1) (vector_count p)) (some (code k_freg (8 + 2 * j) (integer_size p + 16 * j))) none)

-- H: four instructions store the parameters
unfoldable pub home_slot : Packed → Option Code
home_slot p = pick (eqb p.homes 1) (some (code k_nop 0 0)) none

-- one instruction takes 4,080 bytes at most; the frame record of CR 2 and 3 takes up to 512 itself
unfoldable pub alloc_slot : Packed → Option Code
alloc_slot p =
    pick (leb (local_size p) (pick (leb 2 p.chain) 512 0)) none
    (some (code k_alloc 0 (pick (leb (local_size p) 4080) (local_size p) 4080)))

unfoldable pub rest_slot : Packed → Option Code
rest_slot p = pick (leb (local_size p) 4080) none (some (code k_alloc 0 (local_size p - 4080)))

-- CR 2 and 3: the frame record
unfoldable pub chain_slot : Packed → Option Code
chain_slot p = pick (leb 2 p.chain) (some (pick (leb (local_size p) 512) (code k_fplr_x 0 (local_size p)) (code k_fplr 0 0))) none

-- and the frame pointer
unfoldable pub frame_slot : Packed → Option Code
frame_slot p = pick (leb 2 p.chain) (some (code k_set_fp 0 0)) none

unfoldable pub local_slot : Packed → (j : ℕ) → Option Code
local_slot p j = pick (eqb j 0) (alloc_slot p) (pick (eqb j 1) (rest_slot p) (pick (eqb j 2) (chain_slot p) (frame_slot p)))

unfoldable pub slot : Packed → (i : ℕ) → Option Code
slot p i =
    pick (ltb i 1) (sign_slot p)
    (pick (ltb i 7) (integer_slot p (i - 1)) (pick (ltb i 11) (vector_slot p (i - 7)) (pick (ltb i 15) (home_slot p) (local_slot p (i - 15)))))

-- the instructions that n places from k on have
unfoldable pub with_slot : Option Code → List Code → List Code
with_slot (some c) cs = c ∷ cs
with_slot none cs = cs

unfoldable pub slots_from : (ℕ → Option Code) → (k n : ℕ) → List Code
slots_from at k zero = []
slots_from at k (suc n) = with_slot (at k) (slots_from at (suc k) n)

-- ---- the epilogue: the prologue backwards, without the homing and without the setting of the frame pointer

unfoldable pub undone : Option Code → Option Code
undone none = none
undone (some c) = pick (eqb c.kind k_nop) none (pick (eqb c.kind k_set_fp) none (some c))

unfoldable pub slot_at : Part → Packed → (i : ℕ) → Option Code
slot_at Prologue p i = slot p i
slot_at Epilogue p i = undone (slot p (18 - i))

unfoldable pub packed_prologue : Packed → List Code
packed_prologue p = slots_from (slot_at Prologue p) 0 19

unfoldable pub packed_epilogue : Packed → List Code
packed_epilogue p = slots_from (slot_at Epilogue p) 0 19
