-- When a function is packed into its entry's word (Microsoft, "ARM64 exception handling", "Packed unwind data"; `pack` of the source): where the
-- instructions that the word stands for are those that were given.
use Rattle.std.specs.Prelude.{ℕ, ◌+◌, ◌-◌, ◌*◌, ◌/◌, ◌^◌, Bool, ◌&&◌, ◌||◌, List, [], ◌∷◌, ltb, eqb}
use Rattle.format.specs.Prelude.{pick}
use Rattle.arm64.specs.declared.Code.{Code}
use Rattle.arm64.specs.declared.Packed.{Packed}
use Rattle.arm64.specs.Codes.{lr, k_alloc, k_r19_r20_x, k_fplr, k_fplr_x, k_regp, k_reg, k_reg_x, k_lrpair, k_fregp, k_fregp_x, k_freg, k_pac_sign_lr}
use Rattle.arm64.specs.Packed.{packed_ok, packed_prologue, packed_epilogue}
use Rattle.arm64.specs.Meaning.{reverse}
use Rattle.arm64.specs.Runs.{no_pair, resolve, same_codes}

-- ---- what a code counts: registers x19 to x28, vector registers, bytes that the stack pointer moves

unfoldable pub integers_in : Code → ℕ
integers_in c =
    pick (eqb c.kind k_r19_r20_x || eqb c.kind k_regp) 2
    (pick (eqb c.kind k_reg || eqb c.kind k_reg_x) (pick (eqb c.register lr) 0 1) (pick (eqb c.kind k_lrpair) 1 0))

unfoldable pub vectors_in : Code → ℕ
vectors_in c = pick (eqb c.kind k_fregp || eqb c.kind k_fregp_x) 2 (pick (eqb c.kind k_freg) 1 0)

unfoldable pub down_in : Code → ℕ
down_in c =
    pick (eqb c.kind k_alloc || eqb c.kind k_r19_r20_x || eqb c.kind k_fplr_x || eqb c.kind k_reg_x || eqb c.kind k_fregp_x) c.offset 0

-- CR: 2 behind a signing, else 3 behind the frame record, else 1 behind a save of lr
unfoldable pub chain_behind : ℕ → Code → ℕ
chain_behind chain c =
    pick (eqb c.kind k_pac_sign_lr) 2
    (pick (eqb c.kind k_fplr || eqb c.kind k_fplr_x) (pick (eqb chain 2) 2 3)
    (pick (eqb c.kind k_lrpair || ((eqb c.kind k_reg || eqb c.kind k_reg_x) && eqb c.register lr)) (pick (eqb chain 0) 1 chain) chain))

-- ---- the only word that may stand for a prologue

-- counts so far; the frame in bytes
unfoldable pub tally : Packed → Code → Packed
tally p c =
    record {
      flag = p.flag;
      length = p.length;
      vectors = p.vectors + vectors_in c;
      registers = p.registers + integers_in c;
      homes = p.homes;
      chain = chain_behind p.chain c;
      frame = p.frame + down_in c;
    }

unfoldable pub tallies : Packed → List Code → Packed
tallies p [] = p
tallies p (c ∷ cs) = tallies (tally p c) cs

-- a function of `size` instructions, nothing counted
unfoldable pub nothing_yet : (size : ℕ) → Packed
nothing_yet size = record { flag = 1; length = size; vectors = 0; registers = 0; homes = 0; chain = 0; frame = 0 }

-- RegF counts one less than are saved, and FrameSize in 16 bytes
unfoldable pub as_fields : Packed → Packed
as_fields p =
    record {
      flag = p.flag;
      length = p.length;
      vectors = p.vectors - 1;
      registers = p.registers;
      homes = p.homes;
      chain = p.chain;
      frame = p.frame / 16;
    }

unfoldable pub candidate : (size : ℕ) → (prologue : List Code) → Packed
candidate size ps = as_fields (tallies (nothing_yet size) (resolve no_pair ps))

-- flag 2 bits, length 11, RegF 3, RegI 4, H 1, CR 2, FrameSize 9
unfoldable pub packed_word : Packed → ℕ
packed_word p =
    p.flag + 2 ^ 2 * p.length + 2 ^ 13 * p.vectors + 2 ^ 16 * p.registers + 2 ^ 20 * p.homes + 2 ^ 21 * p.chain + 2 ^ 23 * p.frame

unfoldable pub fields_hold : Packed → Bool
fields_hold p = ltb p.length (2 ^ 11) && ltb p.vectors 8 && ltb p.frame (2 ^ 9)

-- the word is defined, and its prologue and epilogue are the given ones; both are given in the order in which they save
unfoldable pub stands_for : Packed → (prologue epilogue : List Code) → Bool
stands_for p ps r =
    fields_hold p && packed_ok p && same_codes (resolve no_pair ps) (packed_prologue p)
    && same_codes (reverse (resolve no_pair r)) (packed_epilogue p)
