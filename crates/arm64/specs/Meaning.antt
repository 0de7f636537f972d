-- What the instruction of a code does (Microsoft, "ARM64 exception handling", "Unwind codes"): two lists of codes that mean the same are unwound alike.
use Rattle.std.specs.Prelude.{ℕ, ◌+◌, Bool, true, false, List, [], ◌∷◌, ◌++◌, eqb}
use Rattle.std.proofs.Math.Option.{Option, none, some}
use Rattle.format.specs.Prelude.{pick}
use Rattle.arm64.specs.declared.Code.{Code}
use Rattle.arm64.specs.Codes.{k_alloc, k_r19_r20_x, k_fplr, k_fplr_x, k_regp, k_regp_x, k_reg, k_reg_x, k_lrpair, k_fregp, k_fregp_x, k_freg, k_freg_x, k_set_fp, k_add_fp, k_nop, k_save_next, k_pac_sign_lr, fp, lr}

-- a register, of the vector bank or not, stored at a distance above the stack pointer
pub record Store : Type 0 where
  pub vector : Bool
  pub register : ℕ
  pub above : ℕ

-- the stack pointer goes down, registers are stored above it, the frame pointer is set to a distance above it, and lr is signed
pub record Effect : Type 0 where
  pub down : ℕ
  pub stores : List Store
  pub frame : Option ℕ
  pub signs : Bool

-- the pair that a save_next goes on from: its bank, its first register, and its distance above the stack pointer
pub record Pair : Type 0 where
  pub vector : Bool
  pub register : ℕ
  pub above : ℕ

-- what a code does, and the pair that it leaves to a save_next
pub record Step : Type 0 where
  pub effect : Effect
  pub pair : Option Pair

unfoldable pub stored : (vector : Bool) → (register above : ℕ) → Store
stored v r z = record { vector = v; register = r; above = z }

-- stores alone, behind a move of the stack pointer
unfoldable pub storing : (down : ℕ) → List Store → Effect
storing down stores = record { down = down; stores = stores; frame = none; signs = false }

unfoldable pub only : Effect → Option Step
only e = some (record { effect = e; pair = none })

-- a register alone; two registers that are no pair; a pair
unfoldable pub save_one : (vector : Bool) → (down register above : ℕ) → Option Step
save_one v down r z = only (storing down (stored v r z ∷ []))

unfoldable pub save_two : (down first second above : ℕ) → Option Step
save_two down a b z = only (storing down (stored false a z ∷ stored false b (z + 8) ∷ []))

unfoldable pub save_pair : (vector : Bool) → (down register above : ℕ) → Option Step
save_pair v down r z =
    some
    (record {
      effect = storing down (stored v r z ∷ stored v (r + 1) (z + 8) ∷ []);
      pair = some (record { vector = v; register = r; above = z });
    })

-- a save_next: two registers on and 16 bytes up; behind no pair it means nothing
unfoldable pub save_next : Option Pair → Option Step
save_next none = none
save_next (some p) = save_pair p.vector 0 (p.register + 2) (p.above + 16)

-- a pair at x29 is the frame record, and no pair that a save_next goes on from
unfoldable pub pair_step : (down register above : ℕ) → Option Step
pair_step down r z = pick (eqb r fp) (save_two down fp lr z) (save_pair false down r z)

unfoldable pub integer_step : (kind register offset : ℕ) → Option Step
integer_step k r z =
    pick (eqb k k_regp) (pair_step 0 r z)
    (pick (eqb k k_regp_x) (pair_step z r 0)
    (pick (eqb k k_reg) (save_one false 0 r z)
    (pick (eqb k k_reg_x) (save_one false z r 0)
    (pick (eqb k k_lrpair) (save_two 0 r lr z) none))))

unfoldable pub vector_step : (kind register offset : ℕ) → Option Step
vector_step k r z =
    pick (eqb k k_fregp) (save_pair true 0 r z)
    (pick (eqb k k_fregp_x) (save_pair true z r 0)
    (pick (eqb k k_freg) (save_one true 0 r z)
    (pick (eqb k k_freg_x) (save_one true z r 0) none)))

unfoldable pub frame_step : (kind offset : ℕ) → Option Step
frame_step k z =
    pick (eqb k k_alloc) (only (storing z []))
    (pick (eqb k k_r19_r20_x) (save_pair false z 19 0)
    (pick (eqb k k_fplr) (save_two 0 fp lr z)
    (pick (eqb k k_fplr_x) (save_two z fp lr 0)
    (pick (eqb k k_set_fp) (only (record { down = 0; stores = []; frame = some 0; signs = false }))
    (pick (eqb k k_add_fp) (only (record { down = 0; stores = []; frame = some z; signs = false }))
    (pick (eqb k k_nop) (only (storing 0 []))
    (pick (eqb k k_pac_sign_lr) (only (record { down = 0; stores = []; frame = none; signs = true })) none)))))))

-- the first of two that is there
unfoldable pub or_step : Option Step → Option Step → Option Step
or_step none t = t
or_step (some s) t = some s

unfoldable pub step_of : Option Pair → Code → Option Step
step_of before c =
    pick (eqb c.kind k_save_next) (save_next before)
    (or_step (frame_step c.kind c.offset)
    (or_step (integer_step c.kind c.register c.offset) (vector_step c.kind c.register c.offset)))

-- the pair behind a step
unfoldable pub pair_of : Option Step → Option Pair
pair_of none = none
pair_of (some s) = s.pair

unfoldable pub effect_of : Option Step → Option Effect
effect_of none = none
effect_of (some s) = some s.effect

-- the effects of codes in the order in which their registers are saved: a prologue's order
unfoldable pub effects : Option Pair → List Code → List (Option Effect)
effects before [] = []
effects before (c ∷ cs) = effect_of (step_of before c) ∷ effects (pair_of (step_of before c)) cs

unfoldable pub reverse : {A : Type 0} → List A → List A
reverse [] = []
reverse (x ∷ xs) = reverse xs ++ (x ∷ [])

unfoldable pub prologue_means : List Code → List (Option Effect)
prologue_means cs = effects none cs

-- an epilogue undoes its codes' effects, in reverse order of saving
unfoldable pub epilogue_means : List Code → List (Option Effect)
epilogue_means cs = reverse (effects none (reverse cs))
