-- The rows of a prologue read one by one: which are of one instruction, and the few numbers that are known so far.
use Rattle.std.specs.Prelude.{ℕ, zero, suc, ◌-◌, ◌*◌, Bool, true, false, ◌&&◌, List, ltb, eqb, Option, Some, None, ℤ, pos, neg_ℤ, ◌-ℤ◌}
use Rattle.format.specs.Prelude.{pick, Result, good, bad, onward}
use Rattle.format.specs.declared.Machine.{Machine}
use Rattle.format.specs.Machine.{Register, register_of}
use Rattle.format.specs.declared.Row.{Row}
use Rattle.format.specs.declared.Row.TheVariants.{DefCfa, DefCfaOffset, DefCfaRegister, Offset, Restore, Undefined, RememberState, RestoreState, NegateRaState, SameValue, InRegister}
use Rattle.format.specs.Rows.{kind_of, reg_of, offset_of, same_offset}
use Rattle.format.specs.Lists.{row_at}
use Rattle.format.specs.X64.{Step, push, alloc, frame, save, is_push, low16}
use Rattle.prologue.specs.declared.Steps.{Steps}
use Rattle.prologue.specs.declared.Steps.TheVariants.{NoStep, PointerPushed, Others}
use Rattle.prologue.specs.declared.Walk.{Walk}

-- ---- rows of one instruction

-- row i is of the instruction of the row before it, where that is one of the function's
unfoldable pub joined : (rows : List ℕ) (at i : ℕ) → Bool
joined rows at i = ltb at i && eqb (row_at rows (i - 1)).0 (row_at rows i).0

-- row i + 1 is of the instruction of row i, where that is one of the prologue's
unfoldable pub joins : (rows : List ℕ) (i end : ℕ) → Bool
joins rows i end = ltb (suc i) end && eqb (row_at rows i).0 (row_at rows (suc i)).0

-- row i is of the instruction of the two rows before it
unfoldable pub third : (rows : List ℕ) (at i : ℕ) → Bool
third rows at i = joined rows at i && joined rows at (i - 1)

-- ---- what is known so far

-- a register's number below 16 on the machine, where it has one
unfoldable pub found_of : Result Register → Option (ℕ × Bool)
found_of (good r) = Some (r.number, r.vector)
found_of (bad n) = None

-- the machine has one
unfoldable pub is_good : Result Register → Bool
is_good (good r) = true
is_good (bad n) = false

unfoldable pub knows : Machine → ℕ → Bool
knows m reg = is_good (low16 (register_of m reg))

-- and for the register of a step, where it has one
unfoldable pub known : Machine → Step → Bool
known m (push reg) = knows m reg
known m (alloc z) = true
known m frame = knows m m.frame
known m (save reg z) = knows m reg

-- steps with one more
unfoldable pub counted : (before : Steps) (pushes : Bool) → Steps
counted NoStep pushes = pick pushes PointerPushed Others
counted PointerPushed pushes = Others
counted Others pushes = Others

-- the push of the frame pointer alone
unfoldable pub is_pushed : Steps → Bool
is_pushed NoStep = false
is_pushed PointerPushed = true
is_pushed Others = false

-- one step more
unfoldable pub stepped : Walk → (pushes knows : Bool) → (below : ℤ) → Walk
stepped w pushes knows below = record { below = below; steps = counted w.steps pushes; named = w.named && knows }

unfoldable pub added : Machine → Walk → Step → (below : ℤ) → Walk
added m w s below = stepped w (is_push m.frame s) (known m s) below

-- a row that is its instruction's only one
unfoldable pub lone_in : Machine → (last : Bool) → Row → Walk → Result Walk
lone_in m last (DefCfa reg z) w = pick (eqb reg m.frame && same_offset z w.below) (good (added m w frame w.below)) (bad 32)
lone_in m last (DefCfaOffset z) w = good (added m w (alloc (z -ℤ w.below)) z)
lone_in m last (DefCfaRegister reg) w =
    pick (eqb reg m.frame && last && same_offset w.below (pos (2 * m.word)) && is_pushed w.steps) (good (added m w frame w.below)) (bad 31)
lone_in m last (Offset reg z) w = good (added m w (save reg z) w.below)
lone_in m last (Restore reg) w = bad 33
lone_in m last (Undefined reg) w = bad 33
lone_in m last RememberState w = bad 33
lone_in m last RestoreState w = bad 33
lone_in m last NegateRaState w = bad 33
lone_in m last (SameValue reg) w = bad 33
lone_in m last (InRegister reg other) w = bad 33

-- two rows of one instruction
unfoldable pub push_in : Machine → Row → Row → Walk → Result Walk
push_in m a b w =
    pick (eqb (kind_of a) 1 && eqb (kind_of b) 3 && same_offset (offset_of a -ℤ w.below) (pos m.word) && same_offset (offset_of b) (neg_ℤ (offset_of a)))
    (good (added m w (push (reg_of b)) (offset_of a))) (bad 33)

-- row i, the last of its instruction's: the rows are those from `at` to `end`
unfoldable pub last_in : Machine → (rows : List ℕ) → (at end i : ℕ) → Walk → Result Walk
last_in m rows at end i w =
    pick (joined rows at i) (push_in m (row_at rows (i - 1)).1 (row_at rows i).1 w) (lone_in m (eqb (suc i) end) (row_at rows i).1 w)

-- row i: an instruction is read at its last row, and refused at its third
unfoldable pub row_in : Machine → (rows : List ℕ) → (at end i : ℕ) → Walk → Result Walk
row_in m rows at end i w = pick (third rows at i) (bad 33) (pick (joins rows i end) (good w) (last_in m rows at end i w))

-- n rows from i on, to the first no
unfoldable pub walk_from : Machine → (rows : List ℕ) → (at end i n : ℕ) → Walk → Result Walk
walk_from m rows at end i zero w = good w
walk_from m rows at end i (suc n) w = onward (row_in m rows at end i w) (walk_from m rows at end (suc i) n)

-- before the first row
unfoldable pub start : Machine → Walk
start m = record { below = pos m.pushed; steps = NoStep; named = true }
