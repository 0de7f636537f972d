-- The laws of tables.
use Rattle.std.proofs.Common.{◌≡◌, ℕ, zero, suc, ◌+◌, ◌*◌, ◌-◌, ◌<◌, ◌≤◌, List, ◌++◌, length, take, drop, get_or, Some, None, refl, ap, arith}
use Rattle.std.specs.Prelude.{Ok, slice_get, slice_index, slice_range}
use Rattle.std.specs.List.{concat}
use Rattle.std.specs.Int.{Width, byte_len, byte_worth, sum_through}
use Rattle.std.proofs.Math.Seq.{take-add}
use Rattle.std.proofs.lemmas.List.{drop-drop, get_or-drop, get_or-take}
use Rattle.elf.specs.Fields.{field, piece}
use Rattle.elf.specs.declared.refusal.Reason.TheVariants.{NoEntry}
use Rattle.elf.specs.declared.table.Table.{Table}
use Rattle.elf.specs.Refusals.{refuse}
use Rattle.elf.specs.Tables.{entries, entry_of}

pub entry_at : (file : List ℕ) (place size n i : ℕ) → i < n
    → slice_get (entries file place size n) i ≡ Some (piece file (place + size * i) size)
unfolding entries
entry_at file place size zero i lt = absurd (omega arith)
entry_at file place size (suc n) zero lt = let e : place + size * 0 ≡ place = omega arith in rw e refl
entry_at file place size (suc n) (suc i) lt =
    let e : place + size * suc i ≡ place + size + size * i = omega arith in
    rw e (entry_at file (place + size) size n i (omega arith))

past : (file : List ℕ) (place size n i : ℕ) → n ≤ i → slice_get (entries file place size n) i ≡ None
unfolding entries
past file place size zero i le = refl
past file place size (suc n) zero le = absurd (omega arith)
past file place size (suc n) (suc i) le = past file (place + size) size n i (omega arith)

pub length_entries : (file : List ℕ) (place size n : ℕ) → length (entries file place size n) ≡ n
unfolding entries
length_entries file place size zero = refl
length_entries file place size (suc n) = ap suc (length_entries file (place + size) size n)

pub entry_past : (t : Table) (file : List ℕ) (i : ℕ) → t.count ≤ i
    → entry_of t file i ≡ refuse NoEntry (t.place + t.size * t.count)
unfolding entry_of
entry_past t file i le = rw (past file t.place t.size t.count i le) refl

pub entry_there : (t : Table) (file : List ℕ) (i : ℕ) → i < t.count
    → entry_of t file i
    ≡ Ok (slice_range file (t.place + t.size * i) (t.place + t.size * i + t.size))
unfolding entry_of
entry_there t file i lt =
    let size : t.place + t.size * i + t.size - (t.place + t.size * i) ≡ t.size = omega arith in
    rw (size, entry_at file t.place t.size t.count i lt) refl

pub concat_entries : (file : List ℕ) (place size n : ℕ)
    → concat (entries file place size n) ≡ piece file place (size * n)
unfolding entries
concat_entries file place size zero = let e : size * 0 ≡ 0 = omega arith in rw e refl
concat_entries file place size (suc n) =
    let e : size * suc n ≡ size + size * n = omega arith in
    let front = λ (rest : List ℕ). piece file place size ++ rest in
    rw (e, take-add size (size * n) (drop place file), drop-drop size place file)
    (ap front (concat_entries file (place + size) size n))

-- a byte of an entry is a byte of the file
byte_at : (file : List ℕ) (place size at i : ℕ) → at + i < size
    → get_or (drop at (take size (drop place file))) i 0 ≡ get_or (drop (place + at) file) i 0
byte_at file place size at i lt =
    let e : place + (at + i) ≡ place + at + i = omega arith in
    rw (get_or-drop, get_or-take, get_or-drop, get_or-drop, e) refl

sum_same : (f g : ℕ → ℕ) (k : ℕ) → ((i : ℕ) → i ≤ k → f i ≡ g i) → sum_through f k ≡ sum_through g k
sum_same f g zero same = same 0 (omega arith)
sum_same f g (suc k) same =
    let below : sum_through f k ≡ sum_through g k = sum_same f g k (λ i le. same i (omega arith)) in
    let last : f (suc k) ≡ g (suc k) = same (suc k) (omega arith) in
    rw (below, last) refl

pub field_at : (file : List ℕ) (place size at : ℕ) (w : Width) → 0 < byte_len w → at + byte_len w ≤ size
    → field w (piece file place size) at ≡ field w file (place + at)
unfolding field
field_at file place size at w some le =
    sum_same
    (λ i. byte_worth i (slice_index (drop at (piece file place size)) i))
    (λ i. byte_worth i (slice_index (drop (place + at) file) i))
    (byte_len w - 1)
    (λ i below. ap (byte_worth i) (byte_at file place size at i (omega arith)))

pub ruleset table_laws = (entry_at, length_entries, concat_entries, field_at)
