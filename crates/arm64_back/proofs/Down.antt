-- The prologue of a defined packed word moves the stack pointer down by 16 times FrameSize in all: the places of the locals by the local area, and the
-- first save by the area of the saved registers.
use mathlib.Core.Path.{◌≡◌, refl, sym, ap, ◌∙◌}
use mathlib.Core.Bool.{Bool, true, false, not, ◌&&◌, ◌||◌, false≢true}
use mathlib.Core.Option.{Option, none, some}
use mathlib.Core.List.{List, [], ◌∷◌}
use Prim.Native.Nat.{ℕ, zero, suc, ◌+◌, ◌-◌, ◌*◌, ◌/◌, ◌%◌, ◌≤◌, ◌<◌}
use native.Mathlib.Omega.{arith}
use native.Mathlib.Numerals.{add-one}
use lib.Dec.{leb, ltb, eqb}
use borrow.Author.Tests.{eq-eqb, eqb-true, eqb-false, ne_eqb, lt-ltb}
use Rattle.format.specs.Prelude.{pick, after}
use Rattle.format.proofs.Choice.{picked, either, decided}
use Rattle.arm64.specs.declared.Code.{Code}
use Rattle.arm64.specs.declared.Packed.{Packed}
use Rattle.arm64.specs.declared.Part.TheVariants.{Prologue}
use Rattle.arm64.specs.Codes.{code, k_alloc, k_r19_r20_x, k_fplr, k_fplr_x, k_regp, k_reg, k_reg_x, k_lrpair, k_fregp, k_fregp_x, k_freg, k_set_fp, k_nop, k_pac_sign_lr, fp, lr}
use Rattle.arm64.specs.Packed.{packed_of, packed_ok, saves_lr, integer_size, vector_count, saved_size, local_size, chain_ok, sign_slot, lone, integer_pair, integer_odd, integer_slot, vector_pair, vector_slot, home_slot, alloc_slot, rest_slot, chain_slot, frame_slot, local_slot, slot, with_slot, slots_from, slot_at, packed_prologue}
use Rattle.arm64.specs.Meaning.{Effect, Pair, only, storing, save_one, save_two, save_pair, pair_step, integer_step, vector_step, frame_step, or_step, step_of, pair_of, effect_of, effects, prologue_means}
use Rattle.arm64.proofs.MeaningLaws.{by_pick}
use Rattle.arm64_back.specs.Down.{down_through, moves, down_by, slot_down, is_defined, packed_down}
use Rattle.std.proofs.lemmas.Bool.{and_parts}

-- ---- one code

-- a code that means something, behind whatever pair, and moves the stack pointer by as much as its kind says
pub record Sound (c : Code) : Type 0 where
  pub means : (before : Option Pair) → (e : Effect) × (effect_of (step_of before c) ≡ some e) × (e.down ≡ down_by c)

-- and of a place, which may have none
abbrev pub SoundSlot : Option Code → Type 0
SoundSlot none = Unit {0}
SoundSlot (some c) = Sound c

s_alloc : (z : ℕ) → Sound (code k_alloc 0 z)
unfolding step_of or_step frame_step only storing effect_of down_by moves pick
s_alloc z = record { means = λ before. (_, refl, refl) }

s_first : (z : ℕ) → Sound (code k_r19_r20_x 0 z)
unfolding step_of or_step frame_step save_pair storing effect_of down_by moves pick
s_first z = record { means = λ before. (_, refl, refl) }

s_fplr : (z : ℕ) → Sound (code k_fplr 0 z)
unfolding step_of or_step frame_step save_two only storing effect_of down_by moves pick
s_fplr z = record { means = λ before. (_, refl, refl) }

s_fplr_x : (z : ℕ) → Sound (code k_fplr_x 0 z)
unfolding step_of or_step frame_step save_two only storing effect_of down_by moves pick
s_fplr_x z = record { means = λ before. (_, refl, refl) }

s_reg : (r z : ℕ) → Sound (code k_reg r z)
unfolding step_of or_step frame_step integer_step save_one only storing effect_of down_by moves pick
s_reg r z = record { means = λ before. (_, refl, refl) }

s_reg_x : (r z : ℕ) → Sound (code k_reg_x r z)
unfolding step_of or_step frame_step integer_step save_one only storing effect_of down_by moves pick
s_reg_x r z = record { means = λ before. (_, refl, refl) }

s_lrpair : (r z : ℕ) → Sound (code k_lrpair r z)
unfolding step_of or_step frame_step integer_step save_two only storing effect_of down_by moves pick
s_lrpair r z = record { means = λ before. (_, refl, refl) }

s_regp : (r z : ℕ) → Sound (code k_regp r z)
unfolding step_of or_step frame_step integer_step pair_step save_two save_pair only storing effect_of down_by moves pick
s_regp r z = record { means = λ before. decided (eqb r fp) (λ t. rw t (_, refl, refl)) λ t. rw t (_, refl, refl) }

s_fregp : (r z : ℕ) → Sound (code k_fregp r z)
unfolding step_of or_step frame_step integer_step vector_step save_pair storing effect_of down_by moves pick
s_fregp r z = record { means = λ before. (_, refl, refl) }

s_fregp_x : (r z : ℕ) → Sound (code k_fregp_x r z)
unfolding step_of or_step frame_step integer_step vector_step save_pair storing effect_of down_by moves pick
s_fregp_x r z = record { means = λ before. (_, refl, refl) }

s_freg : (r z : ℕ) → Sound (code k_freg r z)
unfolding step_of or_step frame_step integer_step vector_step save_one only storing effect_of down_by moves pick
s_freg r z = record { means = λ before. (_, refl, refl) }

s_set_fp : Sound (code k_set_fp 0 0)
unfolding step_of or_step frame_step only effect_of down_by moves pick
s_set_fp = record { means = λ before. (_, refl, refl) }

s_nop : Sound (code k_nop 0 0)
unfolding step_of or_step frame_step only storing effect_of down_by moves pick
s_nop = record { means = λ before. (_, refl, refl) }

s_sign : Sound (code k_pac_sign_lr 0 0)
unfolding step_of or_step frame_step only effect_of down_by moves pick
s_sign = record { means = λ before. (_, refl, refl) }

-- ---- the places

module _ (p : Packed) where
  lone_sound : (j r : ℕ) → Sound (lone p j r)
  unfolding lone
  lone_sound j r = picked Sound (eqb j 0) (s_reg_x r (saved_size p)) (s_reg r (16 * j))

  pair_sound : (j : ℕ) → Sound (integer_pair p j)
  unfolding integer_pair
  pair_sound j = picked Sound (eqb j 0) (s_first (saved_size p)) (s_regp (19 + 2 * j) (16 * j))

  odd_sound : (j : ℕ) → Sound (integer_odd p j)
  unfolding integer_odd
  odd_sound j = picked Sound (eqb p.chain 1) (s_lrpair (19 + 2 * j) (16 * j)) (lone_sound j (19 + 2 * j))

  integer_sound : (j : ℕ) → SoundSlot (integer_slot p j)
  unfolding integer_slot
  integer_sound j =
      picked SoundSlot (ltb (2 * j + 1) p.registers) (pair_sound j)
      (picked SoundSlot (eqb (2 * j + 1) p.registers) (odd_sound j)
      (picked SoundSlot (eqb (2 * j) p.registers) (picked SoundSlot (eqb p.chain 1) {x = some (lone p j lr)} {y = none} (lone_sound j lr) tt) tt))

  vector_pair_sound : (j : ℕ) → Sound (vector_pair p j)
  unfolding vector_pair
  vector_pair_sound j =
      picked Sound (eqb (integer_size p + j) 0) (s_fregp_x 8 (saved_size p)) (s_fregp (8 + 2 * j) (integer_size p + 16 * j))

  vector_sound : (j : ℕ) → SoundSlot (vector_slot p j)
  unfolding vector_slot
  vector_sound j =
      picked SoundSlot (ltb (2 * j + 1) (vector_count p)) (vector_pair_sound j)
      (picked SoundSlot (eqb (2 * j + 1) (vector_count p)) {x = some (code k_freg (8 + 2 * j) (integer_size p + 16 * j))} {y = none} (s_freg (8 + 2 * j) (integer_size p + 16 * j)) tt)

  local_sound : (j : ℕ) → SoundSlot (local_slot p j)
  unfolding local_slot alloc_slot rest_slot chain_slot frame_slot
  local_sound j =
      picked SoundSlot (eqb j 0) (picked SoundSlot _ {x = none} tt (s_alloc _))
      (picked SoundSlot (eqb j 1) (picked SoundSlot (leb (local_size p) 4080) {x = none} tt (s_alloc (local_size p - 4080)))
      (picked SoundSlot (eqb j 2)
      (picked SoundSlot (leb 2 p.chain) {y = none} (picked Sound (leb (local_size p) 512) (s_fplr_x (local_size p)) (s_fplr 0)) tt)
      (picked SoundSlot (leb 2 p.chain) {y = none} s_set_fp tt)))

  slot_sound : (i : ℕ) → SoundSlot (slot p i)
  unfolding slot sign_slot home_slot
  slot_sound i =
      picked SoundSlot (ltb i 1) (picked SoundSlot (eqb p.chain 2) {y = none} s_sign tt)
      (picked SoundSlot (ltb i 7) (integer_sound (i - 1))
      (picked SoundSlot (ltb i 11) (vector_sound (i - 7))
      (picked SoundSlot (ltb i 15) (picked SoundSlot (eqb p.homes 1) {y = none} s_nop tt) (local_sound (i - 15)))))

-- ---- places one after the other

unfoldable pub slots_down : (ℕ → Option Code) → (k n : ℕ) → ℕ
slots_down at k zero = 0
slots_down at k (suc n) = slot_down (at k) + slots_down at (suc k) n

-- one more of the 19
pub next_down : (at : ℕ → Option Code) (i : ℕ) → i < 19 → slots_down at i (19 - i) ≡ slot_down (at i) + slots_down at (i + 1) (19 - (i + 1))
unfolding slots_down
next_down at i h = let z : 19 - i ≡ suc (19 - (i + 1)) = omega arith in rw (z, add-one i) refl

pub no_more : (at : ℕ → Option Code) (i : ℕ) → 19 ≤ i → slots_down at i (19 - i) ≡ 0
unfolding slots_down
no_more at i h = let z : 19 - i ≡ 0 = omega arith in rw z

slot_through : (x : Option Code) (cs : List Code) (before : Option Pair) (m : ℕ) → SoundSlot x
    → ((b : Option Pair) → down_through (effects b cs) ≡ some m) → down_through (effects before (with_slot x cs)) ≡ some (slot_down x + m)
unfolding with_slot effects down_through slot_down after
slot_through none cs before m s h = let z : m ≡ 0 + m = omega arith in h before ∙ ap (λ (n : ℕ). some n) z
slot_through (some c) cs before m s h =
    let t = s.means before in rw (t.1, h (pair_of (step_of before c)), t.2)

pub through : (at : ℕ → Option Code) → ((i : ℕ) → SoundSlot (at i)) → (k n : ℕ) (before : Option Pair)
    → down_through (effects before (slots_from at k n)) ≡ some (slots_down at k n)
unfolding slots_from slots_down effects down_through
through at s k zero before = refl
through at s k (suc n) before = slot_through (at k) (slots_from at (suc k) n) before (slots_down at (suc k) n) (s k) (through at s (suc k) n)

-- ---- how much each place moves

module _ (p : Packed) where
  sign_down : slot_down (sign_slot p) ≡ 0
  unfolding sign_slot slot_down down_by moves pick
  sign_down = decided (eqb p.chain 2) (λ t. rw t refl) λ t. rw t refl

  home_down : slot_down (home_slot p) ≡ 0
  unfolding home_slot slot_down down_by moves pick
  home_down = decided (eqb p.homes 1) (λ t. rw t refl) λ t. rw t refl

  frame_down : slot_down (frame_slot p) ≡ 0
  unfolding frame_slot slot_down down_by moves pick
  frame_down = decided (leb 2 p.chain) (λ t. rw t refl) λ t. rw t refl

  -- behind the first place of a bank
  later_integer : (j : ℕ) → slot_down (integer_slot p (suc j)) ≡ 0
  unfolding integer_slot integer_pair integer_odd lone slot_down down_by moves pick
  later_integer j =
      let P : Option Code → Type 0 = λ x. slot_down x ≡ 0 in
      let later : eqb (suc j) 0 ≡ false = ne_eqb (suc j) 0 (λ (e : suc j ≡ 0). omega (arith, e)) in
      picked P (ltb (2 * suc j + 1) p.registers) {x = some (integer_pair p (suc j))} (rw later refl)
      (picked P (eqb (2 * suc j + 1) p.registers) {x = some (integer_odd p (suc j))} (picked (λ c. slot_down (some c) ≡ 0) (eqb p.chain 1) refl (rw later refl))
      (picked P (eqb (2 * suc j) p.registers) (picked P (eqb p.chain 1) {x = some (lone p (suc j) lr)} {y = none} (rw later refl) refl) refl))

  later_vector : (j : ℕ) → slot_down (vector_slot p (suc j)) ≡ 0
  unfolding vector_slot vector_pair slot_down down_by moves pick
  later_vector j =
      let P : Option Code → Type 0 = λ x. slot_down x ≡ 0 in
      let n : integer_size p + suc j ≡ 0 → ⊥ = λ e. omega (arith, e) in
      picked P (ltb (2 * suc j + 1) (vector_count p)) {x = some (vector_pair p (suc j))} (rw (ne_eqb (integer_size p + suc j) 0 n) refl)
      (picked P (eqb (2 * suc j + 1) (vector_count p)) {y = none} refl refl)

  -- the first save, of integer registers
  first_pair : 1 < p.registers → slot_down (integer_slot p 0) ≡ saved_size p
  unfolding integer_slot integer_pair slot_down down_by moves pick
  first_pair l = rw (lt-ltb 1 p.registers l) refl

  first_alone : p.registers ≡ 1 → (p.chain ≡ 1 → ⊥) → slot_down (integer_slot p 0) ≡ saved_size p
  unfolding integer_slot integer_odd lone slot_down down_by moves pick
  first_alone e n = rw (e, ne_eqb p.chain 1 n) refl

  first_lr : p.registers ≡ 0 → p.chain ≡ 1 → slot_down (integer_slot p 0) ≡ saved_size p
  unfolding integer_slot lone slot_down down_by moves pick
  first_lr e c = rw (e, c) refl

  no_integer : p.registers ≡ 0 → (p.chain ≡ 1 → ⊥) → slot_down (integer_slot p 0) ≡ 0
  unfolding integer_slot slot_down pick
  no_integer e n = rw (e, ne_eqb p.chain 1 n) refl

  -- or of vector registers
  vectors_behind : 0 < integer_size p → slot_down (vector_slot p 0) ≡ 0
  unfolding vector_slot vector_pair slot_down down_by moves pick
  vectors_behind l =
      let P : Option Code → Type 0 = λ x. slot_down x ≡ 0 in
      let n : integer_size p + 0 ≡ 0 → ⊥ = λ e. omega (arith, e, l) in
      picked P (ltb 1 (vector_count p)) {x = some (vector_pair p 0)} (rw (ne_eqb (integer_size p + 0) 0 n) refl)
      (picked P (eqb 1 (vector_count p)) {y = none} refl refl)

  first_vectors : integer_size p ≡ 0 → 1 < vector_count p → slot_down (vector_slot p 0) ≡ saved_size p
  unfolding vector_slot vector_pair slot_down down_by moves pick
  first_vectors e l = rw (lt-ltb 1 (vector_count p) l, eq-eqb (integer_size p + 0) 0 (omega (arith, e))) refl

  no_vectors : vector_count p ≡ 0 → slot_down (vector_slot p 0) ≡ 0
  unfolding vector_slot slot_down pick
  no_vectors e = rw e refl

  -- the counts
  some_integers : 0 < p.registers → 0 < integer_size p
  unfolding integer_size
  some_integers l = omega (arith, l)

  lr_size : p.chain ≡ 1 → 0 < integer_size p
  unfolding integer_size saves_lr pick
  lr_size e = rw e (omega arith)

  no_size : p.registers ≡ 0 → (p.chain ≡ 1 → ⊥) → integer_size p ≡ 0
  unfolding integer_size saves_lr pick
  no_size e n = rw (e, ne_eqb p.chain 1 n) refl

  many_vectors : (p.vectors ≡ 0 → ⊥) → 1 < vector_count p
  unfolding vector_count pick
  many_vectors n = rw (ne_eqb p.vectors 0 n) (omega (arith, n))

  no_count : p.vectors ≡ 0 → vector_count p ≡ 0
  unfolding vector_count pick
  no_count e = rw e refl

  nothing_saved : integer_size p ≡ 0 → vector_count p ≡ 0 → p.homes ≡ 0 → saved_size p ≡ 0
  unfolding saved_size
  nothing_saved e f h = rw (e, f, h) refl

  -- what the page does not define
  not_one : packed_ok p ≡ true → p.registers ≡ 1 → p.chain ≡ 1 → ⊥
  unfolding packed_ok pick
  not_one ok e f = grind arith

  no_homes : packed_ok p ≡ true → (p.chain ≡ 1 → ⊥) → integer_size p ≡ 0 → vector_count p ≡ 0 → p.homes ≡ 1 → ⊥
  unfolding packed_ok pick
  no_homes ok n e f h = grind arith

  saves_down : packed_ok p ≡ true → p.homes < 2 → slot_down (integer_slot p 0) + slot_down (vector_slot p 0) ≡ saved_size p
  saves_down ok h =
      either 2 p.registers (λ l. omega (arith, first_pair l, vectors_behind (some_integers (omega (arith, l)))))
      λ g. decided (eqb p.registers 1)
      (λ t.
      let e : p.registers ≡ 1 = eqb-true p.registers 1 t in
      omega (arith, first_alone e (not_one ok e), vectors_behind (some_integers (omega (arith, e)))))
      λ t.
      let e : p.registers ≡ 0 = omega (arith, g, eqb-false p.registers 1 t) in
      decided (eqb p.chain 1)
      (λ u. let c : p.chain ≡ 1 = eqb-true p.chain 1 u in omega (arith, first_lr e c, vectors_behind (lr_size c)))
      λ u.
      let c : p.chain ≡ 1 → ⊥ = eqb-false p.chain 1 u in
      decided (eqb p.vectors 0)
      (λ v.
      let f : vector_count p ≡ 0 = no_count (eqb-true p.vectors 0 v) in
      let i : integer_size p ≡ 0 = no_size e c in
      let z : p.homes ≡ 0 = omega (arith, h, no_homes ok c i f) in
      omega (arith, no_integer e c, no_vectors f, nothing_saved i f z))
      λ v. omega (arith, no_integer e c, first_vectors (no_size e c) (many_vectors (eqb-false p.vectors 0 v)))

  -- the locals
  locals_down : slot_down (alloc_slot p) + (slot_down (rest_slot p) + slot_down (chain_slot p)) ≡ local_size p
  unfolding alloc_slot rest_slot chain_slot slot_down down_by moves pick
  locals_down = grind arith

  frame_of : packed_ok p ≡ true → saved_size p + local_size p ≡ 16 * p.frame
  unfolding packed_ok local_size pick
  frame_of ok = grind arith

  pub all_down : packed_ok p ≡ true → p.homes < 2 → slots_down (slot_at Prologue p) 0 19 ≡ 16 * p.frame
  unfolding slots_down slot_at slot local_slot pick
  all_down ok h =
      omega (
        arith,
        sign_down,
        saves_down ok h,
        later_integer 0,
        later_integer 1,
        later_integer 2,
        later_integer 3,
        later_integer 4,
        later_vector 0,
        later_vector 1,
        later_vector 2,
        home_down,
        locals_down,
        frame_down,
        frame_of ok,
      )

homes_low : (word : ℕ) → (packed_of word).homes < 2
unfolding packed_of
homes_low word = omega arith

-- The law: the prologue of every word that the page defines moves the stack pointer down by 16 times FrameSize.
pub packed_frame : (word : ℕ) → is_defined word ≡ true → packed_down word ≡ some (16 * (packed_of word).frame)
unfolding packed_down is_defined prologue_means packed_prologue slot_at pick
packed_frame word t =
    let o = (and_parts (eqb (word % 4) 1 || eqb (word % 4) 2) (packed_ok (packed_of word)) t).1 in
    let p : Packed = packed_of word in
    let low : p.homes < 2 = homes_low word in
    rw t (through (slot_at Prologue p) (slot_sound p) 0 19 none ∙ ap (λ (n : ℕ). some n) (all_down p o low))

pub not_defined : (word : ℕ) → is_defined word ≡ false → packed_down word ≡ none
unfolding packed_down pick
not_defined word t = rw t refl

-- ---- the sum so far

module _ (word : ℕ) (t : is_defined word ≡ true) where
  pub whole : slots_down (slot_at Prologue (packed_of word)) 0 19 ≡ 16 * (packed_of word).frame
  unfolding is_defined
  whole =
      all_down (packed_of word) (and_parts (eqb (word % 4) 1 || eqb (word % 4) 2) (packed_ok (packed_of word)) t).1 (homes_low word)
