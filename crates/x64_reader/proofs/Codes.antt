-- One code at a position: its operand, and what is read where a part of it is missing.
use mathlib.Core.Path.{◌≡◌, refl}
use Prim.Native.Nat.{ℕ, zero, suc, ◌+◌, ◌-◌, ◌*◌, ◌/◌, ◌%◌, ◌^◌, ◌≤◌, ◌<◌}
use native.Mathlib.Omega.{arith}
use native.Mathlib.Nat.{pow-le-pow_right}
use mathlib.Core.Bool.{true, ◌||◌}
use mathlib.Core.Option.{Option, none, some}
use mathlib.Core.List.{List, [], ◌∷◌}
use lib.Dec.{lit<, eqb}
use lib.ListN.{length, get_or, drop, length-drop}
use lib.Seq.{drop-cons, drop-drop, get_or-drop}
use Rattle.std.specs.Prelude.{Some, None}
use Rattle.format.specs.Prelude.{Read, next, after}
use Rattle.format.specs.Leb.{read_little}
use Rattle.operations.specs.Positions.{read_from, little_at}
use Rattle.operations.specs.declared.fields.Position.{Position}
use Rattle.format.specs.X64Reader.{operand_bytes, meaning, read_operand, read_code}
use Rattle.operations.proofs.PositionLaws.{Takes, nothing, taken, takes_little, past_at, both_are, little_none}
use Rattle.format.specs.declared.Seh.{Seh}
use Rattle.format.proofs.Choice.{picked}
use Rattle.x64_reader.specs.Reads.{Small, CodeThere}

-- ---- a field of bytes

-- what is read is below m
abbrev Below : ℕ → Read ℕ → Type 0
Below m none = 0 ≤ m
Below m (some x) = x.0 < m

one_more : (m b : ℕ) (r : Read ℕ) → b < 256 → Below m r → Below (256 * m) (next {B = ℕ × List ℕ} r (λ v left. some (b + 256 * v, left)))
unfolding next
one_more m b none h l = omega arith
one_more m b (some x) h l = omega arith

little_below : (k : ℕ) (bs : List ℕ) → ((i : ℕ) → get_or bs i 0 < 256) → Below (256 ^ k) (read_little k bs)
unfolding read_little
little_below zero bs h = omega arith
little_below (suc k) [] h = omega arith
little_below (suc k) (b ∷ bs) h =
    let e : 256 ^ suc k ≡ 256 * 256 ^ k = omega arith in
    rw e (one_more (256 ^ k) b (read_little k bs) (h 0) (little_below k bs (λ i. h (suc i))))

below_small : (p : Position) (m size : ℕ) (r : Read ℕ) → m ≤ 2 ^ 32 → Below m r → Small (read_from p true size r)
unfolding read_from
below_small p m size none h l = tt
below_small p m size (some x) h l = omega arith

-- an operand of at most four bytes
pub little_small : (k : ℕ) (s : List ℕ) (p : Position) → k ≤ 4 → ((i : ℕ) → get_or s i 0 < 256) → Small (little_at k s p)
unfolding little_at
little_small k s p h bytes =
    below_small p (256 ^ k) (length s) (read_little k (drop p.at s)) (pow-le-pow_right {n = 256} (lit< tt) {i = k} {j = 4} h)
    (little_below k (drop p.at s) (λ i. rw (get_or-drop p.at s i 0) (bytes (p.at + i))))

-- the field of n bytes at p, which may be empty: q is the position past it
pub record Field (n : ℕ) (s : List ℕ) (p v q : ℕ) (r : Read ℕ) : Type 0 where
  pub past : q ≡ p + n
  pub inside : q ≤ length s
  pub reads : r ≡ some (v, drop q s)

taken_field : {n : ℕ} (s : List ℕ) (p : Position) {v : ℕ} {q : Position} {r : Read ℕ} → p.at ≤ length s → Takes n n (drop p.at s) r
    → read_from p true (length s) r ≡ Some (v, q) → Field n s p.at v q.at r
unfolding read_from
taken_field s p low nothing e = let z : ◌≡◌ {A = ℕ} 0 1 = cc in absurd (omega arith)
taken_field {n} s p {v} {q} low (taken m w l h k) e =
    let same : w ≡ v = (both_are e).0 in
    let at : length s - length (drop m (drop p.at s)) ≡ q.at = past_at p true _ (both_are e).1 in
    let a : q.at ≡ p.at + m = omega (arith, length-drop m (drop p.at s), length-drop p.at s) in
    record { past = omega arith; inside = omega (arith, length-drop p.at s); reads = rw (drop-drop, a, same) }

pub field_there : {n : ℕ} (s : List ℕ) (p : Position) {v : ℕ} {q : Position} → p.at ≤ length s → little_at n s p ≡ Some (v, q)
    → Field n s p.at v q.at (read_little n (drop p.at s))
unfolding little_at
field_there {n} s p low e = taken_field s p low (takes_little n (drop p.at s)) e

-- ---- an operation's operand

-- an operand has at most four bytes
abbrev Few : Option ℕ → Type 0
Few none = 0 ≤ 4
Few (some n) = n ≤ 4

few_bytes : (op info : ℕ) → Few (operand_bytes op info)
unfolding operand_bytes
few_bytes op info =
    picked Few (eqb op 0 || eqb op 2 || eqb op 3) {x = some 0} (omega arith)
    (picked Few (eqb op 4 || eqb op 8) {x = some 2} (omega arith)
    (picked Few (eqb op 5 || eqb op 9) {x = some 4} (omega arith)
    (picked Few (eqb op 1) {y = none}
    (picked Few (eqb info 0) {x = some 2} (omega arith) (picked Few (eqb info 1) {x = some 4} {y = none} (omega arith) (omega arith))) (omega arith))))

pub few_op : (op info : ℕ) {n : ℕ} → operand_bytes op info ≡ some n → n ≤ 4
few_op op info e = rw e at (few_bytes op info)

-- ---- a code

short_list : (frame : ℕ) (bs : List ℕ) → length bs < 2 → read_code frame bs ≡ none
unfolding read_code
short_list frame [] h = refl
short_list frame (a ∷ []) h = refl
short_list frame (a ∷ b ∷ bs) h = absurd (omega arith)

pub short_code : (frame : ℕ) (s : List ℕ) (p : Position) → length s < p.at + 2 → read_code frame (drop p.at s) ≡ none
short_code frame s p h = short_list frame (drop p.at s) (omega (arith, length-drop p.at s))

-- the position past a code's two bytes
abbrev behind : Position → Position
behind p = record { at = p.at + 2; shortest = p.shortest }

-- a code whose two bytes are there
module _ (frame : ℕ) (s : List ℕ) (p : Position) {offset b : ℕ} (room : p.at + 2 ≤ length s) (o : offset ≡ get_or s p.at 0) (e : b ≡ get_or s (p.at + 1) 0) where
  two_bytes : read_code frame (drop p.at s)
      ≡ next (read_operand frame (b % 16) (b / 16) (drop (p.at + 2) s)) (λ c rest. some ((offset, c), rest))
  unfolding read_code
  two_bytes =
      let a : suc p.at ≡ p.at + 1 = omega arith in
      let d : suc (p.at + 1) ≡ p.at + 2 = omega arith in
      rw (drop-cons s p.at 0 (omega arith), a, drop-cons s (p.at + 1) 0 (omega arith), d, ← o, ← e)

  pub no_operation : operand_bytes (b % 16) (b / 16) ≡ none → read_code frame (drop p.at s) ≡ none
  unfolding read_operand after next
  no_operation z = rw (two_bytes, z)

  pub no_operand : {n : ℕ} → operand_bytes (b % 16) (b / 16) ≡ some n → little_at n s (behind p) ≡ None → read_code frame (drop p.at s) ≡ none
  unfolding read_operand after next
  no_operand {n} z l = rw (two_bytes, z, little_none s (behind p) n l)

  pub one_code : {n v : ℕ} {c : Seh} {q : Position} → operand_bytes (b % 16) (b / 16) ≡ some n → little_at n s (behind p) ≡ Some (v, q)
      → c ≡ meaning frame (b % 16) (b / 16) v → CodeThere frame s p offset c q
  unfolding read_operand after next
  one_code {n} {v} {c} {q} z l m =
      let t : Field n s (p.at + 2) v q.at (read_little n (drop (p.at + 2) s)) = field_there s (behind p) room l in
      record {
        ahead = omega (arith, t.past);
        inside = t.inside;
        reads = rw (two_bytes, z, t.reads, m);
      }
