-- What the readers of fields leave: the last bytes of what they were given.
use mathlib.Core.Bool.{Bool, true, false}
use mathlib.Core.Option.{Option, none, some}
use mathlib.Core.List.{List, [], ◌∷◌}
use Prim.Native.Nat.{ℕ, suc, ◌+◌, ◌≤◌}
use native.Mathlib.Omega.{arith}
use lib.Dec.{eqb, leb, leb→le}
use lib.ListN.{length, take, drop, length-drop}
use lib.Seq.{drop-drop}
use Rattle.format.specs.Prelude.{pick, Read, next}
use Rattle.format.specs.Rows.{read_register}
use Rattle.format.specs.Reader.{strip, Letters, Spelling, spell_or, read_letters, read_byte, read_many, read_counted}
use Rattle.format.proofs.Choice.{pick_yes, pick_no, tested}
use Rattle.operations.proofs.PositionLaws.{Takes, nothing, taken, takes_next, takes_pick, gives, takes_uleb}

-- ---- readers leave a suffix

pub data Leaves {A : Type 0} (bs : List ℕ) : Read A → Type 0 where
  unread : Leaves bs none
  leaves : (n : ℕ) (v : A) → n ≤ length bs → Leaves bs (some (v, drop n bs))

pub of_takes : {A : Type 0} {lo hi : ℕ} {bs : List ℕ} {r : Read A} → Takes lo hi bs r → Leaves bs r
of_takes nothing = unread
of_takes (taken n v l h m) = leaves n v m

pub leaves_past : {A : Type 0} (n : ℕ) (bs : List ℕ) {r : Read A} → n ≤ length bs → Leaves (drop n bs) r → Leaves bs r
leaves_past n bs h unread = unread
leaves_past n bs h (leaves k v m) = rw drop-drop (leaves (n + k) v (omega (arith, length-drop n bs)))

pub leaves_next : {A B : Type 0} {bs : List ℕ} {r : Read A} {k : A → List ℕ → Read B} → Leaves bs r → ((a : A) (rest : List ℕ) → Leaves rest (k a rest)) → Leaves bs (next r k)
unfolding next
leaves_next unread u = unread
leaves_next {bs = bs} (leaves n v m) u = leaves_past n bs m (u v (drop n bs))

pub leaves_register : (bs : List ℕ) → Leaves bs (read_register bs)
unfolding read_register
leaves_register bs = of_takes (takes_next (takes_uleb bs) (λ v r. takes_pick (leb v 0xffff) (gives v r) nothing))

pub leaves_byte : (bs : List ℕ) → Leaves bs (read_byte bs)
unfolding read_byte
leaves_byte [] = unread
leaves_byte (b ∷ bs) = leaves 1 b (omega arith)

pub leaves_many : (n : ℕ) (bs : List ℕ) → Leaves bs (read_many n bs)
unfolding read_many
leaves_many n bs =
    tested (leb n (length bs)) (λ t. rw (pick_yes {X = Read (List ℕ)} (leb n (length bs)) _ _ t) (leaves n (take n bs) (leb→le n (length bs) t)))
    (λ t. rw (pick_no {X = Read (List ℕ)} (leb n (length bs)) _ _ t) unread)

pub leaves_counted : (bs : List ℕ) → Leaves bs (read_counted bs)
unfolding read_counted
leaves_counted bs = leaves_next (of_takes (takes_uleb bs)) leaves_many

-- ---- a string

data Strips (bs : List ℕ) : Option (List ℕ) → Type 0 where
  other : Strips bs none
  same : (n : ℕ) → n ≤ length bs → Strips bs (some (drop n bs))

strips_byte : (b : ℕ) (bs : List ℕ) {o : Option (List ℕ)} → Strips bs o → Strips (b ∷ bs) o
strips_byte b bs other = other
strips_byte b bs (same n h) = same (suc n) (omega arith)

strips_pick : {bs : List ℕ} (test : Bool) {o : Option (List ℕ)} → Strips bs o → Strips bs (pick test o none)
unfolding pick
strips_pick true s = s
strips_pick false s = other

strips : (xs bs : List ℕ) → Strips bs (strip xs bs)
unfolding strip
strips [] bs = same 0 (omega arith)
strips (a ∷ xs) [] = other
strips (a ∷ xs) (b ∷ bs) = strips_pick (eqb a b) (strips_byte b bs (strips xs bs))

leaves_spelled : (bs : List ℕ) (l : Letters) {o : Option (List ℕ)} {r : Read Letters} → Strips bs o → Leaves bs r → Leaves bs (spell_or o l r)
unfolding spell_or
leaves_spelled bs l other x = x
leaves_spelled bs l (same n h) x = leaves n l h

pub leaves_letters : (ss : List Spelling) (bs : List ℕ) → Leaves bs (read_letters ss bs)
unfolding read_letters
leaves_letters [] bs = unread
leaves_letters (s ∷ ss) bs = leaves_spelled bs s.letters (strips s.text bs) (leaves_letters ss bs)
