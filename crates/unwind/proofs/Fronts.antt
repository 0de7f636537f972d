-- What a writer wrote stands at the fronts of its buffers, where the reader is lent it.
use mathlib.Core.Path.{◌≡◌, refl, sym}
use Prim.Native.Nat.{ℕ, ◌*◌, ◌≤◌}
use native.Mathlib.Omega.{arith}
use mathlib.Core.Bool.{Bool}
use mathlib.Core.List.{List, [], ◌∷◌}
use lib.ListN.{length, take, get_or}
use Rattle.format.specs.declared.Counts.{Counts}
use Rattle.format.specs.Coded.{Outcome}
use Rattle.std.specs.Prelude.{Some, Ok}
use Rattle.format.specs.Lists.{numbers_of}
use Rattle.format.specs.Reader.{read}
use Rattle.format.specs.Questions.{room_in, Answer, refused, empty, accepted}
use Rattle.format.specs.Answers.{Writes, outcome_of, afterwards, relocation_numbers, bit}
use Rattle.format.proofs.ListLaws.{numbers_length}
use Rattle.format.proofs.PutLaws.{length-put, front_is}
use Rattle.unwind.specs.Together.{bytes_in, relocs_in, reading_for}
use Rattle.unwind.proofs.Fitting.{FitsIn}

-- what an answer says was written: nothing, on a refusal or an empty result
unfoldable pub bytes_of : Answer → List ℕ
bytes_of (refused n k) = []
bytes_of empty = []
bytes_of (accepted w) = w.bytes

unfoldable pub relocs_of : Answer → List ℕ
relocs_of (refused n k) = []
relocs_of empty = []
relocs_of (accepted w) = relocation_numbers w

pub record Fronts (a : Answer) (o : Outcome) (bytes relocations : List ℕ) : Type 0 where
  pub bytes_fit : bytes_in o ≤ length bytes
  pub relocations_fit : 5 * relocs_in o ≤ length relocations
  pub bytes_are : take (bytes_in o) bytes ≡ bytes_of a
  pub relocations_are : take (5 * relocs_in o) relocations ≡ relocs_of a

pub fronts : (a : Answer) (o : Outcome) (p p' b b' r r' s s' : List ℕ) → Writes a o p p' b b' r r' s s' → FitsIn (room_in p b r s) a → Fronts a o b' r'
unfolding outcome_of afterwards bytes_in relocs_in bytes_of relocs_of relocation_numbers
fronts (refused n k) o p p' b b' r r' s s' w f =
    rw w.outcome (record { bytes_fit = omega arith; relocations_fit = omega arith; bytes_are = refl; relocations_are = refl })
fronts empty o p p' b b' r r' s s' w f =
    rw w.outcome (record { bytes_fit = omega arith; relocations_fit = omega arith; bytes_are = refl; relocations_are = refl })
fronts (accepted v) o p p' b b' r r' s s' w f =
    let x = f v refl in
    let n = numbers_length v.relocations in
    rw (w.outcome, w.stored, w.related)
    (record {
      bytes_fit = rw (length-put b 0 v.bytes) x.bytes;
      relocations_fit = rw (length-put r 0 (numbers_of v.relocations)) x.relocations;
      bytes_are = front_is b v.bytes x.bytes;
      relocations_are = rw (sym n) (front_is r (numbers_of v.relocations) (omega (arith, n, x.relocations)));
    })

-- a number of an empty list
pub none_there : (xs : List ℕ) → length xs ≡ 0 → 0 ≡ get_or xs 0 0
none_there [] e = refl
none_there (x ∷ xs) e = absurd (omega arith)

-- the reader on those fronts, with the writer's kind and word
pub reading_of : (debug : Bool) (machine : List ℕ) (o : Outcome) (bytes relocations : List ℕ) (n m kind word k q p : ℕ)
    → n ≡ bytes_in o → m ≡ 5 * relocs_in o → kind ≡ bit debug → word ≡ get_or machine 0 0
    → read (take n bytes) (take m relocations) kind word k q p ≡ reading_for debug machine o bytes relocations k q p
unfolding reading_for
reading_of debug machine o bytes relocations n m kind word k q p en em ek ew = rw (en, em, ek, ew) refl

-- the relocations of an accepted list
pub accepted_relocs : (o : Outcome) (k : Counts) → o ≡ Ok (Some k) → relocs_in o ≡ k.relocations
unfolding relocs_in
accepted_relocs o k e = rw e refl
