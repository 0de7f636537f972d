-- Loops over a function's codes: what is known of those that are left.
use mathlib.Core.Path.{◌≡◌, refl, sym, ap, ◌∙◌}
use Prim.Native.Nat.{ℕ, zero, suc, ◌+◌, ◌-◌, ◌*◌, ◌^◌, ◌≤◌, ◌<◌}
use native.Mathlib.Omega.{arith}
use native.Mathlib.Numerals.{add-one}
use mathlib.Core.Option.{Option, none, some}
use mathlib.Core.List.{List, [], ◌∷◌, ◌++◌}
use lib.ListN.{length, take, length-append}
use lib.IntN.{ℤ, pos}
use Rattle.format.specs.Coded.{numbered}
use Rattle.format.specs.declared.question.Question.{Question}
use Rattle.format.specs.Put.{put}
use Rattle.format.proofs.Wrote.{Wrote}
use Rattle.format.specs.declared.Seh.{Seh}
use Rattle.format.specs.X64.{code_bytes, code_no, or_no, first_no, slots, frame_or, frame_byte, reversed}
use Rattle.format.proofs.PutLaws.{put_none, put-append, put-in_front, length-put}
use Rattle.codes.specs.declared.Code.{Code}
use Rattle.codes.specs.Codes.{yes_or_no, frame_ask, Holds}
use Rattle.std.specs.Prelude.{Ok, Err}
use Rattle.std.specs.Prelude as code
use Rattle.std.specs.Result.{result_and}
use Rattle.codes.proofs.Sizes.{reversed-length}
use Rattle.x64.specs.declared.given.Records.{Records}
use Rattle.x64.specs.declared.given.Records.TheVariants.{Codes, ByRows}
use Rattle.x64.specs.Listed.{records_in}
use Rattle.x64.specs.declared.Summary.{Summary}
use Rattle.x64.specs.Answers.{Summed, SummaryOf}
use Rattle.x64.proofs.Leaves.{piece_few}
use Rattle.x64.specs.Sources.{pushed_by, piece_at, moved_at, codes_from}

-- ---- the codes from the next record on

pub pushed_small : (r : Records) → pushed_by r < 2 ^ 31
unfolding pushed_by
pushed_small (Codes list) = omega arith
pushed_small (ByRows m p) = m.pushed

module _ (r : Records) (sofar : ℤ) {i : ℕ} where
  pub none_left : records_in r ≤ i → codes_from r sofar i (records_in r - i) ≡ []
  unfolding codes_from
  none_left h = let n : records_in r - i ≡ 0 = omega arith in rw n

  pub some_left : {ps : List (ℕ × Seh)} {z : ℤ} → i < records_in r → ps ≡ piece_at r sofar i → z ≡ moved_at r sofar i
      → codes_from r sofar i (records_in r - i) ≡ ps ++ codes_from r z (i + 1) (records_in r - (i + 1))
  unfolding codes_from
  some_left h e f = let k : records_in r - i ≡ suc (records_in r - suc i) = omega arith in rw (e, f, add-one i, k)

pub from_start : (r : Records) → codes_from r (pos (pushed_by r)) 0 (records_in r - 0) ≡ codes_from r (pos (pushed_by r)) 0 (records_in r)
from_start r = let e : records_in r - 0 ≡ records_in r = omega arith in rw e

-- a record yields one code or none
pub codes_few : (r : Records) (sofar : ℤ) (i n : ℕ) → length (codes_from r sofar i n) ≤ n
unfolding codes_from
codes_few r sofar i zero = omega arith
codes_few r sofar i (suc n) =
    omega (arith, length-append (piece_at r sofar i) (codes_from r (moved_at r sofar i) (suc i) n), piece_few r sofar i, codes_few r (moved_at r sofar i) (suc i) n)

-- ---- the first no

-- the same by the code's answers
answer_or : (a b : Option ℕ) → yes_or_no (or_no a b) ≡ result_and (yes_or_no a) (yes_or_no b)
unfolding or_no yes_or_no
answer_or none b = refl
answer_or (some n) b = refl

and_again : (a b c : code.Result Unit ℕ) → result_and a (result_and b c) ≡ result_and (result_and a b) c
and_again (Ok u) b c = refl
and_again (Err n) b c = refl

and_yes : (a : code.Result Unit ℕ) → result_and a (Ok tt) ≡ a
and_yes (Ok u) = refl
and_yes (Err n) = refl

answer_next : {A : Type 0} (f : A → Option ℕ) (a : code.Result Unit ℕ) (x : A) (xs : List A)
    → result_and a (yes_or_no (first_no f (x ∷ xs))) ≡ result_and (result_and a (yes_or_no (f x))) (yes_or_no (first_no f xs))
unfolding first_no
answer_next f a x xs = rw (answer_or (f x) (first_no f xs)) (and_again a (yes_or_no (f x)) (yes_or_no (first_no f xs)))

pub ors : (a b : Option ℕ) → or_no a b ≡ none → (a ≡ none) × (b ≡ none)
unfolding or_no
ors none b e = (refl, e)
ors (some n) b e = let z : ◌≡◌ {A = ℕ} 0 1 = cc in absurd (omega arith)

-- none of some codes is a no: so the first is none, and none of the others
pub first_none : {A : Type 0} (f : A → Option ℕ) (x : A) (xs : List A) → first_no f (x ∷ xs) ≡ none → (f x ≡ none) × (first_no f xs ≡ none)
unfolding first_no
first_none f x xs e = ors (f x) (first_no f xs) e

-- ---- the summary

-- two answers joined, by the questions' numbers
numbered_and : (a b : code.Result Unit Question) → numbered (result_and a b) ≡ result_and (numbered a) (numbered b)
numbered_and (Ok u) b = refl
numbered_and (Err q) b = refl

pub answered : (a b : code.Result Unit Question) {r : code.Result Unit Question} (o : Option ℕ) → r ≡ result_and a b → numbered b ≡ yes_or_no o → numbered r ≡ result_and (numbered a) (yes_or_no o)
answered a b o e f = ap numbered e ∙ numbered_and a b ∙ ap (result_and (numbered a)) f

-- what some codes say, by the summary of the first of them
pub record Summing (all rest : List (ℕ × Seh)) (t : Summary) : Type 0 where
  codes : yes_or_no (first_no code_no all) ≡ result_and (numbered t.codes) (yes_or_no (first_no code_no rest))
  slots : slots all ≡ t.slots + slots rest
  frames : yes_or_no (first_no frame_ask all) ≡ result_and (numbered t.frames) (yes_or_no (first_no frame_ask rest))

pub summing : {left all : List (ℕ × Seh)} → left ≡ all → Summing all left (record { codes = Ok tt; slots = 0; frames = Ok tt })
summing e = rw e (record { codes = refl; slots = omega arith; frames = refl })

pub summed_on : {all left later : List (ℕ × Seh)} {x : ℕ × Seh} {t r : Summary} → Summing all left t → left ≡ x ∷ later → Summed t x r → Summing all later r
unfolding slots
summed_on {all} {left} {later} {x} {t} w l e =
    let v : Summing all (x ∷ later) t = rw l at w in
    record {
      codes = v.codes ∙ answer_next code_no (numbered t.codes) x later ∙ rw e.codes;
      slots = omega (arith, v.slots, e.slots);
      frames = v.frames ∙ answer_next frame_ask (numbered t.frames) x later ∙ rw e.frames;
    }

pub all_summed : {all left : List (ℕ × Seh)} {t : Summary} → Summing all left t → left ≡ [] → SummaryOf all t
unfolding first_no yes_or_no slots
all_summed {all} {left} {t} v l = let w : Summing all [] t = rw l at v in record { codes = sym (w.codes ∙ and_yes (numbered t.codes)); slots = omega (arith, w.slots); frames = sym (w.frames ∙ and_yes (numbered t.frames)) }

-- ---- the frame byte

pub record Framing (all rest : List (ℕ × Seh)) (b : ℕ) : Type 0 where
  same : frame_byte 0 all ≡ frame_byte b rest
  codes : first_no code_no rest ≡ none
  frames : first_no frame_ask rest ≡ none

pub framing : {left all : List (ℕ × Seh)} → left ≡ all → first_no code_no all ≡ none → first_no frame_ask all ≡ none → Framing all left 0
framing e h k = rw e (record { same = refl; codes = h; frames = k })

module _ {all left later : List (ℕ × Seh)} {x : ℕ × Seh} {b : ℕ} (w : Framing all left b) (l : left ≡ x ∷ later) where
  here : Framing all (x ∷ later) b
  here = rw l at w

  pub frame_asked : (code_no x ≡ none) × (frame_ask x ≡ none)
  frame_asked = ((first_none code_no x later here.codes).0, (first_none frame_ask x later here.frames).0)

  pub framed : {r : ℕ} → r ≡ frame_or b x.1 → Framing all later r
  unfolding frame_byte
  framed e = record {
    same = here.same ∙ rw e;
    codes = (first_none code_no x later here.codes).1;
    frames = (first_none frame_ask x later here.frames).1;
  }

pub all_framed : {all left : List (ℕ × Seh)} {b : ℕ} → Framing all left b → left ≡ [] → b ≡ frame_byte 0 all
unfolding frame_byte
all_framed w l = sym (rw l at w.same)

-- ---- the codes, put from the end to the front

-- out₀ is out by now, and the codes of rest are still to be put, from `at` to `to`
pub record Putting (out₀ out : List ℕ) (at to : ℕ) (all rest : List (ℕ × Seh)) : Type 0 where
  pub kept : length out ≡ length out₀
  pub place : to ≡ at + length (reversed rest)
  pub room : to ≤ length out
  codes : first_no code_no rest ≡ none
  same : put out at (reversed rest) ≡ put out₀ at (reversed all)

pub putting : {out : List ℕ} {at to : ℕ} {left all : List (ℕ × Seh)} → left ≡ all → to ≡ at + 2 * slots all → to ≤ length out
    → first_no code_no all ≡ none → Putting out out at to all left
putting {all = all} l e h k = rw l (record { kept = refl; place = omega (arith, reversed-length all); room = h; codes = k; same = refl })

module _ {out₀ out : List ℕ} {at to : ℕ} {all left later : List (ℕ × Seh)} {x : ℕ × Seh} (w : Putting out₀ out at to all left) (l : left ≡ x ∷ later) where
  still : Putting out₀ out at to all (x ∷ later)
  still = rw l at w

  pub put_asked : code_no x ≡ none
  put_asked = (first_none code_no x later still.codes).0

  module _ {c : Code} (h : Holds c (code_bytes x.0 x.1)) where
    -- the place of the code
    placed : to ≡ at + length (reversed later) + c.count
    unfolding reversed
    placed = omega (arith, still.place, length-append (reversed later) (code_bytes x.0 x.1), h.counted)

    pub put_low : c.count ≤ to
    put_low = omega (arith, placed)

    pub put_room : to - c.count + c.count ≤ length out
    put_room = omega (arith, placed, still.room)

    pub put_turn : {new : List ℕ} {q : ℕ} → Wrote out new (to - c.count) q (take c.count c.bytes) → Putting out₀ new at (to - c.count) all later
    unfolding reversed
    put_turn {new} {q} s =
        let e : to - c.count ≡ at + length (reversed later) = omega (arith, placed) in
        let n : new ≡ put out (at + length (reversed later)) (code_bytes x.0 x.1) = s.stored ∙ rw (e, h.bytes) in
        record {
          kept = ap length n ∙ length-put out _ _ ∙ still.kept;
          place = e;
          room = rw (ap length n ∙ length-put out _ _) (omega (arith, still.room));
          codes = (first_none code_no x later still.codes).1;
          same = rw n (put-in_front out at _ (reversed later) (code_bytes x.0 x.1) (omega arith) ∙ sym (put-append out at (reversed later) (code_bytes x.0 x.1)) ∙ still.same);
        }

pub all-put : {out₀ out : List ℕ} {at to : ℕ} {all left : List (ℕ × Seh)} → Putting out₀ out at to all left → left ≡ [] → Wrote out₀ out at (at + 2 * slots all) (reversed all)
unfolding reversed
all-put {out₀} {out} {at} {to} {all} w l = record { past = omega (arith, reversed-length all); stored = sym (put_none out at) ∙ (rw l at w.same) }
