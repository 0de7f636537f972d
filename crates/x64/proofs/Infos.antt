-- The record of a function's codes: its questions by the code's tests, what a yes to all says, and its bytes part by part.
use mathlib.Core.Path.{◌≡◌}
use Prim.Native.Nat.{ℕ, ◌*◌, ◌%◌, ◌≤◌, ◌<◌}
use native.Mathlib.Omega.{arith}
use mathlib.Core.Option.{none, some}
use mathlib.Core.List.{List, [], ◌∷◌}
use lib.Dec.{leb, leb→le}
use lib.ListN.{length, replicate}
use Rattle.format.specs.Prelude.{pick}
use Rattle.format.specs.Coded.{numbered}
use Rattle.format.specs.Numbers.{number_of}
use Rattle.format.specs.declared.question.Question.{Question}
use Rattle.format.proofs.Wrote.{Wrote}
use Rattle.format.specs.declared.Seh.{Seh}
use Rattle.format.specs.X64.{code_no, or_no, first_no, slots, prologue_no, frame_byte, reversed, info_bytes}
use Rattle.format.proofs.Choice.{if-le, if-gt}
use Rattle.format.proofs.PutLaws.{◌then◌}
use Rattle.std.specs.Prelude.{Ok, Err}
use Rattle.codes.specs.Codes.{yes_or_no, frame_ask}
use Rattle.codes.proofs.Questions.{none_of, some_of, yes_of}
use Rattle.codes.proofs.Sizes.{info_length}
use Rattle.x64.specs.declared.Summary.{Summary}
use Rattle.x64.specs.Answers.{SummaryOf}
use Rattle.x64.proofs.Walks.{ors}

-- ---- the questions

module _ (end : ℕ) (cs : List (ℕ × Seh)) {t : Summary} (e : SummaryOf cs t) where
  pub no_code : {q : Question} → t.codes ≡ Err q → Err (number_of q) ≡ yes_or_no (prologue_no end cs)
  unfolding prologue_no or_no yes_or_no
  no_code {q} h = rw (some_of (first_no code_no cs) (number_of q) (rw h at e.codes))

  module _ (z : t.codes ≡ Ok tt) where
    every : first_no code_no cs ≡ none
    every = none_of (first_no code_no cs) (rw z at e.codes)

    pub no_end : 255 < end → Err 35 ≡ yes_or_no (prologue_no end cs)
    unfolding prologue_no or_no yes_or_no
    no_end h = rw (every, if-gt end 255)

    module _ (h : end ≤ 255) where
      pub no_slots : 255 < t.slots → Err 40 ≡ yes_or_no (prologue_no end cs)
      unfolding prologue_no or_no yes_or_no
      no_slots l = rw (every, if-le end 255, ← e.slots, if-gt t.slots 255)

      pub no_frame : t.slots ≤ 255 → numbered t.frames ≡ yes_or_no (prologue_no end cs)
      unfolding prologue_no or_no
      no_frame l = rw (every, if-le end 255, ← e.slots, if-le t.slots 255) e.frames

pub record Agreed (end : ℕ) (cs : List (ℕ × Seh)) : Type 0 where
  pub codes : first_no code_no cs ≡ none
  pub ends : end ≤ 255
  pub few : slots cs ≤ 255
  pub frames : first_no frame_ask cs ≡ none

pub agreed : (end : ℕ) (cs : List (ℕ × Seh)) → prologue_no end cs ≡ none → Agreed end cs
unfolding prologue_no
agreed end cs e =
    let a = ors (first_no code_no cs) _ e in
    let b = ors (pick (leb end 255) none (some 35)) _ a.1 in
    let c = ors (pick (leb (slots cs) 255) none (some 40)) _ b.1 in
    record {
      codes = a.0;
      ends = leb→le end 255 (yes_of 35 none (leb end 255) b.0).0;
      few = leb→le (slots cs) 255 (yes_of 40 none (leb (slots cs) 255) c.0).0;
      frames = c.1;
    }

-- ---- the bytes

pub described : {out a b c : List ℕ} {at p q r end held frame : ℕ} (cs : List (ℕ × Seh)) → held ≡ slots cs → frame ≡ frame_byte 0 cs
    → Wrote out a at p (1 ∷ end ∷ held ∷ frame ∷ []) → Wrote a b p q (reversed cs) → Wrote b c q r (replicate (2 * (held % 2)) 0)
    → Wrote out c at r (info_bytes end cs)
unfolding info_bytes
described cs e f x y z = (rw (e, f) at x) then y then (rw e at z)

-- a record is short
pub info_few : (end : ℕ) (cs : List (ℕ × Seh)) → prologue_no end cs ≡ none → length (info_bytes end cs) ≤ 516
info_few end cs e = omega (arith, info_length end cs, (agreed end cs e).few)
