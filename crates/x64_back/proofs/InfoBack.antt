-- A record's bytes read as the function that they were made of.
use mathlib.Core.Path.{◌≡◌, refl, ◌∙◌}
use Prim.Native.Nat.{ℕ, suc, ◌+◌, ◌-◌, ◌*◌, ◌/◌, ◌%◌, ◌^◌, ◌≤◌, ◌<◌}
use native.Mathlib.Omega.{arith}
use mathlib.Core.Bool.{Bool, true, false, not, ◌||◌}
use mathlib.Core.Option.{Option, none, some}
use mathlib.Core.List.{List, [], ◌∷◌, ◌++◌, append_assoc, append-nil}
use lib.Dec.{T, leb, ltb, eqb, leb→le, ltb→lt, eqb→eq}
use lib.IntN.{ℤ, pos, negsuc}
use lib.ListN.{length, replicate, length-append}
use lib.Seq.{take_at}
use mir.Facts.{and_yes, or_no, eqb_no, T_not-not}
use borrow.Author.Tests.{le-leb}
use Rattle.format.specs.Prelude.{pick, next, good, onward, or_else}
use Rattle.format.specs.Answers.{bit}
use Rattle.format.specs.Lists.{Prologue}
use Rattle.format.specs.declared.Seh.{Seh}
use Rattle.format.specs.declared.Seh.TheVariants.{Push, Alloc, Frame, Save}
use Rattle.format.specs.X64.{size64, code_bytes, register_in, alloc_no, save_no, operand_no, code_no, frame_ok, frame_no, first_no, slots, prologue_no, frame_or, frame_byte, reversed, info_bytes}
use Rattle.format.specs.X64Reader.{is_frame, read_codes_f, read_codes, header_ok, slot_bytes_in, info_with, read_info}
use Rattle.codes.specs.Codes.{frame_ask}
use Rattle.codes.proofs.Questions.{yes_of}
use Rattle.codes.proofs.Sizes.{code_few, reversed-length}
use Rattle.x64.proofs.Walks.{ors}
use Rattle.x64.proofs.Infos.{Agreed, agreed}
use Rattle.x64_reader.proofs.Runs.{codes_step, codes_done}
use Rattle.x64_back.specs.Given.{frame_codes, or_frame_of, frame_of, given}
use Rattle.x64_back.proofs.CodeBack.{AllocFits, FrameFits, SaveFits, CodeFits, code_back}

-- ---- the codes

abbrev AllFit : ℕ → List (ℕ × Seh) → Type 0
AllFit frame [] = 0 ≤ frame
AllFit frame (c ∷ cs) = CodeFits frame c.1 × AllFit frame cs

-- where the codes stand in front of others, they are read first
module _ (frame : ℕ) {answer : Option (List (ℕ × Seh))} where
  codes_first : (cs held : List (ℕ × Seh)) (rest : List ℕ) → AllFit frame cs
      → ((g : ℕ) → length rest < g → read_codes_f g frame (cs ++ held) rest ≡ answer)
      → (f : ℕ) → length (reversed cs ++ rest) < f → read_codes_f f frame held (reversed cs ++ rest) ≡ answer
  unfolding reversed next
  codes_first [] held rest ok k f h = k f h
  codes_first (c ∷ cs) held rest ok k f h =
      let bs : List ℕ = code_bytes c.0 c.1 in
      let few = code_few c.0 c.1 in
      rw (append_assoc (reversed cs) bs rest)
      (codes_first cs held (bs ++ rest) ok.1
      (λ g l.
      codes_step frame g (cs ++ held) (bs ++ rest) (omega arith) (omega (arith, length-append bs rest, few.least))
      ∙ rw (code_back frame c.0 rest c.1 ok.0) (k (g - 1) (omega (arith, length-append bs rest, few.least))))
      f (rw (append_assoc (reversed cs) bs rest) at h))

codes_back : (frame : ℕ) (cs : List (ℕ × Seh)) → AllFit frame cs → read_codes frame (reversed cs) ≡ some cs
unfolding read_codes
codes_back frame cs ok =
    let none_left : reversed cs ++ [] ≡ reversed cs = append-nil (reversed cs) in
    let all : cs ++ [] ≡ cs = append-nil cs in
    rw none_left at
    (codes_first frame {answer = some cs} cs [] [] ok (λ g l. rw all (codes_done frame g cs (omega arith))) (suc (length (reversed cs))) (rw none_left (omega arith)))

-- ---- the frame byte, where at most one code sets the frame register

abbrev FrameIs : ℕ → Seh → Type 0
FrameIs frame (Push reg) = 0 ≤ reg
FrameIs frame (Alloc z) = 0 ≤ frame
FrameIs frame (Frame reg z) = frame ≡ reg + 16 * (size64 z / 16)
FrameIs frame (Save reg vector z) = 0 ≤ reg

abbrev AllFrames : ℕ → List (ℕ × Seh) → Type 0
AllFrames frame [] = 0 ≤ frame
AllFrames frame (c ∷ cs) = FrameIs frame c.1 × AllFrames frame cs

none_code : (b : ℕ) (c : Seh) → bit (is_frame c) ≡ 0 → frame_or b c ≡ b
unfolding is_frame frame_or bit
none_code b (Push reg) h = refl
none_code b (Alloc z) h = refl
none_code b (Frame reg z) h = absurd (omega arith)
none_code b (Save reg vector z) h = refl

no_frames : (b : ℕ) (cs : List (ℕ × Seh)) → frame_codes cs ≡ 0 → frame_byte b cs ≡ b
unfolding frame_codes frame_byte
no_frames b [] h = refl
no_frames b (c ∷ cs) h = rw (none_code b c.1 (omega arith)) (no_frames b cs (omega arith))

one_frame : (b : ℕ) (c : Seh) (cs : List (ℕ × Seh)) → bit (is_frame c) + frame_codes cs ≤ 1
    → ((b : ℕ) → frame_codes cs ≤ 1 → AllFrames (frame_byte b cs) cs)
    → FrameIs (frame_byte (frame_or b c) cs) c × AllFrames (frame_byte (frame_or b c) cs) cs
unfolding is_frame frame_or bit
one_frame b (Push reg) cs h k = (omega arith, k b (omega arith))
one_frame b (Alloc z) cs h k = (omega arith, k b (omega arith))
one_frame b (Frame reg z) cs h k = (no_frames (reg + 16 * (size64 z / 16)) cs (omega arith), k (reg + 16 * (size64 z / 16)) (omega arith))
one_frame b (Save reg vector z) cs h k = (omega arith, k b (omega arith))

all_frames : (b : ℕ) (cs : List (ℕ × Seh)) → frame_codes cs ≤ 1 → AllFrames (frame_byte b cs) cs
unfolding frame_codes frame_byte
all_frames b [] h = omega arith
all_frames b (c ∷ cs) h = one_frame b c.1 cs h (λ b l. all_frames b cs l)

-- ---- what a yes to every question says of a code

pick_none : (b : Bool) (n : ℕ) (o : Option ℕ) → pick b (some n) o ≡ none → T (not b) × (o ≡ none)
unfolding pick
pick_none true n o e = let z : ◌≡◌ {A = ℕ} 0 1 = cc in absurd (omega arith)
pick_none false n o e = (tt, e)

alloc_fits : (z : ℤ) → alloc_no z ≡ none → AllocFits z
unfolding alloc_no
alloc_fits (pos n) e =
    let a = pick_none (eqb n 0 || not (eqb (n % 8) 0)) 36 _ e in
    let b = or_no (eqb n 0) (not (eqb (n % 8) 0)) a.0 in
    let some_bytes : n ≡ 0 → ⊥ = eqb_no b.0 in
    (omega arith, eqb→eq (n % 8) 0 (T_not-not (eqb (n % 8) 0) b.1), ltb→lt n (2 ^ 32) (yes_of 37 none (ltb n (2 ^ 32)) a.1).0)
alloc_fits (negsuc n) e = let z : ◌≡◌ {A = ℕ} 0 1 = cc in absurd (omega arith)

save_fits : (z : ℤ) → save_no z ≡ none → SaveFits z
unfolding save_no
save_fits (pos n) e = ltb→lt n (2 ^ 32) (yes_of 39 none (ltb n (2 ^ 32)) e).0
save_fits (negsuc n) e = let z : ◌≡◌ {A = ℕ} 0 1 = cc in absurd (omega arith)

frame_fits : (frame reg : ℕ) (z : ℤ) → reg ≤ 15 → T (frame_ok z) → frame ≡ reg + 16 * (size64 z / 16) → FrameFits frame reg z
unfolding frame_ok size64
frame_fits frame reg (pos n) h t e = (omega arith, eqb→eq (n % 16) 0 (and_yes (leb n 240) (eqb (n % 16) 0) t).1, e)
frame_fits frame reg (negsuc n) h t e = absurd t

code_fits_lem : (frame at : ℕ) (c : Seh) → code_no (at, c) ≡ none → frame_no c ≡ none → FrameIs frame c → CodeFits frame c
unfolding code_no operand_no register_in frame_no
code_fits_lem frame at (Push reg) e f h = omega arith
code_fits_lem frame at (Alloc z) e f h = alloc_fits z (yes_of 35 _ (leb at 255) (yes_of 34 _ (leb 0 15) e).1).1
code_fits_lem frame at (Frame reg z) e f h =
    frame_fits frame reg z (leb→le reg 15 (yes_of 34 _ (leb reg 15) e).0) (yes_of 41 none (frame_ok z) f).0 h
code_fits_lem frame at (Save reg vector z) e f h = save_fits z (yes_of 35 _ (leb at 255) (yes_of 34 _ (leb reg 15) e).1).1

all_fit : (frame : ℕ) (cs : List (ℕ × Seh)) → first_no code_no cs ≡ none → first_no frame_ask cs ≡ none → AllFrames frame cs → AllFit frame cs
unfolding first_no
all_fit frame [] e f h = omega arith
all_fit frame (c ∷ cs) e f h =
    let a = ors (code_no c) (first_no code_no cs) e in
    let b = ors (frame_no c.1) (first_no frame_ask cs) f in
    (code_fits_lem frame c.0 c.1 a.0 b.0 h.0, all_fit frame cs a.1 b.1 h.1)

-- ---- the header's frame register and offset

abbrev Heads : ℕ → ℕ × ℕ → Type 0
Heads frame r = (frame % 16 ≡ r.0) × (16 * (frame / 16) ≡ r.1)

head_frame : (frame reg : ℕ) (z : ℤ) → FrameFits frame reg z → Heads frame (reg, size64 z)
unfolding size64
head_frame frame reg (pos n) h = (omega (arith, h.0, h.2), omega (arith, h.0, h.1, h.2))
head_frame frame reg (negsuc n) h = absurd h

head_code : (frame : ℕ) (c : Seh) (cs : List (ℕ × Seh)) → CodeFits frame c → frame_byte (frame_or 0 c) cs ≡ frame
    → (frame_byte 0 cs ≡ frame → Heads frame (frame_of cs)) → Heads frame (or_frame_of c (frame_of cs))
unfolding frame_or or_frame_of
head_code frame (Push reg) cs h e k = k e
head_code frame (Alloc z) cs h e k = k e
head_code frame (Frame reg z) cs h e k = head_frame frame reg z h
head_code frame (Save reg vector z) cs h e k = k e

heads : (frame : ℕ) (cs : List (ℕ × Seh)) → AllFit frame cs → frame_byte 0 cs ≡ frame → Heads frame (frame_of cs)
unfolding frame_byte frame_of
heads frame [] h e = (omega arith, omega arith)
heads frame (c ∷ cs) h e = head_code frame c.1 cs h.0 e (λ f. heads frame cs h.1 f)

-- ---- a record

module _ (p : Prologue) (rest : List ℕ) where
  bytes : List ℕ
  bytes = info_bytes p.end p.codes ++ rest

  header_back : header_ok bytes ≡ true
  unfolding bytes header_ok info_bytes
  header_back =
      let pad : List ℕ = replicate (2 * (slots p.codes % 2)) 0 in
      let n : ℕ = length ((reversed p.codes ++ pad) ++ rest) in
      let l : 2 * slots p.codes ≤ n =
      omega (arith, length-append (reversed p.codes ++ pad) rest, length-append (reversed p.codes) pad, reversed-length p.codes) in
      rw (le-leb 4 (suc (suc (suc (suc n)))) (omega arith), le-leb (4 + 2 * slots p.codes) (suc (suc (suc (suc n)))) (omega arith))

  slots_back : slot_bytes_in bytes ≡ reversed p.codes
  unfolding bytes slot_bytes_in info_bytes
  slots_back =
      let pad : List ℕ = replicate (2 * (slots p.codes % 2)) 0 in
      rw (append_assoc (reversed p.codes) pad rest) (take_at (reversed p.codes) (pad ++ rest) (2 * slots p.codes) (reversed-length p.codes))

  -- a function that passes its questions and has at most one frame code
  pub info_back : prologue_no p.end p.codes ≡ none → frame_codes p.codes ≤ 1
      → read_info (info_bytes p.end p.codes ++ rest) ≡ good (given p)
  unfolding bytes read_info info_bytes info_with given pick onward or_else
  info_back e one =
      let a : Agreed p.end p.codes = agreed p.end p.codes e in
      let frame : ℕ = frame_byte 0 p.codes in
      let ok : AllFit frame p.codes = all_fit frame p.codes a.codes a.frames (all_frames 0 p.codes one) in
      let h : Heads frame (frame_of p.codes) = heads frame p.codes ok refl in
      rw (header_back, slots_back, codes_back frame p.codes ok, h.0, h.1)
