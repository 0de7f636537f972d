-- The writer and then the reader on function k of its table; the reader on both forms of one function.
use mathlib.Core.Path.{◌≡◌, refl, sym, ap, subst, ◌∙◌}
use mathlib.Core.Bool.{Bool, true, false, false≢true}
use mathlib.Core.Option.{some}
use mathlib.Core.List.{List, []}
use Prim.Native.Nat.{ℕ, ◌+◌, ◌*◌, ◌%◌, ◌≤◌, ◌<◌}
use native.Mathlib.Omega.{arith}
use lib.Dec.{ltb, eqb}
use lib.ListN.{length, get_or}
use borrow.Author.Tests.{ltb-true, lt-ltb, eq-eqb, ne_eqb}
use Rattle.std.specs.Prelude.{Some, None, Ok}
use Rattle.std.specs.Prelude as code
use Rattle.format.specs.Prelude.{pick, Result, good, onward}
use Rattle.format.specs.declared.Counts.{Counts}
use Rattle.format.specs.Coded.{Outcome}
use Rattle.format.specs.Lists.{count}
use Rattle.format.specs.Writer.{Written}
use Rattle.format.specs.Questions.{Answer, refused, empty, accepted, room_in}
use Rattle.format.specs.Answers.{Writes, outcome_of, afterwards}
use Rattle.format.proofs.Choice.{if-eq, if-ne, decided}
use Rattle.format.proofs.PutLaws.{length-put}
use Rattle.unwind.proofs.Demands.{accepted_by}
use Rattle.arm64.specs.declared.Arm64Reading.{Arm64Reading}
use Rattle.arm64.specs.Lists.{Function, function_stride, numbered_function, functions_of}
use Rattle.arm64.specs.Reader.{unwound_by, full_record, fits_in, read_arm64}
use Rattle.arm64.specs.Writer.{is_packed, no_record, arm64, arm64_answer}
use Rattle.arm64.proofs.WriterLaws.{markers_length}
use Rattle.arm64_table.proofs.Loops.{rows-length}
use Rattle.arm64_back.specs.Back.{given, written, second_word, EntryWord}
use Rattle.arm64_back.specs.Together.{Answers, reading_in, epilogues_left, codes_left, RowRead, Roomy, has_row, finished_word, row_read, GivenBack, FunctionBack, SameAnswers, BothOf, PackedAsFull}
use Rattle.arm64_back.proofs.SameReadings.{both_same, written_means}
use Rattle.arm64_back.proofs.RecordBack.{all_asked, record_read}
use Rattle.arm64_back.proofs.PackedForm as packed
use Rattle.arm64_back.proofs.Arm64Back.{wrote, room_enough, marker_whole, marker_packed}
use Rattle.arm64_back.proofs.BuffersBack.{rooms, many, marker_is, buffers_back}

-- ---- a row that was written

accepted_row : (a : Answer) (k : ℕ) → has_row (outcome_of a) k ≡ true → (w : Written) × (a ≡ accepted w) × (k < length w.places)
unfolding has_row outcome_of
accepted_row (refused n j) k e = absurd (false≢true e)
accepted_row empty k e = absurd (false≢true e)
accepted_row (accepted w) k e = (w, refl, ltb-true k (length w.places) e)

rows_many : (fs es cs : List ℕ) → length (arm64 (functions_of fs es cs)).bytes ≡ 8 * length (arm64 (functions_of fs es cs)).places
unfolding arm64
rows_many fs es cs = rows-length (functions_of fs es cs) ∙ ap (λ (n : ℕ). 8 * n) (sym (markers_length 0 (functions_of fs es cs)))

module _ (fs es cs p b q s : List ℕ) {o : Outcome} {p' b' q' s' : List ℕ}
    (writes : Writes (arm64_answer fs es cs (room_in p b q s)) o p p' b b' q q' s s') where
  -- the marker and the row lie inside their lists
  pub row_there : (k : ℕ) → has_row o k ≡ true → (k < length p') × (8 * k + 8 ≤ length b')
  unfolding afterwards
  row_there k t =
      let x = accepted_row _ k (rw writes.outcome at t) in
      let w : Written = x.0 in
      let all = wrote fs es cs (room_in p b q s) w x.1 in
      let fit = rooms (room_in p b q s) w all.room in
      let rows : length w.bytes ≡ 8 * length w.places = subst (λ v. length v.bytes ≡ 8 * length v.places) all.is (rows_many fs es cs) in
      let n : length p' ≡ length p = ap length (rw x.1 at writes.placed) ∙ length-put p 0 w.places in
      let m : length b' ≡ length b = ap length (rw x.1 at writes.stored) ∙ length-put b 0 w.bytes in
      (omega (arith, x.2, fit.places), omega (arith, x.2, fit.bytes))

  module _ (w : Written) (a : arm64_answer fs es cs (room_in p b q s) ≡ accepted w) (k : ℕ) (l : k < count function_stride fs) where
    abbrev this : Function
    this = numbered_function fs es cs k

    row_yes : has_row o k ≡ true
    unfolding has_row outcome_of
    row_yes = rw (writes.outcome, a) (lt-ltb k (length w.places) (omega (arith, l, many fs es cs p b q s writes.placed writes.stored writes.sited w a)))

    marker_of : get_or p' k 0 ≡ get_or w.places k 0
    marker_of = marker_is fs es cs p b q s writes.placed writes.stored writes.sited w a k l

    entry : (placed : ℕ) → (is_packed this ≡ false → placed % 4 ≡ 0) → EntryWord this b' k (finished_word p' b' k placed)
    unfolding finished_word
    entry placed whole =
        record {
          packed = λ t. if-eq (get_or p' k 0) no_record _ _ (marker_of ∙ marker_packed fs es cs (room_in p b q s) w a k l t);
          placed = λ t.
              let m : get_or p' k 0 % 4 ≡ 0 = ap (λ (n : ℕ). n % 4) marker_of ∙ marker_whole fs es cs (room_in p b q s) w a k l t in
              ap (λ (n : ℕ). n % 4) (if-ne (get_or p' k 0) no_record (second_word b' k) placed (λ e. let z : ◌≡◌ {A = ℕ} 3 0 = ap (λ (n : ℕ). n % 4) (sym e) ∙ m in omega (arith, z))) ∙ whole t;
        }

    back : (placed : ℕ) → (is_packed this ≡ false → placed % 4 ≡ 0) → (ds bs : List ℕ) → Roomy this ds bs → {x : code.Option Arm64Reading} {ds' bs' : List ℕ}
        → RowRead (row_read o p' b' s' k placed ds bs) x ds ds' bs bs' → GivenBack this x ds ds' bs bs'
    unfolding row_read pick
    back placed whole ds bs room {x} {ds'} {bs'} r =
        let v = buffers_back fs es cs p b q s writes.placed writes.stored writes.sited k (finished_word p' b' k placed) ds bs w a l (entry placed whole) room in
        record { unwound = v.unwound; read = rw (row_yes, v.answer) at r; same = v.same }

  pub function_back : (k placed : ℕ) {ds ds' bs bs' : List ℕ} {x : code.Option Arm64Reading}
      → RowRead (row_read o p' b' s' k placed ds bs) x ds ds' bs bs' → FunctionBack fs es cs o k placed x ds ds' bs bs'
  function_back k placed r c e l whole room =
      let y = accepted_by _ c (sym e ∙ writes.outcome) in back y.0 y.1 k l placed whole _ _ room r

-- ---- the code's answers

pub no_row : (o : Outcome) (markers bytes info : List ℕ) (k placed : ℕ) (es cs : List ℕ) → has_row o k ≡ false
    → RowRead (row_read o markers bytes info k placed es cs) None es es cs cs
unfolding row_read reading_in epilogues_left codes_left pick
no_row o markers bytes info k placed es cs t = rw t (record { reading = refl; epilogues = refl; codes = refl })

pub one_row : (o : Outcome) (markers bytes info : List ℕ) (k placed : ℕ) (es cs : List ℕ) {word place : ℕ} {a : Arm64Reading} {es' cs' : List ℕ} → has_row o k ≡ true
    → word ≡ finished_word markers bytes k placed → place ≡ get_or markers k 0 → Answers (read_arm64 word info place es cs) a es es' cs cs'
    → RowRead (row_read o markers bytes info k placed es cs) (Some a) es es' cs cs'
unfolding row_read reading_in epilogues_left codes_left pick
one_row o markers bytes info k placed es cs t w p r =
    let s = rw (w, p) at r in rw t (record { reading = ap Some s.reading; epilogues = s.epilogues; codes = s.codes })

-- ---- both forms

module _ (f : Function) {word : ℕ} {bytes : List ℕ} {place : ℕ} (t : BothOf f word bytes place) where
  -- the full record's reading
  full_good : (ds bs : List ℕ) → Roomy f ds bs → read_arm64 0 bytes place ds bs ≡ good (written f)
  unfolding read_arm64 unwound_by pick onward given
  full_good ds bs room =
      ap (λ r. onward r (fits_in ds bs)) (record_read f (all_asked f t.whole 0 t.asked) bytes place t.record_is)
      ∙ room_enough (written f) (given f) (written_means f) ds bs room.epilogues room.codes

pub packed_as_full : (word : ℕ) (bytes : List ℕ) (place : ℕ) {a b : Arm64Reading} {es es' cs cs' ds ds' bs bs' : List ℕ}
    → Answers (read_arm64 word [] 0 es cs) a es es' cs cs' → Answers (read_arm64 0 bytes place ds bs) b ds ds' bs bs'
    → PackedAsFull word bytes place a es es' cs cs' b ds ds' bs bs'
unfolding read_arm64 onward given
packed_as_full word bytes place {es = es} {cs = cs} {ds = ds} {bs = bs} one other f t room room' =
    let v = packed.word_back f (all_asked f t.whole 0 t.asked) t.is_packed_one [] 0 in
    let read : read_arm64 word [] 0 es cs ≡ good v.unwound =
    ap (λ (n : ℕ). read_arm64 n [] 0 es cs) t.word_is
    ∙ (ap (λ r. onward r (fits_in es cs)) v.answer ∙ room_enough v.unwound (given f) v.same es cs room.epilogues room.codes) in
    record {
      first = v.unwound;
      second = written f;
      one = rw read at one;
      other = rw (full_good f t ds bs room') at other;
      same = both_same v.unwound (written f) (given f) v.same (written_means f);
    }
