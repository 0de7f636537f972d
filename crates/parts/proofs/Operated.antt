-- One operation of those from a position to another, by the code's tests.
use Rattle.std.specs.Prelude.{Some, None}
use Rattle.std.specs.Prelude as code
use mathlib.Core.Path.{◌≡◌, refl, ◌∙◌}
use mathlib.Core.Bool.{Bool, true, false, ◌&&◌}
use Prim.Native.Nat.{ℕ, ◌+◌, ◌-◌, ◌^◌, ◌≤◌, ◌<◌}
use native.Mathlib.Omega.{arith}
use mathlib.Core.Option.{none, some}
use mathlib.Core.List.{List}
use borrow.Author.Tests.{eq-eqb, ne_eqb, le-leb, lt-leb}
use lib.Dec.{leb, eqb}
use lib.ListN.{length, drop, get_or, length-drop, length-take}
use lib.Seq.{length-take-le}
use Rattle.format.specs.Prelude.{pick, Read}
use Rattle.format.specs.Machine.{is_word_size}
use Rattle.format.specs.Rows.{read_operation}
use Rattle.format.specs.declared.Operation.{Operation}
use Rattle.format.specs.declared.Operation.TheVariants.{Nop, Step, Does}
use Rattle.operations.specs.declared.fields.Position.{Position}
use Rattle.operations.specs.Positions.{past, read_from, operation_at, from}
use Rattle.operations.proofs.OperationLaws.{operation_ahead, operation_rest}
use Rattle.reader.specs.Spans.{part}
use Rattle.reader.proofs.Whole.{drop-part}
use Rattle.parts.specs.Operations.{no_operation, operation_numbers, decoded_numbers, operation_from, read_operation_at}
use Rattle.parts.specs.declared.operation.OperationRead.{OperationRead}

-- ---- an operation by the code's answer

unfoldable pub answered : (at opcode : ℕ) → code.Option (Operation × Position) → OperationRead
answered at opcode (Some x) = operation_numbers x.0 (at + x.1.at) opcode
answered at opcode None = no_operation 66 at opcode

by_answer : (p : Position) (b : Bool) (at size opcode : ℕ) (r : Read Operation) → decoded_numbers at size opcode r ≡ answered at opcode (read_from p b size r)
unfolding decoded_numbers answered read_from past
by_answer p b at size opcode none = refl
by_answer p b at size opcode (some x) = refl

pub operation_from_lem : (word at : ℕ) (bs : List ℕ) → operation_from word at bs ≡ answered at (get_or bs 0 0) (operation_at word bs (from 0))
unfolding operation_from operation_at
operation_from_lem word at bs = by_answer (from 0) _ at (length bs) (get_or bs 0 0) (read_operation word bs)

-- ---- the range

module _ (section : List ℕ) (at end word : ℕ) where
  pub wordless : is_word_size word ≡ false → read_operation_at section at end word ≡ no_operation 11 at 0
  unfolding read_operation_at pick
  wordless w = rw w

  module _ (w : is_word_size word ≡ true) where
    pub ended : at ≡ end → read_operation_at section at end word ≡ no_operation 62 at 0
    unfolding read_operation_at pick
    ended e = rw (w, eq-eqb at end e)

    module _ (n : at ≡ end → ⊥) where
      pub behind : end < at → read_operation_at section at end word ≡ no_operation 66 at 0
      unfolding read_operation_at pick
      behind h = rw (w, ne_eqb at end n, lt-leb at end h)

      module _ (h : at ≤ end) where
        pub over : length section < end → read_operation_at section at end word ≡ no_operation 66 at 0
        unfolding read_operation_at pick
        over k = rw (w, ne_eqb at end n, le-leb at end h, lt-leb end (length section) k)

        pub inside : end ≤ length section → read_operation_at section at end word ≡ operation_from word at (part section at end)
        unfolding read_operation_at pick
        inside k = rw (w, ne_eqb at end n, le-leb at end h, le-leb end (length section) k)

  -- the bytes of the range are there, and stand below 2^64
  pub some_bytes : (at ≡ end → ⊥) → at ≤ end → end ≤ length section → end < 2 ^ 64 → (0 < length (part section at end)) × (at + length (part section at end) < 2 ^ 64)
  some_bytes n h k b =
      let e : length (part section at end) ≡ end - at = length-take-le (end - at) (drop at section) (omega (arith, length-drop at section)) in
      (omega arith, omega arith)

-- ---- an operation that was read: the next position lies behind it, and not behind the end

abbrev pub Goes : (at end : ℕ) → OperationRead → Type 0
Goes at end r = r.number ≡ 0 → (at < r.next) × (r.next ≤ end)

goes_not : {at end : ℕ} (n opcode : ℕ) → 0 < n → Goes at end (no_operation n at opcode)
unfolding no_operation
goes_not n opcode h e = absurd (omega arith)

goes_pick : {at end : ℕ} (test : Bool) (a b : OperationRead) → Goes at end a → Goes at end b → Goes at end (pick test a b)
unfolding pick
goes_pick true a b x y = x
goes_pick false a b x y = y

goes_next : {at end : ℕ} (op : Operation) (q opcode : ℕ) → at < q → q ≤ end → Goes at end (operation_numbers op q opcode)
unfolding operation_numbers
goes_next Nop q opcode h k e = (h, k)
goes_next (Step n) q opcode h k e = (h, k)
goes_next (Does row) q opcode h k e = (h, k)

module _ (section : List ℕ) (at end word : ℕ) where
  goes_decoded : (d : code.Option (Operation × Position)) → operation_at word (part section at end) (from 0) ≡ d → (opcode : ℕ) → Goes at end (answered at opcode d)
  unfolding answered
  goes_decoded None s opcode = goes_not 66 opcode (omega arith)
  goes_decoded (Some (op, q)) s opcode =
      let a = operation_ahead word (part section at end) (from 0) s in
      goes_next op (at + q.at) opcode (omega (arith, a.0)) (omega (arith, a.0, a.1, length-take (end - at) (drop at section)))

  pub operation_goes : Goes at end (read_operation_at section at end word)
  unfolding read_operation_at
  operation_goes =
      rw (operation_from_lem word at (part section at end))
      (goes_pick (is_word_size word) _ _
      (goes_pick (eqb at end) _ _ (goes_not 62 0 (omega arith))
      (goes_pick (leb at end && leb end (length section)) _ _ (goes_decoded _ refl _) (goes_not 66 0 (omega arith)))) (goes_not 11 0 (omega arith)))

  -- what the reader reads there, and what it leaves
  pub operation_reads : {op : Operation} {q : Position} → operation_at word (part section at end) (from 0) ≡ Some (op, q)
      → read_operation word (part section at end) ≡ some (op, part section (at + q.at) end)
  operation_reads {q = q} s = operation_rest word (part section at end) (from 0) s ∙ rw (drop-part section at end q.at)
