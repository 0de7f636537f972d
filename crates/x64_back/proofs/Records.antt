-- What is answered of a record that is undone: each refusal, and the registers before.
use mathlib.Core.Path.{◌≡◌, sym}
use Prim.Native.Nat.{ℕ}
use mathlib.Core.Bool.{Bool, false}
use mathlib.Core.Option.{none}
use mathlib.Core.List.{List}
use lib.ListN.{drop}
use Rattle.std.specs.Prelude.{Some, None, Ok, Err}
use Rattle.format.specs.Prelude.{pick, after, onward, or_else}
use Rattle.format.specs.Coded.{result_of}
use Rattle.format.specs.X64Reader.{header_ok, info_with, read_codes, read_info}
use Rattle.format.proofs.Asked.{option_of, none_is, value_is}
use Rattle.walk.specs.Walk.{Memory}
use Rattle.x64_reader.specs.Reads.{HeaderThere}
use Rattle.x64_reader.proofs.Entry.{Read, there}
use Rattle.x64_back.specs.declared.undo.Registers.{Registers}
use Rattle.x64_back.specs.Thread.{undo_slots, undo_info, undo_at}

module _ (info : List ℕ) (place : ℕ) (m : Memory) (r : Registers) where
  pub no_record : header_ok (drop place info) ≡ false → Err 76 ≡ result_of (undo_at info place m r)
  unfolding undo_at read_info pick onward
  no_record e = rw e

  module _ {end frame : ℕ} {slots : List ℕ} (h : HeaderThere (drop place info) end frame slots) where
    pub no_codes : read_codes frame slots ≡ none → Err 77 ≡ result_of (undo_at info place m r)
    unfolding undo_at onward or_else
    no_codes e = rw (there info place h, e)

    module _ {n : ℕ} {framed : Bool} (c : Read (read_codes frame slots) n framed) where
      undoing : undo_at info place m r ≡ or_else (undo_slots m framed frame slots r) 74
      unfolding undo_at undo_info undo_slots onward or_else info_with after
      undoing = rw (there info place h, c.held.are, c.frames, h.frames)

      pub not_undone : None ≡ option_of (undo_slots m framed frame slots r) → Err 74 ≡ result_of (undo_at info place m r)
      unfolding or_else
      not_undone e = rw (undoing, none_is _ (sym e))

      pub undone : {before : Registers} → Some before ≡ option_of (undo_slots m framed frame slots r) → Ok before ≡ result_of (undo_at info place m r)
      unfolding or_else
      undone e = rw (undoing, value_is _ (sym e))
