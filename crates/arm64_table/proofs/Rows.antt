-- A function's row, its relocations and its marker, by its packed word and by the bytes of its record.
use mathlib.Core.Path.{◌≡◌, refl, sym, ap, ◌∙◌}
use Prim.Native.Nat.{ℕ, ◌+◌, ◌-◌, ◌*◌, ◌^◌, ◌<◌}
use native.Mathlib.Omega.{arith}
use mathlib.Core.Bool.{Bool, true, false}
use mathlib.Core.List.{List, [], ◌∷◌, ◌++◌}
use lib.Dec.{eqb}
use lib.ListN.{length, replicate, length-append}
use Rattle.std.specs.Prelude.{Option, Some, None}
use Rattle.std.specs.Option.{unwrap_or, is_some}
use Rattle.format.specs.Prelude.{pick}
use Rattle.format.specs.Constants.{image_reloc}
use Rattle.format.specs.Leb.{little}
use Rattle.format.specs.Lists.{Relocation}
use Rattle.format.specs.Headers.{reloc}
use Rattle.format.specs.X64.{marker}
use Rattle.format.proofs.Choice.{if-eq, if-ne, is_some_picked}
use Rattle.arm64.specs.Lists.{Function}
use Rattle.arm64.specs.Packing.{candidate, packed_word}
use Rattle.arm64.specs.Writer.{prologue_run, instructions, is_packed, is_long_for, header_word, count_of, words_of, header_bytes, scopes_of, codes_of, nop_byte, record_bytes, row_bytes, row_relocs, info_of, no_record}
use Rattle.arm64_table.specs.Tables.{relocs_by, reloc_count, mark_by}

-- ---- by the word

word_of : (b : Bool) (w : ℕ) → unwrap_or (pick b (Some w) None) 0 ≡ pick b w 0
unfolding pick
word_of true w = refl
word_of false w = refl

module _ (place symbol : ℕ) (word : Option ℕ) where
  pub alone : is_some word ≡ true → relocs_by place symbol word ≡ reloc place symbol image_reloc 4 0 ∷ []
  unfolding relocs_by pick
  alone h = rw h

  pub with_record : is_some word ≡ false
      → relocs_by place symbol word ≡ reloc place symbol image_reloc 4 0 ∷ reloc (place + 4) (marker symbol) image_reloc 4 0 ∷ []
  unfolding relocs_by pick
  with_record h = rw h

module _ (f : Function) {word : Option ℕ} (e : word ≡ pick (is_packed f) (Some (packed_word (candidate (instructions f.size) (prologue_run f)))) None) where
  pub row_is : {w : ℕ} → w ≡ unwrap_or word 0 → little 4 0 ++ little 4 w ≡ row_bytes f
  unfolding row_bytes
  row_is g =
      ap (λ (n : ℕ). little 4 0 ++ little 4 n)
      (g ∙ ap (λ o. unwrap_or o 0) e ∙ word_of (is_packed f) (packed_word (candidate (instructions f.size) (prologue_run f))))

  pub relocs_are : (place : ℕ) → relocs_by place f.symbol word ≡ row_relocs place f
  unfolding relocs_by row_relocs
  relocs_are place =
      ap (λ b. reloc place f.symbol image_reloc 4 0 ∷ pick b [] (reloc (place + 4) (marker f.symbol) image_reloc 4 0 ∷ []))
      (ap is_some e ∙ is_some_picked (is_packed f) (packed_word (candidate (instructions f.size) (prologue_run f))))

-- ---- by the bytes of the record

header_some : (b : Bool) (x y z : ℕ) → 0 < length (pick b (little 4 x ++ little 4 y) (little 4 z))
unfolding pick little
header_some true x y z = omega arith
header_some false x y z = omega arith

record_some : (f : Function) → 0 < length (record_bytes f)
unfolding record_bytes header_bytes
record_some f =
    omega (
      arith,
      length-append (header_bytes f) (scopes_of f ++ (codes_of f ++ replicate (4 * words_of f - length (codes_of f)) nop_byte)),
      header_some (is_long_for f) (header_word f) (count_of f + 2 ^ 16 * words_of f) (header_word f + 2 ^ 22 * count_of f + 2 ^ 27 * words_of f),
    )

by_bytes : {X : Type 0} (b : Bool) (bs : List ℕ) (x y : X) (at : ℕ) {past : ℕ} → 0 < length bs → past ≡ at + length (pick b [] bs)
    → pick (eqb past at) x y ≡ pick b x y
unfolding pick
by_bytes true bs x y at {past} h e = if-eq past at x y (omega arith)
by_bytes false bs x y at {past} h e = if-ne past at x y (λ z. omega arith)

pub mark_is : (f : Function) (at : ℕ) {past : ℕ} → past ≡ at + length (info_of f) → mark_by at past ≡ pick (is_packed f) no_record at
unfolding mark_by info_of
mark_is f at e = by_bytes (is_packed f) (record_bytes f) no_record at at (record_some f) e

one_or_two : (b : Bool) (r s : Relocation) → length (r ∷ pick b [] (s ∷ [])) ≡ pick b 1 2
unfolding pick
one_or_two true r s = refl
one_or_two false r s = refl

pub relocs_count : (f : Function) (place : ℕ) → length (row_relocs place f) ≡ reloc_count (length (info_of f))
unfolding row_relocs reloc_count info_of
relocs_count f place =
    one_or_two (is_packed f) (reloc place f.symbol image_reloc 4 0) (reloc (place + 4) (marker f.symbol) image_reloc 4 0)
    ∙ sym (by_bytes (is_packed f) (record_bytes f) 1 2 0 {past = length (pick (is_packed f) [] (record_bytes f))} (record_some f) (omega arith))
