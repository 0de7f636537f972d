-- How long a section is: what an accepted list's functions add stays below 2^25 bytes.
use Prim.Native.Nat.{ℕ, ◌+◌, ◌-◌, ◌*◌, ◌^◌, ◌≤◌, ◌<◌}
use native.Mathlib.Omega.{arith}
use mathlib.Core.Bool.{Bool, true, false}
use mathlib.Core.Option.{Option, none, some}
use mathlib.Core.List.{List, [], ◌∷◌, ◌++◌, map}
use lib.ListN.{length, length-append}
use Rattle.format.specs.Prelude.{pick}
use Rattle.format.specs.declared.Machine.{Machine}
use Rattle.format.specs.Rows.{rows_bytes, stepped_bytes}
use Rattle.format.specs.Lists.{Function}
use Rattle.format.specs.Headers.{key_of, leading, others, padded, entry, header_fields, header_bytes}
use Rattle.format.specs.Records.{record_fields, record_bytes}
use Rattle.format.specs.declared.Section.{Section}
use Rattle.format.specs.declared.Section.TheVariants.{Elf, Debug}
use Rattle.format.specs.Writer.{is_debug, align_for, Seen, is_empty, parts_from, joined}
use Rattle.format.proofs.EntryBack.{entry_length, padding_small, padded_length}
use Rattle.format.proofs.FieldsBack.{word_small}
use Rattle.format.proofs.HeaderBack.{HeaderOk, kind_accepted, header_short}
use Rattle.format.proofs.RecordBack.{record_short}
use Rattle.format.proofs.Sizes.{rows_short, rows_at_short}
use Rattle.format.proofs.Fits.{MachineFits, FunctionFits, AllFit, row_count, Bounded}
use Rattle.format.proofs.Leading.{others_ok, others_count, leading_ok, leading_count}
use Rattle.format.proofs.Parts.{Spot, cie_of, spot_of, front_for, front_of, place_of, part_bytes, bytes_of, next_at, next_sites, next_seen, bytes_none, bytes_more}

-- ---- alignment

pub record Aligned (n : ℕ) : Type 0 where
  pub some_bytes : 0 < n
  pub at_most_8 : n ≤ 8

aligned : (s : Section) (word : ℕ) (last : Bool) → 0 < word → word ≤ 8 → Aligned (align_for s word last)
unfolding align_for pick
aligned Elf word true h l = record { some_bytes = h; at_most_8 = l }
aligned Elf word false h l = record { some_bytes = omega arith; at_most_8 = omega arith }
aligned Debug word last h l = record { some_bytes = h; at_most_8 = l }

-- four bytes of length, and at most seven of zeros
entry_short : (align at : ℕ) (body : List ℕ) → Aligned align → length (entry (padded align at body)) ≤ 11 + length body
entry_short align at body a = rw (entry_length, padded_length) (omega (arith, padding_small align (at + 4 + length body) a.some_bytes))

-- ---- one function

module _ (s : Section) (m : Machine) (fit : MachineFits m) where
  pub header_ok : (f : Function) → FunctionFits s m f → HeaderOk (is_debug s) m (key_of m f)
  unfolding key_of
  header_ok f ok =
      record { is_word = fit.is_word; ret_small = fit.ret_small; kind_ok = λ t. kind_accepted m.word f.landings f.named ok.encodings }

  pub spot_aligned : (at : ℕ) (seen : List Seen) (f : Function) (fs : List Function) → Aligned (spot_of s m at seen f fs).align
  unfolding spot_of
  spot_aligned at seen f fs = let w = word_small m.word fit.is_word in aligned s m.word (is_empty fs) w.0 w.1

  front_short : (o : Option ℕ) (align at : ℕ) (f : Function) → FunctionFits s m f → Aligned align
      → length (front_for s m o align at (key_of m f)) ≤ 39 + 9 * length (leading m f)
  unfolding front_for header_bytes key_of
  front_short none align at f ok a =
      let fields : List ℕ = header_fields (is_debug s) m (key_of m f) in
      let rows : List ℕ = rows_bytes m.word (leading m f) in
      omega (
        arith,
        entry_short align at (fields ++ rows) a,
        length-append fields rows,
        header_short (is_debug s) m (key_of m f) (header_ok f ok),
        rows_short m.word (leading m f) (leading_ok m f fit ok.lines),
      )
  front_short (some cie) align at f ok a = omega arith

  pub part_short : (x : Spot) (f : Function) → FunctionFits s m f → Aligned x.align → length (part_bytes s m x f) ≤ 96 + 14 * length f.rows
  unfolding part_bytes front_of record_bytes
  part_short x f ok a =
      let at : ℕ = place_of s m x f in
      let w : (0 < m.word) × (m.word ≤ 8) = word_small m.word fit.is_word in
      let fields : List ℕ = record_fields (is_debug s) m.word (at + 4 - cie_of x) f in
      let lines : List ℕ = stepped_bytes m.word 0 (others f.rows) in
      rw length-append
      (omega (
        arith,
        front_short x.earlier x.align x.start f ok a,
        entry_short x.align at (fields ++ lines) a,
        length-append fields lines,
        record_short (is_debug s) m.word (at + 4 - cie_of x) f w.1,
        rows_at_short m.word 0 (others f.rows) (others_ok m.word f.rows ok.lines),
        leading_count m f fit,
        others_count f.rows,
      ))

  -- ---- all functions

  pub parts_short : (at sites : ℕ) (seen : List Seen) (fs : List Function) → AllFit s m fs
      → length (bytes_of s m at sites seen fs) ≤ 96 * length fs + 14 * row_count fs
  unfolding row_count
  parts_short at sites seen [] ok = rw (bytes_none s m at sites seen) (omega arith)
  parts_short at sites seen (f ∷ fs) ok =
      rw (bytes_more s m at sites seen f fs, length-append)
      (omega (
        arith,
        part_short (spot_of s m at seen f fs) f ok.0 (spot_aligned at seen f fs),
        parts_short (next_at s m at seen f fs) (next_sites sites f) (next_seen s m at seen f fs) fs ok.1,
      ))

  -- from any place on, whatever stands in front
  pub section_short : (at sites : ℕ) (seen : List Seen) (fs : List Function) → AllFit s m fs → Bounded fs
      → length (joined (map (λ p. p.bytes) (parts_from s m at sites seen fs))) < 2 ^ 25
  unfolding bytes_of
  section_short at sites seen fs ok b = omega (arith, parts_short at sites seen fs ok)
