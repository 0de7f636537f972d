-- How many relocations and call-site bytes a function can have.
use Prim.Native.Nat.{ℕ, ◌+◌, ◌-◌, ◌*◌, ◌≤◌}
use native.Mathlib.Omega.{arith}
use mathlib.Core.Bool.{Bool, true, false}
use mathlib.Core.Option.{Option, none, some}
use mathlib.Core.List.{List, [], ◌∷◌}
use lib.ListN.{length, length-append, length-replicate}
use Rattle.format.specs.Prelude.{pick}
use Rattle.format.specs.declared.Machine.{Machine}
use Rattle.format.specs.declared.Section.{Section}
use Rattle.format.specs.Rows.{RowAt}
use Rattle.format.specs.Lists.{Function, Landing, Named, Pointer, Relaxed}
use Rattle.format.specs.Headers.{Kind, plain, personal, named, Key, key_of, others, kind_relocs, header_relocs, padding}
use Rattle.format.specs.Records.{pointer_to, named_reloc, lsda_reloc, sum_pair, row_relocs, record_fields, record_relocs}
use Rattle.format.specs.CallSites.{site_bytes, sites_bytes, site_table, site_pad, site_added}
use Rattle.format.specs.Writer.{is_debug}
use Rattle.format.proofs.EntryBack.{padding_small}
use Rattle.format.proofs.Leading.{others_count}
use Rattle.format.proofs.Parts.{Spot, cie_of, relocs_for, place_of, part_relocs}
use Rattle.headers.proofs.Lengths.{uleb_most}
use Rattle.records.proofs.LabelLaws.{steps_most}

-- ---- relocations

kind_few : (word place : ℕ) (k : Kind) → length (kind_relocs word place k) ≤ 1
unfolding kind_relocs
kind_few word place plain = omega arith
kind_few word place personal = omega arith
kind_few word place (named e s l) = omega arith

header_few : (debug : Bool) (m : Machine) (at : ℕ) (k : Key) → length (header_relocs debug m at k) ≤ 1
unfolding header_relocs pick
header_few true m at k = omega arith
header_few false m at k = kind_few m.word _ k.kind

front_few : (s : Section) (m : Machine) (o : Option ℕ) (at : ℕ) (k : Key) → length (relocs_for s m o at k) ≤ 1
unfolding relocs_for
front_few s m none at k = header_few (is_debug s) m at k
front_few s m (some cie) at k = omega arith

to_few : (word place : ℕ) (o : Option Pointer) → length (pointer_to word place o) ≤ 1
unfolding pointer_to
to_few word place none = omega arith
to_few word place (some p) = omega arith

named_few : (word place : ℕ) (o : Option Named) → length (named_reloc word place o) ≤ 1
unfolding named_reloc
named_few word place none = omega arith
named_few word place (some n) = to_few word place n.lsda

lsda_few : (word place table : ℕ) (ls : List Landing) (o : Option Named) → length (lsda_reloc word place table ls o) ≤ 1
unfolding lsda_reloc
lsda_few word place table [] o = named_few word place o
lsda_few word place table (l ∷ ls) o = omega arith

sum_few : (place bytes : ℕ) (f : Function) (o : Option Relaxed) → length (sum_pair place bytes f o) ≤ 2
unfolding sum_pair
sum_few place bytes f none = omega arith
sum_few place bytes f (some r) = omega arith

-- n rows where there are labels
unfoldable pub labelled : Option Relaxed → ℕ → ℕ
labelled none n = 0
labelled (some r) n = n

labelled_more : (o : Option Relaxed) (a b : ℕ) → a ≤ b → labelled o a ≤ labelled o b
unfolding labelled
labelled_more none a b h = omega arith
labelled_more (some r) a b h = h

pub labelled_low : (o : Option Relaxed) (n : ℕ) → labelled o n ≤ n
unfolding labelled
labelled_low none n = omega arith
labelled_low (some r) n = omega arith

rows_few : (w place : ℕ) (xs : List RowAt) (o : Option Relaxed) → length (row_relocs w place xs o) ≤ 2 * labelled o (length xs)
unfolding row_relocs labelled
rows_few w place xs none = omega arith
rows_few w place xs (some r) = steps_most w place 0 r.pairs xs

pub record_few : (debug : Bool) (m : Machine) (at cie table : ℕ) (f : Function)
    → length (record_relocs debug m at cie table f) ≤ 4 + 2 * labelled f.relaxed (length f.rows)
unfolding record_relocs pick
record_few true m at cie table f =
    let ops : ℕ = at + 4 + length (record_fields true m.word (at + 4 - cie) f) in
    simp length-append
    (omega (
      arith,
      sum_few (at + 8 + m.word) m.word f f.relaxed,
      rows_few m.word ops (others f.rows) f.relaxed,
      labelled_more f.relaxed (length (others f.rows)) (length f.rows) (others_count f.rows),
    ))
record_few false m at cie table f =
    let ops : ℕ = at + 4 + length (record_fields false m.word (at + 4 - cie) f) in
    simp length-append
    (omega (
      arith,
      lsda_few m.word (at + 17) table f.landings f.named,
      sum_few (at + 12) 4 f f.relaxed,
      rows_few m.word ops (others f.rows) f.relaxed,
      labelled_more f.relaxed (length (others f.rows)) (length f.rows) (others_count f.rows),
    ))

module _ (s : Section) (m : Machine) where
  pub part_few : (x : Spot) (sites : ℕ) (f : Function) → length (part_relocs s m x sites f) ≤ 5 + 2 * labelled f.relaxed (length f.rows)
  unfolding part_relocs
  part_few x sites f =
      rw length-append
      (omega (
        arith,
        front_few s m x.earlier x.start (key_of m f),
        record_few (is_debug s) m (place_of s m x f) (cie_of x) (sites + site_pad sites) f,
      ))

-- ---- call sites

pub sites_most : (ls : List Landing) → length (sites_bytes ls) ≤ 40 * length ls
unfolding sites_bytes site_bytes
sites_most [] = omega arith
sites_most (l ∷ ls) =
    simp length-append
    (omega (arith, uleb_most l.start, uleb_most l.size, uleb_most l.pad, uleb_most 0, sites_most ls))

pub added_few : (at : ℕ) (ls : List Landing) → length (site_added at ls) ≤ 17 + 40 * length ls
unfolding site_added site_table site_pad
added_few at [] = omega arith
added_few at (l ∷ ls) =
    simp (length-append, length-replicate {A = ℕ} (padding 4 at) 0)
    (omega (arith, padding_small 4 at (omega arith), uleb_most (length (sites_bytes (l ∷ ls))), sites_most (l ∷ ls)))
