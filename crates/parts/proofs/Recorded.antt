-- A record's fields by positions, from its augmentation data back to the entry, by the code's tests.
use Rattle.std.specs.Prelude.{Some, None}
use Rattle.std.specs.Prelude as code
use mathlib.Core.Path.{◌≡◌, refl, subst}
use mathlib.Core.Bool.{Bool, true, false}
use mathlib.Core.List.{List}
use Prim.Native.Nat.{ℕ, ◌+◌, ◌≤◌, ◌<◌}
use native.Mathlib.Omega.{arith}
use borrow.Author.Tests.{eq-eqb, ne_eqb}
use lib.Dec.{T, eqb}
use lib.ListN.{length, drop}
use Rattle.format.specs.Prelude.{pick, Result, good, bad, onward, or_else}
use Rattle.format.specs.Machine.{is_word_size}
use Rattle.format.specs.Reader.{record_tail}
use Rattle.operations.specs.declared.fields.Position.{Position}
use Rattle.operations.specs.Positions.{uleb_at, little_at, from}
use Rattle.operations.proofs.PositionLaws.{uleb_ahead, uleb_rest, uleb_none, little_ahead, little_rest, little_none}
use Rattle.reader.specs.Fields.{Recording, Records}
use Rattle.reader.specs.declared.fields.Record.{Record}
use Rattle.reader.specs.Listing.{entry_at}
use Rattle.reader.specs.declared.cursor.Entry.{Entry}
use Rattle.reader.proofs.Recorded.{field_small}
use Rattle.parts.specs.Faults.{function_field, length_field, record_data_field, reading}
use Rattle.parts.specs.Records.{RecordParts, record_rest, record_parts, rest_from, call_site_bytes, no_record, record_numbers, record_of, read_record_at}
use Rattle.parts.specs.declared.records.RecordRead.{RecordRead}
use Rattle.parts.proofs.Entered.{left, by_header, ByEntry}

-- ---- the pointer to call sites

module _ (s : List ℕ) (base : ℕ) (p : Position) (debug : Bool) (pointer : ℕ) where
  abbrev sites : ℕ
  sites = call_site_bytes debug pointer (base + length s) (drop p.at s)

  pub sites_debug : debug ≡ true → sites ≡ 0
  unfolding call_site_bytes pick
  sites_debug d = rw d

  module _ (d : debug ≡ false) where
    pub sites_none : pointer ≡ 0 → sites ≡ 0
    unfolding call_site_bytes pick
    sites_none e = rw (d, eq-eqb pointer 0 e)

    module _ (n : pointer ≡ 0 → ⊥) where
      pub sites_bad : uleb_at s p ≡ None → sites ≡ 0
      unfolding call_site_bytes rest_from pick
      sites_bad e = rw (d, ne_eqb pointer 0 n, uleb_none s p e)

      pub sites_there : {v : ℕ} {q : Position} → uleb_at s p ≡ Some (v, q) → sites ≡ base + q.at
      unfolding call_site_bytes rest_from pick
      sites_there {q = q} e = rw (d, ne_eqb pointer 0 n, uleb_rest s p e) (left s base q.at (uleb_ahead s p e).1)

-- ---- the augmentation data, and the operations behind it

module _ (s : List ℕ) (base : ℕ) (p : Position) (debug : Bool) (pointer header function size : ℕ) where
  abbrev behind : RecordRead
  behind = record_numbers debug pointer (base + length s) (record_rest debug pointer header function size (drop p.at s))

  module _ (b : Bool) {r : code.Option Record} (m : Records s b r (record_tail debug pointer size (drop p.at s))) where
    pub rest_bad : r ≡ None → behind ≡ no_record 64 record_data_field
    unfolding record_numbers record_rest onward or_else
    rest_bad e = rw (subst (λ (r : code.Option Record). Records s b r (record_tail debug pointer size (drop p.at s))) e m)

    module _ {q : Position} {z : ℕ} (e : r ≡ Some (record { operations = q; size = z })) where
      pub recording : Recording s b q z (record_tail debug pointer size (drop p.at s))
      recording = subst (λ (r : code.Option Record). Records s b r (record_tail debug pointer size (drop p.at s))) e m

      pub rest_there : behind
          ≡ record {
            number = 0;
            «field» = 0;
            header = header;
            function = function;
            length = z;
            call_sites = call_site_bytes debug pointer (base + length s) (drop p.at s);
            operations = base + q.at;
            end = base + length s;
          }
      unfolding record_numbers record_rest onward or_else
      rest_there = rw (recording.read, left s base q.at recording.inside)

-- ---- the fields in front of it

module _ (s : List ℕ) (debug : Bool) (word pointer : ℕ) where
  abbrev all : Result RecordParts
  all = record_parts debug word pointer s

  pub parts_none : little_at 4 s (from 0) ≡ None → all ≡ bad function_field
  unfolding record_parts reading
  parts_none e = rw (little_none s (from 0) 4 e)

  module _ (t : T (is_word_size word)) {id : ℕ} {p : Position} (e : little_at 4 s (from 0) ≡ Some (id, p)) {n : ℕ} (w : n ≡ pick debug word 4) where
    byte : 0 < n
    byte = omega (arith, (field_small debug word t).0)

    pub parts_placeless : little_at n s p ≡ None → all ≡ bad function_field
    unfolding record_parts reading
    parts_placeless f = rw (← w, little_rest s (from 0) (omega arith) e, little_none s p n f)

    module _ {v : ℕ} {q : Position} (f : little_at n s p ≡ Some (v, q)) where
      pub parts_sizeless : little_at n s q ≡ None → all ≡ bad length_field
      unfolding record_parts reading
      parts_sizeless g = rw (← w, little_rest s (from 0) (omega arith) e, little_rest s p byte f, little_none s q n g)

      module _ {size : ℕ} {u : Position} (g : little_at n s q ≡ Some (size, u)) where
        pub rest_inside : u.at ≤ length s
        rest_inside = (little_ahead s q byte g).1

        pub parts_rest : all ≡ record_rest debug pointer id v size (drop u.at s)
        unfolding record_parts reading
        parts_rest = rw (← w, little_rest s (from 0) (omega arith) e, little_rest s p byte f, little_rest s q byte g)

-- ---- the entry

entry_by : (section : List ℕ) (debug : Bool) (word pointer : ℕ) (r : Result Entry)
    → record_of debug word pointer section r ≡ by_header section (no_record 61 0) (λ end bytes. no_record 62 0) (λ end bytes. record_numbers debug pointer end (record_parts debug word pointer bytes)) r
unfolding record_of by_header
entry_by section debug word pointer (good e) = refl
entry_by section debug word pointer (bad n) = refl

pub record_entry_lem : (section : List ℕ) (kind word pointer place : ℕ)
    → ByEntry section kind word place (read_record_at section kind word pointer place) (no_record 11 0) (no_record 61 0) (λ end bytes. no_record 62 0) (λ end bytes. record_numbers (eqb kind 1) pointer end (record_parts (eqb kind 1) word pointer bytes))
unfolding read_record_at
record_entry_lem section kind word pointer place = record { says = rw (entry_by section (eqb kind 1) word pointer (entry_at (eqb kind 1) section place)) refl }
