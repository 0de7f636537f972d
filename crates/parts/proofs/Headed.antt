-- A header's fields by positions, from its augmentation data back to the entry, by the code's tests.
use Rattle.std.specs.Prelude.{Some, None}
use Rattle.std.specs.Prelude as code
use mathlib.Core.Path.{◌≡◌, refl, subst}
use mathlib.Core.Bool.{Bool, true, false}
use mathlib.Core.List.{List}
use Prim.Native.Nat.{ℕ, ◌+◌, ◌≤◌, ◌<◌}
use native.Mathlib.Omega.{arith}
use borrow.Author.Tests.{ne_eqb, le-leb, lt-leb}
use lib.Dec.{eqb}
use lib.ListN.{length, drop, get_or}
use lib.IntN.{ℤ}
use Rattle.format.specs.Prelude.{pick, next, Result, good, bad, onward, or_else}
use Rattle.format.specs.Rows.{read_register, same_offset}
use Rattle.format.specs.Headers.{data_factor}
use Rattle.format.specs.Answers.{bit}
use Rattle.format.specs.Reader.{Letters, spellings, read_letters, header_tail}
use Rattle.operations.specs.declared.fields.Position.{Position}
use Rattle.operations.specs.Positions.{uleb_at, sleb_at, little_at, from}
use Rattle.operations.proofs.PositionLaws.{uleb_rest, uleb_none, sleb_rest, sleb_none, little_rest, little_none}
use Rattle.reader.specs.Fields.{Rests, letters_of, ReadsAugmentation, Heading, Heads}
use Rattle.reader.specs.declared.fields.Header.{Header}
use Rattle.reader.specs.declared.fields.Augmentation.{Augmentation}
use Rattle.reader.specs.Listing.{entry_at}
use Rattle.reader.specs.declared.cursor.Entry.{Entry}
use Rattle.reader.proofs.Augmentation.{byte_there, byte_none}
use Rattle.parts.specs.Faults.{version_field, string_field, code_factor_field, data_factor_field, return_field, header_data_field, reading, testing}
use Rattle.parts.specs.Headers.{HeaderParts, header_rest, header_from, header_parts, no_header, header_numbers, header_of, read_header_at}
use Rattle.parts.specs.declared.headers.HeaderRead.{HeaderRead}
use Rattle.parts.proofs.Entered.{left, by_header, ByEntry}

-- ---- the augmentation data, and the operations behind it

module _ (s : List ℕ) (base : ℕ) (p : Position) (debug : Bool) (l : Letters) (word ret : ℕ) where
  abbrev behind : HeaderRead
  behind = header_numbers (base + length s) (header_rest debug l word ret (drop p.at s))

  module _ (b : Bool) {r : code.Option Header} (m : Heads s b r (header_tail debug l word (drop p.at s))) where
    pub rest_bad : r ≡ None → behind ≡ no_header 64 header_data_field
    unfolding header_numbers header_rest onward or_else
    rest_bad e = rw (subst (λ (r : code.Option Header). Heads s b r (header_tail debug l word (drop p.at s))) e m)

    module _ {q : Position} {n : ℕ} {signal : Bool} (e : r ≡ Some (record { operations = q; pointer = n; signal = signal })) where
      pub heading : Heading s b q n signal (header_tail debug l word (drop p.at s))
      heading = subst (λ (r : code.Option Header). Heads s b r (header_tail debug l word (drop p.at s))) e m

      pub rest_there : behind
          ≡ record {
            number = 0;
            «field» = 0;
            personality = bit l.personality;
            lsda = bit l.lsda;
            signal = bit signal;
            return_register = ret;
            pointer = n;
            operations = base + q.at;
            end = base + length s;
          }
      unfolding header_numbers header_rest onward or_else
      rest_there = rw (heading.read, left s base q.at heading.inside)

-- ---- the factors and the return address register

module _ (s : List ℕ) (p : Position) (debug : Bool) (l : Letters) (word : ℕ) where
  abbrev factors : Result HeaderParts
  factors = header_from debug l word (drop p.at s)

  pub codeless : uleb_at s p ≡ None → factors ≡ bad code_factor_field
  unfolding header_from reading
  codeless e = rw (uleb_none s p e)

  module _ {code : ℕ} {q : Position} (e : uleb_at s p ≡ Some (code, q)) where
    pub code_other : (code ≡ 1 → ⊥) → factors ≡ bad code_factor_field
    unfolding header_from reading testing pick
    code_other n = rw (uleb_rest s p e) (simp (ne_eqb code 1 n))

    module _ (one : code ≡ 1) where
      pub dataless : sleb_at s q ≡ None → factors ≡ bad data_factor_field
      unfolding header_from reading testing pick
      dataless f = rw (uleb_rest s p e, one, sleb_none s q f)

      module _ {z : ℤ} {t : Position} (f : sleb_at s q ≡ Some (z, t)) where
        pub data_other : same_offset z (data_factor word) ≡ false → factors ≡ bad data_factor_field
        unfolding header_from reading testing pick
        data_other g = rw (uleb_rest s p e, one, sleb_rest s q f) (simp g)

        module _ (g : same_offset z (data_factor word) ≡ true) where
          pub retless : uleb_at s t ≡ None → factors ≡ bad return_field
          unfolding header_from read_register next reading testing pick
          retless k = rw (uleb_rest s p e, one, sleb_rest s q f, uleb_none s t k) (simp g)

          module _ {v : ℕ} {u : Position} (k : uleb_at s t ≡ Some (v, u)) where
            pub ret_over : 0xffff < v → factors ≡ bad return_field
            unfolding header_from read_register next reading testing pick
            ret_over h = rw (uleb_rest s p e, one, sleb_rest s q f, uleb_rest s t k) (simp (g, lt-leb v 0xffff h))

            pub ret_there : v ≤ 0xffff → factors ≡ header_rest debug l word v (drop u.at s)
            unfolding header_from read_register next reading testing pick
            ret_there h = rw (uleb_rest s p e, one, sleb_rest s q f, uleb_rest s t k) (simp (g, le-leb v 0xffff h))

-- ---- the id, the version and the string

module _ (s : List ℕ) (debug : Bool) (word : ℕ) where
  abbrev all : Result HeaderParts
  all = header_parts debug word s

  pub parts_none : little_at 4 s (from 0) ≡ None → all ≡ bad version_field
  unfolding header_parts reading
  parts_none e = rw (little_none s (from 0) 4 e)

  module _ {id : ℕ} {p : Position} (e : little_at 4 s (from 0) ≡ Some (id, p)) where
    pub versionless : length s ≤ p.at → all ≡ bad version_field
    unfolding header_parts reading
    versionless h = rw (little_rest s (from 0) (omega arith) e, byte_none s p.at h)

    module _ (h : p.at < length s) where
      pub version_other : (get_or s p.at 0 ≡ 1 → ⊥) → all ≡ bad version_field
      unfolding header_parts reading testing pick
      version_other n = rw (little_rest s (from 0) (omega arith) e, byte_there s p.at h) (simp (ne_eqb _ _ n))

      module _ (v : get_or s p.at 0 ≡ 1) {r : code.Option (Augmentation × Position)} (m : ReadsAugmentation s p.shortest r (read_letters (spellings debug) (drop (p.at + 1) s))) where
        pub stringless : r ≡ None → all ≡ bad string_field
        unfolding header_parts reading testing pick
        stringless f =
            rw (little_rest s (from 0) (omega arith) e, byte_there s p.at h, v, subst (λ (r : code.Option (Augmentation × Position)). ReadsAugmentation s p.shortest r (read_letters (spellings debug) (drop (p.at + 1) s))) f m)

        pub string_there : {l : Augmentation} {q : Position} → r ≡ Some (l, q) → all ≡ header_from debug (letters_of l) word (drop q.at s)
        unfolding header_parts reading testing pick
        string_there {l} {q} f =
            let k : Rests s p.shortest (letters_of l) q (read_letters (spellings debug) (drop (p.at + 1) s)) = subst (λ (r : code.Option (Augmentation × Position)). ReadsAugmentation s p.shortest r (read_letters (spellings debug) (drop (p.at + 1) s))) f m in
            rw (little_rest s (from 0) (omega arith) e, byte_there s p.at h, v, k.read)

-- ---- the entry

entry_by : (section : List ℕ) (debug : Bool) (word : ℕ) (r : Result Entry)
    → header_of debug word section r ≡ by_header section (no_header 61 0) (λ end bytes. header_numbers end (header_parts debug word bytes)) (λ end bytes. no_header 63 0) r
unfolding header_of by_header
entry_by section debug word (good e) = refl
entry_by section debug word (bad n) = refl

pub header_entry_lem : (section : List ℕ) (kind word place : ℕ)
    → ByEntry section kind word place (read_header_at section kind word place) (no_header 11 0) (no_header 61 0) (λ end bytes. header_numbers end (header_parts (eqb kind 1) word bytes)) (λ end bytes. no_header 63 0)
unfolding read_header_at
header_entry_lem section kind word place = record { says = rw (entry_by section (eqb kind 1) word (entry_at (eqb kind 1) section place)) refl }
