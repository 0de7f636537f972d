-- A record's fields at positions, from its augmentation back to its second field.
use mathlib.Core.Path.{◌≡◌, subst, ◌∙◌}
use mathlib.Core.Bool.{Bool, true, false, ◌&&◌, and-true}
use mathlib.Core.Option.{Option, none}
use mathlib.Core.List.{List}
use Prim.Native.Nat.{ℕ, ◌+◌, ◌-◌, ◌≤◌, ◌<◌}
use native.Mathlib.Omega.{arith}
use borrow.Author.Tests.{le-leb, lt-leb}
use lib.Dec.{T}
use lib.ListN.{length, drop, length-drop}
use lib.Seq.{length-take-le}
use Rattle.format.specs.Prelude.{pick, next}
use Rattle.operations.specs.Positions.{little_at}
use Rattle.format.specs.Machine.{is_word_size}
use Rattle.format.specs.Reader.{read_counted, RecordFields, require, record_tail, parse_record, record_short}
use Rattle.format.specs.Shortest.{numbers_short}
use Rattle.operations.specs.declared.fields.Position.{Position}
use Rattle.format.proofs.FieldsBack.{word_small}
use Rattle.operations.proofs.PositionLaws.{little_ahead, little_rest, little_kept, little_none}
use Rattle.reader.specs.Spans.{part}
use Rattle.reader.specs.Fields.{Counts, CountsIn, tail_mark, Recording, Records}
use Rattle.std.specs.Prelude.{Some, None}
use Rattle.std.specs.Prelude as code
use Rattle.reader.specs.declared.fields.Record.{Record}
use Rattle.reader.proofs.Augmentation.{counts, counts_none}

-- ---- the augmentation, and the operations behind it

module _ (s : List ℕ) (p : Position) (debug : Bool) (pointer size : ℕ) where
  abbrev tail : Option RecordFields
  tail = record_tail debug pointer size (drop p.at s)

  pub tail_debug : debug ≡ true → p.at ≤ length s → Recording s (tail_mark debug s p) p size tail
  unfolding record_tail tail_mark numbers_short pick
  tail_debug d h = record { inside = h; read = rw d; mark = rw (d, and-true p.shortest) }

  module _ (d : debug ≡ false) {r : code.Option (Position × ℕ)} (m : CountsIn s (tail_mark false s p) r (read_counted (drop p.at s))) where
    pub tail_none : r ≡ None → tail ≡ none
    unfolding record_tail next
    tail_none e = rw (d, counts_none s _ (read_counted (drop p.at s)) m e)

    module _ {a : Position} {e : ℕ} (q : r ≡ Some (a, e)) where
      pub tail_counts : Counts s (tail_mark false s p) a e (read_counted (drop p.at s))
      tail_counts = counts s _ (read_counted (drop p.at s)) m q

      held : length (part s a.at e) ≡ e - a.at
      held = length-take-le (e - a.at) (drop a.at s) (omega (arith, tail_counts.ordered, tail_counts.inside, length-drop a.at s))

      pub tail_short : e - a.at < pointer → tail ≡ none
      unfolding record_tail next require pick
      tail_short h = rw (d, tail_counts.read, held) (simp (lt-leb pointer (e - a.at) h))

      pub tail_there : pointer ≤ e - a.at → Recording s (tail_mark debug s p) (record { at = e; shortest = a.shortest }) size tail
      unfolding record_tail next require pick
      tail_there h = record { inside = tail_counts.inside; read = rw (d, tail_counts.read, held) (simp (le-leb pointer (e - a.at) h)); mark = rw d tail_counts.mark }

-- what the augmentation that was read says
module _ (s : List ℕ) (b : Bool) {r : code.Option Record} {x : Option RecordFields} (m : Records s b r x) where
  pub tail_absent : r ≡ None → x ≡ none
  tail_absent e = subst (λ (r : code.Option Record). Records s b r x) e m

  pub tail_given : {o : Record} → r ≡ Some o → Recording s b o.operations o.size x
  tail_given e = subst (λ (r : code.Option Record). Records s b r x) e m

-- ---- the fields in front of it

pub field_small : (debug : Bool) (word : ℕ) → T (is_word_size word) → (0 < pick debug word 4) × (pick debug word 4 ≤ 8)
unfolding pick
field_small true word t = word_small word t
field_small false word t = (omega arith, omega arith)

-- the mark of a record's numbers, behind its fields
tail_mark_lem : (s : List ℕ) (debug : Bool) (word n : ℕ) (m : Bool) (u : Position) → n ≡ pick debug word 4 → 0 + 4 + n + n ≡ u.at → u.shortest ≡ m
    → (m && record_short debug s) ≡ tail_mark debug s u
unfolding record_short tail_mark numbers_short pick
tail_mark_lem s true word n m u w e f = rw f
tail_mark_lem s false word n m u w e f = let d : 12 ≡ u.at = omega arith in rw (f, d)

module _ (s : List ℕ) (debug : Bool) (word pointer : ℕ) (shortest : Bool) where
  abbrev start : Position
  start = record { at = 0; shortest = shortest }

  pub parse_none : little_at 4 s start ≡ None → parse_record debug word pointer s ≡ none
  unfolding parse_record next
  parse_none e = rw (little_none s start 4 e)

  module _ (t : T (is_word_size word)) {id : ℕ} {p : Position} (e : little_at 4 s start ≡ Some (id, p)) {n : ℕ} (w : n ≡ pick debug word 4) where
    byte : 0 < n
    byte = omega (arith, (field_small debug word t).0)

    pub parse_placeless : little_at n s p ≡ None → parse_record debug word pointer s ≡ none
    unfolding parse_record next
    parse_placeless f = rw (← w, little_rest s start (omega arith) e, little_none s p n f)

    module _ {v : ℕ} {q : Position} (f : little_at n s p ≡ Some (v, q)) where
      pub parse_sizeless : little_at n s q ≡ None → parse_record debug word pointer s ≡ none
      unfolding parse_record next
      parse_sizeless g = rw (← w, little_rest s start (omega arith) e, little_rest s p byte f, little_none s q n g)

      module _ {size : ℕ} {u : Position} (g : little_at n s q ≡ Some (size, u)) where
        pub tail_inside : u.at ≤ length s
        tail_inside = (little_ahead s q byte g).1

        pub parse_rest : parse_record debug word pointer s ≡ record_tail debug pointer size (drop u.at s)
        unfolding parse_record next
        parse_rest = rw (← w, little_rest s start (omega arith) e, little_rest s p byte f, little_rest s q byte g)

        -- fields have no mark of their own
        kept : u.shortest ≡ shortest
        kept = little_kept s q byte g ∙ little_kept s p byte f ∙ little_kept s start (omega arith) e

        pub parse_mark : (shortest && record_short debug s) ≡ tail_mark debug s u
        parse_mark =
            tail_mark_lem s debug word n shortest u w
            (omega (arith, (little_ahead s start (omega arith) e).0, (little_ahead s p byte f).0, (little_ahead s q byte g).0)) kept
