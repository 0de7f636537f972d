-- The questions one after the other: from what each part finds to what is located.
use mathlib.Core.Path.{◌≡◌, refl, ap, subst, ◌∙◌}
use mathlib.Core.Bool.{Bool, true, false, ◌&&◌}
use mathlib.Core.Option.{Option, none, some}
use mathlib.Core.List.{List, [], ◌∷◌}
use Prim.Native.Nat.{ℕ, zero, suc, ◌+◌, ◌-◌, ◌≤◌}
use native.Mathlib.Omega.{arith}
use lib.Dec.{T}
use lib.ListN.{length, take, drop, length-drop, get_elem?}
use lib.Seq.{drop-drop, take-nil, length-take-le}
use Rattle.format.specs.Prelude.{after, Result, good, bad, onward, or_else}
use Rattle.format.specs.Machine.{is_word_size}
use Rattle.format.specs.Questions.{is_some}
use Rattle.format.specs.Lists.{Relocation}
use Rattle.format.specs.Reader.{Entry, entries, records, header_place, header_at, parse_header, parse_record, header_short, record_short, Found, parsed, locate}
use Rattle.reader.specs.Spans.{part, entry_in, entry_of, listed, Holds, Stands, Spans}
use Rattle.reader.specs.declared.section.Span.{Span}
use Rattle.reader.specs.Fields.{Heading, Recording}
use Rattle.reader.specs.Finds.{two_entries, Stated}
use Rattle.std.specs.Prelude.{Some, None}
use Rattle.std.specs.Prelude as code
use Rattle.reader.specs.declared.fields.Header.{Header}
use Rattle.reader.specs.declared.fields.Record.{Record}
use Rattle.reader.proofs.Seeking.{absent}

-- ---- what is left of a part

drop-take : (q n : ℕ) (l : List ℕ) → drop q (take n l) ≡ take (n - q) (drop q l)
drop-take zero n l = let e : n ≡ n - 0 = omega arith in ap (λ (k : ℕ). take k l) e
drop-take (suc q) zero l = let e : 0 - suc q ≡ 0 = omega arith in rw e
drop-take (suc q) (suc n) [] = rw take-nil
drop-take (suc q) (suc n) (x ∷ xs) = let e : n - q ≡ suc n - suc q = omega arith in drop-take q n xs ∙ ap (λ (k : ℕ). take k (drop q xs)) e

pub drop-part : (s : List ℕ) (a b q : ℕ) → drop q (part s a b) ≡ part s (a + q) b
drop-part s a b q = let e : b - a - q ≡ b - (a + q) = omega arith in rw (drop-take, drop-drop, e)

-- ---- 64

abbrev fields_of : List ℕ → (debug : Bool) → (word cie past at end : ℕ) → Result Found
fields_of s debug word cie past at end = parsed debug word (entry_in s cie past) (entry_in s at end)

module _ (s : List ℕ) (debug : Bool) (word cie past at end : ℕ) where
  abbrev cie_body : List ℕ
  cie_body = part s (cie + 4) past

  abbrev fde_body : List ℕ
  fde_body = part s (at + 4) end

  pub fields_header : {n : ℕ} → (n ≡ 64) × (parse_header debug word cie_body ≡ none) → fields_of s debug word cie past at end ≡ bad n
  unfolding parsed onward or_else
  fields_header (n, missing) = rw (n, missing)

  module _ {head : Header} (heading : Heading cie_body (header_short debug cie_body) head.operations head.pointer head.signal (parse_header debug word cie_body)) where
    pub header_held : cie + 8 ≤ past → past ≤ length s → cie + 4 + head.operations.at ≤ past
    header_held l i = omega (arith, heading.inside, length-take-le (past - (cie + 4)) (drop (cie + 4) s) (omega (arith, length-drop (cie + 4) s)))

    pub fields_record : {n : ℕ} → (n ≡ 64) × (parse_record debug word head.pointer fde_body ≡ none) → fields_of s debug word cie past at end ≡ bad n
    unfolding parsed onward or_else
    fields_record (n, missing) = rw (heading.read, n, missing)

    module _ {tail : Record} (recording : Recording fde_body (head.operations.shortest && record_short debug fde_body) tail.operations tail.size (parse_record debug word head.pointer fde_body)) where
      pub record_held : at + 8 ≤ end → end ≤ length s → at + 4 + tail.operations.at ≤ end
      record_held l i = omega (arith, recording.inside, length-take-le (end - (at + 4)) (drop (at + 4) s) (omega (arith, length-drop (at + 4) s)))

      marks : tail.operations.shortest ≡ (header_short debug cie_body && record_short debug fde_body)
      marks = recording.mark ∙ ap (λ (b : Bool). b && record_short debug fde_body) heading.mark

      pub fields_there : T (is_word_size word) → cie + 8 ≤ past → past ≤ length s → at + 8 ≤ end → end ≤ length s
          → Stated s word (record { header = cie + 4 + head.operations.at; header_end = past; «record» = at + 4 + tail.operations.at; record_end = end; size = tail.size; pointer = head.pointer; signal = head.signal; word = word; shortest = tail.operations.shortest }) (fields_of s debug word cie past at end)
      unfolding parsed onward or_else
      fields_there is l i l' i' =
          record {
            answer = rw (heading.read, recording.read, drop-part s (cie + 4) past head.operations.at, drop-part s (at + 4) end tail.operations.at, marks);
            header_ordered = header_held l i;
            header_inside = i;
            record_ordered = record_held l' i';
            record_inside = i';
            same_word = refl;
            is_word = is;
          }

-- ---- 61, 62 and 63

module _ (s : List ℕ) (x : Option Entry) {r : code.Option Span} (m : Spans s r x) where
  pub spans : {e : Span} → r ≡ Some e → Stands s e.at e.end x
  spans q = subst (λ (r : code.Option Span). Spans s r x) q m

  pub spans_none : r ≡ None → x ≡ none
  spans_none q = subst (λ (r : code.Option Span). Spans s r x) q m

pub tiled : (o : Option (List Entry)) → is_some o ≡ true → o ≡ some (listed o)
unfolding is_some listed
tiled none e = let z : ◌≡◌ {A = ℕ} 0 1 = cc in absurd (omega arith)
tiled (some es) e = refl

module _ (s : List ℕ) (rs : List Relocation) (debug : Bool) (k : ℕ) where
  abbrev two : Result (Entry × Entry)
  two = two_entries debug rs k s

  pub untiled : is_some (entries s) ≡ false → two ≡ bad 61
  unfolding two_entries onward or_else
  untiled e = rw (absent (entries s) e)

  abbrev es : List Entry
  es = listed (entries s)

  module _ (t : is_some (entries s) ≡ true) {r : code.Option Span} (m : Spans s r (get_elem? (records debug es) k)) where
    pub missing : r ≡ None → two ≡ bad 62
    unfolding two_entries onward or_else
    missing q = rw (tiled (entries s) t, spans_none s (get_elem? (records debug es) k) m q)

    module _ {e : Span} (q : r ≡ Some e) where
      pub record_stands : Stands s e.at e.end (get_elem? (records debug es) k)
      record_stands = spans s (get_elem? (records debug es) k) m q

      abbrev cie_at : Option Entry
      cie_at = after (header_place debug rs (entry_of s e)) λ place. header_at debug place e.at es

      module _ {r' : code.Option Span} (m' : Spans s r' cie_at) where
        pub headless : r' ≡ None → two ≡ bad 63
        unfolding two_entries onward or_else
        headless q' = rw (tiled (entries s) t, record_stands.found, spans_none s cie_at m' q')

        pub both_stand : {h : Span} → r' ≡ Some h → Holds s h × Holds s e × (two ≡ good (entry_of s h, entry_of s e))
        unfolding two_entries onward or_else
        both_stand q' =
            let h = spans s cie_at m' q' in
            ((h.long, h.inside), (record_stands.long, record_stands.inside), rw (tiled (entries s) t, record_stands.found, h.found))

-- what is made of both
module _ {A : Type 0} (made : Entry → Entry → Result A) where
  abbrev of_both : Entry × Entry → Result A
  of_both x = made x.0 x.1

  of_header : (e : Entry) (o : Option Entry) → onward (or_else o 63) (λ h. made h e) ≡ onward (onward (or_else o 63) λ h. good (h, e)) of_both
  unfolding onward or_else
  of_header e none = refl
  of_header e (some h) = refl

  of_record : (o : Option Entry) (header : Entry → Option Entry)
      → onward (or_else o 62) (λ e. onward (or_else (header e) 63) λ h. made h e)
      ≡ onward (onward (or_else o 62) λ e. onward (or_else (header e) 63) λ h. good (h, e)) of_both
  unfolding onward or_else
  of_record none header = refl
  of_record (some e) header = of_header e (header e)

  pub of_entries : (o : Option (List Entry)) (one : List Entry → Option Entry) (header : List Entry → Entry → Option Entry)
      → onward (or_else o 61) (λ es. onward (or_else (one es) 62) λ e. onward (or_else (header es e) 63) λ h. made h e)
      ≡ onward (onward (or_else o 61) λ es. onward (or_else (one es) 62) λ e. onward (or_else (header es e) 63) λ h. good (h, e)) of_both
  unfolding onward or_else
  of_entries none one header = refl
  of_entries (some es) one header = of_record (one es) (header es)

pub locate_both : (s : List ℕ) (rs : List Relocation) (debug : Bool) (word k : ℕ)
    → locate debug rs word k s ≡ onward (two_entries debug rs k s) (λ x. parsed debug word x.0 x.1)
unfolding locate two_entries
locate_both s rs debug word k =
    of_entries (parsed debug word) (entries s) (λ es. get_elem? (records debug es) k) (λ es e. after (header_place debug rs e) λ place. header_at debug place e.at es)
