-- A header's fields at positions, from the augmentation data back to the id.
use mathlib.Core.Path.{◌≡◌, refl, sym, subst, ◌∙◌}
use mathlib.Core.Bool.{Bool, true, false, ◌&&◌, and-true}
use mathlib.Core.Option.{Option, none}
use mathlib.Core.List.{List, [], ◌∷◌}
use Prim.Native.Nat.{ℕ, zero, suc, ◌+◌, ◌≤◌, ◌<◌}
use native.Mathlib.Omega.{arith}
use borrow.Author.Tests.{ne_eqb, le-leb, lt-leb}
use lib.ListN.{length, drop, get_or}
use lib.IntN.{ℤ, pos, negsuc, nat_abs}
use lib.Signed.{lt_z}
use lib.Dec.{T, eqb}
use Rattle.format.specs.Prelude.{pick, next, after}
use Rattle.operations.specs.Positions.{uleb_at, sleb_at, little_at, from}
use Rattle.format.specs.Rows.{read_register, same_offset}
use Rattle.format.specs.Headers.{data_factor}
use Rattle.format.specs.Reader.{spellings, read_letters, read_counted, letters_in, HeaderFields, header_tail, require, parse_header, header_numbers, mark_after, header_short}
use Rattle.format.specs.Shortest.{unsigned as unsignedNumber, signed as signedNumber, numbers_short}
use Rattle.operations.specs.declared.fields.Position.{Position}
use Rattle.operations.proofs.PositionLaws.{past_mark, uleb_rest, uleb_none, uleb_on, sleb_rest, sleb_none, sleb_on, little_ahead, little_rest, little_past, little_none}
use Rattle.rows.proofs.Signs.{eqb_both}
use Rattle.std.specs.Prelude.{Some, None}
use Rattle.std.specs.Prelude as code
use Rattle.format.proofs.Asked.{option_of, value_is, none_is}
use Rattle.reader.specs.Spans.{part}
use Rattle.reader.specs.Fields.{Rests, letters_of, ReadsAugmentation, Counts, CountsIn, Heading, Heads, tail_mark, header_factors}
use Rattle.reader.specs.declared.fields.Augmentation.{Augmentation}
use Rattle.reader.specs.declared.fields.Header.{Header}
use Rattle.reader.proofs.Augmentation.{byte_there, byte_none, counts, counts_none}

-- ---- the augmentation data, and the operations behind it

module _ (s : List ℕ) (p : Position) (debug : Bool) (word : ℕ) (l : Augmentation) where
  abbrev tail : Option HeaderFields
  tail = header_tail debug (letters_of l) word (drop p.at s)

  pub tail_debug : debug ≡ true → p.at ≤ length s → Heading s (tail_mark debug s p) p 0 l.signal tail
  unfolding header_tail tail_mark numbers_short pick
  tail_debug d h = record { inside = h; read = rw d; mark = rw (d, and-true p.shortest) }

  module _ (d : debug ≡ false) {r : code.Option (Position × ℕ)} (m : CountsIn s (tail_mark false s p) r (read_counted (drop p.at s))) where
    pub tail_none : r ≡ None → tail ≡ none
    unfolding header_tail next
    tail_none e = rw (d, counts_none s _ (read_counted (drop p.at s)) m e)

    module _ {a : Position} {e : ℕ} (q : r ≡ Some (a, e)) where
      pub tail_counts : Counts s (tail_mark false s p) a e (read_counted (drop p.at s))
      tail_counts = counts s _ (read_counted (drop p.at s)) m q

      pub tail_unknown : option_of (letters_in (letters_of l) word (part s a.at e)) ≡ None → tail ≡ none
      unfolding header_tail next after
      tail_unknown w = rw (d, tail_counts.read, none_is _ w)

      pub tail_there : {n : ℕ} → option_of (letters_in (letters_of l) word (part s a.at e)) ≡ Some n
          → Heading s (tail_mark debug s p) (record { at = e; shortest = a.shortest }) n l.signal tail
      unfolding header_tail next after
      tail_there w = record { inside = tail_counts.inside; read = rw (d, tail_counts.read, value_is _ w); mark = rw d tail_counts.mark }

-- what the data that was read says
module _ (s : List ℕ) (b : Bool) {h : code.Option Header} {x : Option HeaderFields} (m : Heads s b h x) where
  pub tail_absent : h ≡ None → x ≡ none
  tail_absent e = subst (λ (h : code.Option Header). Heads s b h x) e m

  pub tail_given : {o : Header} → h ≡ Some o → Heading s b o.operations o.pointer o.signal x
  tail_given e = subst (λ (h : code.Option Header). Heads s b h x) e m

-- ---- the factors and the return address register

pub factor_above : (w : ℕ) (z : ℤ) → lt_z (pos 0) z ≡ true → false ≡ same_offset z (data_factor w)
unfolding data_factor same_offset
factor_above w (pos zero) h = absurd (subst T (sym h) tt)
factor_above zero (pos (suc a)) h = sym (ne_eqb (suc a) 0 (λ e. omega arith))
factor_above (suc w) (pos (suc a)) h = refl
factor_above w (negsuc a) h = absurd (subst T (sym h) tt)

pub factor_size : (w : ℕ) (z : ℤ) → lt_z (pos 0) z ≡ false → eqb (nat_abs z) w ≡ same_offset z (data_factor w)
unfolding data_factor same_offset
factor_size zero (pos zero) h = refl
factor_size (suc w) (pos zero) h = ne_eqb 0 (suc w) (λ e. omega arith)
factor_size w (pos (suc a)) h = absurd (subst T (sym (le-leb 1 (suc a) (omega arith)) ∙ h) tt)
factor_size zero (negsuc a) h = ne_eqb (suc a) 0 (λ e. omega arith)
factor_size (suc w) (negsuc a) h = eqb_both (suc a) (suc w) a w (λ e. omega arith) (λ e. omega arith)

module _ (s : List ℕ) (p : Position) (debug : Bool) (word : ℕ) (l : Augmentation) where
  abbrev factors : Option HeaderFields
  factors = header_factors debug (letters_of l) word (drop p.at s)

  pub factors_none : uleb_at s p ≡ None → factors ≡ none
  unfolding header_factors next
  factors_none e = rw (uleb_none s p e)

  module _ {code : ℕ} {q : Position} (e : uleb_at s p ≡ Some (code, q)) where
    pub factors_code : (code ≡ 1 → ⊥) → factors ≡ none
    unfolding header_factors next require pick
    factors_code n = rw (uleb_rest s p e) (simp (ne_eqb code 1 n))

    module _ (one : code ≡ 1) where
      pub factors_open : sleb_at s q ≡ None → factors ≡ none
      unfolding header_factors next require pick
      factors_open f = rw (uleb_rest s p e, one, sleb_none s q f)

      module _ {z : ℤ} {t : Position} (f : sleb_at s q ≡ Some (z, t)) where
        pub factors_data : same_offset z (data_factor word) ≡ false → factors ≡ none
        unfolding header_factors next require pick
        factors_data g = rw (uleb_rest s p e, one, sleb_rest s q f) (simp g)

        module _ (g : same_offset z (data_factor word) ≡ true) where
          pub factors_unnamed : uleb_at s t ≡ None → factors ≡ none
          unfolding header_factors read_register next require pick
          factors_unnamed k = rw (uleb_rest s p e, one, sleb_rest s q f, uleb_none s t k) (simp g)

          module _ {v : ℕ} {u : Position} (k : uleb_at s t ≡ Some (v, u)) where
            pub factors_over : 0xffff < v → factors ≡ none
            unfolding header_factors read_register next require pick
            factors_over h = rw (uleb_rest s p e, one, sleb_rest s q f, uleb_rest s t k) (simp (g, lt-leb v 0xffff h))

            pub factors_there : v ≤ 0xffff → factors ≡ header_tail debug (letters_of l) word (drop u.at s)
            unfolding header_factors read_register next require pick
            factors_there h = rw (uleb_rest s p e, one, sleb_rest s q f, uleb_rest s t k) (simp (g, le-leb v 0xffff h))

            pub factors_mark : (p.shortest && numbers_short (header_numbers debug) (drop p.at s)) ≡ tail_mark debug s u
            unfolding header_numbers tail_mark
            factors_mark =
                uleb_on s p e (signedNumber ∷ unsignedNumber ∷ pick debug [] (unsignedNumber ∷ []))
                ∙ sleb_on s q f (unsignedNumber ∷ pick debug [] (unsignedNumber ∷ []))
                ∙ uleb_on s t k (pick debug [] (unsignedNumber ∷ []))

-- ---- the id, the version and the string

module _ (s : List ℕ) (debug : Bool) (word : ℕ) where
  pub parse_none : little_at 4 s (from 0) ≡ None → parse_header debug word s ≡ none
  unfolding parse_header next
  parse_none e = rw (little_none s (from 0) 4 e)

  module _ {id : ℕ} {p : Position} (e : little_at 4 s (from 0) ≡ Some (id, p)) where
    pub parse_ended : length s ≤ p.at → parse_header debug word s ≡ none
    unfolding parse_header next
    parse_ended h = rw (little_rest s (from 0) (omega arith) e, byte_none s p.at h)

    module _ (h : p.at < length s) where
      pub parse_version : (get_or s p.at 0 ≡ 1 → ⊥) → parse_header debug word s ≡ none
      unfolding parse_header next require pick
      parse_version n = rw (little_rest s (from 0) (omega arith) e, byte_there s p.at h) (simp (ne_eqb _ _ n))

      module _ (v : get_or s p.at 0 ≡ 1) {r : code.Option (Augmentation × Position)} (m : ReadsAugmentation s p.shortest r (read_letters (spellings debug) (drop (p.at + 1) s))) where
        pub parse_string : r ≡ None → parse_header debug word s ≡ none
        unfolding parse_header next require pick
        parse_string f =
            rw (little_rest s (from 0) (omega arith) e, byte_there s p.at h, v, subst (λ (r : code.Option (Augmentation × Position)). ReadsAugmentation s p.shortest r (read_letters (spellings debug) (drop (p.at + 1) s))) f m)

        module _ {l : Augmentation} {q : Position} (f : r ≡ Some (l, q)) where
          string_read : Rests s p.shortest (letters_of l) q (read_letters (spellings debug) (drop (p.at + 1) s))
          string_read = subst (λ (r : code.Option (Augmentation × Position)). ReadsAugmentation s p.shortest r (read_letters (spellings debug) (drop (p.at + 1) s))) f m

          pub parse_rest : parse_header debug word s ≡ header_factors debug (letters_of l) word (drop q.at s)
          unfolding parse_header header_factors next require pick
          parse_rest = rw (little_rest s (from 0) (omega arith) e, byte_there s p.at h, v, string_read.read)

          pub parse_mark : header_short debug s ≡ (q.shortest && numbers_short (header_numbers debug) (drop q.at s))
          unfolding header_short mark_after
          parse_mark =
              let five : 5 ≡ p.at + 1 = omega (arith, (little_ahead s (from 0) (omega arith) e).0) in
              let marked : q.shortest ≡ true = string_read.mark ∙ past_mark (little_past s (from 0) (omega arith) e) in
              rw (marked, five, string_read.read)
