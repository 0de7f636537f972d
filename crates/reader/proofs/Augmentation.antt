-- Augmentation data at positions: bytes with their length in front, encodings, and the pointers that they promise.
use mathlib.Core.Path.{◌≡◌, refl, subst}
use mathlib.Core.Bool.{Bool, true, false}
use mathlib.Core.Option.{none, some}
use mathlib.Core.List.{List}
use Prim.Native.Nat.{ℕ, ◌+◌, ◌-◌, ◌≤◌, ◌<◌}
use native.Mathlib.Omega.{arith}
use native.Mathlib.Numerals.{add-one}
use borrow.Author.Tests.{eq-eqb, ne_eqb, le-leb, lt-leb}
use lib.ListN.{length, take, drop, get_or, length-drop, drop_of_length-le}
use lib.Seq.{drop-cons, drop-drop}
use Rattle.format.specs.Prelude.{pick, Read, next, after}
use Rattle.operations.specs.Positions.{uleb_at}
use Rattle.format.specs.Headers.{pointer_size}
use Rattle.format.specs.Reader.{read_byte, read_many, read_counted, personality_in, lsda_in, letters_in}
use Rattle.operations.specs.declared.fields.Position.{Position}
use Rattle.operations.proofs.PositionLaws.{past_mark, uleb_ahead, uleb_rest, uleb_past, uleb_none}
use Rattle.std.specs.Prelude.{Some, None}
use Rattle.std.specs.Prelude as code
use Rattle.format.proofs.Asked.{option_of, value_is, none_is}
use Rattle.reader.specs.Fields.{Rests, letters_of, Counts, CountsIn, tail_mark, Skips}
use Rattle.reader.specs.declared.fields.Augmentation.{Augmentation}

-- ---- a byte, and bytes

module _ (s : List ℕ) (p : ℕ) where
  pub byte_there : p < length s → read_byte (drop p s) ≡ some (get_or s p 0, drop (p + 1) s)
  unfolding read_byte
  byte_there h = rw (drop-cons s p 0, add-one)

  pub byte_none : length s ≤ p → read_byte (drop p s) ≡ none
  unfolding read_byte
  byte_none h = rw (drop_of_length-le s h)

  module _ (n : ℕ) where
    many_there : p + n ≤ length s → read_many n (drop p s) ≡ some (take n (drop p s), drop (p + n) s)
    unfolding read_many pick
    many_there h =
        let l : n ≤ length (drop p s) = omega (arith, length-drop p s) in
        simp (le-leb n (length (drop p s)) l, drop-drop)

    many_none : length s - p < n → read_many n (drop p s) ≡ none
    unfolding read_many pick
    many_none h =
        let l : length (drop p s) < n = omega (arith, length-drop p s) in
        simp (lt-leb n (length (drop p s)) l)

-- ---- a length and as many bytes

module _ (s : List ℕ) (p : Position) where
  pub counted_none : uleb_at s p ≡ None → read_counted (drop p.at s) ≡ none
  unfolding read_counted next
  counted_none e = rw (uleb_none s p e)

  module _ {n : ℕ} {q : Position} (e : uleb_at s p ≡ Some (n, q)) where
    pub counted_over : length s - q.at < n → read_counted (drop p.at s) ≡ none
    unfolding read_counted next
    counted_over h = rw (uleb_rest s p e) (many_none s q.at n h)

    pub counted_there : n ≤ length s - q.at
        → Counts s (tail_mark false s p) q (q.at + n) (read_counted (drop p.at s))
    unfolding read_counted next tail_mark pick
    counted_there h =
        let l : q.at + n ≤ length s = omega (arith, (uleb_ahead s p e).1) in
        let k : q.at + n - q.at ≡ n = omega arith in
        record { ordered = omega arith; inside = l; read = rw (uleb_rest s p e, k) (many_there s q.at n l); mark = past_mark (uleb_past s p e) }

-- what a caller knows
module _ (s : List ℕ) (b : Bool) (x : Read (List ℕ)) {r : code.Option (Position × ℕ)} (m : CountsIn s b r x) where
  pub counts : {a : Position} {e : ℕ} → r ≡ Some (a, e) → Counts s b a e x
  counts q = subst (λ (r : code.Option (Position × ℕ)). CountsIn s b r x) q m

  pub counts_none : r ≡ None → x ≡ none
  counts_none q = subst (λ (r : code.Option (Position × ℕ)). CountsIn s b r x) q m

-- ---- the personality

first_byte : (s : List ℕ) → (length s ≡ 0 → ⊥) → read_byte s ≡ some (get_or s 0 0, drop 1 s)
first_byte s l = byte_there s 0 (omega arith)

module _ (s : List ℕ) (word : ℕ) where
  pub personality_empty : length s ≡ 0 → personality_in true word s ≡ none
  unfolding personality_in next
  personality_empty h = rw (byte_none s 0 (omega arith))

  module _ (l : length s ≡ 0 → ⊥) where
    pub personality_unknown : option_of (pointer_size true word (get_or s 0 0)) ≡ None → personality_in true word s ≡ none
    unfolding personality_in next after
    personality_unknown e = rw (first_byte s l, none_is _ e)

    module _ {n : ℕ} (e : option_of (pointer_size true word (get_or s 0 0)) ≡ Some n) where
      pub personality_over : length s - 1 < n → personality_in true word s ≡ none
      unfolding personality_in next after
      personality_over h = rw (first_byte s l, value_is _ e, many_none s 1 n h)

      pub personality_there : n ≤ length s - 1 → Skips s (1 + n) (personality_in true word s)
      unfolding personality_in next after
      personality_there h =
          let k : 1 + n ≤ length s = omega arith in
          record { inside = k; rest = rw (first_byte s l, value_is _ e, many_there s 1 n k) }

-- ---- the pointer to call sites

module _ (s : List ℕ) (p : Position) (word : ℕ) where
  pub lsda_empty : length s ≤ p.at → lsda_in true word (drop p.at s) ≡ none
  unfolding lsda_in next
  lsda_empty h = rw (byte_none s p.at h)

  module _ (l : p.at < length s) where
    pub lsda_unknown : option_of (pointer_size false word (get_or s p.at 0)) ≡ None → lsda_in true word (drop p.at s) ≡ none
    unfolding lsda_in next after
    lsda_unknown e = rw (byte_there s p.at l, none_is _ e)

    pub lsda_there : {n : ℕ} → option_of (pointer_size false word (get_or s p.at 0)) ≡ Some n
        → Rests s p.shortest n (record { at = p.at + 1; shortest = p.shortest }) (lsda_in true word (drop p.at s))
    unfolding lsda_in next after
    lsda_there e = record { inside = omega arith; read = rw (byte_there s p.at l, value_is _ e); mark = refl }

-- ---- all of them, and the records' encoding

module _ (s : List ℕ) (word : ℕ) (p : Augmentation) where
  abbrev all_letters : code.Option ℕ
  all_letters = option_of (letters_in (letters_of p) word s)

  pub letters_first : p.personality ≡ true → personality_in true word s ≡ none → None ≡ all_letters
  unfolding letters_in after
  letters_first y e = rw (y, e)

  -- behind the personality, where there is one
  pub skipped_none : p.personality ≡ false → Skips s 0 (personality_in p.personality word s)
  unfolding personality_in
  skipped_none y = record { inside = omega arith; rest = rw y }

  pub skipped_one : {a : ℕ} → p.personality ≡ true → Skips s a (personality_in true word s) → Skips s a (personality_in p.personality word s)
  skipped_one y k = rw y k

  module _ {a : ℕ} (k : Skips s a (personality_in p.personality word s)) where
    pub letters_second : p.lsda ≡ true → lsda_in true word (drop a s) ≡ none → None ≡ all_letters
    unfolding letters_in after next
    letters_second y e = rw (k.rest, y, e)

    -- behind the encoding of the pointer to call sites, where there is one
    pub found_none : (b : Bool) → p.lsda ≡ false → Rests s b 0 (record { at = a; shortest = b }) (lsda_in p.lsda word (drop a s))
    unfolding lsda_in
    found_none b y = record { inside = k.inside; read = rw y; mark = refl }

    pub found_one : {b : Bool} {n : ℕ} {q : Position} → p.lsda ≡ true → Rests s b n q (lsda_in true word (drop a s)) → Rests s b n q (lsda_in p.lsda word (drop a s))
    found_one y r = rw y r

    module _ {b : Bool} {n : ℕ} {q : Position} (r : Rests s b n q (lsda_in p.lsda word (drop a s))) where
      pub letters_ended : length s ≤ q.at → None ≡ all_letters
      unfolding letters_in after next
      letters_ended h = rw (k.rest, r.read, byte_none s q.at h)

      module _ (h : q.at < length s) where
        pub letters_other : (get_or s q.at 0 ≡ 0x1b → ⊥) → None ≡ all_letters
        unfolding letters_in after next pick
        letters_other d = rw (k.rest, r.read, byte_there s q.at h) (simp (ne_eqb _ _ d))

        pub letters_there : get_or s q.at 0 ≡ 0x1b → Some n ≡ all_letters
        unfolding letters_in after next pick
        letters_there d = rw (k.rest, r.read, byte_there s q.at h) (simp (eq-eqb _ _ d))
