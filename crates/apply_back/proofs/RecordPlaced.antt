-- A record put in place: its fields and steps with their new contents, and what the reader makes of them.
use mathlib.Core.Path.{◌≡◌, refl, sym, ap, ◌∙◌}
use mathlib.Core.Bool.{false}
use mathlib.Core.Option.{some}
use mathlib.Core.List.{List, [], ◌∷◌, ◌++◌, append_assoc}
use Prim.Native.Nat.{ℕ, ◌+◌, ◌-◌, ◌*◌, ◌^◌, ◌<◌, ◌≤◌}
use native.Mathlib.Omega.{arith}
use lib.ListN.{length, replicate, length-append, length-replicate}
use Rattle.format.specs.Prelude.{pick, next}
use Rattle.format.specs.declared.Machine.{Machine}
use Rattle.format.specs.declared.Section.TheVariants.{Elf}
use Rattle.format.specs.Leb.{little, read_little, uleb}
use Rattle.format.specs.Lists.{Function, Relocation}
use Rattle.format.specs.Rows.{stepped_bytes}
use Rattle.format.specs.Headers.{others, padding, entry, counted, reloc}
use Rattle.format.specs.Records.{lsda_blank, lsda_reloc, size_field, record_fields, record_bytes, sum_pair, row_relocs, record_relocs}
use Rattle.format.specs.Reader.{second, record_tail, require, parse_record}
use Rattle.format.proofs.Choice.{if-le}
use Rattle.format.proofs.LebBack.{little_back, little-length}
use Rattle.format.proofs.LebSteps.{uleb_last}
use Rattle.format.proofs.FieldsBack.{word_small, counted_back, second_back}
use Rattle.format.proofs.EntryBack.{padded_behind}
use Rattle.format.proofs.RecordBack.{blank_small}
use Rattle.format.proofs.Parts.{record_body, record_entry_lem}
use Rattle.format.proofs.Fits.{MachineFits, FunctionFits}
use Rattle.format.proofs.Leading.{others_ok}
use Rattle.format.proofs.RelocsInside.{eh_length}
use Rattle.apply.specs.Values.{Layout}
use Rattle.apply_back.specs.Moved.{new_length, pairs_of}
use Rattle.apply_back.proofs.StepsBack.{stepped_with}
use Rattle.apply_back.proofs.Fills.{Fills, fills_then, fills_in}
use Rattle.apply_back.proofs.Pairs.{steps_length, rows_fill, size_fills}
use Rattle.apply_back.proofs.Blanks.{Blank, place_blank, lsda_blank_lem}

-- ---- a record's fields with any contents

unfoldable pub fields_with : (distance : ℕ) (place : List ℕ) (size : ℕ) (pointer : List ℕ) → List ℕ
fields_with distance place size pointer = little 4 distance ++ (place ++ (little 4 size ++ counted pointer))

-- the number that bytes are
unfoldable value_of : List ℕ → ℕ
value_of [] = 0
value_of (b ∷ bs) = b + 256 * value_of bs

any_back : (bs rest : List ℕ) → read_little (length bs) (bs ++ rest) ≡ some (value_of bs, rest)
unfolding read_little value_of next
any_back [] rest = refl
any_back (b ∷ bs) rest = rw (any_back bs rest)

four_back : (bs rest : List ℕ) → length bs ≡ 4 → read_little 4 (bs ++ rest) ≡ some (value_of bs, rest)
four_back bs rest e = rw e at (any_back bs rest)

pub fields_read : (word pointer distance size : ℕ) (place bs ops : List ℕ) → length place ≡ 4 → distance < 2 ^ 32 → size < 2 ^ 32 → pointer ≤ length bs → length bs < 2 ^ 64
    → parse_record false word pointer (fields_with distance place size bs ++ ops) ≡ some (record { size = size; operations = ops })
unfolding parse_record record_tail require fields_with pick next
fields_read word pointer distance size place bs ops hp hd hs hb hl =
    simp append_assoc
    (rw (little_back 4 distance _ (omega arith), four_back place _ hp, little_back 4 size _ (omega arith), counted_back bs ops hl, if-le pointer (length bs)))

pub fields_second : (distance size : ℕ) (place bs ops : List ℕ) → distance < 2 ^ 32 → second (fields_with distance place size bs ++ ops) ≡ distance
unfolding fields_with
fields_second distance size place bs ops h = rw append_assoc (second_back distance _ h)

-- ---- the stretches of a record

-- the length and the distance in front; the function's place, its length, the pointer's count and the pointer; the operations
in_stretches : (n distance size : ℕ) (place bs ops zeros : List ℕ)
    → little 4 n ++ (fields_with distance place size bs ++ (ops ++ zeros))
    ≡ (little 4 n ++ little 4 distance) ++ (place ++ (little 4 size ++ (uleb (length bs) ++ (bs ++ (ops ++ zeros)))))
unfolding fields_with counted
in_stretches n distance size place bs ops zeros = simp append_assoc

body-length : (distance size : ℕ) (place bs ops zeros : List ℕ)
    → length (fields_with distance place size bs ++ (ops ++ zeros)) ≡ 8 + length place + length (uleb (length bs)) + length bs + length ops + length zeros
unfolding fields_with counted
body-length distance size place bs ops zeros = simp (length-append, little-length) (omega arith)

module _ (l : Layout) (size at : ℕ) (a p p' z z' u q q' o o' b : List ℕ) where
  abbrev line : (p z q o : List ℕ) → List ℕ
  line p z q o = a ++ (p ++ (z ++ (u ++ (q ++ (o ++ b)))))

  -- relocations of a record in the order in which they stand
  four_fills : (r₁ r₂ r₃ r₄ : List Relocation) (at₁ at₂ at₃ at₄ : ℕ) → length p' ≡ length p → length z' ≡ length z → length q' ≡ length q
      → at₁ ≡ at + length a → at₂ ≡ at₁ + length p + length z + length u → at₃ ≡ at₁ + length p → at₄ ≡ at₂ + length q
      → Fills l size r₁ at₁ p p' → Fills l size r₂ at₂ q q' → Fills l size r₃ at₃ z z' → Fills l size r₄ at₄ o o'
      → Fills l size (r₁ ++ ((r₂ ++ r₃) ++ r₄)) at (line p z q o) (line p' z' q' o')
  four_fills r₁ r₂ r₃ r₄ at₁ at₂ at₃ at₄ np nz nq e₁ e₂ e₃ e₄ f₁ f₂ f₃ f₄ =
      let s₂ : (x : List ℕ) → a ++ (p' ++ (z ++ (u ++ (x ++ (o ++ b))))) ≡ (a ++ (p' ++ (z ++ u))) ++ (x ++ (o ++ b)) = λ x. simp append_assoc in
      let s₃ : (x : List ℕ) → a ++ (p' ++ (x ++ (u ++ (q' ++ (o ++ b))))) ≡ (a ++ p') ++ (x ++ (u ++ (q' ++ (o ++ b)))) = λ x. simp append_assoc in
      let s₄ : (x : List ℕ) → a ++ (p' ++ (z' ++ (u ++ (q' ++ (x ++ b))))) ≡ (a ++ (p' ++ (z' ++ (u ++ q')))) ++ (x ++ b) = λ x. simp append_assoc in
      let n₂ : length (a ++ (p' ++ (z ++ u))) ≡ length a + length p' + length z + length u = simp length-append (omega arith) in
      let n₃ : length (a ++ p') ≡ length a + length p' = length-append a p' in
      let n₄ : length (a ++ (p' ++ (z' ++ (u ++ q')))) ≡ length a + length p' + length z' + length u + length q' = simp length-append (omega arith) in
      let g₁ : Fills l size r₁ at (line p z q o) (line p' z q o) = fills_in l size r₁ at at₁ a (z ++ (u ++ (q ++ (o ++ b)))) p p' e₁ f₁ in
      let g₂ : Fills l size r₂ at (line p' z q o) (line p' z q' o) =
      rw (s₂ q, s₂ q') (fills_in l size r₂ at at₂ (a ++ (p' ++ (z ++ u))) (o ++ b) q q' (omega arith) f₂) in
      let g₃ : Fills l size r₃ at (line p' z q' o) (line p' z' q' o) =
      rw (s₃ z, s₃ z') (fills_in l size r₃ at at₃ (a ++ p') (u ++ (q' ++ (o ++ b))) z z' (omega arith) f₃) in
      let g₄ : Fills l size r₄ at (line p' z' q' o) (line p' z' q' o') =
      rw (s₄ o, s₄ o') (fills_in l size r₄ at at₄ (a ++ (p' ++ (z' ++ (u ++ q')))) b o o' (omega arith) f₄) in
      fills_then l size r₁ ((r₂ ++ r₃) ++ r₄) at (line p z q o) (line p' z q o) (line p' z' q' o') g₁
      (fills_then l size (r₂ ++ r₃) r₄ at (line p' z q o) (line p' z' q' o) (line p' z' q' o')
      (fills_then l size r₂ r₃ at (line p' z q o) (line p' z q' o) (line p' z' q' o) g₂ g₃) g₄)

-- ---- a record

module _ (l : Layout) (size : ℕ) (m : Machine) (fit : MachineFits m) (align at cie table : ℕ) (f : Function) (ok : FunctionFits Elf m f) where
  abbrev word : ℕ
  word = m.word

  abbrev distance : ℕ
  distance = at + 4 - cie

  -- the pointer's blank bytes
  abbrev blanks : ℕ
  blanks = lsda_blank word f.landings f.named

  pub place_filled : Blank l size (reloc (at + 8) f.symbol 0 4 0 ∷ []) (at + 8) 4
  place_filled = place_blank l size (at + 8) f.symbol

  pub pointer_filled : Blank l size (lsda_reloc word (at + 17) table f.landings f.named) (at + 17) blanks
  pointer_filled = lsda_blank_lem l size word (at + 17) table f.landings f.named (word_small word fit.is_word).0 ok.encodings

  abbrev written : List ℕ
  written = stepped_bytes word 0 (others f.rows)

  -- the zeros at a record's end
  abbrev zeros : List ℕ
  zeros = replicate (padding align (at + 4 + length (record_fields false word distance f ++ written))) 0

  abbrev stepped : List ℕ
  stepped = stepped_with word l.symbols (pairs_of f.relaxed) 0 (others f.rows)

  -- what stands behind a record's length, put in place
  unfoldable pub placed_body : List ℕ
  placed_body = fields_with distance place_filled.0 (new_length l.symbols f) pointer_filled.0 ++ (stepped ++ zeros)

  abbrev old_body : List ℕ
  old_body = fields_with distance (replicate 4 0) (size_field f.size f.relaxed) (replicate blanks 0) ++ (written ++ zeros)

  pub body_is : record_body false m align at cie f ≡ old_body
  unfolding record_body record_fields fields_with
  body_is = padded_behind align at (record_fields false word distance f) written

  old_is : record_bytes false m align at cie f ≡ little 4 (length old_body) ++ old_body
  unfolding entry
  old_is = record_entry_lem false m align at cie f ∙ ap entry body_is

  same_length : length placed_body ≡ length old_body
  unfolding placed_body
  same_length =
      let n : length {A = ℕ} (replicate blanks 0) ≡ blanks = length-replicate blanks 0 in
      let c : length (uleb (length pointer_filled.0)) ≡ length (uleb (length {A = ℕ} (replicate blanks 0))) =
      ap (λ (k : ℕ). length (uleb k)) (pointer_filled.1.0 ∙ sym n) in
      omega (
        arith,
        body-length distance (new_length l.symbols f) place_filled.0 pointer_filled.0 stepped zeros,
        body-length distance (size_field f.size f.relaxed) (replicate 4 0) (replicate blanks 0) written zeros,
        place_filled.1.0,
        pointer_filled.1.0,
        n,
        c,
        steps_length word l.symbols (pairs_of f.relaxed) 0 (others f.rows),
      )

  pub record_length : length placed_body ≡ length (record_body false m align at cie f)
  record_length = same_length ∙ ap length (sym body_is)

  pub record_fills : Fills l size (record_relocs false m at cie table f) at (record_bytes false m align at cie f) (entry placed_body)
  unfolding record_relocs entry placed_body new_length pick
  record_fills =
      let w : (0 < word) × (word ≤ 8) = word_small word fit.is_word in
      let blank : List ℕ = replicate blanks 0 in
      let nb : length blank ≡ blanks = length-replicate {A = ℕ} blanks 0 in
      let n : ℕ = length old_body in
      let lines = others_ok word f.rows ok.lines in
      let front : List ℕ = little 4 n ++ little 4 distance in
      let count : List ℕ = uleb (length blank) in
      let old : ℕ = size_field f.size f.relaxed in
      let new : ℕ = new_length l.symbols f in
      let ops : ℕ = at + 4 + length (record_fields false word distance f) in
      let nf : length front ≡ 8 = simp (length-append, little-length) in
      let small : length blank < 128 = omega (arith, nb, blank_small word f.landings f.named w.1) in
      let nc : length count ≡ 1 = ap length (uleb_last (length blank) small) in
      let n4 : length {A = ℕ} (replicate 4 0) ≡ 4 = length-replicate {A = ℕ} 4 0 in
      let eh = eh_length word distance f w.1 in
      let whole : little 4 (length placed_body) ++ placed_body ≡ front ++ (place_filled.0 ++ (little 4 new ++ (count ++ (pointer_filled.0 ++ (stepped ++ zeros))))) =
      ap (λ (k : ℕ). little 4 k ++ placed_body) same_length ∙ in_stretches n distance new place_filled.0 pointer_filled.0 stepped zeros
      ∙ ap (λ (k : ℕ). front ++ (place_filled.0 ++ (little 4 new ++ (uleb k ++ (pointer_filled.0 ++ (stepped ++ zeros)))))) (pointer_filled.1.0 ∙ sym nb) in
      rw (old_is, in_stretches n distance old (replicate 4 0) blank written zeros, whole)
      (four_fills l size at front (replicate 4 0) place_filled.0 (little 4 old) (little 4 new) count blank pointer_filled.0 written stepped zeros
      (reloc (at + 8) f.symbol 0 4 0 ∷ []) (lsda_reloc word (at + 17) table f.landings f.named) (sum_pair (at + 12) 4 f f.relaxed)
      (row_relocs word ops (others f.rows) f.relaxed) (at + 8) (at + 17) (at + 12) ops
      (place_filled.1.0 ∙ sym n4) (little-length 4 new ∙ sym (little-length 4 old)) (pointer_filled.1.0 ∙ sym nb)
      (omega arith) (omega (arith, little-length 4 old)) (omega arith) (omega (arith, eh))
      place_filled.1.1 pointer_filled.1.1 (size_fills l size (at + 12) f f.relaxed) (rows_fill l size word ops (others f.rows) lines f.relaxed ok.apart))
