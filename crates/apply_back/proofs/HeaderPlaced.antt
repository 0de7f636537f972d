-- A header put in place: the personality's pointer with its new contents, which the reader passes over.
use mathlib.Core.Path.{◌≡◌, refl, sym, ap, ◌∙◌}
use mathlib.Core.Bool.{Bool, true, false}
use mathlib.Core.Option.{some}
use mathlib.Core.List.{List, [], ◌∷◌, ◌++◌, append_assoc}
use Prim.Native.Nat.{ℕ, ◌+◌}
use native.Mathlib.Omega.{arith}
use lib.Dec.{T}
use lib.ListN.{length, replicate, length-append, length-replicate}
use Rattle.format.specs.Prelude.{pick, next, after}
use Rattle.format.specs.declared.Machine.{Machine}
use Rattle.format.specs.Constants.{pcrel_sdata4, indirect_pcrel_sdata4}
use Rattle.format.specs.Leb.{little, uleb, sleb}
use Rattle.format.specs.Rows.{same_offset, rows_bytes}
use Rattle.format.specs.Headers.{Kind, plain, personal, named, Key, padding, entry, size_of, pointer_size, pointer_bytes, augmentation, lsda_letter, augmentation_data, counted, header_data, header_id, data_factor, header_fields, header_bytes, pointer_place, kind_relocs, header_relocs}
use Rattle.format.specs.Reader.{second, read_byte, personality_in, lsda_in, letters_in, header_tail, require, parse_header}
use Rattle.format.proofs.Choice.{pick_yes}
use Rattle.format.proofs.LebBack.{little_back, little-length, uleb_back, sleb_back}
use Rattle.format.proofs.FieldsBack.{word_small, pointer_size_lem, many_back, counted_back, second_back}
use Rattle.format.proofs.EntryBack.{padded_behind}
use Rattle.format.proofs.HeaderBack.{KindOk, HeaderOk, letters_for, letters_back, pointer_in, lsda_back, signal_kept, factor_fits, same_self, id_small, header_back, header_second, header_short}
use Rattle.format.proofs.Parts.{header_body, header_entry_lem}
use Rattle.format.proofs.RowBack.{register_back}
use Rattle.apply.specs.Values.{Layout}
use Rattle.apply_back.proofs.Fills.{Fills, fills_none, fills_in}
use Rattle.apply_back.proofs.Blanks.{Blank, blank_in, kind_blank}

-- ---- what stands in front of the augmentation data

unfoldable header_front : Machine → Key → List ℕ
header_front m k =
    little 4 (header_id false) ++ (1 ∷ (augmentation false k ++ (uleb 1 ++ (sleb (data_factor m.word) ++ uleb m.ret))))

front_is : (m : Machine) (k : Key) → header_fields false m k ≡ header_front m k ++ counted (augmentation_data m.word k.kind)
unfolding header_fields header_front header_data pick
front_is m k = simp append_assoc

front_read : (m : Machine) (k : Key) (rest : List ℕ) → HeaderOk false m k
    → parse_header false m.word (header_front m k ++ rest) ≡ header_tail false (letters_for false k.kind k.signal) m.word rest
unfolding parse_header header_front require read_byte pick next
front_read m k rest ok =
    let t : T (same_offset (data_factor m.word) (data_factor m.word)) = same_self (data_factor m.word) in
    simp append_assoc
    (rw (
      little_back 4 (header_id false) _ (id_small false),
      letters_back false k,
      uleb_back 1 _ (omega arith),
      sleb_back (data_factor m.word) _ (factor_fits m.word ok.is_word),
      pick_yes (same_offset (data_factor m.word) (data_factor m.word)),
      register_back m.ret _ ok.ret_small,
    ))

-- ---- the augmentation data with any pointer to a personality

unfoldable data_with : Kind → (pointer : List ℕ) → List ℕ
data_with plain c = pcrel_sdata4 ∷ []
data_with personal c = indirect_pcrel_sdata4 ∷ (c ++ (pcrel_sdata4 ∷ pcrel_sdata4 ∷ []))
data_with (named e s l) c = e ∷ (c ++ (lsda_letter l ++ (pcrel_sdata4 ∷ [])))

data_read : (word : ℕ) (k : Kind) (c : List ℕ) (signal : Bool) → length c ≡ blank_in word k → KindOk word k
    → letters_in (letters_for false k signal) word (data_with k c) ≡ some (pointer_in false word k)
unfolding letters_in letters_for data_with blank_in personality_in lsda_in pointer_size size_of pointer_in read_byte pick next after
data_read word plain c signal n ok = refl
data_read word personal c signal n ok = rw (many_back 4 c (pcrel_sdata4 ∷ pcrel_sdata4 ∷ []) n)
data_read word (named e s l) c signal n ok =
    rw (
      pointer_size_lem true word e ok.0,
      many_back (pointer_bytes word e) c (lsda_letter l ++ (pcrel_sdata4 ∷ [])) n,
      lsda_back word e s l (pcrel_sdata4 ∷ []) ok.1,
    )

data_length : (word : ℕ) (k : Kind) (c : List ℕ) → length c ≡ blank_in word k → length (data_with k c) ≡ length (augmentation_data word k)
unfolding data_with augmentation_data blank_in
data_length word plain c n = refl
data_length word personal c n = simp length-append (omega (arith, n))
data_length word (named e s l) c n =
    let z : length {A = ℕ} (replicate (pointer_bytes word e) 0) ≡ pointer_bytes word e = length-replicate {A = ℕ} (pointer_bytes word e) 0 in
    simp length-append (omega (arith, n, z))

data_fills : (l : Layout) (size word start : ℕ) (k : Kind) (c : List ℕ) → Fills l size (kind_relocs word (start + 1) k) (start + 1) (replicate (blank_in word k) 0) c
    → Fills l size (kind_relocs word (start + 1) k) start (augmentation_data word k) (data_with k c)
unfolding data_with augmentation_data blank_in kind_relocs
data_fills l size word start plain c f = fills_none l size start (pcrel_sdata4 ∷ [])
data_fills l size word start personal c f =
    fills_in l size (kind_relocs word (start + 1) personal) start (start + 1) (indirect_pcrel_sdata4 ∷ []) (pcrel_sdata4 ∷ pcrel_sdata4 ∷ []) (replicate 4 0) c refl f
data_fills l size word start (named e s d) c f =
    fills_in l size (kind_relocs word (start + 1) (named e s d)) start (start + 1) (e ∷ []) (lsda_letter d ++ (pcrel_sdata4 ∷ [])) (replicate (pointer_bytes word e) 0) c refl f

-- ---- a header

module _ (l : Layout) (size : ℕ) (m : Machine) (align at : ℕ) (k : Key) (ok : HeaderOk false m k) where
  abbrev word : ℕ
  word = m.word

  abbrev data₀ : List ℕ
  data₀ = augmentation_data word k.kind

  -- the length, and what stands in front of the augmentation data
  abbrev start : ℕ
  start = at + 4 + length (header_front m k) + length (uleb (length data₀))

  pointer_filled : Blank l size (kind_relocs word (start + 1) k.kind) (start + 1) (blank_in word k.kind)
  pointer_filled = kind_blank l size word (start + 1) k.kind (word_small word ok.is_word).0 (ok.kind_ok tt)

  abbrev data₁ : List ℕ
  data₁ = data_with k.kind pointer_filled.0

  abbrev operations : List ℕ
  operations = rows_bytes word k.rows ++ replicate (padding align (at + 4 + length (header_fields false m k ++ rows_bytes word k.rows))) 0

  -- what stands behind a header's length, put in place
  pub placed_header : List ℕ
  placed_header = (header_front m k ++ counted data₁) ++ operations

  fields_length : length (header_fields false m k) ≡ length (header_front m k) + length (uleb (length data₀)) + length data₀
  unfolding counted
  fields_length = rw (front_is m k) (simp length-append (omega arith))

  same_data : length data₁ ≡ length data₀
  same_data = data_length word k.kind pointer_filled.0 pointer_filled.1.0

  body_is : header_body false m align at k ≡ (header_front m k ++ counted data₀) ++ operations
  unfolding header_body
  body_is = padded_behind align at (header_fields false m k) (rows_bytes word k.rows) ∙ ap (λ (bs : List ℕ). bs ++ operations) (front_is m k)

  pub same_length : length placed_header ≡ length (header_body false m align at k)
  unfolding counted placed_header
  same_length =
      let c : length (uleb (length data₁)) ≡ length (uleb (length data₀)) = ap (λ (n : ℕ). length (uleb n)) same_data in
      rw body_is (simp length-append (omega (arith, c, same_data)))

  pub same_second : second placed_header ≡ second (header_body false m align at k)
  unfolding placed_header header_front header_body
  same_second =
      rw (padded_behind, header_second false m k)
      (rw (append_assoc, append_assoc) (second_back (header_id false) _ (id_small false)))

  -- the reader passes over the pointer
  pub same_fields : parse_header false word placed_header ≡ parse_header false word (header_body false m align at k)
  unfolding placed_header header_tail after next
  same_fields =
      let short = header_short false m k ok in
      let whole : (header_front m k ++ counted data₁) ++ operations ≡ header_front m k ++ (counted data₁ ++ operations) = append_assoc (header_front m k) (counted data₁) operations in
      let old : header_body false m align at k ≡ header_fields false m k ++ operations = body_is ∙ ap (λ (bs : List ℕ). bs ++ operations) (sym (front_is m k)) in
      rw (old, header_back false m k operations ok, whole, front_read m k (counted data₁ ++ operations) ok)
      (rw (
        counted_back data₁ operations (omega (arith, same_data, fields_length, short)),
        data_read word k.kind pointer_filled.0 k.signal pointer_filled.1.0 (ok.kind_ok tt),
        signal_kept k.kind k.signal,
      ))

  abbrev length₀ : List ℕ
  length₀ = little 4 (length (header_body false m align at k))

  abbrev front : List ℕ
  front = length₀ ++ (header_front m k ++ uleb (length data₀))

  in_stretches : (count bs : List ℕ) → length₀ ++ ((header_front m k ++ (count ++ bs)) ++ operations) ≡ (length₀ ++ (header_front m k ++ count)) ++ (bs ++ operations)
  in_stretches count bs = simp append_assoc

  old_is : header_bytes false m align at k ≡ front ++ (data₀ ++ operations)
  unfolding entry counted
  old_is = header_entry_lem false m align at k ∙ ap (λ (bs : List ℕ). length₀ ++ bs) body_is ∙ in_stretches (uleb (length data₀)) data₀

  new_is : entry placed_header ≡ front ++ (data₁ ++ operations)
  unfolding entry placed_header counted
  new_is =
      ap (λ (n : ℕ). little 4 n ++ placed_header) same_length ∙ in_stretches (uleb (length data₁)) data₁
      ∙ ap (λ (n : ℕ). (length₀ ++ (header_front m k ++ uleb n)) ++ (data₁ ++ operations)) same_data

  there : pointer_place m at k ≡ start + 1
  unfolding pointer_place
  there = omega (arith, fields_length)

  pub header_fills : Fills l size (header_relocs false m at k) at (header_bytes false m align at k) (entry placed_header)
  unfolding header_relocs pick
  header_fills =
      let nf : length front ≡ 4 + (length (header_front m k) + length (uleb (length data₀))) = simp (length-append, little-length) (omega arith) in
      rw (there, old_is, new_is)
      (fills_in l size (kind_relocs word (start + 1) k.kind) at start front operations data₀ data₁ (omega (arith, nf))
      (data_fills l size word start k.kind pointer_filled.0 pointer_filled.1.1))
