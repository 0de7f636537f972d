-- The fields that a function's relocations fill lie inside the bytes that it adds.
use mathlib.Core.Path.{◌≡◌, refl}
use Prim.Native.Nat.{ℕ, zero, suc, ◌+◌, ◌-◌, ◌%◌, ◌≤◌, ◌<◌}
use native.Mathlib.Omega.{arith}
use mathlib.Core.Bool.{Bool, true, false, not, ◌||◌}
use mathlib.Core.Logic.{◌≢◌, ⊎_elim}
use mathlib.Core.Option.{Option, none, some}
use mathlib.Core.List.{List, [], ◌∷◌, ◌++◌}
use lib.Dec.{T, ltb, eqb}
use mir.Facts.{and_yes, or_yes, eqb_yes}
use lib.ListN.{length, replicate, length-append, length-replicate}
use Rattle.format.specs.Prelude.{pick}
use Rattle.format.specs.declared.Machine.{Machine}
use Rattle.format.specs.declared.Row.{Row}
use Rattle.format.specs.declared.Operation.TheVariants.{Does}
use Rattle.format.specs.Rows.{RowAt, row_bytes, step_in, step_form, step_bytes, stepped_bytes, rows_bytes}
use Rattle.format.specs.Lists.{Function, Relocation, Pair, Relaxed, Landing, Named, Pointer}
use Rattle.format.specs.Machine.{is_word_size}
use Rattle.format.specs.Constants.{debug_frame}
use Rattle.format.specs.Headers.{Kind, plain, personal, named, Key, key_of, others, size_of, pointer_size, size_or0, pointer_bytes, reloc, pointer_reloc, lsda_letter, augmentation_data, header_data, header_fields, header_bytes, pointer_place, kind_relocs, header_relocs, padded, entry, counted}
use Rattle.format.specs.CallSites.{site_pad}
use Rattle.format.specs.declared.Section.{Section}
use Rattle.format.specs.Writer.{is_debug}
use Rattle.format.specs.Questions.{is_some, lsda_ok, named_ok, encodings_ok}
use Rattle.format.specs.Records.{pointer_blank, named_blank, lsda_blank, pointer_to, named_reloc, lsda_reloc, record_fields, record_bytes, record_relocs, sum_pair, pair_for, set_bytes, set_place, set_pair, step_relocs, row_relocs}
use Rattle.format.proofs.Choice.{if-le, if-gt, if-ne, either}
use Rattle.format.proofs.Each.{Each, each_join, each_then}
use Rattle.format.proofs.LebBack.{little-length}
use Rattle.format.proofs.LebSteps.{uleb_last}
use Rattle.format.proofs.RowBack.{RowFits, row_back}
use Rattle.format.proofs.WalkBack.{RowsAtOk, reads_long}
use Rattle.format.proofs.FieldsBack.{word_small}
use Rattle.format.proofs.HeaderBack.{KindOk}
use Rattle.format.proofs.RecordBack.{blank_small}
use Rattle.format.proofs.Fits.{MachineFits, FunctionFits}
use Rattle.format.proofs.Parts.{Spot, cie_of, front_for, relocs_for, front_of, place_of, part_bytes, part_relocs}
use Rattle.format.proofs.SectionSize.{header_ok}
use Rattle.format.proofs.Leading.{others_ok}
use Rattle.format.proofs.EntryBack.{entry_length, padded_length}

pub record Inside (start end : ℕ) (r : Relocation) : Type 0 where
  pub not_before : start ≤ r.place
  pub some_bytes : 0 < r.bytes
  pub not_past : r.place + r.bytes ≤ end

inside : (start end place bytes : ℕ) {symbol kind addend : ℕ} → start ≤ place → 0 < bytes → place + bytes ≤ end
    → Inside start end (reloc place symbol kind bytes addend)
inside start end place bytes h l k = record { not_before = h; some_bytes = l; not_past = k }

pub wider : (start start' end end' : ℕ) (rs : List Relocation) → start' ≤ start → end ≤ end' → Each (Inside start end) rs → Each (Inside start' end') rs
wider start start' end end' rs h k =
    each_then (Inside start end) (Inside start' end') rs λ r i. record { not_before = omega arith; some_bytes = i.some_bytes; not_past = omega arith }

-- ---- steps

-- a step in a form of its own has its operand behind the opcode
pub set_ends : (place d : ℕ) → 0x3f < d → set_place place (step_form d) + set_bytes (step_form d) ≡ place + length (step_bytes d)
unfolding step_form step_bytes set_place set_bytes step_in
set_ends place d g =
    let n : d ≢ 0 = λ e. omega arith in
    rw (if-ne d 0, if-gt d 0x3f)
    (either d 0xff (λ h. rw (if-le d 0xff) (omega (arith, little-length 1 d)))
    (λ g₁.
    rw (if-gt d 0xff)
    (either d 0xffff (λ h. rw (if-le d 0xffff) (omega (arith, little-length 2 d))) (λ g₂. rw (if-gt d 0xffff) (omega (arith, little-length 4 d))))))

pub short_form : (d : ℕ) → d ≤ 0x3f → step_form d ≡ 0
unfolding step_form
short_form d h = rw (if-le d 0x3f)

-- one that rides in its opcode, or is not written, is followed by a row, which has a byte
set_ahead : (w place d : ℕ) (r : Row) → RowFits w r
    → set_place place (step_form d) + set_bytes (step_form d) ≤ place + length (step_bytes d) + length (row_bytes w r)
unfolding set_place set_bytes
set_ahead w place d r ok =
    let l : 1 ≤ length (row_bytes w r) = reads_long w (row_bytes w r) (Does r) (λ rest. row_back w r rest ok) in
    either d 0x3f (λ h. rw (short_form d h) (omega arith)) (λ g. omega (arith, set_ends place d g))

set_place_lem : (place form : ℕ) → (place ≤ set_place place form) × (0 < set_bytes form)
unfolding set_place set_bytes
set_place_lem place zero = (omega arith, omega arith)
set_place_lem place (suc k) = (omega arith, omega arith)

set_pair_lem : (place form : ℕ) (p : Option Pair) (end : ℕ) → set_place place form + set_bytes form ≤ end → Each (Inside place end) (set_pair place form p)
unfolding set_pair
set_pair_lem place form none end h = tt
set_pair_lem place form (some p) end h =
    let l = set_place_lem place form in
    (inside _ _ _ _ l.0 l.1 h, (inside _ _ _ _ l.0 l.1 h, tt))

steps_inside : (w place at : ℕ) (ps : List Pair) (xs : List RowAt) → RowsAtOk w at xs
    → Each (Inside place (place + length (stepped_bytes w at xs))) (step_relocs w place at ps xs)
unfolding step_relocs stepped_bytes
steps_inside w place at ps [] ok = tt
steps_inside w place at ps (x ∷ xs) ok =
    let d : ℕ = x.0 - at in
    let later : ℕ = place + length (step_bytes d) + length (row_bytes w x.1) in
    let end : ℕ = place + length (step_bytes d ++ (row_bytes w x.1 ++ stepped_bytes w x.0 xs)) in
    let l : end ≡ later + length (stepped_bytes w x.0 xs) = simp length-append (omega arith) in
    let rs : List Relocation = step_relocs w later x.0 ps xs in
    each_join (Inside place end) (set_pair place (step_form d) (pair_for at x.0 ps)) rs
    (set_pair_lem place (step_form d) (pair_for at x.0 ps) end (omega (arith, set_ahead w place d x.1 ok.2)))
    (wider later place (later + length (stepped_bytes w x.0 xs)) end rs (omega arith) (omega arith) (steps_inside w later x.0 ps xs ok.3))

rows_inside : (w place : ℕ) (xs : List RowAt) (r : Option Relaxed) → RowsAtOk w 0 xs
    → Each (Inside place (place + length (stepped_bytes w 0 xs))) (row_relocs w place xs r)
unfolding row_relocs
rows_inside w place xs none ok = tt
rows_inside w place xs (some r) ok = steps_inside w place 0 r.pairs xs ok

-- ---- a record's fields

sum_pair_lem : (start end place bytes : ℕ) (f : Function) (r : Option Relaxed) → start ≤ place → 0 < bytes → place + bytes ≤ end
    → Each (Inside start end) (sum_pair place bytes f r)
unfolding sum_pair
sum_pair_lem start end place bytes f none h l k = tt
sum_pair_lem start end place bytes f (some r) h l k = (inside _ _ _ _ h l k, (inside _ _ _ _ h l k, tt))

-- ---- pointers

accepted : (test : Bool) (o : Option ℕ) → T (is_some (pick test o none)) → T (is_some o)
unfolding pick is_some
accepted true o t = t
accepted false o t = absurd t

-- an accepted encoding has some bytes, and 4 where it is relative
abbrev Known : ℕ → Option ℕ → Type 0
Known e o = T (is_some o) → (0 < size_or0 o) × (16 ≤ e → size_or0 o ≡ 4)

known_pick : (e : ℕ) (test : Bool) (a b : Option ℕ) → (T test → Known e a) → Known e b → Known e (pick test a b)
unfolding pick
known_pick e true a b h k = h tt
known_pick e false a b h k = k

size_known : (word e : ℕ) → 0 < word → Known e (size_of word e)
unfolding size_of size_or0 is_some
size_known word e h =
    known_pick e (eqb e 0) (some word) _ (λ a t. (h, λ l. let z : e ≡ 0 = eqb_yes a in absurd (omega arith)))
    (known_pick e _ (some 4) _ (λ a t. (omega arith, λ l. refl))
    (known_pick e (eqb e 0x04 || eqb e 0x0c) (some 8) none
    (λ a t. (
      omega arith,
      λ l. absurd
          (⊎_elim (λ b. let z : e ≡ 4 = eqb_yes b in omega arith) (λ b. let z : e ≡ 12 = eqb_yes b in omega arith) (or_yes (eqb e 0x04) (eqb e 0x0c) a)),
    ))
    λ t. absurd t))

pub pointer_inside : (indirect : Bool) (word place symbol e : ℕ) → 0 < word → T (is_some (pointer_size indirect word e))
    → Inside place (place + pointer_bytes word e) (pointer_reloc word place symbol e)
unfolding pointer_size pointer_bytes pointer_reloc
pointer_inside indirect word place symbol e h t =
    let k = size_known word (e % 128) h (accepted (ltb e 128 || indirect) (size_of word (e % 128)) t) in
    either 16 (e % 128) (λ l. rw (if-le 16 (e % 128)) (inside _ _ _ _ (omega arith) (omega arith) (omega (arith, k.1 l))))
    (λ g. rw (if-gt 16 (e % 128)) (inside _ _ _ _ (omega arith) k.0 (omega arith)))

pointer_to_lem : (word place : ℕ) (p : Option Pointer) → 0 < word → T (lsda_ok word p) → Each (Inside place (place + pointer_blank word p)) (pointer_to word place p)
unfolding pointer_to pointer_blank lsda_ok
pointer_to_lem word place none h t = tt
pointer_to_lem word place (some p) h t = (pointer_inside false word place p.symbol p.encoding h t, tt)

lsda_inside : (word place table : ℕ) (ls : List Landing) (n : Option Named) → 0 < word → T (encodings_ok word ls n)
    → Each (Inside place (place + lsda_blank word ls n)) (lsda_reloc word place table ls n)
unfolding lsda_reloc lsda_blank named_reloc named_blank encodings_ok named_ok
lsda_inside word place table (l ∷ ls) n h t = (inside _ _ _ _ (omega arith) (omega arith) (omega arith), tt)
lsda_inside word place table [] none h t = tt
lsda_inside word place table [] (some n) h t =
    pointer_to_lem word place n.lsda h (and_yes (is_some (pointer_size true word n.personality.encoding)) (lsda_ok word n.lsda) t).1

-- ---- a record

debug_length : (word distance : ℕ) (f : Function) → length (record_fields true word distance f) ≡ 4 + word + word
unfolding record_fields
debug_length word distance f = simp (length-append, little-length, length-replicate {A = ℕ} word 0) (omega arith)

pub eh_length : (word distance : ℕ) (f : Function) → word ≤ 8 → length (record_fields false word distance f) ≡ 13 + lsda_blank word f.landings f.named
unfolding record_fields counted
eh_length word distance f h =
    let n : ℕ = lsda_blank word f.landings f.named in
    let e : length {A = ℕ} (replicate n 0) ≡ n = length-replicate n 0 in
    simp (length-append, little-length) (rw (e, uleb_last n (omega (arith, blank_small word f.landings f.named h))) (omega (arith, e)))

module _ (m : Machine) (word_ok : T (is_word_size m.word)) where
  abbrev word : ℕ
  word = m.word

  -- those in front of the rows
  abbrev field_relocs : (debug : Bool) → (at cie table : ℕ) → Function → List Relocation
  field_relocs debug at cie table f =
      pick debug
      (reloc (at + 4) debug_frame 1 4 cie ∷ reloc (at + 8) f.symbol 1 word 0 ∷ sum_pair (at + 8 + word) word f f.relaxed)
      (reloc (at + 8) f.symbol 0 4 0 ∷ (lsda_reloc word (at + 17) table f.landings f.named ++ sum_pair (at + 12) 4 f f.relaxed))

  fields_inside : (debug : Bool) (at cie table : ℕ) (f : Function) → T (encodings_ok word f.landings f.named)
      → Each (Inside at (at + 4 + length (record_fields debug word (at + 4 - cie) f))) (field_relocs debug at cie table f)
  unfolding pick
  fields_inside true at cie table f ok =
      let w : (0 < word) × (word ≤ 8) = word_small word word_ok in
      let l = debug_length word (at + 4 - cie) f in
      let end : ℕ = at + 4 + length (record_fields true word (at + 4 - cie) f) in (
        inside _ _ _ _ (omega arith) (omega arith) (omega arith),
        (
          inside _ _ _ _ (omega arith) (omega arith) (omega arith),
          sum_pair_lem at end (at + 8 + word) word f f.relaxed (omega arith) (omega arith) (omega arith),
        ),
      )
  fields_inside false at cie table f ok =
      let w : (0 < word) × (word ≤ 8) = word_small word word_ok in
      let l = eh_length word (at + 4 - cie) f w.1 in
      let n : ℕ = lsda_blank word f.landings f.named in
      let end : ℕ = at + 4 + length (record_fields false word (at + 4 - cie) f) in
      let lsda : List Relocation = lsda_reloc word (at + 17) table f.landings f.named in (
        inside _ _ _ _ (omega arith) (omega arith) (omega arith),
        each_join (Inside at end) lsda (sum_pair (at + 12) 4 f f.relaxed)
            (wider (at + 17) at (at + 17 + n) end lsda (omega arith) (omega arith) (lsda_inside word (at + 17) table f.landings f.named w.0 ok))
            (sum_pair_lem at end (at + 12) 4 f f.relaxed (omega arith) (omega arith) (omega arith)),
      )

  pub record_inside : (debug : Bool) (align at cie table : ℕ) (f : Function) → T (encodings_ok word f.landings f.named) → RowsAtOk word 0 f.rows
      → Each (Inside at (at + length (record_bytes debug m align at cie f))) (record_relocs debug m at cie table f)
  unfolding record_relocs record_bytes
  record_inside debug align at cie table f ok lines =
      let fields : List ℕ = record_fields debug word (at + 4 - cie) f in
      let ops : ℕ = at + 4 + length fields in
      let bytes : List ℕ = stepped_bytes word 0 (others f.rows) in
      let end : ℕ = at + length (entry (padded align at (fields ++ bytes))) in
      let l : ops + length bytes ≤ end =
      omega (arith, entry_length (padded align at (fields ++ bytes)), padded_length align at (fields ++ bytes), length-append fields bytes) in
      let rs : List Relocation = row_relocs word ops (others f.rows) f.relaxed in
      let first : List Relocation = field_relocs debug at cie table f in
      each_join (Inside at end) first rs (wider at at ops end first (omega arith) (omega arith) (fields_inside debug at cie table f ok))
      (wider ops at (ops + length bytes) end rs (omega arith) (omega arith)
      (rows_inside word ops (others f.rows) f.relaxed (others_ok word f.rows lines)))

  -- ---- a header: the personality's pointer stands in its augmentation data, which are the end of its fields

  kind_inside : (start : ℕ) (k : Kind) → KindOk word k
      → Each (Inside start (start + length (augmentation_data word k))) (kind_relocs word (start + 1) k)
  unfolding kind_relocs augmentation_data
  kind_inside start plain ok = tt
  kind_inside start personal ok = (inside _ _ _ _ (omega arith) (omega arith) (omega arith), tt)
  kind_inside start (named e s l) ok =
      let w : (0 < word) × (word ≤ 8) = word_small word word_ok in
      let n : length {A = ℕ} (replicate (pointer_bytes word e) 0) ≡ pointer_bytes word e = length-replicate (pointer_bytes word e) 0 in
      wider (start + 1) start (start + 1 + pointer_bytes word e) _ (pointer_reloc word (start + 1) s e ∷ []) (omega arith)
      (omega (arith, length-append {A = ℕ} (replicate (pointer_bytes word e) 0) (lsda_letter l ++ (0x1b ∷ []))))
      (pointer_inside true word (start + 1) s e w.0 ok.0, tt)

  data_last : (k : Key) → length (augmentation_data word k.kind) ≤ length (header_fields false m k)
  unfolding header_fields header_data counted pick
  data_last k = simp length-append (omega arith)

  pub header_inside : (debug : Bool) (align at : ℕ) (k : Key) → (T (not debug) → KindOk word k.kind)
      → Each (Inside at (at + length (header_bytes debug m align at k))) (header_relocs debug m at k)
  unfolding header_relocs header_bytes pointer_place pick
  header_inside true align at k ok = tt
  header_inside false align at k ok =
      let fields : List ℕ = header_fields false m k in
      let rows : List ℕ = rows_bytes word k.rows in
      let n : ℕ = length (augmentation_data word k.kind) in
      let start : ℕ = at + 4 + length fields - n in
      let l = data_last k in
      wider start at (start + n) _ (kind_relocs word (start + 1) k.kind) (omega arith)
      (omega (arith, entry_length (padded align at (fields ++ rows)), padded_length align at (fields ++ rows), length-append fields rows))
      (kind_inside start k.kind (ok tt))

-- ---- what a function adds

module _ (s : Section) (m : Machine) (fit : MachineFits m) where
  front_inside : (o : Option ℕ) (align at : ℕ) (f : Function) → FunctionFits s m f
      → Each (Inside at (at + length (front_for s m o align at (key_of m f)))) (relocs_for s m o at (key_of m f))
  unfolding front_for relocs_for
  front_inside none align at f ok = header_inside m fit.is_word (is_debug s) align at (key_of m f) (header_ok s m fit f ok).kind_ok
  front_inside (some cie) align at f ok = tt

  pub relocations_inside : (x : Spot) (sites : ℕ) (f : Function) → FunctionFits s m f
      → Each (Inside x.start (x.start + length (part_bytes s m x f))) (part_relocs s m x sites f)
  unfolding part_bytes part_relocs place_of front_of
  relocations_inside x sites f ok =
      let front : List ℕ = front_for s m x.earlier x.align x.start (key_of m f) in
      let at : ℕ = x.start + length front in
      let bytes : List ℕ = record_bytes (is_debug s) m x.align at (cie_of x) f in
      let end : ℕ = x.start + length (front ++ bytes) in
      let l : end ≡ at + length bytes = rw length-append (omega arith) in
      let a : List Relocation = relocs_for s m x.earlier x.start (key_of m f) in
      let b : List Relocation = record_relocs (is_debug s) m at (cie_of x) (sites + site_pad sites) f in
      each_join (Inside x.start end) a b
      (wider x.start x.start at end a (omega arith) (omega arith) (front_inside x.earlier x.align x.start f ok))
      (wider at x.start (at + length bytes) end b (omega arith) (omega arith)
      (record_inside m fit.is_word (is_debug s) x.align at (cie_of x) (sites + site_pad sites) f ok.encodings ok.lines))
