-- The fields of a header, there and back: the six strings of eh_frame and the two of debug_frame.
use mathlib.Core.Path.{◌≡◌, refl}
use Prim.Native.Nat.{ℕ, zero, suc, ◌^◌, ◌≤◌, ◌<◌}
use native.Mathlib.Omega.{arith}
use mathlib.Core.Bool.{Bool, true, false, not}
use mathlib.Core.Option.{Option, none, some}
use mathlib.Core.List.{List, [], ◌∷◌, ◌++◌, append_assoc}
use lib.ListN.{length, replicate, length-append, length-replicate}
use lib.Dec.{T, eqb_refl, lt→ltb}
use lib.IntN.{ℤ, pos, negsuc}
use mir.Facts.{and_yes, yes_eqb}
use Rattle.format.specs.Prelude.{pick, next, after}
use Rattle.format.specs.Leb.{sleb, fits64}
use Rattle.format.specs.declared.Machine.{Machine}
use Rattle.format.specs.Machine.{is_word_size}
use Rattle.format.specs.Rows.{same_offset}
use Rattle.format.specs.Lists.{Landing, Named, Pointer}
use Rattle.format.specs.Headers.{Kind, plain, personal, named, Key, encoding_of, named_kind, kind_for, size_of, pointer_size, pointer_bytes, letters, augmentation, lsda_letter, augmentation_data, header_data, header_id, data_factor, header_fields}
use Rattle.format.specs.Reader.{second, is_header, strip, Letters, spelled, spellings, spell_or, read_letters, read_byte, read_many, personality_in, lsda_in, letters_in, header_tail, require, parse_header}
use Rattle.format.specs.Questions.{is_some, lsda_ok, named_ok, encodings_ok}
use Rattle.format.proofs.Choice.{pick_yes}
use Rattle.format.proofs.LebBack.{little_back, little-length, uleb_back, sleb_back, uleb_short, sleb_short_neg}
use Rattle.format.proofs.FieldsBack.{word_small, pointer_size_lem, pointer_small, many_back, counted_back, counted_short, second_back}
use Rattle.format.proofs.RowBack.{register_back}

-- ---- what a header needs

-- question 22 of a kind: the encodings that it names are accepted
abbrev pub LsdaOk : ℕ → Option ℕ → Type 0
LsdaOk word none = Unit {0}
LsdaOk word (some l) = T (is_some (pointer_size false word l))

abbrev pub KindOk : ℕ → Kind → Type 0
KindOk word plain = Unit {0}
KindOk word personal = Unit {0}
KindOk word (named e s l) = T (is_some (pointer_size true word e)) × LsdaOk word l

pub record HeaderOk (debug : Bool) (m : Machine) (k : Key) : Type 0 where
  pub is_word : T (is_word_size m.word)
  pub ret_small : m.ret < 65536
  pub kind_ok : T (not debug) → KindOk m.word k.kind

lsda_accepted : (word : ℕ) (p : Option Pointer) → T (lsda_ok word p) → LsdaOk word (encoding_of p)
unfolding lsda_ok encoding_of
lsda_accepted word none t = tt
lsda_accepted word (some p) t = t

-- question 22 answered by yes
pub kind_accepted : (word : ℕ) (ls : List Landing) (n : Option Named) → T (encodings_ok word ls n) → KindOk word (kind_for ls n)
unfolding encodings_ok named_ok kind_for named_kind
kind_accepted word (l ∷ ls) n t = tt
kind_accepted word [] none t = tt
kind_accepted word [] (some n) t =
    let h = and_yes (is_some (pointer_size true word n.personality.encoding)) (lsda_ok word n.lsda) t in
    (h.0, lsda_accepted word n.lsda h.1)

-- ---- the string

-- the letters of a header
unfoldable pub letters_for : (debug : Bool) → Kind → (signal : Bool) → Letters
letters_for true kind s = record { personality = false; lsda = false; signal = s }
letters_for false plain s = record { personality = false; lsda = false; signal = s }
letters_for false personal s = record { personality = true; lsda = true; signal = s }
letters_for false (named e y l) s = record { personality = true; lsda = is_some l; signal = s }

spelling_back : (debug : Bool) (kind : Kind) (signal : Bool) (bs : List ℕ)
    → read_letters (spellings debug) ((pick debug [] (letters kind) ++ pick signal (0x53 ∷ 0 ∷ []) (0 ∷ [])) ++ bs) ≡ some (letters_for debug kind signal, bs)
unfolding pick letters is_some letters_for read_letters spellings spelled spell_or strip
spelling_back true kind false bs = refl
spelling_back true kind true bs = refl
spelling_back false plain false bs = refl
spelling_back false plain true bs = refl
spelling_back false personal false bs = refl
spelling_back false personal true bs = refl
spelling_back false (named e y none) false bs = refl
spelling_back false (named e y none) true bs = refl
spelling_back false (named e y (some l)) false bs = refl
spelling_back false (named e y (some l)) true bs = refl

pub letters_back : (debug : Bool) (k : Key) (bs : List ℕ)
    → read_letters (spellings debug) (augmentation debug k ++ bs) ≡ some (letters_for debug k.kind k.signal, bs)
unfolding augmentation
letters_back debug k bs = spelling_back debug k.kind k.signal bs

-- ---- the augmentation data

-- the bytes of a pointer to call sites in the records of a header
unfoldable pub pointer_in : (debug : Bool) → (word : ℕ) → Kind → ℕ
pointer_in true word kind = 0
pointer_in false word plain = 0
pointer_in false word personal = 4
pointer_in false word (named e s none) = 0
pointer_in false word (named e s (some l)) = pointer_bytes word l

personality_back : (word e : ℕ) (rest : List ℕ) → T (is_some (pointer_size true word e))
    → personality_in true word (e ∷ (replicate (pointer_bytes word e) 0 ++ rest)) ≡ some rest
unfolding personality_in read_byte next after
personality_back word e rest ok =
    rw (
      pointer_size_lem true word e ok,
      many_back (pointer_bytes word e) (replicate (pointer_bytes word e) 0) rest (length-replicate {A = ℕ} (pointer_bytes word e) 0),
    )

pub lsda_back : (word e s : ℕ) (l : Option ℕ) (rest : List ℕ) → LsdaOk word l
    → lsda_in (is_some l) word (lsda_letter l ++ rest) ≡ some (pointer_in false word (named e s l), rest)
unfolding is_some lsda_in lsda_letter pointer_in next after read_byte
lsda_back word e s none rest ok = refl
lsda_back word e s (some l) rest ok = rw (pointer_size_lem false word l ok)

data_back : (word : ℕ) (kind : Kind) (signal : Bool) → KindOk word kind
    → letters_in (letters_for false kind signal) word (augmentation_data word kind) ≡ some (pointer_in false word kind)
unfolding letters_in letters_for augmentation_data personality_in lsda_in pointer_size size_of pointer_in read_byte read_many pick next after
data_back word plain signal ok = refl
data_back word personal signal ok = refl
data_back word (named e s l) signal ok = rw (personality_back word e (lsda_letter l ++ (0x1b ∷ [])) ok.0, lsda_back word e s l (0x1b ∷ []) ok.1)

pub signal_kept : (kind : Kind) (signal : Bool) → (letters_for false kind signal).signal ≡ signal
unfolding letters_for
signal_kept plain signal = refl
signal_kept personal signal = refl
signal_kept (named e s l) signal = refl

lsda_short : (l : Option ℕ) → length (lsda_letter l) ≤ 1
unfolding lsda_letter
lsda_short none = omega arith
lsda_short (some l) = omega arith

pub data_short : (word : ℕ) (kind : Kind) → word ≤ 8 → length (augmentation_data word kind) ≤ 11
unfolding augmentation_data
data_short word plain h = omega arith
data_short word personal h = omega arith
data_short word (named e s l) h =
    simp (length-append, length-replicate {A = ℕ} (pointer_bytes word e) 0) (omega (arith, pointer_small word e h, lsda_short l))

tail_back : (debug : Bool) (word : ℕ) (kind : Kind) (signal : Bool) (ops : List ℕ) → word ≤ 8 → (T (not debug) → KindOk word kind)
    → header_tail debug (letters_for debug kind signal) word (header_data debug word kind ++ ops)
    ≡ some (record { pointer = pointer_in debug word kind; signal = signal; operations = ops })
unfolding header_tail header_data letters_for pointer_in pick next after
tail_back true word kind signal ops h ok = refl
tail_back false word kind signal ops h ok =
    rw (
      counted_back (augmentation_data word kind) ops (omega (arith, data_short word kind h)),
      data_back word kind signal (ok tt),
      signal_kept kind signal,
    )

-- ---- the data alignment factor

pub factor_fits : (word : ℕ) → T (is_word_size word) → T (fits64 (data_factor word))
unfolding data_factor fits64
factor_fits zero t = lt→ltb 0 (2 ^ 63) (omega arith)
factor_fits (suc n) t = let h = word_small (suc n) t in lt→ltb n (2 ^ 63) (omega arith)

pub same_self : (z : ℤ) → T (same_offset z z)
unfolding same_offset
same_self (pos n) = eqb_refl n
same_self (negsuc n) = eqb_refl n

-- ---- the whole

pub id_small : (debug : Bool) → header_id debug < 2 ^ 32
unfolding header_id pick
id_small false = omega arith
id_small true = omega arith

pub header_back : (debug : Bool) (m : Machine) (k : Key) (ops : List ℕ) → HeaderOk debug m k
    → parse_header debug m.word (header_fields debug m k ++ ops)
    ≡ some (record { pointer = pointer_in debug m.word k.kind; signal = k.signal; operations = ops })
unfolding parse_header header_fields require read_byte pick next
header_back debug m k ops ok =
    let w : (0 < m.word) × (m.word ≤ 8) = word_small m.word ok.is_word in
    let t : T (same_offset (data_factor m.word) (data_factor m.word)) = same_self (data_factor m.word) in
    simp append_assoc
    (rw (
      little_back 4 (header_id debug) _ (id_small debug),
      letters_back debug k,
      uleb_back 1 _ (omega arith),
      sleb_back (data_factor m.word) _ (factor_fits m.word ok.is_word),
      pick_yes (same_offset (data_factor m.word) (data_factor m.word)),
      register_back m.ret _ ok.ret_small,
    )
    (tail_back debug m.word k.kind k.signal ops w.1 ok.kind_ok))

-- whatever follows the fields
pub header_second : (debug : Bool) (m : Machine) (k : Key) (bs : List ℕ) → second (header_fields debug m k ++ bs) ≡ header_id debug
unfolding header_fields
header_second debug m k bs = rw append_assoc (second_back (header_id debug) _ (id_small debug))

pub header_is : (debug : Bool) (m : Machine) (k : Key) (at : ℕ) (bs : List ℕ) → T (is_header debug (record { at = at; body = header_fields debug m k ++ bs }))
unfolding is_header
header_is debug m k at bs = yes_eqb (header_second debug m k bs)

-- ---- how long a header's fields are

pub header_long : (debug : Bool) (m : Machine) (k : Key) (bs : List ℕ) → 4 ≤ length (header_fields debug m k ++ bs)
unfolding header_fields
header_long debug m k bs = simp (length-append, little-length) (omega arith)

letters_short : (debug : Bool) (kind : Kind) → length (pick debug [] (letters kind)) ≤ 4
unfolding pick letters
letters_short true kind = omega arith
letters_short false plain = omega arith
letters_short false personal = omega arith
letters_short false (named e s none) = omega arith
letters_short false (named e s (some l)) = omega arith

signal_short : (signal : Bool) → length {A = ℕ} (pick signal (0x53 ∷ 0 ∷ []) (0 ∷ [])) ≤ 2
unfolding pick
signal_short false = omega arith
signal_short true = omega arith

augmentation_short : (debug : Bool) (k : Key) → length (augmentation debug k) ≤ 6
unfolding augmentation
augmentation_short debug k = rw length-append (omega (arith, letters_short debug k.kind, signal_short k.signal))

factor_short : (word : ℕ) → T (is_word_size word) → length (sleb (data_factor word)) ≤ 1
unfolding data_factor is_word_size
factor_short zero t = absurd t
factor_short (suc n) t = let h = word_small (suc n) t in sleb_short_neg 0 n (omega arith)

header_data_short : (debug : Bool) (word : ℕ) (kind : Kind) → word ≤ 8 → length (header_data debug word kind) ≤ 12
unfolding header_data pick
header_data_short true word kind h = omega arith
header_data_short false word kind h =
    let l : length (augmentation_data word kind) ≤ 11 = data_short word kind h in
    omega (arith, counted_short (augmentation_data word kind) (omega arith))

pub header_short : (debug : Bool) (m : Machine) (k : Key) → HeaderOk debug m k → length (header_fields debug m k) ≤ 28
unfolding header_fields
header_short debug m k ok =
    let w : (0 < m.word) × (m.word ≤ 8) = word_small m.word ok.is_word in
    simp (length-append, little-length)
    (omega (
      arith,
      augmentation_short debug k,
      uleb_short 0 1 (omega arith),
      factor_short m.word ok.is_word,
      uleb_short 2 m.ret (omega arith),
      header_data_short debug m.word k.kind w.1,
    ))
