-- The reader (document 01, "Rules and row check" and questions 11 and 61 to 69): from the bytes of any section to the rules at a place of a record.
use Rattle.std.specs.Prelude.{ℕ, zero, suc, ◌+◌, ◌-◌, Bool, true, false, ◌&&◌, List, [], ◌∷◌, length, take, drop, leb, ltb, eqb}
use Rattle.std.proofs.Math.Option.{Option, none, some}
use Rattle.std.proofs.Math.ListN.{get_elem?}
use Rattle.format.specs.Prelude.{pick, Read, next, after, Result, good, bad, onward, or_else, first}
use Rattle.format.specs.Leb.{read_little, read_uleb, read_sleb}
use Rattle.format.specs.Machine.{is_word_size}
use Rattle.format.specs.declared.Operation.{Operation}
use Rattle.format.specs.declared.Operation.TheVariants.{Nop, Step, Does}
use Rattle.format.specs.declared.Rule.{Rule}
use Rattle.format.specs.Coded.{Reading}
use Rattle.format.specs.Rows.{read_register, read_operation, same_offset}
use Rattle.format.specs.Lists.{Relocation, relocations_of}
use Rattle.format.specs.Constants.{pcrel_sdata4}
use Rattle.format.specs.Headers.{header_id, pointer_size, data_factor}
use Rattle.format.specs.Rules.{State, blank, act, answer}
use Rattle.format.specs.Shortest.{Number, unsigned, signed, numbers_short, run_short}

-- ---- entries (61): a 4-byte length, at least 4, and as many bytes

pub record Entry : Type 0 where
  pub at : ℕ
  pub body : List ℕ

unfoldable pub read_entry : List ℕ → Read (List ℕ)
read_entry bs = next (read_little 4 bs) λ n r. pick (leb 4 n && leb n (length r)) (some (take n r, drop n r)) none

-- the entries of what stands from `at` on, where their lengths tile it; each is longer than one byte, so the length is fuel enough
unfoldable pub entries_f : ℕ → ℕ → List ℕ → Option (List Entry)
entries_f zero at bs = none
entries_f (suc f) at [] = some []
entries_f (suc f) at (b ∷ bs) =
    next (read_entry (b ∷ bs)) λ body r.
    after (entries_f f (at + 4 + length body) r) λ es. some (record { at = at; body = body } ∷ es)

unfoldable pub entries : List ℕ → Option (List Entry)
entries bs = entries_f (suc (length bs)) 0 bs

-- an entry's second field, its first 4 bytes behind the length
unfoldable pub value_or0 : Read ℕ → ℕ
value_or0 none = 0
value_or0 (some x) = x.0

unfoldable pub second : List ℕ → ℕ
second body = value_or0 (read_little 4 body)

-- a header's second field is 0, in debug_frame 0xffffffff; any other entry is a record
unfoldable pub is_header : (debug : Bool) → Entry → Bool
is_header debug e = eqb (second e.body) (header_id debug)

unfoldable pub records : (debug : Bool) → List Entry → List Entry
records debug [] = []
records debug (e ∷ es) = pick (is_header debug e) (records debug es) (e ∷ records debug es)

-- ---- the header of a record (63)

-- eh: the distance before the record's second field
unfoldable pub distance_back : Entry → Option ℕ
distance_back e = pick (leb (second e.body) (e.at + 4)) (some (e.at + 4 - second e.body)) none

-- debug: the addend of the first relocation whose place is the record's second field
unfoldable pub first_addend : ℕ → List Relocation → Option ℕ
first_addend place rs = after (first (λ r. eqb r.place place) rs) λ r. some r.addend

unfoldable pub header_place : (debug : Bool) → List Relocation → Entry → Option ℕ
header_place true rs e = first_addend (e.at + 4) rs
header_place false rs e = distance_back e

-- where a header starts, earlier than the record
unfoldable pub header_at : (debug : Bool) → (place before : ℕ) → List Entry → Option Entry
header_at debug place before es = first (λ e. eqb e.at place && ltb place before && is_header debug e) es

-- ---- the fields (64)

-- the bytes xs, and then the rest
unfoldable pub strip : List ℕ → List ℕ → Option (List ℕ)
strip [] bs = some bs
strip (a ∷ xs) [] = none
strip (a ∷ xs) (b ∷ bs) = pick (eqb a b) (strip xs bs) none

-- what an augmentation string promises: a personality, a pointer to call sites, a signal frame
pub record Letters : Type 0 where
  pub personality : Bool
  pub lsda : Bool
  pub signal : Bool

-- a string of the source's, by its letters, with its final 0
pub record Spelling : Type 0 where
  pub text : List ℕ
  pub letters : Letters

unfoldable pub spelled : List ℕ → (personality lsda signal : Bool) → Spelling
spelled text personality lsda signal = record { text = text; letters = record { personality = personality; lsda = lsda; signal = signal } }

-- eh: zR, zRS, zPR, zPRS, zPLR, zPLRS; debug: none, S
unfoldable pub spellings : (debug : Bool) → List Spelling
spellings true = spelled (0 ∷ []) false false false ∷ spelled (0x53 ∷ 0 ∷ []) false false true ∷ []
spellings false =
    spelled (0x7a ∷ 0x52 ∷ 0 ∷ []) false false false ∷ spelled (0x7a ∷ 0x52 ∷ 0x53 ∷ 0 ∷ []) false false true
    ∷ spelled (0x7a ∷ 0x50 ∷ 0x52 ∷ 0 ∷ []) true false false ∷ spelled (0x7a ∷ 0x50 ∷ 0x52 ∷ 0x53 ∷ 0 ∷ []) true false true
    ∷ spelled (0x7a ∷ 0x50 ∷ 0x4c ∷ 0x52 ∷ 0 ∷ []) true true false ∷ spelled (0x7a ∷ 0x50 ∷ 0x4c ∷ 0x52 ∷ 0x53 ∷ 0 ∷ []) true true true ∷ []

-- the first of these that stands here; no string is the beginning of another
unfoldable pub spell_or : Option (List ℕ) → Letters → Read Letters → Read Letters
spell_or none l other = other
spell_or (some r) l other = some (l, r)

unfoldable pub read_letters : List Spelling → List ℕ → Read Letters
read_letters [] bs = none
read_letters (s ∷ ss) bs = spell_or (strip s.text bs) s.letters (read_letters ss bs)

-- the next byte; the next n bytes
unfoldable pub read_byte : List ℕ → Read ℕ
read_byte [] = none
read_byte (b ∷ bs) = some (b, bs)

unfoldable pub read_many : ℕ → List ℕ → Read (List ℕ)
read_many n bs = pick (leb n (length bs)) (some (take n bs, drop n bs)) none

-- a length and as many bytes (`z`)
unfoldable pub read_counted : List ℕ → Read (List ℕ)
read_counted bs = next (read_uleb bs) read_many

-- P: an accepted encoding and its pointer
unfoldable pub personality_in : (here : Bool) → ℕ → List ℕ → Option (List ℕ)
personality_in false word bs = some bs
personality_in true word bs = next (read_byte bs) λ e r. after (pointer_size true word e) λ n. next (read_many n r) λ skipped rest. some rest

-- L: an accepted encoding, whose pointers in the records have that many bytes; none without an L
unfoldable pub lsda_in : (here : Bool) → ℕ → List ℕ → Read ℕ
lsda_in false word bs = some (0, bs)
lsda_in true word bs = next (read_byte bs) λ e r. after (pointer_size false word e) λ n. some (n, r)

-- P, L and R in the augmentation data, the last 0x1b: the bytes of a record's pointer to call sites
unfoldable pub letters_in : Letters → ℕ → List ℕ → Option ℕ
letters_in l word bs =
    after (personality_in l.personality word bs) λ r. next (lsda_in l.lsda word r) λ n r'. next (read_byte r') λ e r''.
    pick (eqb e pcrel_sdata4) (some n) none

pub record HeaderFields : Type 0 where
  pub pointer : ℕ
  pub signal : Bool
  pub operations : List ℕ

-- the augmentation data, of which debug_frame has none; the operations follow it
unfoldable pub header_tail : (debug : Bool) → Letters → ℕ → List ℕ → Option HeaderFields
header_tail true l word bs = some (record { pointer = 0; signal = l.signal; operations = bs })
header_tail false l word bs =
    next (read_counted bs) λ aug ops. after (letters_in l word aug) λ n.
    some (record { pointer = n; signal = l.signal; operations = ops })

-- a test in the middle of a reader
unfoldable pub require : {A : Type 0} → Bool → Option A → Option A
require test a = pick test a none

-- id, version 1, string, code alignment factor 1, data alignment factor minus word, a 16-bit return address register
unfoldable pub parse_header : (debug : Bool) → ℕ → List ℕ → Option HeaderFields
parse_header debug word bs =
    next (read_little 4 bs) λ id r₀. next (read_byte r₀) λ version r₁. require (eqb version 1)
    (next (read_letters (spellings debug) r₁) λ l r₂. next (read_uleb r₂) λ code r₃. require (eqb code 1)
    (next (read_sleb r₃) λ z r₄. require (same_offset z (data_factor word))
    (next (read_register r₄) λ ra r₅. header_tail debug l word r₅)))

pub record RecordFields : Type 0 where
  pub size : ℕ
  pub operations : List ℕ

-- the augmentation of a record holds its pointer to call sites
unfoldable pub record_tail : (debug : Bool) → (pointer size : ℕ) → List ℕ → Option RecordFields
record_tail true pointer size bs = some (record { size = size; operations = bs })
record_tail false pointer size bs =
    next (read_counted bs) λ aug ops. require (leb pointer (length aug)) (some (record { size = size; operations = ops }))

-- the second field, the function's place and its length, unsigned: 4 bytes each, in debug_frame words
unfoldable pub parse_record : (debug : Bool) → (word pointer : ℕ) → List ℕ → Option RecordFields
parse_record debug word pointer bs =
    let n : ℕ = pick debug word 4 in
    next (read_little 4 bs) λ id r₀. next (read_little n r₀) λ place r₁. next (read_little n r₁) λ size r₂.
    record_tail debug pointer size r₂

-- ---- whether their numbers are spelled shortest (document 02, W-206), asked where the fields are accepted

-- a header's: both factors, the return address register and, in eh_frame, the length of the augmentation data
unfoldable pub header_numbers : (debug : Bool) → List Number
header_numbers debug = unsigned ∷ signed ∷ unsigned ∷ pick debug [] (unsigned ∷ [])

unfoldable pub mark_after : {A : Type 0} → Read A → (List ℕ → Bool) → Bool
mark_after none k = false
mark_after (some x) k = k x.1

-- they follow the string, which stands behind the id and the version
unfoldable pub header_short : (debug : Bool) → List ℕ → Bool
header_short debug bs = mark_after (read_letters (spellings debug) (drop 5 bs)) (numbers_short (header_numbers debug))

-- a record's: in eh_frame the length of its augmentation, behind three fields of 4 bytes
unfoldable pub record_short : (debug : Bool) → List ℕ → Bool
record_short debug bs = numbers_short (pick debug [] (unsigned ∷ [])) (drop 12 bs)

-- ---- the run of the operations (66 to 69)

-- the place, the state and the bytes left after an operation go on in `more`; in a header a step is 66; in a record a step that would pass p ends the run
unfoldable pub perform : (header : Bool) (p : ℕ) (initial : ℕ → Rule) → Operation → ℕ → State → (ℕ → State → Result State) → Result State
perform header p initial Nop loc s more = more loc s
perform header p initial (Step n) loc s more = pick header (bad 66) (pick (leb (loc + n) p) (more (loc + n) s) (good s))
perform header p initial (Does row) loc s more = onward (act header initial row s) (more loc)

-- 66: an operation that cannot be read
unfoldable pub when_read : {A : Type 0} → Read A → (A → List ℕ → Result State) → Result State
when_read none k = bad 66
when_read (some x) k = k x.0 x.1

-- an operation has a byte at least, so the length is fuel enough
unfoldable pub run_f : (header : Bool) (word p : ℕ) (initial : ℕ → Rule) → ℕ → ℕ → State → List ℕ → Result State
run_f header word p initial zero loc s bs = good s
run_f header word p initial (suc f) loc s [] = good s
run_f header word p initial (suc f) loc s (b ∷ bs) =
    when_read (read_operation word (b ∷ bs)) λ op r. perform header p initial op loc s λ loc' t. run_f header word p initial f loc' t r

unfoldable pub run : (header : Bool) (word p : ℕ) (initial : ℕ → Rule) → State → List ℕ → Result State
run header word p initial s bs = run_f header word p initial (length bs) 0 s bs

-- ---- the whole

-- what 61 to 64 find: the fields of record k and of its header, and whether their numbers are spelled shortest
pub record Found : Type 0 where
  pub header : HeaderFields
  pub found : RecordFields
  pub shortest : Bool

unfoldable pub parsed : (debug : Bool) → ℕ → (header found : Entry) → Result Found
parsed debug word h e =
    onward (or_else (parse_header debug word h.body) 64) λ hf.
    onward (or_else (parse_record debug word hf.pointer e.body) 64) λ rf.
    good (record { header = hf; found = rf; shortest = header_short debug h.body && record_short debug e.body })

unfoldable pub locate : (debug : Bool) → List Relocation → (word k : ℕ) → List ℕ → Result Found
locate debug rs word k section =
    onward (or_else (entries section) 61) λ es.
    onward (or_else (get_elem? (records debug es) k) 62) λ e.
    onward (or_else (after (header_place debug rs e) λ place. header_at debug place e.at es) 63) λ h.
    parsed debug word h e

-- 65, then the header's operations, then the record's; one run, so what a header stores lives on
unfoldable pub run_to : (word p : ℕ) → Found → Result State
run_to word p x =
    pick (ltb p x.found.size)
    (onward (run true word p blank.current.rules blank x.header.operations) λ s.
    run false word p s.current.rules s x.found.operations)
    (bad 65)

unfoldable pub read_section : (debug : Bool) → List Relocation → (word k p : ℕ) → List ℕ → Result State
read_section debug rs word k p section = onward (locate debug rs word k section) (run_to word p)

-- 11: word 2, 4 or 8, and kind 0 (eh) or 1 (debug)
unfoldable pub read : (section relocations : List ℕ) (kind word k q p : ℕ) → Reading
read section relocations kind word k q p =
    answer q (pick (is_word_size word && leb kind 1) (read_section (eqb kind 1) (relocations_of relocations) word k p section) (bad 11))

-- ---- whether every number that was read for an answer at p is spelled shortest: the fields, then the operations of the header and of the record

unfoldable pub shortest_to : (word p : ℕ) → Found → Bool
shortest_to word p x = x.shortest && (run_short word p x.header.operations && run_short word p x.found.operations)

-- of what was found; a refusal has no mark
unfoldable pub shortest_of : (word p : ℕ) → Result Found → Bool
shortest_of word p (good x) = shortest_to word p x
shortest_of word p (bad n) = false

unfoldable pub shortest_at : (section relocations : List ℕ) (kind word k p : ℕ) → Bool
shortest_at section relocations kind word k p =
    shortest_of word p (pick (is_word_size word && leb kind 1) (locate (eqb kind 1) (relocations_of relocations) word k section) (bad 11))
