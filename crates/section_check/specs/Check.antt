-- The check of an eh_frame section that another tool wrote (document 02, W-213): it tiles, and for each record the reader answers at every offset below its length.
use Rattle.std.specs.Prelude.{◌≡◌, Bool, true, false, List, [], ◌∷◌, ℕ, zero, suc, ◌<◌, T, drop}
use Rattle.std.proofs.Math.Option.{Option, none, some}
use Rattle.std.proofs.Math.ListN.{get_elem?}
use Rattle.format.specs.Prelude.{pick, next}
use Rattle.format.specs.Leb.{read_little}
use Rattle.format.specs.Machine.{is_word_size}
use Rattle.format.specs.Reader.{Entry, entries, records, read}
use Rattle.format.specs.Coded.{Reading}
use Rattle.std.specs.Prelude.{Ok, Err}
use Rattle.section_check.specs.declared.Checked.{Checked}

-- ---- a record

-- the length of a record's function (LSB Core, "The Frame Description Entry Format": PC Range, behind the CIE pointer and PC Begin): the four
-- bytes at 8 of the entry's body, where they lie inside
unfoldable pub length_of : Entry → Option ℕ
length_of e = next (read_little 4 (drop 8 e.body)) λ n rest. some n

-- the reader answers
unfoldable pub answers : Reading → Bool
answers (Ok rules) = true
answers (Err number) = false

-- register q at offset p in record k of an eh_frame section, which has no relocations
abbrev pub read_at : (section : List ℕ) (word k q p : ℕ) → Reading
read_at section word k q p = read section [] 0 word k q p

-- what is asked of record k, the entry e: its length lies inside, and the reader answers for every register at every offset below it
pub record Passes (section : List ℕ) (word k : ℕ) (e : Entry) : Type 0 where
  pub size : ℕ
  pub inside : length_of e ≡ some size
  pub answered : (q p : ℕ) → p < size → T (answers (read_at section word k q p))

-- the test of it: the reader answers for register 0 at the last offset; there is none below length 0
unfoldable pub last_answers : (section : List ℕ) (word k : ℕ) → Option ℕ → Bool
last_answers section word k none = false
last_answers section word k (some zero) = true
last_answers section word k (some (suc p)) = answers (read_at section word k 0 p)

unfoldable pub passes : (section : List ℕ) (word k : ℕ) → Entry → Bool
passes section word k e = last_answers section word k (length_of e)

-- ---- the section

unfoldable pub saying : (number k : ℕ) → Checked
saying number k = record { number = number; «record» = k }

-- the records from record k on: 84 with the first that does not pass
unfoldable pub check_from : (section : List ℕ) (word k : ℕ) → List Entry → Checked
check_from section word k [] = saying 0 0
check_from section word k (e ∷ es) = pick (passes section word k e) (check_from section word (suc k) es) (saying 84 k)

unfoldable pub check_entries : (section : List ℕ) (word : ℕ) → Option (List Entry) → Checked
check_entries section word none = saying 61 0
check_entries section word (some es) = check_from section word 0 (records false es)

-- 11: word 2, 4 or 8; 61: the entries tile the section; 84
unfoldable pub check_section : (section : List ℕ) (word : ℕ) → Checked
check_section section word = pick (is_word_size word) (check_entries section word (entries section)) (saying 11 0)

-- ---- what the answer means

-- the section is accepted: a word, entries that tile it, and all that is asked of each record
pub record Sound (section : List ℕ) (word : ℕ) : Type 0 where
  pub is_word : T (is_word_size word)
  pub listed : List Entry
  pub tiles : entries section ≡ some listed
  pub pass : (k : ℕ) (e : Entry) → get_elem? (records false listed) k ≡ some e → Passes section word k e

-- record k is the first that does not pass
pub record FailsFirst (section : List ℕ) (word k : ℕ) : Type 0 where
  pub is_word : T (is_word_size word)
  pub listed : List Entry
  pub tiles : entries section ≡ some listed
  pub entry : Entry
  pub there : get_elem? (records false listed) k ≡ some entry
  pub fails : Passes section word k entry → ⊥
  pub earlier : (j : ℕ) (e : Entry) → j < k → get_elem? (records false listed) j ≡ some e → Passes section word j e

-- 0 exactly for a section that is accepted, 84 with the first record that does not pass
pub record Means (section : List ℕ) (word : ℕ) (r : Checked) : Type 0 where
  pub accepted : r.number ≡ 0 → Sound section word
  pub only : Sound section word → r.number ≡ 0
  pub failing : r.number ≡ 84 → FailsFirst section word r.«record»
