-- What holds of a function that was written and read back: its length and its epilogues' starts are as given,
-- and each code does what the given one does.
use Rattle.std.specs.Prelude.{◌≡◌, Bool, true, false, ◌&&◌, List, [], ◌∷◌, ◌++◌, map, length, ℕ, ◌+◌, ◌*◌, ◌%◌}
use Rattle.format.specs.Prelude.{Result, good, all}
use Rattle.arm64.specs.declared.Code.{Code}
use Rattle.arm64.specs.Codes.{code_fits}
use Rattle.arm64.specs.Lists.{Epilogue, Function}
use Rattle.arm64.specs.Meaning.{reverse, prologue_means, epilogue_means}
use Rattle.arm64.specs.Records.{word_at}
use Rattle.arm64.specs.Reader.{Unwound, epilogue}
use Rattle.arm64.specs.Writer.{code_ok, prologue_run, epilogue_run, is_packed}

-- ---- question 13 of a function's codes

-- the kind is one, and an operand that the kind does not have is 0
unfoldable pub whole_code : Code → Bool
whole_code c = code_ok c.kind c.register c.offset

unfoldable pub whole_codes : Function → Bool
whole_codes f = all whole_code f.prologue && all (λ e. all whole_code e.codes) f.epilogues

-- a code that passes 13 and 83: it is one, and its fields hold its values
abbrev pub Fine : Code → Type 0
Fine c = (whole_code c ≡ true) × (code_fits c ≡ true)

abbrev pub AllFine : List Code → Type 0
AllFine [] = Unit {0}
AllFine (c ∷ cs) = Fine c × AllFine cs

-- ---- bytes that stand at a place of others, with anything in front and behind

pub record BytesAt (s : List ℕ) (p : ℕ) (bs : List ℕ) : Type 0 where
  pub front : List ℕ
  pub behind : List ℕ
  pub is : s ≡ front ++ (bs ++ behind)
  pub place : p ≡ length front

-- ---- two readings that say the same

-- an epilogue that starts at the same instruction, and whose codes do the same, one by one
pub record SameEpilogue (d e : Epilogue) : Type 0 where
  pub start : d.start ≡ e.start
  pub means : epilogue_means d.codes ≡ epilogue_means e.codes

-- one for one, in order
abbrev pub SameEpilogues : (ds es : List Epilogue) → Type 0
SameEpilogues [] [] = Unit {0}
SameEpilogues [] (e ∷ es) = ⊥
SameEpilogues (d ∷ ds) [] = ⊥
SameEpilogues (d ∷ ds) (e ∷ es) = SameEpilogue d e × SameEpilogues ds es

-- the same length, the same starts, and codes that do the same, one by one
pub record SameUnwound (u v : Unwound) : Type 0 where
  pub size : u.size ≡ v.size
  pub prologue : prologue_means u.prologue ≡ prologue_means v.prologue
  pub epilogues : SameEpilogues u.epilogues v.epilogues

-- ---- read back

-- a function as it was given
unfoldable pub given : Function → Unwound
given f = record { size = f.size; prologue = f.prologue; epilogues = f.epilogues }

-- a function as its full record has it: the codes as they are written, in the order of the instructions
unfoldable pub written_epilogue : Epilogue → Epilogue
written_epilogue e = epilogue e.start (reverse (epilogue_run e))

unfoldable pub written : Function → Unwound
written f = record { size = f.size; prologue = prologue_run f; epilogues = map written_epilogue f.epilogues }

-- a reader answers, and what it answers says the same as what was given
pub record ReadBack (u : Unwound) (r : Result Unwound) : Type 0 where
  pub unwound : Unwound
  pub answer : r ≡ good unwound
  pub same : SameUnwound unwound u

-- the second word of a function's row, as it was written
unfoldable pub second_word : (bytes : List ℕ) → (k : ℕ) → ℕ
second_word bytes k = word_at bytes (8 * k + 4)

-- and as it may stand in the finished file: a packed word unchanged; else the record's place, which is whole
-- words, as its section's start is
pub record EntryWord (f : Function) (bytes : List ℕ) (k word : ℕ) : Type 0 where
  pub packed : is_packed f ≡ true → word ≡ second_word bytes k
  pub placed : is_packed f ≡ false → word % 4 ≡ 0

-- two readers answer, and their answers say the same
pub record SameReading (q r : Result Unwound) : Type 0 where
  pub first : Unwound
  pub second : Unwound
  pub one : q ≡ good first
  pub other : r ≡ good second
  pub same : SameUnwound first second
