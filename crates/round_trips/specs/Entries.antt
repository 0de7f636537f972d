-- The entries of a section as numbers, found from one to the next.
use Rattle.std.specs.Prelude.{◌≡◌, ℕ, ◌*◌, Bool, List, [], ◌∷◌, length, leb}
use Rattle.std.specs.Prelude as code
use Rattle.std.proofs.Math.Option.{Option, none, some}
use Rattle.format.specs.Prelude.{pick, Result, good, bad, onward, or_else}
use Rattle.format.specs.Coded.{result_of, numbered}
use Rattle.format.specs.declared.question.Question.{Question}
use Rattle.format.specs.Answers.{bit}
use Rattle.format.specs.Put.{put}
use Rattle.format.specs.Reader.{Entry, entries, is_header}

-- how many numbers an entry has
abbrev pub entry_stride : ℕ
entry_stride = 3

-- of each entry whether it is a header, its place, and how many bytes follow its 4-byte length
unfoldable pub all_numbers : (debug : Bool) → List Entry → List ℕ
all_numbers debug [] = []
all_numbers debug (e ∷ es) = bit (is_header debug e) ∷ e.at ∷ length e.body ∷ all_numbers debug es

-- how many there are; 61 where they do not tile the section
unfoldable pub counted : Option (List Entry) → Result ℕ
counted none = bad 61
counted (some es) = good (length es)

-- 11: the kind is 0 (eh) or 1 (debug); 61; then 54: room for them
unfoldable pub entries_listed : (section : List ℕ) (kind room : ℕ) → Result (List Entry)
entries_listed section kind room =
    pick (leb kind 1)
    (onward (or_else (entries section) 61) λ es. pick (leb (entry_stride * length es) room) (good es) (bad 54))
    (bad 11)

unfoldable pub count_of : Result (List Entry) → Result ℕ
count_of (good es) = good (length es)
count_of (bad n) = bad n

-- the lent list at exit: the entries at its front and the rest as it was; on a refusal it is unchanged
unfoldable pub list_after : (debug : Bool) → Result (List Entry) → List ℕ → List ℕ
list_after debug (good es) old = put old 0 (all_numbers debug es)
list_after debug (bad n) old = old

-- the entries are counted, and stored in a lent list
pub record ListsEntries (debug : Bool) (a : Result (List Entry)) (r : code.Result ℕ Question) (old new : List ℕ) : Type 0
  where
    pub answered : numbered r ≡ result_of (count_of a)
    pub stored : new ≡ list_after debug a old
