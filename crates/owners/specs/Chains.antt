-- Owners of headers, chained by digests of their keys: those of one slot, from the last to the first, and function 0 at the end of each chain.
use Rattle.std.specs.Prelude.{◌≡◌, ℕ, zero, suc, ◌+◌, ◌*◌, ◌%◌, ◌^◌, ◌≤◌, ◌<◌, Bool, ◌&&◌, List, [], ◌∷◌, eqb, nat_abs, length, get_or, Option, Some, None}
use Rattle.format.specs.Prelude.{pick}
use Rattle.format.specs.declared.Row.{Row}
use Rattle.format.specs.Rows.{kind_of, reg_of, offset_of}
use Rattle.format.specs.Headers.{Kind, plain, personal, named, Key}
use Rattle.header_keys.specs.Inputs.{Inputs}
use Rattle.owners.specs.Owners.{key_at, owner}

-- ---- digests: numbers of 32 bits and little more, equal where the keys are

-- a row's number
unfoldable pub row_number : Row → ℕ
row_number r = kind_of r + 17 * reg_of r + 131101 * (nat_abs (offset_of r) % 2 ^ 32)

-- a digest, one row further
unfoldable pub mixed : ℕ → Row → ℕ
mixed d r = (33 * d + row_number r) % 2 ^ 32

unfoldable pub rows_digest : ℕ → List Row → ℕ
rows_digest d [] = d
rows_digest d (r ∷ rs) = rows_digest (mixed d r) rs

unfoldable pub kind_number : Kind → ℕ
kind_number plain = 0
kind_number personal = 1
kind_number (named e s l) = 2 + s % 2 ^ 32

unfoldable pub digest_of : Key → ℕ
digest_of k = rows_digest (kind_number k.kind) k.rows

-- the slot of function j's key among `size`
unfoldable pub slot_at : Inputs → (size j : ℕ) → ℕ
slot_at x size j = digest_of (key_at x j) % size

-- ---- chains

-- the last number below k that passes a test, or 0
unfoldable pub last_in : (ℕ → Bool) → (k : ℕ) → ℕ
last_in test zero = 0
last_in test (suc k) = pick (test k) k (last_in test k)

-- function j has a header of its own, and its key's slot is h
unfoldable pub held_in : Inputs → (size h j : ℕ) → Bool
held_in x size h j = eqb (owner x j) j && eqb (slot_at x size j) h

-- the last of them in front of function k, or function 0
abbrev pub last_held : Inputs → (size h k : ℕ) → ℕ
last_held x size h k = last_in (held_in x size h) k

-- the one behind function j in its chain; there is none behind function 0
unfoldable pub behind_in : (links : List ℕ) → (j : ℕ) → Option ℕ
behind_in links j = pick (eqb j 0) None (Some (get_or links j 0))

-- `links` has the one behind each function in front of k that has a header of its own
pub record Linked (x : Inputs) (size k : ℕ) (links : List ℕ) : Type 0 where
  pub long : k ≤ length links
  pub each_one : (j : ℕ) → j < k → owner x j ≡ j → get_or links j 0 ≡ last_held x size (slot_at x size j) j

-- and the chain of function k's slot starts at `first`
pub record Chained (x : Inputs) (size k first : ℕ) (links : List ℕ) : Type 0 where
  pub from : first ≡ last_held x size (slot_at x size k) k
  pub long : k < length links
  pub linked : Linked x size k links

-- ---- the pass

-- the owners of the first n functions stand in a list
pub record Owned (x : Inputs) (n : ℕ) (owners : List ℕ) : Type 0 where
  pub long : n ≤ length owners
  pub each_one : (j : ℕ) → j < n → get_or owners j 0 ≡ owner x j

-- so far for k functions, and `heads` has the last one of each of its slots
pub record OwnersFound (x : Inputs) (size k : ℕ) (heads links owners : List ℕ) : Type 0 where
  pub sized : size ≡ length heads
  pub heads_last : (h : ℕ) → h < size → get_or heads h 0 ≡ last_held x size h k
  pub linked : Linked x size k links
  pub owned : Owned x k owners

-- slots, links and owners are enough for n functions
pub record Enough (n size : ℕ) (links owners : List ℕ) : Type 0 where
  pub few : n ≤ 65536
  pub some_slot : 0 < size
  pub links_long : n ≤ length links
  pub owners_long : n ≤ length owners

-- and nothing is chained yet
pub record Unused (n : ℕ) (heads links owners : List ℕ) : Type 0 where
  pub enough : Enough n (length heads) links owners
  pub clear : (h : ℕ) → h < length heads → get_or heads h 0 ≡ 0
