-- The function of a record by the record's own fields (LSB Core, "Exception Frames": PC Begin and PC Range; DWARF 4, 6.4.1: initial_location and address_range), and the record that holds an address.
use Rattle.std.specs.Prelude.{ℕ, suc, ◌+◌, ◌-◌, ◌*◌, ◌%◌, ◌^◌, Bool, true, false, not, ◌&&◌, List, [], ◌∷◌, drop, ◌==◌, nat_le, nat_lt, Ok, Err}
use Rattle.std.specs.Prelude as code
use Rattle.format.specs.Coded.{result_of}
use Rattle.std.proofs.Math.Option.{Option, none, some}
use Rattle.format.specs.Prelude.{pick, next, after, Result, bad, onward, or_else}
use Rattle.format.specs.Leb.{read_little}
use Rattle.format.specs.Reader.{Entry, read_entry, is_header, records, entries, require}
use Rattle.reads.specs.Places.{asked}
use Rattle.reads.specs.declared.Placed.{Placed}
use Rattle.reads.specs.declared.Holder.{Holder}

-- the entry whose length stands at place p
unfoldable pub entry_at : List ℕ → ℕ → Option Entry
entry_at section p = next (read_entry (drop p section)) λ body rest. some (record { at = p; body = body })

-- the second field, the function's place and its length: 4 bytes each, in debug_frame words
unfoldable pub function_fields : (debug : Bool) (word : ℕ) → List ℕ → Option (ℕ × ℕ)
function_fields debug word bs =
    let n : ℕ = pick debug word 4 in
    next (read_little 4 bs) λ id r₀. next (read_little n r₀) λ place r₁. next (read_little n r₁) λ size r₂. some (place, size)

-- DW_EH_PE_sdata4: 4 bytes, two's complement, modulo 2^64
unfoldable pub sdata4 : ℕ → ℕ
sdata4 v = pick (nat_lt v (2 ^ 31)) v (v + (2 ^ 64 - 2 ^ 32))

-- debug: the address itself. eh: DW_EH_PE_pcrel, relative to the field, which stands behind the length and the second field; the sum is an address of the target, so it has the word's bits
unfoldable pub start_of : (debug : Bool) (word address at field : ℕ) → ℕ
start_of true word address at field = field
start_of false word address at field = (address + (at + 8) + sdata4 field) % 2 ^ (8 * word)

-- where the function of a record starts, and its length
unfoldable pub function_of : (debug : Bool) (word address : ℕ) → Entry → Option (ℕ × ℕ)
function_of debug word address e =
    after (function_fields debug word e.body) λ f. some (start_of debug word address e.at f.0, f.1)

-- 64: no record with these fields stands there
unfoldable pub function_found : (debug : Bool) (word address place : ℕ) → List ℕ → Result (ℕ × ℕ)
function_found debug word address place section =
    or_else (after (entry_at section place) λ e. require (not (is_header debug e)) (function_of debug word address e)) 64

-- as the export answers it
unfoldable pub placed_as : code.Result (ℕ × ℕ) ℕ → Placed
placed_as (Ok f) = record { number = 0; address = f.0; length = f.1 }
placed_as (Err n) = record { number = n; address = 0; length = 0 }

-- 11 in front of it
unfoldable pub function_at : (section : List ℕ) (kind word address place : ℕ) → Placed
function_at section kind word address place =
    placed_as (result_of (pick (asked kind word) (function_found (kind == 1) word address place section) (bad 11)))

-- ---- the record that holds an address

-- start at most pc, and pc less start below the length
unfoldable pub holds : ℕ → Option (ℕ × ℕ) → Bool
holds pc none = false
holds pc (some f) = nat_le f.0 pc && nat_lt (pc - f.0) f.1

-- the first of the records from k on that passes a test: its number and its place
unfoldable pub holder_from : (Entry → Bool) → ℕ → List Entry → Option (ℕ × ℕ)
holder_from test k [] = none
holder_from test k (e ∷ es) = pick (test e) (some (k, e.at)) (holder_from test (suc k) es)

-- as the export answers it
unfoldable pub holder_as : code.Result (ℕ × ℕ) ℕ → Holder
holder_as (Ok h) = record { number = 0; k = h.0; place = h.1 }
holder_as (Err n) = record { number = n; k = 0; place = 0 }

unfoldable pub holder_in : (debug : Bool) (word address pc : ℕ) → List ℕ → Result (ℕ × ℕ)
holder_in debug word address pc section =
    onward (or_else (entries section) 61) λ es.
    or_else (holder_from (λ e. holds pc (function_of debug word address e)) 0 (records debug es)) 62

-- 11, 61; 62 where no record holds the address
unfoldable pub record_of : (section : List ℕ) (kind word address pc : ℕ) → Holder
record_of section kind word address pc = holder_as (result_of (pick (asked kind word) (holder_in (kind == 1) word address pc section) (bad 11)))
