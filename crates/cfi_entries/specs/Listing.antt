-- All entries of a section in order, and that they tile it.
use Rattle.std.specs.Prelude.{◌≡◌, ℕ, zero, suc, ◌+◌, ◌<◌, Bool, nat_le, if◌then◌else◌, List, [], ◌∷◌, length, Ok, Err}
use Rattle.cfi_entries.specs.declared.refusal.Question.TheVariants.{Tiling}
use Rattle.cfi_entries.specs.declared.entries.Entry.{Entry}
use Rattle.cfi_entries.specs.Entries.{entry_at}
use Rattle.cfi_entries.specs.Refusals.{Answer, refused, ◌>>=◌}

-- an entry in front of more
abbrev pub in_front : Entry → Answer (List Entry) → Answer (List Entry)
in_front e (Ok es) = Ok (e ∷ es)
in_front e (Err r) = Err r

-- at most so many, from a place on
unfoldable pub entries_f : ℕ → (debug : Bool) → List ℕ → ℕ → Answer (List Entry)
entries_f zero debug s p = Err (refused Tiling p)
entries_f (suc f) debug s p =
    if nat_le (length s) p then Ok [] else entry_at debug s p >>= λ e. in_front e (entries_f f debug s e.end)

-- an entry has a byte at least, so the length is enough
unfoldable pub entries : (debug : Bool) → List ℕ → Answer (List Entry)
entries debug s = entries_f (suc (length s)) debug s 0

-- how many there are, beside n others
abbrev pub counted : ℕ → Answer (List Entry) → Answer ℕ
counted n (Ok es) = Ok (n + length es)
counted n (Err r) = Err r

-- each starts where the one before it ends, from a place p on to the place q
abbrev pub Tile : ℕ → List Entry → ℕ → Type 0
Tile p [] q = p ≡ q
Tile p (e ∷ es) q = (e.at ≡ p) × (p < e.end) × Tile e.end es q

-- entries tile the bytes of a section, where there are any
abbrev pub Tiled : (size : ℕ) → Answer (List Entry) → Type 0
Tiled size (Ok es) = Tile 0 es size
Tiled size (Err r) = Unit
