-- Why a file is not read on: a number, and the place in the file of what is at fault.
use Rattle.std.specs.Prelude.{◌≡◌, ℕ, Result, Ok, Err}
use Rattle.elf.specs.declared.refusal.Reason.{Reason}
use Rattle.elf.specs.declared.refusal.Reason.TheVariants.{NotElf, Unknown, Outside, Name, EntrySize, Compressed, NoEntry, Kind, Alignment}
use Rattle.elf.specs.declared.refusal.Refusal.{Refusal}

abbrev pub reason_number : Reason → ℕ
reason_number NotElf = 101
reason_number Unknown = 102
reason_number Outside = 103
reason_number Name = 104
reason_number EntrySize = 105
reason_number Compressed = 106
reason_number NoEntry = 107
reason_number Kind = 108
reason_number Alignment = 109

abbrev pub refuse : {A : Type 0} → Reason → ℕ → Result A Refusal
refuse reason place = Err (record { reason = reason; place = place })

-- what follows from what was read; else its refusal
infixl 10 ◌>>=◌
abbrev pub ◌>>=◌ : {A B : Type 0} → Result A Refusal → (A → Result B Refusal) → Result B Refusal
◌>>=◌ (Ok x) f = f x
◌>>=◌ (Err e) f = Err e

-- what a function returned, seen by a view, is what a definition gives
abbrev pub Gives : {X Y : Type 0} → (X → Y) → Result X Refusal → Result Y Refusal → Type 0
Gives view (Ok x) given = given ≡ Ok (view x)
Gives view (Err e) given = given ≡ Err e
