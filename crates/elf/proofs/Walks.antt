-- What the loop over notes keeps: `left` is how many more may come.
use Rattle.std.proofs.Common.{◌≡◌, ℕ, suc, ◌+◌, ◌-◌, ◌<◌, ◌≤◌, Bool, true, false, List, refl, arith}
use Rattle.std.specs.Prelude.{Ok, Err}
use Rattle.elf.specs.declared.notes.ElfNote.{ElfNote}
use Rattle.elf.specs.declared.refusal.Reason.TheVariants.{NoEntry}
use Rattle.elf.specs.declared.refusal.Refusal.{Refusal}
use Rattle.elf.specs.Refusals.{refuse}
use Rattle.elf.specs.Notes.{note_in, is_wanted, first_note}

pub goes_on : (file name : List ℕ) (kind end : ℕ) (eight : Bool) (all i place : ℕ) (n : ElfNote)
    → i < all → note_in file place end eight ≡ Ok n → is_wanted file name kind n ≡ false
    → first_note file name kind end eight (all - i) place
    ≡ first_note file name kind end eight (all - (i + 1)) n.next
unfolding first_note
goes_on file name kind end eight all i place n below e other =
    let left : all - i ≡ suc (all - (i + 1)) = omega arith in rw (left, e, other) refl

pub is_found : (file name : List ℕ) (kind end : ℕ) (eight : Bool) (all i place : ℕ) (n : ElfNote)
    → i < all → note_in file place end eight ≡ Ok n → is_wanted file name kind n ≡ true
    → first_note file name kind end eight (all - i) place ≡ Ok n
unfolding first_note
is_found file name kind end eight all i place n below e is =
    let left : all - i ≡ suc (all - (i + 1)) = omega arith in rw (left, e, is) refl

pub is_faulty : (file name : List ℕ) (kind end : ℕ) (eight : Bool) (all i place : ℕ) (r : Refusal)
    → i < all → note_in file place end eight ≡ Err r
    → first_note file name kind end eight (all - i) place ≡ Err r
unfolding first_note
is_faulty file name kind end eight all i place r below e =
    let left : all - i ≡ suc (all - (i + 1)) = omega arith in rw (left, e) refl

pub is_missing : (file name : List ℕ) (kind end : ℕ) (eight : Bool) (all i place : ℕ)
    → all ≤ i → first_note file name kind end eight (all - i) place ≡ refuse NoEntry end
unfolding first_note
is_missing file name kind end eight all i place past =
    let left : all - i ≡ 0 = omega arith in rw left refl

pub ruleset walk_steps = (goes_on, is_found, is_faulty, is_missing)
