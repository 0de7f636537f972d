-- The rules of all registers at an offset of a record that was located (DWARF 5, 6.4.1: a row has a rule for
-- every register): for each of them what unwind_rules_at answers.
use Rattle.std.specs.Prelude.{ℕ, zero, suc, ◌/◌, Bool, List, [], ◌∷◌, ◌++◌, length, min, get_or, Ok, Err}
use Rattle.format.specs.Put.{put}
use Rattle.format.specs.Coded.{Reading}
use Rattle.format.specs.Answers.{cfa_numbers, rule_numbers, bit}
use Rattle.reader.specs.Finds.{shortest_from}
use Rattle.reads.specs.Places.{reader_places, rules_of}
use Rattle.reads.specs.declared.Located.{Located}
use Rattle.lookup.specs.declared.AllRules.{AllRules}

-- as many registers as a lent list has room for, of those that 16 bits name
unfoldable pub registers_in : (room : ℕ) → ℕ
registers_in room = min (room / 2) 65536

-- a register's rule, as two numbers; what refuses one register's rules refuses those of all
unfoldable pub rule_part : Reading → List ℕ
rule_part (Ok a) = rule_numbers a.rule
rule_part (Err n) = 0 ∷ 0 ∷ []

-- two numbers a register: n registers from q on
unfoldable pub rules_listed : (ℕ → Reading) → (q n : ℕ) → List ℕ
rules_listed r q zero = []
rules_listed r q (suc n) = rule_part (r q) ++ rules_listed r (suc q) n

-- the CFA rule and the signing state, which every register's rules have, as the export answers them
unfoldable pub all_rules_as : Reading → (shortest : Bool) (registers : ℕ) → AllRules
all_rules_as (Ok a) shortest n =
    let c : List ℕ = cfa_numbers a.cfa in
    record {
      number = 0;
      frame = get_or c 0 0;
      frame_register = get_or c 1 0;
      frame_offset = get_or c 2 0;
      signing = bit a.signing;
      shortest = bit shortest;
      registers = n;
    }
all_rules_as (Err n) shortest m =
    record { number = n; frame = 0; frame_register = 0; frame_offset = 0; signing = 0; shortest = 0; registers = 0 }

-- a lent list with the rules at its front and the rest as it was
abbrev pub filled : List ℕ → Located → (p : ℕ) → List ℕ → List ℕ
filled s l p old = put old 0 (rules_listed (λ q. rules_of s l q p) 0 (registers_in (length old)))

-- on a refusal it is unchanged
unfoldable pub where_read : Reading → (new old : List ℕ) → List ℕ
where_read (Ok a) new old = new
where_read (Err n) new old = old

-- ---- as the export answers, and the lent list at exit

unfoldable pub all_rules_at : List ℕ → Located → (p room : ℕ) → AllRules
all_rules_at s l p room = all_rules_as (rules_of s l 0 p) (shortest_from s (reader_places l) p) (registers_in room)

unfoldable pub rules_after : List ℕ → Located → (p : ℕ) → List ℕ → List ℕ
rules_after s l p old = where_read (rules_of s l 0 p) (filled s l p old) old
