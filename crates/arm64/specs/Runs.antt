-- A run of codes as it is written (Microsoft, "ARM64 exception handling", "Unwind codes"; `simplify`, `size` and `in_prologue` of the source).
-- Codes stand here in the order in which they save: a prologue's as given, an epilogue's in reverse.
use Rattle.std.specs.Prelude.{ℕ, ◌+◌, ◌-◌, Bool, true, false, ◌&&◌, ◌||◌, List, [], ◌∷◌, ◌++◌, length, leb, ltb, eqb}
use Rattle.format.specs.Prelude.{pick}
use Rattle.arm64.specs.declared.Code.{Code}
use Rattle.arm64.specs.Codes.{code, fp, k_r19_r20_x, k_fplr, k_fplr_x, k_regp, k_regp_x, k_fregp, k_fregp_x, k_set_fp, k_add_fp, k_nop, k_save_next, form_for, register_fits, code_fits, code_bytes}

unfoldable pub same_code : Code → Code → Bool
same_code a b = eqb a.kind b.kind && eqb a.register b.register && eqb a.offset b.offset

unfoldable pub same_codes : List Code → List Code → Bool
same_codes [] [] = true
same_codes [] (d ∷ ds) = false
same_codes (c ∷ cs) [] = false
same_codes (c ∷ cs) (d ∷ ds) = same_code c d && same_codes cs ds

-- ---- shorter codes that say the same

-- the frame record, the first pair pushed by up to 248 bytes, and a frame pointer without an offset have codes of their own
unfoldable pub shorter : Code → Code
shorter c =
    pick (eqb c.kind k_regp && eqb c.register fp) (code k_fplr 0 c.offset)
    (pick (eqb c.kind k_regp_x && eqb c.register fp) (code k_fplr_x 0 c.offset)
    (pick (eqb c.kind k_regp_x && eqb c.register 19 && leb c.offset 248) (code k_r19_r20_x 0 c.offset)
    (pick (eqb c.kind k_add_fp && eqb c.offset 0) (code k_set_fp 0 0) c)))

-- the pair that a code saves, as Regp or Fregp at its distance above the stack pointer; a code of another kind stands for none
unfoldable pub pair_in : Code → Code
pair_in c =
    pick (eqb c.kind k_regp || eqb c.kind k_fregp) c
    (pick (eqb c.kind k_r19_r20_x) (code k_regp 19 0)
    (pick (eqb c.kind k_regp_x) (code k_regp c.register 0)
    (pick (eqb c.kind k_fregp_x) (code k_fregp c.register 0) (code k_nop 0 0))))

-- no code before
abbrev pub no_pair : Code
no_pair = code k_nop 0 0

-- a pair that another may follow; those that codes spell lie below 1,024, the fifth behind one at 504 too
unfoldable pub has_next : Code → Bool
has_next b = (eqb b.kind k_regp || eqb b.kind k_fregp) && ltb b.register fp && ltb b.offset 1024

-- the pair behind a pair, two registers on and 16 bytes up; where there is none, SaveNext stands for it
unfoldable pub next_pair : Code → Code
next_pair b = pick (has_next b) (code b.kind (b.register + 2) (b.offset + 16)) (code k_save_next 0 0)

-- a code behind the pair b, SaveNext as the pair that it saves
unfoldable pub resolved : (b c : Code) → Code
resolved b c = pick (eqb c.kind k_save_next) (next_pair b) c

-- an integer pair just above the pair b is a SaveNext; vector registers are left alone
unfoldable pub next_or : (b c : Code) → Code
next_or b c = pick (eqb c.kind k_regp && same_code (next_pair b) c) (code k_save_next 0 0) c

unfoldable pub simple : (b c : Code) → Code
simple b c = next_or b (shorter c)

-- the pair behind a code that stands behind the pair b
unfoldable pub pair_behind : (b c : Code) → Code
pair_behind b c = pair_in (resolved b c)

unfoldable pub simplify : (b : Code) → List Code → List Code
simplify b [] = []
simplify b (c ∷ cs) = simple b c ∷ simplify (pair_behind b (simple b c)) cs

-- SaveNexts as the pairs that they save
unfoldable pub resolve : (b : Code) → List Code → List Code
resolve b [] = []
resolve b (c ∷ cs) = resolved b c ∷ resolve (pair_behind b c) cs

-- ---- question 83 of a run: the register is one that its kind can name, also where SaveNext is written for it, and the code's fields hold the rest

unfoldable pub simple_fits : (b c : Code) → Bool
simple_fits b c = register_fits (form_for (shorter c)) (shorter c) && code_fits (simple b c)

unfoldable pub run_fits : (b : Code) → List Code → Bool
run_fits b [] = true
run_fits b (c ∷ cs) = simple_fits b c && run_fits (pair_behind b (simple b c)) cs

-- ---- bytes

-- the last saved first
unfoldable pub backwards : List Code → List ℕ
backwards [] = []
backwards (c ∷ cs) = backwards cs ++ code_bytes c

-- and the end, which is an epilogue's ret
abbrev pub end_byte : ℕ
end_byte = 0xe4

unfoldable pub run_bytes : List Code → List ℕ
run_bytes cs = backwards cs ++ (end_byte ∷ [])

unfoldable pub run_size : List Code → ℕ
run_size cs = length (run_bytes cs)

-- ---- runs shared

-- an epilogue undoes the first instructions of the prologue: its run is the end of the prologue's
unfoldable pub leads : (run prologue : List Code) → Bool
leads [] ps = true
leads (c ∷ cs) [] = false
leads (c ∷ cs) (p ∷ ps) = same_code c p && leads cs ps

unfoldable pub is_in : List Code → List (List Code) → Bool
is_in r [] = false
is_in r (q ∷ qs) = same_codes r q || is_in r qs

-- the runs that are written behind the prologue's: not in it, and not `seen` before
unfoldable pub own_runs : (prologue : List Code) → (seen runs : List (List Code)) → List (List Code)
own_runs ps seen [] = []
own_runs ps seen (r ∷ rs) = pick (leads r ps || is_in r seen) [] (r ∷ []) ++ own_runs ps (r ∷ seen) rs

unfoldable pub runs_bytes : List (List Code) → List ℕ
runs_bytes [] = []
runs_bytes (r ∷ rs) = run_bytes r ++ runs_bytes rs

-- where a run stands among those
unfoldable pub place_in : (run : List Code) → (own : List (List Code)) → ℕ
place_in r [] = 0
place_in r (q ∷ qs) = pick (same_codes r q) 0 (run_size q + place_in r qs)

-- the index of an epilogue's run among the codes
unfoldable pub index_of : (prologue : List Code) → (own : List (List Code)) → (run : List Code) → ℕ
index_of ps own r = pick (leads r ps) (run_size ps - run_size r) (run_size ps + place_in r own)
