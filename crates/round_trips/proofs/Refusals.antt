-- No question of the reader or of the index has the number 0.
use mathlib.Core.Path.{◌≡◌}
use mathlib.Core.Bool.{Bool, true, false, ◌&&◌}
use mathlib.Core.Option.{Option, none, some}
use mathlib.Core.List.{List, [], ◌∷◌}
use Prim.Native.Nat.{ℕ, zero, suc, ◌+◌}
use native.Mathlib.Omega.{arith}
use lib.Dec.{leb, ltb, eqb}
use lib.ListN.{length, get_elem?}
use Rattle.std.specs.Prelude.{Err}
use Rattle.format.specs.Prelude.{pick, Read, after, Result, good, bad, onward, or_else}
use Rattle.format.specs.declared.Operation.{Operation}
use Rattle.format.specs.declared.Operation.TheVariants.{Nop, Step, Does}
use Rattle.format.specs.declared.Row.{Row}
use Rattle.format.specs.declared.Rule.{Rule}
use Rattle.format.specs.Lists.{Relocation, relocations_of}
use Rattle.format.specs.Machine.{is_word_size}
use Rattle.format.specs.Rows.{read_operation}
use Rattle.format.specs.Rules.{State, blank, apply, refusal, unless_refused, act, answer, seen}
use Rattle.format.specs.Reader.{Entry, Found, entries, records, header_place, header_at, parse_header, parse_record, parsed, locate, perform, when_read, run_f, run, run_to, read_section, read}
use Rattle.listing.proofs.Saying as refusals
use Rattle.listing.proofs.Saying.{refusal_not_zero}
use Rattle.reads.specs.Places.{asked}
use Rattle.reads.specs.Index.{index_of, index_in, index}

abbrev pub NotZero : {A : Type 0} → Result A → Type 0
NotZero (good a) = Unit {0}
NotZero (bad n) = n ≡ 0 → ⊥

then : {A B : Type 0} (a : Result A) (f : A → Result B) → NotZero a → ((x : A) → NotZero (f x)) → NotZero (onward a f)
unfolding onward
then (good a) f h k = k a
then (bad n) f h k = h

or : {A : Type 0} (o : Option A) (n : ℕ) → (n ≡ 0 → ⊥) → NotZero (or_else o n)
unfolding or_else
or none n h = h
or (some a) n h = tt

either_way : {A : Type 0} (b : Bool) (x y : Result A) → NotZero x → NotZero y → NotZero (pick b x y)
unfolding pick
either_way true x y h k = h
either_way false x y h k = k

-- ---- the reader

refused : (o : Option ℕ) (s : State) → refusals.NotZero o → NotZero (unless_refused o s)
unfolding unless_refused
refused none s h = tt
refused (some n) s h = h

acts : (header : Bool) (initial : ℕ → Rule) (row : Row) (s : State) → NotZero (act header initial row s)
unfolding act
acts header initial row s = refused (refusal header row s) (apply initial row s) (refusal_not_zero header row s)

performs : (header : Bool) (p : ℕ) (initial : ℕ → Rule) (op : Operation) (loc : ℕ) (s : State) (more : ℕ → State → Result State)
    → ((l : ℕ) (t : State) → NotZero (more l t)) → NotZero (perform header p initial op loc s more)
unfolding perform
performs header p initial Nop loc s more h = h loc s
performs header p initial (Step n) loc s more h =
    either_way header (bad 66) _ (λ e. omega arith) (either_way (leb (loc + n) p) _ (good s) (h (loc + n) s) tt)
performs header p initial (Does row) loc s more h = then (act header initial row s) (more loc) (acts header initial row s) (h loc)

reads : (r : Read Operation) (k : Operation → List ℕ → Result State) → ((op : Operation) (bs : List ℕ) → NotZero (k op bs)) → NotZero (when_read r k)
unfolding when_read
reads none k h = λ e. omega arith
reads (some x) k h = h x.0 x.1

runs_f : (header : Bool) (word p : ℕ) (initial : ℕ → Rule) (f loc : ℕ) (s : State) (bs : List ℕ) → NotZero (run_f header word p initial f loc s bs)
unfolding run_f
runs_f header word p initial zero loc s bs = tt
runs_f header word p initial (suc f) loc s [] = tt
runs_f header word p initial (suc f) loc s (b ∷ bs) =
    reads (read_operation word (b ∷ bs)) _ λ op r. performs header p initial op loc s _ λ l t. runs_f header word p initial f l t r

runs : (word p : ℕ) (x : Found) → NotZero (run_to word p x)
unfolding run_to run
runs word p x =
    either_way (ltb p x.found.size) _ (bad 65)
    (then (run_f true word p blank.current.rules (length x.header.operations) 0 blank x.header.operations) _
    (runs_f true word p blank.current.rules (length x.header.operations) 0 blank x.header.operations) λ s.
    runs_f false word p s.current.rules (length x.found.operations) 0 s x.found.operations) (λ e. omega arith)

parses : (debug : Bool) (word : ℕ) (h e : Entry) → NotZero (parsed debug word h e)
unfolding parsed
parses debug word h e =
    then (or_else (parse_header debug word h.body) 64) _ (or (parse_header debug word h.body) 64 (λ z. omega arith)) λ hf.
    then (or_else (parse_record debug word hf.pointer e.body) 64) _ (or (parse_record debug word hf.pointer e.body) 64 (λ z. omega arith)) λ rf. tt

locates : (debug : Bool) (rs : List Relocation) (word k : ℕ) (section : List ℕ) → NotZero (locate debug rs word k section)
unfolding locate
locates debug rs word k section =
    then (or_else (entries section) 61) _ (or (entries section) 61 (λ z. omega arith)) λ es.
    then (or_else (get_elem? (records debug es) k) 62) _ (or (get_elem? (records debug es) k) 62 (λ z. omega arith)) λ e.
    then (or_else (after (header_place debug rs e) λ place. header_at debug place e.at es) 63) _
    (or (after (header_place debug rs e) λ place. header_at debug place e.at es) 63 (λ z. omega arith)) λ h. parses debug word h e

answers : (q : ℕ) (x : Result State) → NotZero x → answer q x ≡ Err 0 → ⊥
unfolding answer seen
answers q (good s) h e = let z : ◌≡◌ {A = ℕ} 0 1 = cc in omega arith
answers q (bad n) h e = let z : n ≡ 0 = cc in h z

pub reader_not_zero : (section relocations : List ℕ) (kind word k q p : ℕ) → read section relocations kind word k q p ≡ Err 0 → ⊥
unfolding read read_section
reader_not_zero section relocations kind word k q p =
    answers q _
    (either_way (is_word_size word && leb kind 1) _ (bad 11)
    (then (locate (eqb kind 1) (relocations_of relocations) word k section) (run_to word p) (locates (eqb kind 1) (relocations_of relocations) word k section) (runs word p)) (λ e. omega arith))

-- ---- the index

pub index_not_zero : (section relocations : List ℕ) (kind word room : ℕ) → NotZero (index section relocations kind word room)
unfolding index index_in
index_not_zero section relocations kind word room =
    either_way (asked kind word) _ (bad 11)
    (then (or_else (entries section) 61) _ (or (entries section) 61 (λ e. omega arith)) λ es.
    either_way (leb (length (index_of (eqb kind 1) (relocations_of relocations) es)) room) (good (index_of (eqb kind 1) (relocations_of relocations) es)) (bad 54) tt (λ e. omega arith)) (λ e. omega arith)
