-- One code's bytes read as the code: by its form, of the 20 that the kinds have.
use mathlib.Core.Path.{◌≡◌, refl, subst, sym, ap, ◌∙◌}
use mathlib.Core.Bool.{Bool, true, false, not, ◌&&◌, ◌||◌, false≢true}
use mathlib.Core.Option.{some}
use mathlib.Core.Logic.{◌≢◌, ⊎_elim}
use mathlib.Core.List.{List, [], ◌∷◌, ◌++◌}
use Prim.Native.Nat.{ℕ, zero, suc, ◌+◌, ◌-◌, ◌*◌, ◌/◌, ◌%◌, ◌≤◌, ◌<◌, ◌^◌}
use native.Mathlib.Nat.{zero-add, div-zero, div-add-mod, mul-le-mul_left, mul-add-div, mul-add-mod_self_left, mod-eq_of_lt, div-eq_of_lt, mod-eq-sub-mod, mul-le-mul_right}
use native.Mathlib.Omega.{arith}
use lib.Dec.{T, leb, ltb, eqb}
use lib.ListN.{length, get_or, length-append}
use lib.Ieee.Nearest.{div_mono}
use lib.Seq.{get_or-append_seam, get_or-append-add}
use mir.Facts.{leb_yes, eqb_yes, eqb_no, or_yes}
use borrow.Author.Tests.{ltb-true, leb-true, eqb-true, ne_eqb, eq-eqb}
use Rattle.format.specs.Prelude.{pick, each, all}
use Rattle.format.specs.Lists.{all_in}
use Rattle.format.proofs.Choice.{if-le, if-gt, if-eq, if-ne, tested, either, decided}
use Rattle.format.proofs.ListLaws.{chain, chained, in_range}
use Rattle.arm64.specs.declared.Code.{Code}
use Rattle.arm64.specs.declared.Form.{Form}
use Rattle.arm64.specs.Codes.{code, form, form_of, short_form, integer_form, vector_form, other_form, field_at, code_in, code_as, code_at, big, register_field, offset_field, spelled, alloc_form, kind_forms, reserved, f_alloc_s, f_alloc_m, f_alloc_l, form_for, code_bytes, last_registers, register_fits, offset_fits, code_fits}
use Rattle.arm64.specs.Writer.{has_register, has_offset, code_ok}
use Rattle.arm64.proofs.CodeBytes.{big-length, code-length}
use Rattle.arm64.proofs.MeaningLaws.{or-false}
use Rattle.arm64_back.specs.Back.{whole_code}
use Rattle.std.proofs.lemmas.Bool.{and_parts}

-- ---- forms by a computed test

abbrev form_fields : Form → Form → List Bool
form_fields f g =
    eqb f.kind g.kind ∷ eqb f.op g.op ∷ eqb f.size g.size ∷ eqb f.unit g.unit ∷ eqb f.first g.first
    ∷ eqb f.step g.step ∷ eqb f.scale g.scale ∷ eqb f.more g.more ∷ []

abbrev same_form : Form → Form → Bool
same_form f g = chain true (form_fields f g)

form_by : {a b c d e g h i a' b' c' d' e' g' h' i' : ℕ} → a ≡ a' → b ≡ b' → c ≡ c' → d ≡ d' → e ≡ e' → g ≡ g' → h ≡ h' → i ≡ i'
    → form a b c d e g h i ≡ form a' b' c' d' e' g' h' i'
form_by p q r s t u v w = λ i. form (p i) (q i) (r i) (s i) (t i) (u i) (v i) (w i)

form_equal : (f g : Form) → T (same_form f g) → f ≡ g
form_equal f g t =
    let e : (k : ℕ) → T (get_or (true ∷ form_fields f g) k true) = λ k. chained true (form_fields f g) k t in
    form_by (eqb_yes (e 1)) (eqb_yes (e 2)) (eqb_yes (e 3)) (eqb_yes (e 4)) (eqb_yes (e 5)) (eqb_yes (e 6)) (eqb_yes (e 7)) (eqb_yes (e 8))

if_so : (a b : Bool) → a ≡ true → T (not a || b) → T b
if_so true b e t = t
if_so false b e t = absurd (false≢true e)

or_else_lem : (a b : Bool) → a ≡ false → T (a || b) → T b
or_else_lem true b e t = absurd (false≢true (sym e))
or_else_lem false b e t = t

-- of a kind and a form of it: the numbers that its fields make lie below `spread`, in `firsts` first bytes from its opcode on
module _ (k : ℕ) (f : Form) where
  abbrev spread : ℕ
  spread = f.unit * ((get_or last_registers k 0 - f.first) / f.step) + f.unit

  abbrev firsts : ℕ
  firsts = (spread - 1) / 256 ^ (f.size - 1) + 1

  abbrev form_tests : List Bool
  form_tests =
      eqb f.kind k ∷ leb k 17 ∷ leb 1 f.unit ∷ leb 1 f.scale ∷ (eqb f.more 0 || eqb f.more f.scale)
      ∷ (not (has_register k) || leb 1 f.step) ∷ (has_register k || eqb f.step 0) ∷ (has_register k || eqb f.first 0) ∷ leb 1 f.size
      ∷ leb f.size 4 ∷ not (eqb f.size 3) ∷ (not (eqb f.size 4) || leb spread (2 ^ 24)) ∷ leb (f.op + firsts) 256
      ∷ all_in (λ j. same_form (form_of (f.op + j)) f) 0 firsts ∷ []

  pub record Reads : Type 0 where
    pub kind : f.kind ≡ k
    pub known : k ≤ 17
    pub parted : 1 ≤ f.unit
    pub less : T (eqb f.more 0 || eqb f.more f.scale)
    pub stepped : has_register k ≡ true → 1 ≤ f.step
    pub no_step : has_register k ≡ false → f.step ≡ 0
    pub no_first : has_register k ≡ false → f.first ≡ 0
    pub some_bytes : 1 ≤ f.size
    pub few_bytes : f.size ≤ 4
    pub not_three : f.size ≢ 3
    pub long : f.size ≡ 4 → spread ≤ 2 ^ 24
    pub bytes : f.op + firsts ≤ 256
    pub own : (j : ℕ) → j < firsts → form_of (f.op + j) ≡ f

  reads : T (chain true form_tests) → Reads
  reads t =
      let e : (i : ℕ) → T (get_or (true ∷ form_tests) i true) = λ i. chained true form_tests i t in
      record {
        kind = eqb_yes (e 1);
        known = leb_yes (e 2);
        parted = leb_yes (e 3);
        less = e 5;
        stepped = λ t. leb_yes (if_so (has_register k) (leb 1 f.step) t (e 6));
        no_step = λ t. eqb_yes (or_else_lem (has_register k) (eqb f.step 0) t (e 7));
        no_first = λ t. eqb_yes (or_else_lem (has_register k) (eqb f.first 0) t (e 8));
        some_bytes = leb_yes (e 9);
        few_bytes = leb_yes (e 10);
        not_three = eqb_no (e 11);
        long = λ t. leb_yes (if_so (eqb f.size 4) (leb spread (2 ^ 24)) (eq-eqb f.size 4 t) (e 12));
        bytes = leb_yes (e 13);
        own = λ j h.
            form_equal (form_of (f.op + j)) f
            (subst (λ (i : ℕ). T (same_form (form_of (f.op + i)) f)) (zero-add j) (in_range (λ i. same_form (form_of (f.op + i)) f) 0 firsts j (e 14) h));
      }

-- the forms of the kinds from 1 on, and the three of an allocation
kind_test : ℕ → Bool
kind_test k = chain true (form_tests (suc k) (get_or kind_forms (suc k) reserved))

kind_tests : T (all_in kind_test 0 17)
unfolding kind_test all_in all each form_of short_form integer_form vector_form other_form pick has_register
kind_tests = tt

alloc_tests : T (chain true (form_tests 0 f_alloc_s)) × T (chain true (form_tests 0 f_alloc_m)) × T (chain true (form_tests 0 f_alloc_l))
unfolding all_in all each form_of short_form integer_form vector_form other_form pick has_register
alloc_tests = (tt, tt, tt)

-- ---- the bytes of a number behind an opcode

-- what is read where a form's opcode, and the number v behind it, stand
module _ (f : Form) (v : ℕ) (us vs : List ℕ) where
  abbrev numbered : List ℕ
  numbered = us ++ (big f.size (f.op * 256 ^ (f.size - 1) + v) ++ vs)

  abbrev with_size : ℕ → List ℕ
  with_size n = us ++ (big n (f.op * 256 ^ (n - 1) + v) ++ vs)

  numbered_1 : f.size ≡ 1 → f.op + v < 256 → numbered ≡ us ++ (f.op + v) ∷ vs
  unfolding big
  numbered_1 e h =
      let b : (f.op * 1 + v) % 256 ≡ f.op + v = omega arith in
      ap with_size e ∙ ap (λ (x : ℕ). us ++ x ∷ vs) b

  numbered_2 : f.size ≡ 2 → f.op + v / 256 < 256 → numbered ≡ us ++ (f.op + v / 256) ∷ (v % 256) ∷ vs
  unfolding big
  numbered_2 e h =
      let a : (f.op * 256 + v) / 256 % 256 ≡ f.op + v / 256 = omega arith in
      let b : (f.op * 256 + v) % 256 ≡ v % 256 = omega arith in
      ap with_size e ∙ (λ i. us ++ a i ∷ b i ∷ vs)

  numbered_4 : f.size ≡ 4 → f.op < 256 → v < 2 ^ 24 → numbered ≡ us ++ f.op ∷ (v / 65536) ∷ (v / 256 % 256) ∷ (v % 256) ∷ vs
  unfolding big
  numbered_4 e h l =
      let a : (f.op * 16777216 + v) / 256 / 256 / 256 % 256 ≡ f.op = omega arith in
      let b : (f.op * 16777216 + v) / 256 / 256 % 256 ≡ v / 65536 = omega arith in
      let c : (f.op * 16777216 + v) / 256 % 256 ≡ v / 256 % 256 = omega arith in
      let d : (f.op * 16777216 + v) % 256 ≡ v % 256 = omega arith in
      ap with_size e ∙ (λ i. us ++ a i ∷ b i ∷ c i ∷ d i ∷ vs)

  -- the opcode's byte names the form, and the field is v
  abbrev ReadAs : List ℕ → Type 0
  ReadAs s = (form_of (get_or s (length us) 0) ≡ f) × (field_at f s (length us) ≡ v)

  told_1 : (k : ℕ) → Reads k f → v < spread k f → f.size ≡ 1 → ReadAs numbered
  unfolding field_at
  told_1 k r h e =
      let few : firsts k f ≡ spread k f = ap (λ (n : ℕ). (spread k f - 1) / 256 ^ (n - 1) + 1) e ∙ (let o = r.parted in omega arith) in
      let low : f.op + v < 256 = omega (arith, r.bytes) in
      let first : get_or numbered (length us) 0 ≡ f.op + v =
      ap (λ l. get_or l (length us) 0) (numbered_1 e low) ∙ get_or-append_seam us (f.op + v) vs 0 in
      (ap form_of first ∙ r.own v (omega arith), rw (if-eq f.size 1) (ap (λ (b : ℕ). b - f.op) first ∙ omega arith))

  told_2 : (k : ℕ) → Reads k f → v < spread k f → f.size ≡ 2 → ReadAs numbered
  unfolding field_at
  told_2 k r h e =
      let few : firsts k f ≡ (spread k f - 1) / 256 + 1 = ap (λ (n : ℕ). (spread k f - 1) / 256 ^ (n - 1) + 1) e in
      let low : f.op + v / 256 < 256 = omega (arith, r.bytes) in
      let is : numbered ≡ us ++ (f.op + v / 256) ∷ (v % 256) ∷ vs = numbered_2 e low in
      let first : get_or numbered (length us) 0 ≡ f.op + v / 256 =
      ap (λ l. get_or l (length us) 0) is ∙ get_or-append_seam us (f.op + v / 256) ((v % 256) ∷ vs) 0 in
      let second : get_or numbered (length us + 1) 0 ≡ v % 256 =
      ap (λ l. get_or l (length us + 1) 0) is ∙ get_or-append-add us ((f.op + v / 256) ∷ (v % 256) ∷ vs) 1 0 in
      let n : f.size ≢ 1 = λ g. absurd (omega (arith, e, g)) in (
        ap form_of first ∙ r.own (v / 256) (omega arith),
        rw (if-ne f.size 1, if-eq f.size 2) ((λ i. 256 * (first i - f.op) + second i) ∙ omega arith),
      )

  told_4 : (k : ℕ) → Reads k f → v < spread k f → f.size ≡ 4 → ReadAs numbered
  unfolding field_at
  told_4 k r h e =
      let narrow : spread k f ≤ 2 ^ 24 = r.long e in
      let low : f.op < 256 = omega (arith, r.bytes) in
      let is : numbered ≡ us ++ f.op ∷ (v / 65536) ∷ (v / 256 % 256) ∷ (v % 256) ∷ vs = numbered_4 e low (omega arith) in
      let bs : List ℕ = f.op ∷ (v / 65536) ∷ (v / 256 % 256) ∷ (v % 256) ∷ vs in
      let first : get_or numbered (length us) 0 ≡ f.op + 0 =
      ap (λ l. get_or l (length us) 0) is ∙ get_or-append_seam us f.op ((v / 65536) ∷ (v / 256 % 256) ∷ (v % 256) ∷ vs) 0 ∙ omega arith in
      let b : get_or numbered (length us + 1) 0 ≡ v / 65536 = ap (λ l. get_or l (length us + 1) 0) is ∙ get_or-append-add us bs 1 0 in
      let c : get_or numbered (length us + 2) 0 ≡ v / 256 % 256 = ap (λ l. get_or l (length us + 2) 0) is ∙ get_or-append-add us bs 2 0 in
      let d : get_or numbered (length us + 3) 0 ≡ v % 256 = ap (λ l. get_or l (length us + 3) 0) is ∙ get_or-append-add us bs 3 0 in
      let n : f.size ≢ 1 = λ g. absurd (omega (arith, e, g)) in
      let m : f.size ≢ 2 = λ g. absurd (omega (arith, e, g)) in (
        ap form_of first ∙ r.own 0 (omega arith),
        rw (if-ne f.size 1, if-ne f.size 2) ((λ i. 65536 * b i + 256 * c i + d i) ∙ omega arith),
      )

  told : (k : ℕ) → Reads k f → v < spread k f → ReadAs numbered
  told k r h =
      tested (eqb f.size 1) (λ t. told_1 k r h (eqb_yes t))
      λ s.
      tested (eqb f.size 2) (λ t. told_2 k r h (eqb_yes t))
      λ t.
      let a : f.size ≢ 1 = eqb_no s in
      let b : f.size ≢ 2 = eqb_no t in told_4 k r h (omega (arith, r.some_bytes, r.few_bytes, r.not_three, a, b))

  pub number_back : (k : ℕ) → Reads k f → v < spread k f → code_at numbered (length us) ≡ some (code_in f v, length us + f.size)
  unfolding code_at code_as
  number_back k r h =
      let bs : List ℕ = big f.size (f.op * 256 ^ (f.size - 1) + v) in
      let a : length bs ≡ f.size = big-length f.size (f.op * 256 ^ (f.size - 1) + v) in
      let l : length us + f.size ≤ length numbered = omega (arith, length-append us (bs ++ vs), length-append bs vs) in
      let there : suc (length us) ≤ length numbered = omega (arith, r.some_bytes) in
      let n : f.kind ≢ 19 = λ g. absurd (omega (arith, r.kind, r.known, g)) in
      let t = told k r h in
      rw (if-le (suc (length us)) (length numbered), t.0, if-ne f.kind 19, if-le (length us + f.size) (length numbered), t.1)

-- ---- the fields of a code

-- a register of a kind that has one: in the form's range, in its steps
record InRange (k : ℕ) (f : Form) (c : Code) : Type 0 where
  first : f.first ≤ c.register
  last : c.register ≤ get_or last_registers k 0
  even : (c.register - f.first) % f.step ≡ 0

module _ (k : ℕ) (f : Form) (c : Code) (r : Reads k f) (is : c.kind ≡ k) (ok : whole_code c ≡ true) where
  -- the operands that the kind does not have
  no_register : has_register k ≡ false → c.register ≡ 0
  unfolding whole_code code_ok
  no_register n =
      let p = and_parts (leb c.kind 17 && (has_register c.kind || eqb c.register 0)) (has_offset c.kind || eqb c.offset 0) ok in
      let q = and_parts (leb c.kind 17) (has_register c.kind || eqb c.register 0) p.0 in
      eqb-true c.register 0 (or-false (has_register c.kind) (eqb c.register 0) (ap has_register is ∙ n) q.1)

  field_is : register_field f c ≡ (c.register - f.first) / f.step
  unfolding register_field
  field_is =
      tested (eqb f.step 0)
      (λ t.
      let e : f.step ≡ 0 = eqb_yes t in
      if-eq f.step 0 0 ((c.register - f.first) / f.step) e ∙ sym (ap (λ (n : ℕ). (c.register - f.first) / n) e ∙ div-zero (c.register - f.first)))
      λ t. if-ne f.step 0 0 ((c.register - f.first) / f.step) (eqb_no t)

  module _ (fits : register_fits f c ≡ true) where
    in_range_of : 1 ≤ f.step → InRange k f c
    unfolding register_fits
    in_range_of h =
        let n : eqb f.step 0 ≡ false = ne_eqb f.step 0 λ e. absurd (omega (arith, e, h)) in
        let p = and_parts (leb f.first c.register && leb c.register (get_or last_registers c.kind 0)) (eqb ((c.register - f.first) % f.step) 0)
        (or-false (eqb f.step 0) _ n fits) in
        let q = and_parts (leb f.first c.register) (leb c.register (get_or last_registers c.kind 0)) p.0 in
        record {
          first = leb-true f.first c.register q.0;
          last = subst (λ (i : ℕ). c.register ≤ get_or last_registers i 0) is (leb-true c.register (get_or last_registers c.kind 0) q.1);
          even = eqb-true ((c.register - f.first) % f.step) 0 p.1;
        }

    register_back : f.first + f.step * register_field f c ≡ c.register
    register_back =
        decided (has_register k)
        (λ t.
        let i = in_range_of (r.stepped t) in
        let d : f.step * ((c.register - f.first) / f.step) + (c.register - f.first) % f.step ≡ c.register - f.first = div-add-mod (c.register - f.first) f.step in
        ap (λ (n : ℕ). f.first + f.step * n) field_is ∙ omega (arith, d, i.first, i.even))
        λ t.
        let z : f.step * register_field f c ≡ 0 = ap (λ (n : ℕ). n * register_field f c) (r.no_step t) ∙ omega arith in
        omega (arith, z, r.no_first t, no_register t)

    register_most : register_field f c ≤ (get_or last_registers k 0 - f.first) / f.step
    register_most =
        decided (has_register k)
        (λ t.
        let i = in_range_of (r.stepped t) in
        let l : c.register - f.first ≤ get_or last_registers k 0 - f.first = omega (arith, i.last) in
        rw field_is (div_mono (c.register - f.first) f.step (get_or last_registers k 0 - f.first) f.step (r.stepped t) (r.stepped t) (mul-le-mul_right f.step l)))
        λ t.
        let z : register_field f c ≡ 0 =
        field_is ∙ ap (λ (n : ℕ). (c.register - f.first) / n) (r.no_step t) ∙ div-zero (c.register - f.first) in
        omega (arith, z)

  module _ (fits : offset_fits f c ≡ true) where
    offset_tests : (f.more ≤ c.offset) × (c.offset % f.scale ≡ 0) × (offset_field f c < f.unit)
    unfolding offset_fits
    offset_tests =
        let p = and_parts (leb f.more c.offset && eqb (c.offset % f.scale) 0) (ltb (offset_field f c) f.unit) fits in
        let q = and_parts (leb f.more c.offset) (eqb (c.offset % f.scale) 0) p.0 in
        (leb-true f.more c.offset q.0, eqb-true (c.offset % f.scale) 0 q.1, ltb-true (offset_field f c) f.unit p.1)

    even_behind : (c.offset - f.more) % f.scale ≡ 0
    even_behind =
        let t = offset_tests in
        ⊎_elim (λ a. let e : f.more ≡ 0 = eqb_yes a in let g : c.offset - f.more ≡ c.offset = omega arith in ap (λ (n : ℕ). n % f.scale) g ∙ t.1)
        (λ a.
        let e : f.more ≡ f.scale = eqb_yes a in
        let l : f.scale ≤ c.offset = omega (arith, t.0) in ap (λ (n : ℕ). (c.offset - n) % f.scale) e ∙ sym (mod-eq-sub-mod l) ∙ t.1)
        (or_yes (eqb f.more 0) (eqb f.more f.scale) r.less)

    offset_back : f.scale * offset_field f c + f.more ≡ c.offset
    unfolding offset_field
    offset_back =
        let d : f.scale * ((c.offset - f.more) / f.scale) + (c.offset - f.more) % f.scale ≡ c.offset - f.more = div-add-mod (c.offset - f.more) f.scale in
        omega (arith, d, even_behind, offset_tests.0)

  module _ (registers : register_fits f c ≡ true) (offsets : offset_fits f c ≡ true) where
    abbrev number : ℕ
    number = f.unit * register_field f c + offset_field f c

    number_low : number < spread k f
    number_low = omega (arith, mul-le-mul_left f.unit (register_most registers), (offset_tests offsets).2)

    code_in_lem : code_in f number ≡ c
    unfolding code_in
    code_in_lem =
        let z : offset_field f c < f.unit = (offset_tests offsets).2 in
        let a : number / f.unit ≡ register_field f c =
        mul-add-div r.parted (register_field f c) (offset_field f c) ∙ (let d : offset_field f c / f.unit ≡ 0 = div-eq_of_lt z in omega (arith, d)) in
        let b : number % f.unit ≡ offset_field f c = mul-add-mod_self_left f.unit (register_field f c) (offset_field f c) ∙ mod-eq_of_lt z in
        let x : f.first + f.step * (number / f.unit) ≡ c.register = ap (λ (n : ℕ). f.first + f.step * n) a ∙ register_back registers in
        let y : f.scale * (number % f.unit) + f.more ≡ c.offset = ap (λ (n : ℕ). f.scale * n + f.more) b ∙ offset_back offsets in
        let e : f.kind ≡ c.kind = r.kind ∙ sym is in
        λ i. code (e i) (x i) (y i)

    form_back : (us vs : List ℕ) → code_at (us ++ (spelled f c ++ vs)) (length us) ≡ some (c, length us + f.size)
    unfolding spelled
    form_back us vs =
        let e : f.op * 256 ^ (f.size - 1) + f.unit * register_field f c + offset_field f c ≡ f.op * 256 ^ (f.size - 1) + number = omega arith in
        ap (λ (n : ℕ). code_at (us ++ (big f.size n ++ vs)) (length us)) e ∙ number_back f number us vs k r number_low
        ∙ ap (λ d. some (d, length us + f.size)) code_in_lem

-- ---- the form of a code

kind_reads : (k : ℕ) → k < 17 → Reads (suc k) (get_or kind_forms (suc k) reserved)
unfolding kind_test
kind_reads k h =
    reads (suc k) (get_or kind_forms (suc k) reserved) (subst (λ (i : ℕ). T (kind_test i)) (zero-add k) (in_range kind_test 0 17 k kind_tests h))

alloc_reads : (size : ℕ) → Reads 0 (alloc_form size)
unfolding alloc_form
alloc_reads size =
    either (suc (size / 16)) 32 (λ h. rw (if-le (suc (size / 16)) 32) (reads 0 f_alloc_s alloc_tests.0))
    λ g.
    either (suc (size / 16)) 2048 (λ h. rw (if-gt (suc (size / 16)) 32, if-le (suc (size / 16)) 2048) (reads 0 f_alloc_m alloc_tests.1))
    λ h. rw (if-gt (suc (size / 16)) 32, if-gt (suc (size / 16)) 2048) (reads 0 f_alloc_l alloc_tests.2)

other_reads : (k : ℕ) → k ≤ 17 → k ≢ 0 → Reads k (get_or kind_forms k reserved)
other_reads zero h n = absurd (n refl)
other_reads (suc k) h n = kind_reads k (omega arith)

module _ (c : Code) (ok : whole_code c ≡ true) where
  pub known_kind : c.kind ≤ 17
  unfolding whole_code code_ok
  known_kind =
      leb-true c.kind 17
      (and_parts (leb c.kind 17) (has_register c.kind || eqb c.register 0)
      (and_parts (leb c.kind 17 && (has_register c.kind || eqb c.register 0)) (has_offset c.kind || eqb c.offset 0) ok).0).0

  form_reads : Reads c.kind (form_for c)
  unfolding form_for
  form_reads =
      tested (eqb c.kind 0)
      (λ t.
      let e : c.kind ≡ 0 = eqb_yes t in
      rw (if-eq c.kind 0 (alloc_form c.offset) (get_or kind_forms c.kind reserved) e)
      (subst (λ (k : ℕ). Reads k (alloc_form c.offset)) (sym e) (alloc_reads c.offset)))
      λ t.
      let n : c.kind ≢ 0 = eqb_no t in
      rw (if-ne c.kind 0 (alloc_form c.offset) (get_or kind_forms c.kind reserved) n) (other_reads c.kind known_kind n)

  pub code_some : 0 < length (code_bytes c)
  code_some = omega (arith, code-length c, form_reads.some_bytes)

  -- A code whose fields hold its values, with anything in front and behind, is read as itself: the same kind, register and offset.
  pub code_back : code_fits c ≡ true → (us vs : List ℕ) → code_at (us ++ (code_bytes c ++ vs)) (length us) ≡ some (c, length us + length (code_bytes c))
  unfolding code_fits code_bytes
  code_back fits us vs =
      let p = and_parts (register_fits (form_for c) c) (offset_fits (form_for c) c) fits in
      form_back c.kind (form_for c) c form_reads refl ok p.0 p.1 us vs
      ∙ ap (λ (n : ℕ). some (c, length us + n)) (sym (code-length c))
