-- Blank pointers that one relocation fills: afterwards some bytes stand there, as many as before.
use mathlib.Core.Path.{◌≡◌, refl, sym, ap, subst, ◌∙◌}
use mathlib.Core.Bool.{Bool, true, false}
use mathlib.Core.Option.{Option, none, some}
use mathlib.Core.List.{List, [], ◌∷◌, ◌++◌, append_assoc}
use Prim.Native.Nat.{ℕ, ◌+◌, ◌-◌, ◌%◌, ◌<◌, ◌≤◌}
use native.Mathlib.Omega.{arith}
use lib.Dec.{T, leb}
use lib.ListN.{length, replicate, length-append, length-replicate, replicate-append-replicate}
use mir.Facts.{and_yes}
use Rattle.format.specs.Prelude.{pick}
use Rattle.format.specs.Put.{put}
use Rattle.format.specs.Leb.{little}
use Rattle.format.specs.Lists.{Relocation, Landing, Named, Pointer}
use Rattle.format.specs.Headers.{Kind, plain, personal, named, pointer_size, pointer_bytes, reloc, pointer_reloc, kind_relocs}
use Rattle.format.specs.Records.{pointer_blank, named_blank, lsda_blank, pointer_to, named_reloc, lsda_reloc}
use Rattle.format.specs.Questions.{is_some, lsda_ok, named_ok, encodings_ok}
use Rattle.format.proofs.LebBack.{little-length}
use Rattle.format.proofs.HeaderBack.{KindOk}
use Rattle.format.proofs.RelocsInside.{Inside, pointer_inside}
use Rattle.apply.specs.declared.Kind as kind
use Rattle.apply.specs.declared.Kind.TheVariants.{Data, Address, SumPlus, SumMinus, Image, Set, Sub, Unknown}
use Rattle.apply.specs.Kinds.{kind_of}
use Rattle.apply.specs.Fields.{whole_in}
use Rattle.apply.specs.Values.{Layout, value_as, store_as, store_of}
use Rattle.apply.specs.Apply.{front, measured, value_ok, stores}
use Rattle.apply_back.specs.Moved.{or_zero}
use Rattle.apply_back.proofs.Stretches.{put_at}
use Rattle.apply_back.proofs.Fills.{value_first, Fills, fills_none}

-- a relocation with a value of its own
abbrev Single : kind.Kind → Type 0
Single Data = Unit {0}
Single Address = Unit {0}
Single SumPlus = ⊥
Single SumMinus = ⊥
Single Image = ⊥
Single (Set w) = ⊥
Single (Sub w) = ⊥
Single Unknown = ⊥

-- n zeros at a place become some n bytes
abbrev pub Blank : Layout → (size : ℕ) → List Relocation → (at n : ℕ) → Type 0
Blank l size rs at n = (ys : List ℕ) × ((length ys ≡ n) × Fills l size rs at (replicate n 0) ys)

is_some_lem : (o : Option ℕ) → T (is_some o) → o ≡ some (or_zero o)
unfolding is_some or_zero
is_some_lem none t = absurd t
is_some_lem (some n) t = refl

-- the blank bytes of a header
unfoldable pub blank_in : ℕ → Kind → ℕ
blank_in word plain = 0
blank_in word personal = 4
blank_in word (named e s l) = pointer_bytes word e

module _ (l : Layout) (size : ℕ) where
  store_single : (k : kind.Kind) (bs : List ℕ) (r : Relocation) (behind : Option Relocation) → Single k
      → store_as k l bs r behind ≡ whole_in r.bytes bs r.place (value_as k l r none)
  unfolding store_as value_as
  store_single Data bs r behind t = refl
  store_single Address bs r behind t = refl
  store_single SumPlus bs r behind t = elim t [ ]
  store_single SumMinus bs r behind t = elim t [ ]
  store_single Image bs r behind t = elim t [ ]
  store_single (Set _) bs r behind t = elim t [ ]
  store_single (Sub _) bs r behind t = elim t [ ]
  store_single Unknown bs r behind t = elim t [ ]

  value_single : (k : kind.Kind) (r : Relocation) (behind : Option Relocation) → Single k → T (value_ok k l r behind)
      → value_as k l r none ≡ some (or_zero (value_as k l r none))
  unfolding value_ok measured value_as
  value_single Data r behind s t = is_some_lem _ t
  value_single Address r behind s t = is_some_lem _ t
  value_single SumPlus r behind s t = elim s [ ]
  value_single SumMinus r behind s t = elim s [ ]
  value_single Image r behind s t = elim s [ ]
  value_single (Set _) r behind s t = elim s [ ]
  value_single (Sub _) r behind s t = elim s [ ]
  value_single Unknown r behind s t = elim s [ ]

  blank_none : (at n : ℕ) → Blank l size [] at n
  blank_none at n = (replicate n 0, (length-replicate {A = ℕ} n 0, fills_none l size at (replicate n 0)))

  blank_one : (r : Relocation) (n : ℕ) → Single (kind_of r.kind) → r.bytes ≤ n → Blank l size (r ∷ []) r.place n
  unfolding stores store_of whole_in
  blank_one r n single h =
      let v : ℕ = or_zero (value_as (kind_of r.kind) l r none) in
      let b : ℕ = r.bytes in
      let left : List ℕ = replicate (n - b) 0 in
      let split : n ≡ b + (n - b) = omega (arith, h) in
      let whole : replicate {A = ℕ} n 0 ≡ replicate b 0 ++ left = ap (λ (k : ℕ). replicate {A = ℕ} k 0) split ∙ sym (replicate-append-replicate b (n - b) 0) in
      let z : length {A = ℕ} (replicate b 0) ≡ b = length-replicate b 0 in (
        little b v ++ left,
        (
          length-append (little b v) left ∙ rw (little-length b v) (let y : length left ≡ n - b = length-replicate {A = ℕ} (n - b) 0 in omega (arith, h)),
          λ pre post ss e p.
              let bs : List ℕ = pre ++ (replicate n 0 ++ post) in
              let shape : (us : List ℕ) → pre ++ ((us ++ left) ++ post) ≡ pre ++ (us ++ (left ++ post)) = λ us. simp append_assoc in
              ap (λ (xs : List ℕ). stores l xs ss) (store_single (kind_of r.kind) bs r (front ss) single)
              ∙ ap (λ (o : Option ℕ). stores l (whole_in b bs r.place o) ss) (value_single (kind_of r.kind) r (front ss) single (value_first r ss p))
              ∙ ap (λ (q : ℕ). stores l (put bs q (little b v)) ss) (sym e)
              ∙ ap (λ (xs : List ℕ). stores l (put xs (length pre) (little b v)) ss) (ap (λ (us : List ℕ). pre ++ (us ++ post)) whole ∙ shape (replicate b 0))
              ∙ ap (λ (xs : List ℕ). stores l xs ss) (put_at pre (replicate b 0) (left ++ post) (little b v) (z ∙ sym (little-length b v)) ∙ sym (shape (little b v))),
        ),
      )

  -- ---- pointers by their encoding

  chosen : (b : Bool) (place symbol n : ℕ)
      → let r : Relocation = pick b (reloc place symbol 0 4 0) (reloc place symbol 1 n 0) in (r.place ≡ place) × Single (kind_of r.kind)
  unfolding pick kind_of
  chosen true place symbol n = (refl, tt)
  chosen false place symbol n = (refl, tt)

  pointer_blank_lem : (indirect : Bool) (word place symbol e : ℕ) → 0 < word → T (is_some (pointer_size indirect word e))
      → Blank l size (pointer_reloc word place symbol e ∷ []) place (pointer_bytes word e)
  unfolding pointer_reloc
  pointer_blank_lem indirect word place symbol e h t =
      let i : Inside place (place + pointer_bytes word e) (pointer_reloc word place symbol e) = pointer_inside indirect word place symbol e h t in
      let c = chosen (leb 16 (e % 128)) place symbol (pointer_bytes word e) in
      let h' = i.not_past in
      subst (λ (q : ℕ). Blank l size (pointer_reloc word place symbol e ∷ []) q (pointer_bytes word e)) c.0
      (blank_one (pointer_reloc word place symbol e) (pointer_bytes word e) c.1 (omega (arith, h', c.0)))

  -- the personality's, in a header
  pub kind_blank : (word place : ℕ) (k : Kind) → 0 < word → KindOk word k → Blank l size (kind_relocs word place k) place (blank_in word k)
  unfolding kind_relocs blank_in kind_of pick
  kind_blank word place plain h ok = blank_none place 0
  kind_blank word place personal h ok = blank_one (reloc place 0 0 4 0) 4 tt (omega arith)
  kind_blank word place (named e s l) h ok = pointer_blank_lem true word place s e h ok.0

  -- the call sites', in a record
  to_blank : (word place : ℕ) (p : Option Pointer) → 0 < word → T (lsda_ok word p) → Blank l size (pointer_to word place p) place (pointer_blank word p)
  unfolding pointer_to pointer_blank lsda_ok
  to_blank word place none h t = blank_none place 0
  to_blank word place (some p) h t = pointer_blank_lem false word place p.symbol p.encoding h t

  pub lsda_blank_lem : (word place table : ℕ) (ls : List Landing) (n : Option Named) → 0 < word → T (encodings_ok word ls n)
      → Blank l size (lsda_reloc word place table ls n) place (lsda_blank word ls n)
  unfolding lsda_reloc lsda_blank named_reloc named_blank encodings_ok named_ok kind_of pick
  lsda_blank_lem word place table (x ∷ ls) n h t = blank_one (reloc place 1 0 4 table) 4 tt (omega arith)
  lsda_blank_lem word place table [] none h t = blank_none place 0
  lsda_blank_lem word place table [] (some n) h t =
      to_blank word place n.lsda h (and_yes (is_some (pointer_size true word n.personality.encoding)) (lsda_ok word n.lsda) t).1

  -- the function's, in a record
  pub place_blank : (place symbol : ℕ) → Blank l size (reloc place symbol 0 4 0 ∷ []) place 4
  unfolding kind_of pick
  place_blank place symbol = blank_one (reloc place symbol 0 4 0) 4 tt (omega arith)
