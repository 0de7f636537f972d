-- The pass over the records of a section that looks for the one that holds an address.
use Rattle.std.proofs.Common.{◌≡◌, ℕ, ◌+◌, Bool, true, false, List, ◌∷◌, ap, ◌∙◌, refl, subst, add-one}
use denote.Ref.{Bor}
use mathlib.Core.Option.{Option, none, some}
use Rattle.format.specs.Prelude.{pick, onward, or_else}
use Rattle.format.specs.Questions.{is_some}
use Rattle.format.specs.Reader.{Entry, records, entries}
use Rattle.reader.specs.Spans.{entry_of, listed, Holds}
use Rattle.reader.specs.Records.{left, GaveRecord, RecordsEnded}
use Rattle.reader.specs.declared.records.Records.{Records}
use Rattle.reader.specs.declared.section.Span.{Span}
use Rattle.reader.proofs.Whole.{tiled}
use Rattle.reader.proofs.Seeking.{absent}
use Rattle.reads.specs.Addresses.{function_of, holds, holder_from, holder_in}
use Rattle.std.specs.Prelude.{Ok, Err}
use Rattle.std.specs.Prelude as code
use Rattle.format.specs.Coded.{result_of}

abbrev pub holders_from : (debug : Bool) (test : Entry → Bool) → ℕ → List Entry → Option (ℕ × ℕ)
holders_from debug test k es = holder_from test k (records debug es)

-- k records were passed, none of which passes the test, and these are left
pub record Holding (s : List ℕ) (debug : Bool) (test : Entry → Bool) (k : ℕ) (r : Records) : Type 0 where
  pub same : r.rest.section.now ≡ s
  pub pass : holders_from debug test 0 (listed (entries s)) ≡ holder_from test k (left r)

pub holding : {b : Bor (List ℕ)} {debug : Bool} {test : Entry → Bool} {r : Records} → r.rest.section ≡ b → left r ≡ records debug (listed (entries b.now))
    → Holding b.now debug test 0 r
holding {b} {debug} {test} {r} e l = record { same = ap (λ c. c.now) e; pass = rw l refl }

module _ {s : List ℕ} {debug : Bool} {test : Entry → Bool} {k : ℕ} {r : Records} (h : Holding s debug test k r) where
  module _ {e : Span} {t : Records} (g : GaveRecord r e t) where
    pub held : Holds s e
    held = subst (λ bs. Holds bs e) h.same g.holds

    first : left r ≡ entry_of s e ∷ left t
    first = subst (λ bs. left r ≡ entry_of bs e ∷ left t) h.same g.first

    pub passed : test (entry_of s e) ≡ false → Holding s debug test (k + 1) t
    unfolding holder_from pick
    passed n = record { same = ap (λ b. b.now) g.same ∙ h.same; pass = h.pass ∙ rw (first, n, add-one) refl }

    pub here : test (entry_of s e) ≡ true → holders_from debug test 0 (listed (entries s)) ≡ some (k, e.at)
    unfolding holder_from pick
    here n = h.pass ∙ rw (first, n) refl

  pub nobody : {t : Records} → RecordsEnded r t → holders_from debug test 0 (listed (entries s)) ≡ none
  unfolding holder_from
  nobody g = h.pass ∙ rw g.all refl

module _ (s : List ℕ) (debug : Bool) (word address pc : ℕ) where
  abbrev pub holding_pc : Entry → Bool
  holding_pc e = holds pc (function_of debug word address e)

  abbrev answer : code.Result (ℕ × ℕ) ℕ
  answer = result_of (holder_in debug word address pc s)

  pub holder_untiled : is_some (entries s) ≡ false → Err 61 ≡ answer
  unfolding holder_in onward or_else
  holder_untiled e = rw (absent (entries s) e) refl

  module _ (t : is_some (entries s) ≡ true) where
    pub holder_none : holders_from debug holding_pc 0 (listed (entries s)) ≡ none → Err 62 ≡ answer
    unfolding holder_in onward or_else
    holder_none e = rw (tiled (entries s) t, e) refl

    pub holder_there : {k at : ℕ} → holders_from debug holding_pc 0 (listed (entries s)) ≡ some (k, at)
        → Ok (k, at) ≡ answer
    unfolding holder_in onward or_else
    holder_there e = rw (tiled (entries s) t, e) refl
