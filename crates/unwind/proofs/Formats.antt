-- What the writers answer, format by format.
use mathlib.Core.Path.{◌≡◌, refl, sym, subst, ◌∙◌}
use Prim.Native.Nat.{ℕ, ◌≤◌, ◌<◌}
use native.Mathlib.Omega.{arith}
use mathlib.Core.Logic.{◌≢◌}
use mathlib.Core.List.{List}
use borrow.Author.Tests.{eq-eqb, ne_eqb, le-leb, lt-leb}
use Rattle.format.specs.Prelude.{pick}
use Rattle.format.specs.Coded.{Outcome}
use Rattle.std.specs.Prelude.{None, Ok, Err}
use Rattle.format.specs.declared.Section.TheVariants.{Elf, Debug}
use Rattle.format.specs.Machine.{machine_of}
use Rattle.format.specs.Lists.{count, function_stride}
use Rattle.format.specs.Questions.{Given, Room, Answer, refused, empty, unless, no_functions, dwarf_given, windows_asks, windows_answer, given_functions, format_answer, relaxed_table, relaxed_debug_frame}
use Rattle.format.specs.Answers.{Writes, outcome_of, afterwards}

-- a call that writes nothing
module _ {p b r s : List ℕ} where
  pub writes_empty : (a : Answer) → a ≡ empty → Writes a (Ok None) p p b b r r s s
  unfolding outcome_of afterwards
  writes_empty a e = rw e (record { outcome = refl; placed = refl; stored = refl; related = refl; sited = refl })

  pub writes_refused : (a : Answer) (n k : ℕ) → a ≡ refused n k → Writes a (Err (n, k)) p p b b r r s s
  unfolding outcome_of afterwards
  writes_refused a n k e = rw e (record { outcome = refl; placed = refl; stored = refl; related = refl; sited = refl })

-- what a call writes by an answer it writes by an equal one
pub same_answer : {a a' : Answer} {o : Outcome} {p p' b b' r r' s s' : List ℕ} → a' ≡ a → Writes a o p p' b b' r r' s s'
    → Writes a' o p p' b b' r r' s s'
same_answer {a} {a'} {o} {p} {p'} {b} {b'} {r} {r'} {s} {s'} e w = subst (λ (x : Answer). Writes x o p p' b b' r r' s s') (sym e) w

module _ (format : ℕ) (g : Given) (r : Room) where
  pub none_given : count function_stride g.functions ≡ 0 → relaxed_table format g r ≡ empty
  unfolding relaxed_table no_functions pick
  none_given e = rw (eq-eqb (count function_stride g.functions) 0 e) refl

  pub none_given_debug : count function_stride g.functions ≡ 0 → relaxed_debug_frame format g r ≡ empty
  unfolding relaxed_debug_frame no_functions pick
  none_given_debug e = rw (eq-eqb (count function_stride g.functions) 0 e) refl

  module _ (some-given : count function_stride g.functions ≢ 0) where
    by_format : relaxed_table format g r ≡ format_answer format g r
    unfolding relaxed_table no_functions pick
    by_format = rw (ne_eqb (count function_stride g.functions) 0 some-given) refl

    pub elf_given : format ≡ 0 → relaxed_table format g r ≡ dwarf_given Elf g r
    unfolding format_answer pick
    elf_given e = by_format ∙ rw (eq-eqb format 0 e) refl

    pub coff_given : format ≡ 1 → relaxed_table format g r ≡ unless (windows_asks g) (windows_answer (machine_of g.machine) (given_functions g) r)
    unfolding format_answer pick
    coff_given e = by_format ∙ rw e refl

    pub mach_o_given : format ≡ 2 → relaxed_table format g r ≡ refused 78 0
    unfolding format_answer pick
    mach_o_given e = by_format ∙ rw e refl

    pub no_table : 3 ≤ format → format ≤ 4 → relaxed_table format g r ≡ empty
    unfolding format_answer pick
    no_table l h =
        by_format
        ∙ rw (ne_eqb format 0 (λ e. omega arith), ne_eqb format 1 (λ e. omega arith), ne_eqb format 2 (λ e. omega arith), le-leb format 4 h) refl

    pub no_format : 4 < format → relaxed_table format g r ≡ refused 11 0
    unfolding format_answer pick
    no_format l =
        by_format
        ∙ rw (ne_eqb format 0 (λ e. omega arith), ne_eqb format 1 (λ e. omega arith), ne_eqb format 2 (λ e. omega arith), lt-leb format 4 l) refl

    pub other_debug : format ≢ 0 → relaxed_debug_frame format g r ≡ empty
    unfolding relaxed_debug_frame no_functions pick
    other_debug e = rw (ne_eqb (count function_stride g.functions) 0 some-given, ne_eqb format 0 e) refl

    pub debug_given : format ≡ 0 → relaxed_debug_frame format g r ≡ dwarf_given Debug g r
    unfolding relaxed_debug_frame no_functions pick
    debug_given e = rw (ne_eqb (count function_stride g.functions) 0 some-given, eq-eqb format 0 e) refl
