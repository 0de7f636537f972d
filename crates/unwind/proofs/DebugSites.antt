-- debug_frame has no call sites, so the room for them does not matter.
use mathlib.Core.Path.{◌≡◌, refl}
use Prim.Native.Nat.{ℕ, ◌+◌}
use mathlib.Core.Bool.{Bool, true, false}
use lib.ListN.{length}
use lib.Dec.{leb, leb-zero}
use mathlib.Core.Option.{Option, none, some}
use mathlib.Core.List.{List, [], ◌∷◌, ◌++◌, map}
use Rattle.format.specs.declared.Machine.{Machine}
use Rattle.format.specs.declared.Section.TheVariants.{Debug}
use Rattle.format.specs.Lists.{Function}
use Rattle.format.specs.Headers.{key_of}
use Rattle.format.specs.Machine.{machine_of}
use Rattle.format.specs.CallSites.{site_added}
use Rattle.format.specs.Prelude.{pick}
use Rattle.format.specs.Put.{put}
use Rattle.format.specs.Answers.{afterwards}
use Rattle.format.specs.Questions.{Given, Room, Question, Answer, empty, accepted, unless, given_functions, room_asks, fitting, dwarf_answer, dwarf_given, relaxed_debug_frame}
use Rattle.format.specs.Writer.{Seen, Part, Written, taken, without_exceptions, part_with, part_of, parts_from, parts_of, joined, dwarf, place_in, align_for, is_empty}

without_landings : (o : Option ℕ) (m : Machine) (align at sites : ℕ) (f : Function) → (part_with o Debug m align at sites (taken Debug f)).sites ≡ []
unfolding part_with taken without_exceptions site_added
without_landings none m align at sites f = refl
without_landings (some cie) m align at sites f = refl

no_sites_from : (m : Machine) (at sites : ℕ) (seen : List Seen) (fs : List Function)
    → joined (map (λ p. p.sites) (parts_from Debug m at sites seen (map (taken Debug) fs))) ≡ []
unfolding parts_from part_of joined
no_sites_from m at sites seen [] = refl
no_sites_from m at sites seen (f ∷ fs) =
    let p : Part = part_of Debug m (is_empty (map (taken Debug) fs)) at sites seen (taken Debug f) in
    rw (without_landings (place_in (key_of m (taken Debug f)) seen) m (align_for Debug m.word (is_empty (map (taken Debug) fs))) at sites f)
    (no_sites_from m (at + length p.bytes) (sites + 0) (seen ++ (record { key = key_of m (taken Debug f); place = p.place } ∷ [])) fs)

pub no_sites : (m : Machine) (fs : List Function) → (dwarf Debug m fs).sites ≡ []
unfolding dwarf parts_of
no_sites m fs = no_sites_from m 0 0 [] fs

none_fit : (w : Written) (a : ℕ) → w.sites ≡ [] → leb (length w.sites) a ≡ true
none_fit w a e = rw e (leb-zero a)

-- the room of three buffers, with some for call sites
abbrev pub room_with : (places bytes relocations sites : ℕ) → Room
room_with places bytes relocations sites = record { places = places; bytes = bytes; relocations = relocations; sites = sites }

pub any_sites : (g : Given) (places bytes relocations a b : ℕ)
    → dwarf_given Debug g (room_with places bytes relocations a) ≡ dwarf_given Debug g (room_with places bytes relocations b)
unfolding dwarf_given dwarf_answer fitting room_asks
any_sites g places bytes relocations a b =
    let w : Written = dwarf Debug (machine_of g.machine) (given_functions g) in
    rw (none_fit w a (no_sites (machine_of g.machine) (given_functions g)), none_fit w b (no_sites (machine_of g.machine) (given_functions g)))

-- debug_frame's writer, whatever room there is for call sites
pub debug_any : (format : ℕ) (g : Given) (places bytes relocations a b : ℕ)
    → relaxed_debug_frame format g (room_with places bytes relocations a) ≡ relaxed_debug_frame format g (room_with places bytes relocations b)
unfolding relaxed_debug_frame
debug_any format g places bytes relocations a b = rw (any_sites g places bytes relocations a b) refl

-- ---- a buffer for call sites stays as it is

module _ (old : List ℕ) where
  abbrev Same : Answer → Type 0
  Same a = old ≡ afterwards (λ w. w.sites) a old

  unless_same : (q : Question) (a : Answer) → Same a → Same (unless q a)
  unfolding unless afterwards
  unless_same none a h = h
  unless_same (some x) a h = refl

  pick_same : (test : Bool) (a b : Answer) → Same a → Same b → Same (pick test a b)
  unfolding pick
  pick_same true a b f h = f
  pick_same false a b f h = h

  accepted_same : (w : Written) → w.sites ≡ [] → Same (accepted w)
  unfolding afterwards put
  accepted_same w e = rw e refl

  empty_same : Same empty
  unfolding afterwards
  empty_same = refl

  pub debug_same : (format : ℕ) (g : Given) (r : Room) → Same (relaxed_debug_frame format g r)
  unfolding relaxed_debug_frame dwarf_given dwarf_answer fitting
  debug_same format g r =
      pick_same _ _ _ empty_same (unless_same _ _ (unless_same _ _ (unless_same _ _ (accepted_same _ (no_sites (machine_of g.machine) (given_functions g))))))
