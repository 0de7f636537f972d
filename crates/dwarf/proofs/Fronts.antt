-- A section's parts from the front are the definition's parts.
use mathlib.Core.Path.{◌≡◌, refl, sym, ap, ◌∙◌}
use Prim.Native.Nat.{ℕ, zero, suc, ◌+◌, ◌-◌, ◌≤◌}
use native.Mathlib.Omega.{arith}
use native.Mathlib.Nat.{add-zero, zero-add}
use mathlib.Core.List.{List, [], ◌∷◌, ◌++◌, map, append_assoc, append-nil}
use borrow.Author.Tests.{eq-eqb, ne_eqb}
use lib.Dec.{eqb}
use lib.ListN.{length, length-append, length-map}
use Rattle.format.specs.Prelude.{each}
use Rattle.format.specs.Lists.{Function, function_at, functions_of}
use Rattle.format.specs.Headers.{Key, key_of}
use Rattle.format.specs.Writer.{Part, taken, part_of, is_empty, parts_from, parts_of, joined, dwarf}
use Rattle.format.proofs.ListLaws.{map_each}
use Rattle.lists.specs.Extents.{extent_at}
use Rattle.lists.proofs.Extents.{means}
use Rattle.header_keys.proofs.Functions.{taken_means}
use Rattle.header_keys.specs.Inputs.{Inputs, count_in, function_in}
use Rattle.dwarf.specs.Parts.{places_in, bytes_in, relocs_in, sites_in, seen_from, earlier_in, part_behind, parts_to, written_in}

-- ---- lists one behind the other

module _ {A : Type 0} (g : Part → List A) where
  joined_append : (ps qs : List Part) → joined (map g (ps ++ qs)) ≡ joined (map g ps) ++ joined (map g qs)
  unfolding joined
  joined_append [] qs = refl
  joined_append (p ∷ ps) qs = rw (joined_append ps qs, append_assoc)

  joined_last : (ps : List Part) (p : Part) → joined (map g (ps ++ (p ∷ []))) ≡ joined (map g ps) ++ g p
  unfolding joined
  joined_last ps p = joined_append ps (p ∷ []) ∙ rw append-nil

bytes_last : (ps : List Part) (p : Part) → bytes_in (ps ++ (p ∷ [])) ≡ bytes_in ps ++ p.bytes
unfolding bytes_in
bytes_last ps p = joined_last (λ q. q.bytes) ps p

relocs_last : (ps : List Part) (p : Part) → relocs_in (ps ++ (p ∷ [])) ≡ relocs_in ps ++ p.relocations
unfolding relocs_in
relocs_last ps p = joined_last (λ q. q.relocations) ps p

sites_last : (ps : List Part) (p : Part) → sites_in (ps ++ (p ∷ [])) ≡ sites_in ps ++ p.sites
unfolding sites_in
sites_last ps p = joined_last (λ q. q.sites) ps p

places_last : (ps : List Part) (p : Part) → places_in (ps ++ (p ∷ [])) ≡ places_in ps ++ (p.place ∷ [])
unfolding places_in
places_last [] p = refl
places_last (q ∷ ps) p = ap (λ (l : List ℕ). q.place ∷ l) (places_last ps p)

seen_last : (key : ℕ → Key) (j : ℕ) (ps : List ℕ) (p : ℕ)
    → seen_from key j (ps ++ (p ∷ [])) ≡ seen_from key j ps ++ (record { key = key (j + length ps); place = p } ∷ [])
unfolding seen_from
seen_last key j [] p = rw add-zero
seen_last key j (q ∷ ps) p =
    let e : suc j + length ps ≡ j + length (q ∷ ps) = omega arith in
    rw (seen_last key (suc j) ps p, e)

-- ---- the parts of the first k functions

pub parts_length : (x : Inputs) (k : ℕ) → length (parts_to x k) ≡ k
unfolding parts_to
parts_length x zero = refl
parts_length x (suc k) = length-append (parts_to x k) _ ∙ omega (arith, parts_length x k)

pub places_length : (x : Inputs) (k : ℕ) → length (places_in (parts_to x k)) ≡ k
unfolding places_in
places_length x k = length-map (parts_to x k) _ ∙ parts_length x k

last_or_not : (f : ℕ → Function) (k d : ℕ) → is_empty (each f (suc k) d) ≡ eqb (suc k) (k + suc d)
unfolding is_empty each
last_or_not f k zero = sym (eq-eqb (suc k) (k + 1) (omega arith))
last_or_not f k (suc d) = sym (ne_eqb (suc k) (k + suc (suc d)) (λ e. omega arith))

-- the next of the functions that are left
part_next : (x : Inputs) (k d : ℕ) → k + suc d ≡ count_in x
    → part_of x.section x.machine (is_empty (each (function_in x) (suc k) d)) (length (bytes_in (parts_to x k))) (length (sites_in (parts_to x k)))
    (seen_from (λ j. key_of x.machine (function_in x j)) 0 (places_in (parts_to x k))) (function_in x k)
    ≡ part_behind x k (parts_to x k)
unfolding part_behind earlier_in part_of
part_next x k d e = rw (last_or_not (function_in x) k d, e)

-- behind the first k parts stand those of the functions that are left
parts_left : (x : Inputs) (k d : ℕ) → k + d ≡ count_in x
    → parts_to x k
    ++ parts_from x.section x.machine (length (bytes_in (parts_to x k))) (length (sites_in (parts_to x k)))
    (seen_from (λ j. key_of x.machine (function_in x j)) 0 (places_in (parts_to x k))) (each (function_in x) k d)
    ≡ parts_to x (k + d)
unfolding parts_to parts_from each
parts_left x k zero e = rw (append-nil, add-zero)
parts_left x k (suc d) e =
    let on : suc k + d ≡ k + suc d = omega arith in
    let here : 0 + length (places_in (parts_to x k)) ≡ k = omega (arith, places_length x k) in
    rw (part_next x k d e)
    (rw (bytes_last, sites_last, places_last, length-append (bytes_in (parts_to x k)), length-append (sites_in (parts_to x k)), seen_last, here, on, append_assoc) at (parts_left x (suc k) d (omega arith)))

-- what the first parts add up to, part by part
pub bytes_next : (x : Inputs) (k : ℕ) → bytes_in (parts_to x (suc k)) ≡ bytes_in (parts_to x k) ++ (part_behind x k (parts_to x k)).bytes
unfolding parts_to
bytes_next x k = bytes_last (parts_to x k) _

pub relocs_next : (x : Inputs) (k : ℕ) → relocs_in (parts_to x (suc k)) ≡ relocs_in (parts_to x k) ++ (part_behind x k (parts_to x k)).relocations
unfolding parts_to
relocs_next x k = relocs_last (parts_to x k) _

pub sites_next : (x : Inputs) (k : ℕ) → sites_in (parts_to x (suc k)) ≡ sites_in (parts_to x k) ++ (part_behind x k (parts_to x k)).sites
unfolding parts_to
sites_next x k = sites_last (parts_to x k) _

pub places_next : (x : Inputs) (k : ℕ) → places_in (parts_to x (suc k)) ≡ places_in (parts_to x k) ++ ((part_behind x k (parts_to x k)).place ∷ [])
unfolding parts_to
places_next x k = places_last (parts_to x k) _

-- a number that grows with each part
grows : (f : ℕ → ℕ) → ((k : ℕ) → f k ≤ f (suc k)) → (k d : ℕ) → f k ≤ f (k + d)
grows f h k zero = let e : f k ≡ f (k + 0) = ap f (omega arith) in omega arith
grows f h k (suc d) =
    let e : f (k + suc d) ≡ f (suc (k + d)) = ap f (omega arith) in
    omega (arith, h (k + d), grows f h k d)

pub grown : (f : ℕ → ℕ) → ((k : ℕ) → f k ≤ f (suc k)) → (k n : ℕ) → k ≤ n → f k ≤ f n
grown f h k n l =
    let e : k + (n - k) ≡ n = omega arith in
    rw e at (grows f h k (n - k))

module _ (x : Inputs) (k n : ℕ) (l : k ≤ n) where
  pub bytes_grow : length (bytes_in (parts_to x k)) ≤ length (bytes_in (parts_to x n))
  bytes_grow = grown (λ i. length (bytes_in (parts_to x i))) (λ i. rw (bytes_next x i, length-append) (omega arith)) k n l

  pub relocs_grow : length (relocs_in (parts_to x k)) ≤ length (relocs_in (parts_to x n))
  relocs_grow = grown (λ i. length (relocs_in (parts_to x i))) (λ i. rw (relocs_next x i, length-append) (omega arith)) k n l

  pub sites_grow : length (sites_in (parts_to x k)) ≤ length (sites_in (parts_to x n))
  sites_grow = grown (λ i. length (sites_in (parts_to x i))) (λ i. rw (sites_next x i, length-append) (omega arith)) k n l

-- ---- all of them

each_same : {A : Type 0} (f g : ℕ → A) (at n : ℕ) → ((i : ℕ) → f i ≡ g i) → each f at n ≡ each g at n
unfolding each
each_same f g at zero h = refl
each_same f g at (suc n) h = rw (h at, each_same f g (suc at) n h)

module _ (x : Inputs) where
  pub means_taken : (k : ℕ) → taken x.section (function_at x.functions x.rows x.landings x.pairs k) ≡ function_in x k
  means_taken k =
      ap (taken x.section) (sym (means x.functions x.rows x.landings x.pairs k))
      ∙ sym (taken_means x.section (extent_at x.functions k) x.rows x.landings x.pairs)

  pub functions_each : map (taken x.section) (functions_of x.functions x.rows x.landings x.pairs) ≡ each (function_in x) 0 (count_in x)
  unfolding functions_of
  functions_each = map_each (taken x.section) _ 0 (count_in x) ∙ each_same _ (function_in x) 0 (count_in x) means_taken

  pub all_parts : parts_of x.section x.machine (functions_of x.functions x.rows x.landings x.pairs) ≡ parts_to x (count_in x)
  unfolding parts_of parts_to places_in bytes_in sites_in joined seen_from
  all_parts = rw functions_each (rw zero-add at (parts_left x 0 (count_in x) (omega arith)))

  pub written_parts : dwarf x.section x.machine (functions_of x.functions x.rows x.landings x.pairs) ≡ written_in (parts_to x (count_in x))
  unfolding dwarf written_in places_in bytes_in relocs_in sites_in
  written_parts = rw all_parts
