-- What eh_frame's writer wrote of a function with landings: its record's pointer to call sites, and its table where that says.
use mathlib.Core.Path.{◌≡◌, refl, sym, ap, ◌∙◌}
use Prim.Native.Nat.{ℕ, zero, suc, ◌+◌, ◌-◌, ◌≤◌, ◌<◌}
use native.Mathlib.Omega.{arith}
use mathlib.Core.Bool.{false}
use mathlib.Core.Logic.{◌≢◌}
use mathlib.Core.Option.{Option, none, some}
use mathlib.Core.List.{List, [], ◌∷◌, ◌++◌, append_assoc, map}
use lib.ListN.{length, get_elem?, drop, replicate, length-append, length-drop, length-replicate}
use lib.Seq.{drop_at, drop-append-le}
use lib.Dec.{T, eqb, eqb_refl}
use mir.Facts.{no_eqb}
use Rattle.format.specs.Prelude.{pick, first}
use Rattle.format.specs.declared.Machine.{Machine}
use Rattle.format.specs.declared.Section.TheVariants.{Elf}
use Rattle.format.specs.Machine.{machine_of}
use Rattle.format.specs.Constants.{except_table, data_reloc}
use Rattle.format.specs.Lists.{Function, Landing, Named, Relocation, function_stride, field, count, landing_at, function_at, most_records, lists_ok}
use Rattle.format.specs.Headers.{key_of, others, reloc, header_bytes, header_relocs}
use Rattle.format.specs.Records.{record_fields, lsda_reloc, sum_pair, row_relocs, record_relocs}
use Rattle.format.specs.CallSites.{site_table, site_pad, site_added}
use Rattle.format.specs.Writer.{is_debug, align_for, taken, Part, Seen, Written, place_in, part_with, part_of, is_empty, parts_from, parts_of, joined, dwarf}
use Rattle.format.specs.Questions.{Given, Room, accepted, given_functions, given_function}
use Rattle.format.specs.Reader.{entries, records}
use Rattle.format.proofs.Each.{Each, each_join, each_then, first_behind}
use Rattle.format.proofs.ListLaws.{each-length}
use Rattle.format.proofs.ListLaws as sums
use Rattle.format.proofs.Fits.{MachineFits, FunctionFits, AllFit}
use Rattle.format.proofs.SectionSize.{header_ok}
use Rattle.format.proofs.Parts.{Spot, cie_of, spot_of, front_for, relocs_for, front_of, place_of, part_bytes, part_relocs, relocs_of, place_from, next_at, next_sites, next_seen, relocs_more}
use Rattle.format.proofs.SectionTiles.{record_entry, entries_of, section_tiles}
use Rattle.format.proofs.SectionFinds.{spot_at, record_found}
use Rattle.format.proofs.RelocsInside.{Inside, header_inside, relocations_inside}
use Rattle.format.proofs.Accepted.{dwarf_written, Accepted, accepted_is, taken_at}
use Rattle.dwarf.proofs.Bounds.{sites_most}
use Rattle.dwarf.proofs.Passed.{all_counted}
use Rattle.reader.specs.Spans.{listed}
use Rattle.sites_back.specs.Back.{SitesFit, pointer_field, TableOf}
use Rattle.sites_back.proofs.TableBack.{place_back, place_shortest}

-- ---- a table's place among the call-site bytes

-- how many stand before those of function k
unfoldable sites_before : (sites : ℕ) → List Function → ℕ → ℕ
sites_before sites [] k = sites
sites_before sites (f ∷ fs) zero = sites
sites_before sites (f ∷ fs) (suc k) = sites_before (next_sites sites f) fs k

unfoldable table_at : (sites : ℕ) → List Function → ℕ → ℕ
table_at sites fs k = sites_before sites fs k + site_pad (sites_before sites fs k)

record Stands (table bytes : List ℕ) (place : ℕ) : Type 0 where
  rest : List ℕ
  there : drop place bytes ≡ table ++ rest

part_sites : (o : Option ℕ) (m : Machine) (align at sites : ℕ) (f : Function) → (part_with o Elf m align at sites f).sites ≡ site_added sites f.landings
unfolding part_with
part_sites none m align at sites f = refl
part_sites (some cie) m align at sites f = refl

unfoldable zeros : ℕ → List ℕ
zeros at = replicate (site_pad at) 0

zeros_length : (at : ℕ) → length (zeros at) ≡ site_pad at
unfolding zeros
zeros_length at = length-replicate (site_pad at) 0

added_some : (at : ℕ) (l : Landing) (ls : List Landing) → site_added at (l ∷ ls) ≡ zeros at ++ site_table (l ∷ ls)
unfolding site_added zeros
added_some at l ls = refl

one_pointer : (word place table : ℕ) (landings : List Landing) (l : Landing) (ls : List Landing) (n : Option Named) → landings ≡ l ∷ ls
    → lsda_reloc word place table landings n ≡ reloc place except_table data_reloc 4 table ∷ []
unfolding lsda_reloc
one_pointer word place table landings l ls n e = rw e

module _ (m : Machine) where
  unfoldable sites_of : (at sites : ℕ) → List Seen → List Function → List ℕ
  sites_of at sites seen fs = joined (map (λ p. p.sites) (parts_from Elf m at sites seen fs))

  -- what a function leaves to those behind it
  record Left (at sites : ℕ) (seen : List Seen) (g : Function) (fs : List Function) : Type 0 where
    later : ℕ
    known : List Seen
    all : sites_of at sites seen (g ∷ fs) ≡ site_added sites g.landings ++ sites_of later (next_sites sites g) known fs

  sites_more : (at sites : ℕ) (seen : List Seen) (g : Function) (fs : List Function) → Left at sites seen g fs
  unfolding sites_of parts_from joined part_of next_sites
  sites_more at sites seen g fs =
      let p : Part = part_of Elf m (is_empty fs) at sites seen g in
      record {
        later = at + length p.bytes;
        known = seen ++ (record { key = key_of m g; place = p.place } ∷ []);
        all = rw (part_sites (place_in (key_of m g) seen) m (align_for Elf m.word (is_empty fs)) at sites g);
      }

  table_stands : (before : List ℕ) (at sites : ℕ) (seen : List Seen) (fs : List Function) (k : ℕ) (f : Function) (l : Landing) (ls : List Landing)
      → length before ≡ sites → get_elem? fs k ≡ some f → f.landings ≡ l ∷ ls
      → Stands (site_table (l ∷ ls)) (before ++ sites_of at sites seen fs) (table_at sites fs k)
  unfolding table_at sites_before next_sites
  table_stands before at sites seen [] k f l ls n e x = let z : ◌≡◌ {A = ℕ} 0 1 = cc in absurd (omega arith)
  table_stands before at sites seen (g ∷ fs) zero f l ls n e x =
      let same : g ≡ f = cc in
      let o = sites_more at sites seen g fs in
      let rest : List ℕ = sites_of o.later (next_sites sites g) o.known fs in
      let table : List ℕ = site_table (l ∷ ls) in
      let at_g : g.landings ≡ l ∷ ls = ap (λ (f : Function). f.landings) same ∙ x in
      let landed : site_added sites g.landings ≡ zeros sites ++ table = rw at_g (added_some sites l ls) in
      let all : before ++ sites_of at sites seen (g ∷ fs) ≡ (before ++ zeros sites) ++ (table ++ rest) =
      ap (λ b. before ++ b) (o.all ∙ ap (λ b. b ++ rest) landed) ∙ simp append_assoc in
      record {
        rest = rest;
        there = ap (drop (sites + site_pad sites)) all ∙ drop_at (before ++ zeros sites) (table ++ rest) (sites + site_pad sites) (omega (arith, n, length-append before (zeros sites), zeros_length sites));
      }
  table_stands before at sites seen (g ∷ fs) (suc k) f l ls n e x =
      let o = sites_more at sites seen g fs in
      let added : List ℕ = site_added sites g.landings in
      let s = table_stands (before ++ added) o.later (next_sites sites g) o.known fs k f l ls (omega (arith, n, length-append before added)) e x in
      let all : before ++ sites_of at sites seen (g ∷ fs) ≡ (before ++ added) ++ sites_of o.later (next_sites sites g) o.known fs =
      ap (λ b. before ++ b) o.all ∙ simp append_assoc in
      record { rest = s.rest; there = ap (drop (table_at (next_sites sites g) fs k)) all ∙ s.there }

  -- ---- the relocation of a record's pointer to call sites

  abbrev pointer_to : (x : Spot) (f : Function) (table : ℕ) → Relocation
  pointer_to x f table = reloc (place_of Elf m x f + pointer_field) except_table data_reloc 4 table

  -- what stands before it in a part, all of it in front of that field, and what stands behind it
  record Pointed (x : Spot) (sites : ℕ) (f : Function) : Type 0 where
    before : List Relocation
    behind : List Relocation
    are : part_relocs Elf m x sites f ≡ before ++ (pointer_to x f (sites + site_pad sites) ∷ behind)
    in_front : Each (λ r. r.place < place_of Elf m x f + pointer_field) before

  module _ (fit : MachineFits m) where
    front_places : (o : Option ℕ) (align at : ℕ) (f : Function) → FunctionFits Elf m f
        → Each (λ r. r.place < at + length (front_for Elf m o align at (key_of m f)) + pointer_field) (relocs_for Elf m o at (key_of m f))
    unfolding front_for relocs_for
    front_places none align at f ok =
        each_then (Inside at (at + length (header_bytes (is_debug Elf) m align at (key_of m f)))) _ (header_relocs (is_debug Elf) m at (key_of m f))
        (λ r i. omega (arith, i.some_bytes, i.not_past))
        (header_inside m fit.is_word (is_debug Elf) align at (key_of m f) (header_ok Elf m fit f ok).kind_ok)
    front_places (some cie) align at f ok = tt

    pointed : (x : Spot) (sites : ℕ) (f : Function) (l : Landing) (ls : List Landing) → FunctionFits Elf m f → f.landings ≡ l ∷ ls → Pointed x sites f
    unfolding part_relocs record_relocs is_debug pick place_of front_of
    pointed x sites f l ls ok e =
        let at : ℕ = place_of Elf m x f in
        let front : List Relocation = relocs_for Elf m x.earlier x.start (key_of m f) in
        let own : Relocation = reloc (at + 8) f.symbol data_reloc 4 0 in
        let sum : List Relocation = sum_pair (at + 12) 4 f f.relaxed in
        let steps : List Relocation =
        row_relocs m.word (at + 4 + length (record_fields false m.word (at + 4 - cie_of x) f)) (others f.rows) f.relaxed in
        record {
          before = front ++ (own ∷ []);
          behind = sum ++ steps;
          are =
              ap (λ (y : List Relocation). front ++ ((own ∷ (y ++ sum)) ++ steps)) (one_pointer m.word (at + pointer_field) (sites + site_pad sites) f.landings l ls f.named e)
              ∙ sym (append_assoc front (own ∷ []) (pointer_to x f (sites + site_pad sites) ∷ (sum ++ steps)));
          in_front = each_join (λ r. r.place < at + pointer_field) front (own ∷ []) (front_places x.earlier x.align x.start f ok) (omega arith, tt);
        }

    pointer_at : (at sites : ℕ) (seen : List Seen) (fs : List Function) (k : ℕ) (f : Function) (l : Landing) (ls : List Landing) (pre rs : List Relocation)
        → rs ≡ pre ++ relocs_of Elf m at sites seen fs → Each (λ r. r.place < at) pre → AllFit Elf m fs → get_elem? fs k ≡ some f → f.landings ≡ l ∷ ls
        → first (λ r. eqb r.place (place_of Elf m (spot_at Elf m at seen fs k) f + pointer_field)) rs
        ≡ some (pointer_to (spot_at Elf m at seen fs k) f (table_at sites fs k))
    unfolding spot_at spot_of next_at table_at sites_before
    pointer_at at sites seen [] k f l ls pre rs e b ok f≡ x = let z : ◌≡◌ {A = ℕ} 0 1 = cc in absurd (omega arith)
    pointer_at at sites seen (g ∷ fs) zero f l ls pre rs e b ok f≡ x =
        let g≡ : g ≡ f = cc in
        let spot : Spot = spot_of Elf m at seen g fs in
        let place : ℕ = place_of Elf m spot g + pointer_field in
        let q = pointed spot sites g l ls ok.0 (ap (λ (h : Function). h.landings) g≡ ∙ x) in
        let later : List Relocation = relocs_of Elf m (next_at Elf m at seen g fs) (next_sites sites g) (next_seen Elf m at seen g fs) fs in
        let a = place_from Elf m spot g in
        let y : Relocation = pointer_to spot g (sites + site_pad sites) in
        let all : rs ≡ (pre ++ q.before) ++ (y ∷ (q.behind ++ later)) =
        e ∙ ap (λ l. pre ++ l) (relocs_more Elf m at sites seen g fs ∙ ap (λ l. l ++ later) q.are) ∙ simp append_assoc in
        let front : Each (λ r. r.place < place) (pre ++ q.before) =
        each_join (λ r. r.place < place) pre q.before (each_then (λ r. r.place < at) _ pre (λ r c. omega arith) b) q.in_front in
        rw (← g≡, all)
        (first_behind (λ r. eqb r.place place) (pre ++ q.before) y (q.behind ++ later)
        (each_then (λ r. r.place < place) _ (pre ++ q.before) (λ r c. let n : r.place ≢ place = λ z. omega arith in no_eqb n) front) (eqb_refl place))
    pointer_at at sites seen (g ∷ fs) (suc k) f l ls pre rs e b ok f≡ x =
        let spot : Spot = spot_of Elf m at seen g fs in
        let own : List Relocation = part_relocs Elf m spot sites g in
        let next : ℕ = next_at Elf m at seen g fs in
        let later : List Relocation = relocs_of Elf m next (next_sites sites g) (next_seen Elf m at seen g fs) fs in
        let all : rs ≡ pre ++ (own ++ later) = rw (relocs_more Elf m at sites seen g fs) at e in
        pointer_at next (next_sites sites g) (next_seen Elf m at seen g fs) fs k f l ls (pre ++ own) rs (all ∙ simp append_assoc)
        (each_join (λ r. r.place < next) pre own (each_then (λ r. r.place < at) _ pre (λ r c. omega arith) b)
        (each_then (Inside at (at + length (part_bytes Elf m spot g))) _ own (λ r i. omega arith) (relocations_inside Elf m fit spot sites g ok.0)))
        ok.1 f≡ x

-- ---- an accepted list

few_landings : (g : Given) (k : ℕ) → k < count function_stride g.functions → T (lists_ok g.functions g.rows g.landings g.pairs)
    → length (given_function g k).landings ≤ most_records
unfolding function_at
few_landings g k h t =
    let fs : List ℕ = g.functions in
    rw (each-length (landing_at g.landings) (field function_stride fs k 4) (field function_stride fs k 5))
    (omega (arith, sums.part_of (λ i. field function_stride fs i 5) (count function_stride fs) k h, (all_counted fs g.rows g.landings g.pairs t).landings_few))

-- what stands somewhere stands there with anything behind
with_tail : (s table rest tail : List ℕ) (place : ℕ) → drop place s ≡ table ++ rest → 0 < length table → drop place (s ++ tail) ≡ table ++ (rest ++ tail)
with_tail s table rest tail place e h =
    let l : place ≤ length s = omega (arith, length-drop place s, ap length e, length-append table rest) in
    drop-append-le place s tail l ∙ ap (λ b. b ++ tail) e ∙ append_assoc table rest tail

module _ (g : Given) (w : Written) (a : Accepted Elf g w) (k : ℕ) (h : k < count function_stride g.functions) (l : Landing) (ls : List Landing)
    (x : (given_function g k).landings ≡ l ∷ ls) (fits : SitesFit (l ∷ ls)) where
  abbrev m : Machine
  m = machine_of g.machine

  abbrev fs : List Function
  fs = map (taken Elf) (given_functions g)

  at_k : get_elem? fs k ≡ some (given_function g k)
  unfolding taken
  at_k = taken_at Elf g k h

  section_is : listed (entries w.bytes) ≡ entries_of Elf m 0 [] fs
  unfolding listed dwarf parts_of
  section_is =
      ap listed (ap (λ (v : Written). entries v.bytes) a.written ∙ section_tiles Elf m fs a.machine a.functions a.bounded)

  table_of : TableOf w k (l ∷ ls)
  unfolding dwarf parts_of relocs_of sites_of record_entry is_debug site_table
  table_of =
      let f : Function = given_function g k in
      let spot : Spot = spot_at Elf m 0 [] fs k in
      let s : Stands (site_table (l ∷ ls)) (sites_of m 0 0 [] fs) (table_at 0 fs k) = table_stands m [] 0 0 [] fs k f l ls refl at_k x in
      let sites_are : w.sites ≡ sites_of m 0 0 [] fs = ap (λ (v : Written). v.sites) a.written in
      let relocations_are : w.relocations ≡ relocs_of Elf m 0 0 [] fs = ap (λ (v : Written). v.relocations) a.written in
      let few : length (l ∷ ls) ≤ most_records = rw x at (few_landings g k h a.lists) in
      record {
        entry = record_entry Elf m spot f;
        is_record = ap (λ es. get_elem? (records false es) k) section_is ∙ record_found Elf m fs a.machine a.functions a.bounded k f at_k;
        pointer = pointer_to m spot f (table_at 0 fs k);
        is_first = pointer_at m a.machine 0 0 [] fs k f l ls [] w.relocations relocations_are tt a.functions at_k x;
        to_sites = refl;
        reads = λ tail. place_back (w.sites ++ tail) (table_at 0 fs k) (l ∷ ls) (s.rest ++ tail) (with_tail w.sites (site_table (l ∷ ls)) s.rest tail (table_at 0 fs k) (ap (drop (table_at 0 fs k)) sites_are ∙ s.there) (omega arith)) fits (omega (arith, sites_most (l ∷ ls)));
        shortest = λ tail. place_shortest (w.sites ++ tail) (table_at 0 fs k) (l ∷ ls) (s.rest ++ tail) (with_tail w.sites (site_table (l ∷ ls)) s.rest tail (table_at 0 fs k) (ap (drop (table_at 0 fs k)) sites_are ∙ s.there) (omega arith)) fits (omega (arith, sites_most (l ∷ ls)));
      }

by_landings : (g : Given) (w : Written) → Accepted Elf g w → (k : ℕ) → k < count function_stride g.functions → (ls : List Landing)
    → (given_function g k).landings ≡ ls → ls ≢ [] → SitesFit ls → TableOf w k ls
by_landings g w a k h [] x n fits = absurd (n refl)
by_landings g w a k h (l ∷ ls) x n fits = table_of g w a k h l ls x fits

-- Where eh_frame's writer accepts, the record of function k, which has landings whose ends fit 64 bits, points to the symbol of the call
-- sites, and what is read at the relocation's addend are the landings, in order.
pub sites_back : (g : Given) (r : Room) (w : Written) → dwarf_written Elf g r ≡ accepted w → (k : ℕ) → k < count function_stride g.functions
    → (given_function g k).landings ≢ [] → SitesFit (given_function g k).landings → TableOf w k (given_function g k).landings
sites_back g r w e k h n fits = by_landings g w (accepted_is Elf g r w e) k h (given_function g k).landings refl n fits
