-- A table of call sites, there and back.
use mathlib.Core.Path.{◌≡◌, refl, ◌∙◌}
use Prim.Native.Nat.{ℕ, zero, suc, ◌+◌, ◌-◌, ◌^◌, ◌≤◌, ◌<◌}
use native.Mathlib.Omega.{arith}
use mathlib.Core.Bool.{true}
use mathlib.Core.Option.{some}
use mathlib.Core.List.{List, [], ◌∷◌, ◌++◌, append_assoc}
use lib.ListN.{length, drop, length-append}
use lib.Seq.{take_at}
use Rattle.format.specs.Prelude.{pick, next, after, good, onward, or_else}
use Rattle.format.specs.Leb.{uleb_f, uleb}
use Rattle.format.specs.Lists.{Landing}
use Rattle.format.specs.CallSites.{site_bytes, sites_bytes, site_table}
use Rattle.format.specs.Reader.{read_many, read_counted}
use Rattle.format.specs.CallSiteReader.{site_of, read_site, read_sites_f, read_sites, head_ok, read_table, sites_at, entries_short, sites_short}
use Rattle.format.specs.Shortest.{unsigned, read_mark, marked, numbers_short, every_short_f, every_short}
use Rattle.format.proofs.Choice.{if-le, if-gt, either}
use Rattle.format.proofs.LebBack.{uleb_back}
use Rattle.format.proofs.ShortBack.{unsigned_short, unsigned_then}
use Rattle.call_sites.proofs.Runs.{sites_step}
use Rattle.sites_back.specs.Back.{SiteFits, SitesFit}

uleb_some : (n : ℕ) → 0 < length (uleb n)
unfolding uleb uleb_f
uleb_some n = either (suc n) 128 (λ l. rw (if-le (suc n) 128) (omega arith)) (λ g. rw (if-gt (suc n) 128) (omega arith))

-- ---- one entry

site_some : (l : Landing) → 0 < length (site_bytes l)
unfolding site_bytes
site_some l = omega (arith, length-append (uleb l.start) (uleb l.size ++ (uleb l.pad ++ uleb 0)), uleb_some l.start)

site_back : (l : Landing) (rest : List ℕ) → SiteFits l → read_site (site_bytes l ++ rest) ≡ some (l, rest)
unfolding read_site site_bytes site_of next
site_back l rest f =
    let b : List ℕ = uleb l.pad ++ (uleb 0 ++ rest) in
    let h : l.start + l.size < 2 ^ 64 = f.end in
    let e : (uleb l.start ++ (uleb l.size ++ (uleb l.pad ++ uleb 0))) ++ rest ≡ uleb l.start ++ (uleb l.size ++ b) = simp append_assoc in
    rw (
      e,
      uleb_back l.start (uleb l.size ++ b) (omega (arith, f.end)),
      uleb_back l.size b (omega (arith, f.end)),
      uleb_back l.pad (uleb 0 ++ rest) f.pad,
      uleb_back 0 rest (omega arith),
      if-le (suc (l.start + l.size)) (2 ^ 64),
    )

-- ---- the entries

sites_back_f : (fuel : ℕ) (ls : List Landing) → SitesFit ls → length (sites_bytes ls) < fuel → read_sites_f fuel (sites_bytes ls) ≡ some ls
unfolding sites_bytes read_sites_f next after
sites_back_f zero ls f h = absurd (omega arith)
sites_back_f (suc n) [] f h = refl
sites_back_f (suc n) (l ∷ ls) f h =
    let a : length (site_bytes l ++ sites_bytes ls) ≡ length (site_bytes l) + length (sites_bytes ls) = length-append (site_bytes l) (sites_bytes ls) in
    let e : suc n - 1 ≡ n = omega arith in
    sites_step (suc n) (site_bytes l ++ sites_bytes ls) (omega arith) (omega (arith, site_some l))
    ∙ rw (site_back l (sites_bytes ls) f.0, e, sites_back_f n ls f.1 (omega (arith, site_some l)))

pub sites_back : (ls : List Landing) → SitesFit ls → read_sites (sites_bytes ls) ≡ some ls
unfolding read_sites
sites_back ls f = sites_back_f (suc (length (sites_bytes ls))) ls f (omega arith)

-- ---- the table

pub table_back : (ls : List Landing) (rest : List ℕ) → length (sites_bytes ls) < 2 ^ 64 → read_table (site_table ls ++ rest) ≡ some (sites_bytes ls)
unfolding read_table site_table head_ok read_counted read_many next pick
table_back ls rest h =
    let n : ℕ = length (sites_bytes ls) in
    let l : n ≤ length (sites_bytes ls ++ rest) = omega (arith, length-append (sites_bytes ls) rest) in
    rw (append_assoc (uleb n) (sites_bytes ls) rest, uleb_back n (sites_bytes ls ++ rest) h, if-le n (length (sites_bytes ls ++ rest)), take_at (sites_bytes ls) rest n refl)

-- a table that stands at a place reads as its landings
pub place_back : (s : List ℕ) (place : ℕ) (ls : List Landing) (rest : List ℕ) → drop place s ≡ site_table ls ++ rest → SitesFit ls
    → length (sites_bytes ls) < 2 ^ 64 → sites_at s place ≡ good ls
unfolding sites_at onward or_else
place_back s place ls rest e f h = rw (e, table_back ls rest h, sites_back ls f)

-- ---- how its numbers are spelled

next_short : (f : ℕ) (bs rest : List ℕ) → read_mark unsigned bs ≡ some (true, rest) → ((g : ℕ) → every_short_f g rest ≡ true) → every_short_f f bs ≡ true
unfolding every_short_f marked
next_short zero bs rest e h = refl
next_short (suc f) [] rest e h = refl
next_short (suc f) (b ∷ bs) rest e h = rw e (h f)

uleb_before : (n : ℕ) (rest : List ℕ) → n < 2 ^ 64 → ((g : ℕ) → every_short_f g rest ≡ true) → (f : ℕ) → every_short_f f (uleb n ++ rest) ≡ true
uleb_before n rest l h f = next_short f (uleb n ++ rest) rest (unsigned_short n rest l) h

every_shortest : (ls : List Landing) → SitesFit ls → (f : ℕ) → every_short_f f (sites_bytes ls) ≡ true
unfolding sites_bytes site_bytes every_short_f
every_shortest [] fits zero = refl
every_shortest [] fits (suc f) = refl
every_shortest (l ∷ ls) fits f =
    let b : List ℕ = uleb l.pad ++ (uleb 0 ++ sites_bytes ls) in
    let e : site_bytes l ++ sites_bytes ls ≡ uleb l.start ++ (uleb l.size ++ b) = simp append_assoc in
    rw e
    (uleb_before l.start (uleb l.size ++ b) (omega (arith, fits.0.end))
    (uleb_before l.size b (omega (arith, fits.0.end))
    (uleb_before l.pad (uleb 0 ++ sites_bytes ls) fits.0.pad (uleb_before 0 (sites_bytes ls) (omega arith) (every_shortest ls fits.1))))
    f)

-- a table that stands at a place has its numbers shortest
pub place_shortest : (s : List ℕ) (place : ℕ) (ls : List Landing) (rest : List ℕ) → drop place s ≡ site_table ls ++ rest → SitesFit ls
    → length (sites_bytes ls) < 2 ^ 64 → sites_short s place ≡ true
unfolding sites_short entries_short every_short site_table numbers_short
place_shortest s place ls rest e fits h =
    let n : ℕ = length (sites_bytes ls) in
    let m : numbers_short (unsigned ∷ []) ((uleb n ++ sites_bytes ls) ++ rest) ≡ true =
    rw append_assoc (unsigned_then [] (sites_bytes ls ++ rest) n h) in
    rw (e, table_back ls rest h, m) (every_shortest ls fits (length (sites_bytes ls)))
