-- What is answered of a table whose sites are listed: each refusal, and the sites that are stored.
use mathlib.Core.Path.{◌≡◌, refl, ◌∙◌}
use Prim.Native.Nat.{ℕ, ◌*◌, ◌/◌, ◌≤◌, ◌<◌}
use native.Mathlib.Omega.{arith}
use mathlib.Core.Bool.{Bool, ◌&&◌}
use mathlib.Core.Option.{Option, none, some}
use mathlib.Core.List.{List}
use lib.ListN.{length, drop}
use Rattle.std.specs.Prelude.{Ok, Err}
use Rattle.std.specs.Prelude as code
use Rattle.format.specs.Prelude.{Result, good, bad, onward, or_else}
use Rattle.format.specs.Lists.{Landing}
use Rattle.format.specs.Shortest.{every_short}
use Rattle.format.specs.CallSiteReader.{read_sites, read_table, sites_at, sites_short}
use Rattle.format.proofs.Choice.{if-le, if-gt}
use Rattle.call_sites.specs.declared.Listed.{Listed}
use Rattle.call_sites.specs.Reads.{TableThere}
use Rattle.call_sites.specs.Listed.{list_at, sites_stored, listed_of, counted_of, stored_of, HasRoom}

-- the answer, and the lent list at exit
pub record Answers (r : Result (List Landing)) (shortest : Bool) (answer : code.Result Listed ℕ) (old new : List ℕ) : Type 0 where
  pub answer_value : answer ≡ listed_of r shortest
  pub held_after : new ≡ sites_stored r old

pub refuses : {r : Result (List Landing)} {n : ℕ} (shortest : Bool) (old : List ℕ) → r ≡ bad n → Answers r shortest (Err n) old old
unfolding listed_of sites_stored
refuses shortest old e = record { answer_value = rw e; held_after = rw e }

-- ---- the entries that were counted

pub unread : (r : Option (List Landing)) (shortest : Bool) {n : ℕ} → Err n ≡ counted_of r shortest → (r ≡ none) × (n ≡ 72)
unfolding counted_of
unread none shortest e = (refl, cc)
unread (some ls) shortest e = cc

pub record Counted (r : Option (List Landing)) (shortest : Bool) (x : Listed) : Type 0 where
  pub sites : List Landing
  pub are : r ≡ some sites
  pub many : x.sites ≡ length sites
  pub mark : x.shortest ≡ shortest

pub counted : (r : Option (List Landing)) (shortest : Bool) {x : Listed} → Ok x ≡ counted_of r shortest → Counted r shortest x
unfolding counted_of
counted none shortest e = cc
counted (some ls) shortest {x} e =
    let same : x ≡ record { sites = length ls; shortest = shortest } = cc in
    record { sites = ls; are = refl; many = rw same; mark = rw same }

-- ---- a table at a place

module _ (s : List ℕ) (p room : ℕ) where
  pub no_list : read_table (drop p s) ≡ none → list_at s p room ≡ bad 71
  unfolding list_at sites_at onward or_else
  no_list e = rw e

  module _ {entries : List ℕ} {b : Bool} (t : TableThere s p entries b) where
    pub none_listed : read_sites entries ≡ none → list_at s p room ≡ bad 72
    unfolding list_at sites_at onward or_else
    none_listed e = rw (t.reads, e)

    module _ {x : Listed} (c : Counted (read_sites entries) (b && every_short entries) x) where
      pub too_many : room / 3 < x.sites → list_at s p room ≡ bad 54
      unfolding list_at sites_at onward or_else
      too_many h = rw (t.reads, c.are) (if-gt (3 * length c.sites) room _ _ (omega (arith, c.many)))

      listed : x.sites ≤ room / 3 → list_at s p room ≡ good c.sites
      unfolding list_at sites_at onward or_else
      listed h = rw (t.reads, c.are) (if-le (3 * length c.sites) room _ _ (omega (arith, c.many)))

pub has_room : (entries old : List ℕ) {b : Bool} {x : Listed} (c : Counted (read_sites entries) b x) → x.sites ≤ length old / 3
    → HasRoom (read_sites entries) old
has_room entries old c h = rw c.are (omega (arith, c.many))

pub lists : (s : List ℕ) (p : ℕ) {entries : List ℕ} {b : Bool} (t : TableThere s p entries b) {x : Listed} (old new : List ℕ)
    → Counted (read_sites entries) (b && every_short entries) x → x.sites ≤ length old / 3 → new ≡ stored_of (read_sites entries) old
    → Answers (list_at s p (length old)) (sites_short s p) (Ok x) old new
unfolding listed_of sites_stored stored_of
lists s p t {x} old new c h e =
    let r : list_at s p (length old) ≡ good c.sites = listed s p (length old) t c h in
    record { answer_value = rw (r, t.mark, ← c.many, ← c.mark); held_after = e ∙ rw (r, c.are) }
