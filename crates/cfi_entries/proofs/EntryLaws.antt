-- The entries of a section, read one after the other, tile it.
use Rattle.std.proofs.Common.{◌≡◌, refl, sym, ap, ◌∙◌, ℕ, suc, ◌+◌, ◌-◌, ◌≤◌, ◌<◌, Bool, List, [], ◌∷◌, ◌++◌, length, Ok, Err, append_assoc, length-append, subst, arith}
use Rattle.std.proofs.lemmas.Bool.Decides.{nat_tests}
use Rattle.cfi_entries.specs.declared.entries.Entry.{Entry}
use Rattle.cfi_entries.specs.declared.refusal.Refusal.{Refusal}
use Rattle.cfi_entries.specs.Refusals.{Answer}
use Rattle.cfi_entries.specs.Entries.{entry_at}
use Rattle.cfi_entries.specs.Listing.{entries_f, entries, counted, in_front, Tile, Tiled}

-- entries in front of those that are read behind them
abbrev fronts : List Entry → Answer (List Entry) → Answer (List Entry)
fronts es (Ok fs) = Ok (es ++ fs)
fronts es (Err r) = Err r

fronts_nil : (a : Answer (List Entry)) → a ≡ fronts [] a
fronts_nil (Ok es) = refl
fronts_nil (Err r) = refl

fronts_more : (es : List Entry) (e : Entry) (a : Answer (List Entry)) → fronts es (in_front e a) ≡ fronts (es ++ e ∷ []) a
fronts_more es e (Ok fs) = ap (λ (x : List Entry). let r : Answer (List Entry) = Ok x in r) (sym (append_assoc es (e ∷ []) fs))
fronts_more es e (Err r) = refl

tile_more : (p : ℕ) (es : List Entry) (q : ℕ) (e : Entry) → Tile p es q → e.at ≡ q → q < e.end → Tile p (es ++ e ∷ []) e.end
tile_more p [] q e t a h = (a ∙ sym t, omega arith, refl)
tile_more p (x ∷ es) q e t a h = (t.0, t.1, tile_more x.end es q e t.2 a h)

-- n entries stand in front of the place, and what stands behind it is what is left of all
pub record Walked (debug : Bool) (s : List ℕ) (n at : ℕ) : Type 0 where
  pub front : List Entry
  pub whole : entries debug s ≡ fronts front (entries_f (suc (length s) - n) debug s at)
  pub tiled : Tile 0 front at
  pub many : length front ≡ n
  pub few : n ≤ at
  pub inside : at ≤ length s

module _ (debug : Bool) (s : List ℕ) where
  pub start : Walked debug s 0 0
  unfolding entries
  start =
      record {
        front = [];
        whole =
            fronts_nil (entries_f (suc (length s)) debug s 0)
            ∙ ap (λ (f : ℕ). fronts [] (entries_f f debug s 0)) (omega arith);
        tiled = refl;
        many = refl;
        few = omega arith;
        inside = omega arith;
      }

  left_end : (f p : ℕ) → length s ≤ p → entries_f (suc f) debug s p ≡ Ok []
  unfolding entries_f
  left_end f p h = grind (arith, nat_tests)

  left_more : (f p : ℕ) (e : Entry) → p < length s → entry_at debug s p ≡ Ok e → entries_f (suc f) debug s p ≡ in_front e (entries_f f debug s e.end)
  unfolding entries_f
  left_more f p e h x = grind (arith, nat_tests, x)

  left_none : (f p : ℕ) (r : Refusal) → p < length s → entry_at debug s p ≡ Err r → entries_f (suc f) debug s p ≡ Err r
  unfolding entries_f
  left_none f p r h x = grind (arith, nat_tests, x)

  module _ (n at : ℕ) (w : Walked debug s n at) where
    fuel : suc (length s) - n ≡ suc (length s - n)
    fuel = omega (arith, w.few, w.inside)

    pub turn : (e : Entry) → at < length s → Ok e ≡ entry_at debug s at → e.at ≡ at → at < e.end → e.end ≤ length s → Walked debug s (n + 1) e.end
    turn e h x a b i =
        record {
          front = w.front ++ e ∷ [];
          whole =
              w.whole ∙ ap (λ (f : ℕ). fronts w.front (entries_f f debug s at)) fuel
              ∙ ap (fronts w.front) (left_more (length s - n) at e h (sym x))
              ∙ fronts_more w.front e (entries_f (length s - n) debug s e.end)
              ∙ ap (λ (f : ℕ). fronts (w.front ++ e ∷ []) (entries_f f debug s e.end)) (omega (arith, w.few, w.inside));
          tiled = tile_more 0 w.front at e w.tiled a b;
          many = omega (arith, w.many, length-append w.front (e ∷ []));
          few = omega (arith, w.few);
          inside = i;
        }

    all_none : (r : Refusal) → at < length s → Err r ≡ entry_at debug s at → entries debug s ≡ Err r
    all_none r h x =
        w.whole ∙ ap (λ (f : ℕ). fronts w.front (entries_f f debug s at)) fuel
        ∙ ap (fronts w.front) (left_none (length s - n) at r h (sym x))

    pub stopped : (r : Refusal) → at < length s → Err r ≡ entry_at debug s at → Err r ≡ counted 0 (entries debug s)
    stopped r h x = rw (all_none r h x) refl

    pub stopped_tiled : (r : Refusal) → at < length s → Err r ≡ entry_at debug s at → Tiled (length s) (entries debug s)
    stopped_tiled r h x = rw (all_none r h x) tt

    all_end : length s ≤ at → entries debug s ≡ Ok (w.front ++ [])
    all_end h =
        w.whole ∙ ap (λ (f : ℕ). fronts w.front (entries_f f debug s at)) fuel
        ∙ ap (fronts w.front) (left_end (length s - n) at h)

    pub ended : length s ≤ at → Ok n ≡ counted 0 (entries debug s)
    ended h = rw (all_end h) (ap (λ (x : ℕ). let r : Answer ℕ = Ok x in r) (omega (arith, w.many, length-append w.front [])))

    tile_all : (p : ℕ) (es : List Entry) (q : ℕ) → Tile p es q → Tile p (es ++ []) q
    tile_all p [] q t = t
    tile_all p (x ∷ es) q t = (t.0, t.1, tile_all x.end es q t.2)

    pub ended_tiled : length s ≤ at → Tiled (length s) (entries debug s)
    ended_tiled h =
        let e : at ≡ length s = omega (arith, w.inside) in
        rw (all_end h) (tile_all 0 w.front (length s) (subst (λ (q : ℕ). Tile 0 w.front q) e w.tiled))
