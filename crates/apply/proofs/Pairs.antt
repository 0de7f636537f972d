-- The field of a Set and Sub pair holds the distance, whatever other relocations are applied before and behind.
use Rattle.std.proofs.Common.{◌≡◌, ℕ, zero, suc, ◌+◌, ◌-◌, ◌*◌, ◌/◌, ◌%◌, ◌^◌, ◌<◌, ◌≤◌, T, ◌⊎◌, ◌&&◌, false, leb, eqb, inl, inr, List, [], ◌∷◌, ◌++◌, length, get_or, drop, ℤ, pos, negsuc, ◌-ℤ◌, refl, sym, ap, ◌∙◌, subst, ⊎_elim, arith, pow-suc, pow_pos}
use mathlib.Core.Option.{Option, none, some}
use lib.ListN.{get_or-append}
use borrow.Author.Tests.{ne_eqb}
use mir.Facts.{and_yes, eqb_yes, leb_yes}
use Rattle.format.specs.Prelude.{pick, after}
use Rattle.format.specs.Put.{put}
use Rattle.format.specs.Lists.{Relocation, relocations_of}
use Rattle.format.specs.Questions.{is_some}
use Rattle.format.proofs.Each.{Each}
use Rattle.format.proofs.Choice.{tested, pick_yes, pick_no}
use Rattle.format.proofs.Copied.{put_front}
use Rattle.apply.specs.declared.Width.{Width}
use Rattle.apply.specs.declared.Width.TheVariants.{W6, W8, W16, W32}
use Rattle.apply.specs.declared.Kind.{Kind}
use Rattle.apply.specs.declared.Kind.TheVariants.{Data, Address, SumPlus, SumMinus, Image, Set, Sub, Unknown}
use Rattle.apply.specs.Kinds.{kind_of, bits_of, bytes_of, size_ok}
use Rattle.apply.specs.Fields.{up_to, low_of, number_at, field_at, in_field, set_in, sub_in}
use Rattle.apply.specs.Values.{Layout, layout_of, symbols_of, address_of, sum_of, apart, distance_of, store_as, store_of}
use Rattle.apply.specs.Apply.{Test, front, partners, leads, paired, value_ok, everywhere, sound, near_as, near, stores, apply, Applies, buffer_in}
use Rattle.apply.specs.Pairs.{Apart, AllApart, HoldsDistance, PairsHold}
use Rattle.apply.proofs.Tests.{step_size, sound_store}
use Rattle.apply.proofs.Wrap.{low_lt}
use Rattle.apply.proofs.Distances.{field_is, upper_kept, still, in_length, distance}
use Rattle.apply.proofs.Entry.{stores-length, store_length, in_place}
use Rattle.apply.proofs.Outside.{Misses, store_off, unchanged}

-- ---- numbers of the same bytes

same_number : (xs ys : List ℕ) (p n : ℕ) → ((q : ℕ) → p ≤ q → q < p + n → get_or xs q 0 ≡ get_or ys q 0) → number_at xs p n ≡ number_at ys p n
unfolding number_at
same_number xs ys p zero h = refl
same_number xs ys p (suc n) h =
    let a = h p (omega arith) (omega arith) in
    let b = same_number xs ys (p + 1) n (λ q l g. h q (omega arith) (omega arith)) in
    omega (arith, a, b)

number_low : (bs : List ℕ) (p n : ℕ) → ((q : ℕ) → get_or bs q 0 < 256) → number_at bs p n < 256 ^ n
unfolding number_at
number_low bs p zero h = omega arith
number_low bs p (suc n) h = omega (arith, h p, number_low bs (p + 1) n h, pow-suc 256 n)

-- ---- the distance of a pair that is accepted

record Fit (most : ℕ) (z : ℤ) : Type 0 where
  d : ℕ
  is : z ≡ pos d
  small : d ≤ most
  fitted : up_to most z ≡ some d

fits : (most : ℕ) (z : ℤ) → T (is_some (up_to most z)) → Fit most z
unfolding up_to is_some
fits most (pos n) t =
    tested (leb n most) (λ u. record { d = n; is = refl; small = leb_yes u; fitted = pick_yes (leb n most) (some n) none u })
    (λ u. absurd (rw (pick_no (leb n most) (some n) none u) at t))
fits most (negsuc n) t = absurd t

record Known (ss : List (ℕ × ℕ)) (w : Width) (s t : Relocation) : Type 0 where
  x : ℤ
  y : ℤ
  d : ℕ
  x-is : sum_of ss s ≡ some x
  y-is : sum_of ss t ≡ some y
  apart-is : x -ℤ y ≡ pos d
  small : d < 2 ^ bits_of w
  is : distance_of w ss s (some t) ≡ some d

-- two sums whose difference fits
record Two (most : ℕ) (a b : Option ℤ) : Type 0 where
  x : ℤ
  y : ℤ
  d : ℕ
  x-is : a ≡ some x
  y-is : b ≡ some y
  apart-is : x -ℤ y ≡ pos d
  small : d ≤ most
  is : (after (after a λ x. after b λ y. some (x -ℤ y)) λ z. up_to most z) ≡ some d

two_sums : (most : ℕ) (a b : Option ℤ) → T (is_some (after (after a λ x. after b λ y. some (x -ℤ y)) λ z. up_to most z)) → Two most a b
unfolding after is_some
two_sums most none b h = absurd h
two_sums most (some x) none h = absurd h
two_sums most (some x) (some y) h =
    let v = fits most (x -ℤ y) h in
    record { x = x; y = y; d = v.d; x-is = refl; y-is = refl; apart-is = v.is; small = v.small; is = v.fitted }

known : (ss : List (ℕ × ℕ)) (w : Width) (s t : Relocation) → T (is_some (distance_of w ss s (some t))) → Known ss w s t
unfolding distance_of apart after
known ss w s t h =
    let v = two_sums (2 ^ bits_of w - 1) (sum_of ss s) (sum_of ss t) h in
    record {
      x = v.x;
      y = v.y;
      d = v.d;
      x-is = v.x-is;
      y-is = v.y-is;
      apart-is = v.apart-is;
      small = omega (arith, v.small, pow_pos (bits_of w));
      is = v.is;
    }

no_kind : (m : ℕ) → 13 ≤ m → kind_of m ≡ Unknown
unfolding kind_of pick
no_kind m h =
    let no : (k : ℕ) → k < 13 → eqb m k ≡ false = λ k l. ne_eqb m k (λ (e : m ≡ k). omega (arith, e, l, h)) in
    rw (
      no 0 (omega arith),
      no 1 (omega arith),
      no 2 (omega arith),
      no 3 (omega arith),
      no 4 (omega arith),
      no 5 (omega arith),
      no 6 (omega arith),
      no 7 (omega arith),
      no 8 (omega arith),
      no 9 (omega arith),
      no 10 (omega arith),
      no 11 (omega arith),
      no 12 (omega arith),
    )

-- the kind of a Sub is the next one
sub_next : (n : ℕ) (w : Width) → kind_of n ≡ Set w → kind_of (suc n) ≡ Sub w
unfolding kind_of pick
sub_next zero w e = let f : Data ≡ Set w = e in cc
sub_next (suc zero) w e = let f : Address ≡ Set w = e in cc
sub_next (suc (suc zero)) w e = let f : SumPlus ≡ Set w = e in cc
sub_next (suc (suc (suc zero))) w e = let f : SumMinus ≡ Set w = e in cc
sub_next (suc (suc (suc (suc zero)))) w e = let f : Image ≡ Set w = e in cc
sub_next (suc (suc (suc (suc (suc zero))))) w e = let f : Set W6 ≡ Set w = e in let g : W6 ≡ w = cc in ap Sub g
sub_next (suc (suc (suc (suc (suc (suc zero)))))) w e = let f : Sub W6 ≡ Set w = e in cc
sub_next (suc (suc (suc (suc (suc (suc (suc zero))))))) w e = let f : Set W8 ≡ Set w = e in let g : W8 ≡ w = cc in ap Sub g
sub_next (suc (suc (suc (suc (suc (suc (suc (suc zero)))))))) w e = let f : Sub W8 ≡ Set w = e in cc
sub_next (suc (suc (suc (suc (suc (suc (suc (suc (suc zero))))))))) w e = let f : Set W16 ≡ Set w = e in let g : W16 ≡ w = cc in ap Sub g
sub_next (suc (suc (suc (suc (suc (suc (suc (suc (suc (suc zero)))))))))) w e = let f : Sub W16 ≡ Set w = e in cc
sub_next (suc (suc (suc (suc (suc (suc (suc (suc (suc (suc (suc zero))))))))))) w e = let f : Set W32 ≡ Set w = e in let g : W32 ≡ w = cc in ap Sub g
sub_next (suc (suc (suc (suc (suc (suc (suc (suc (suc (suc (suc (suc zero)))))))))))) w e = let f : Sub W32 ≡ Set w = e in cc
sub_next (suc (suc (suc (suc (suc (suc (suc (suc (suc (suc (suc (suc (suc n))))))))))))) w e = let f : Unknown ≡ Set w = sym (no_kind (suc (suc (suc (suc (suc (suc (suc (suc (suc (suc (suc (suc (suc n))))))))))))) (omega arith)) ∙ e in cc

-- ---- a relocation in its list

record Reached (test : Test) (s : Relocation) (rest : List Relocation) : Type 0 where
  ahead : Option Relocation
  here : T (test ahead s (front rest))
  behind : T (everywhere test (some s) rest)

reach : (test : Test) (b : Option Relocation) (before : List Relocation) (s : Relocation) (rest : List Relocation)
    → T (everywhere test b (before ++ (s ∷ rest))) → Reached test s rest
unfolding everywhere
reach test b [] s rest t =
    let h = and_yes (test b s (front rest)) (everywhere test (some s) rest) t in record { ahead = b; here = h.0; behind = h.1 }
reach test b (r ∷ rs) s rest t =
    reach test (some r) rs s rest (and_yes (test b r (front (rs ++ (s ∷ rest)))) (everywhere test (some r) (rs ++ (s ∷ rest))) t).1

module _ (l : Layout) (size : ℕ) where
  -- the partner of a Set
  partner_of : (w : Width) (b : Option Relocation) (s t : Relocation) → kind_of s.kind ≡ Set w → T (sound l size b s (some t)) → T (partners s t)
  unfolding sound paired leads
  partner_of w b s t k h =
      let n : Kind = kind_of s.kind in
      let a = and_yes (size_ok n s.bytes && paired n b s (some t) && is_some (address_of l.symbols s.symbol) && leb (s.place + s.bytes) size) (value_ok n l s (some t)) h in
      let c = and_yes (size_ok n s.bytes && paired n b s (some t) && is_some (address_of l.symbols s.symbol)) (leb (s.place + s.bytes) size) a.0 in
      let d = and_yes (size_ok n s.bytes && paired n b s (some t)) (is_some (address_of l.symbols s.symbol)) c.0 in
      let e = (and_yes (size_ok n s.bytes) (paired n b s (some t)) d.0).1 in
      subst (λ (m : Kind). T (paired m b s (some t))) k e

  -- a byte of s lies in no field that s is apart from
  missed : (s r : Relocation) (q : ℕ) → T (size_ok (kind_of r.kind) r.bytes) → Apart s r → s.place ≤ q → q < s.place + s.bytes → Misses q r
  missed s r q z o a b = record { sized = z; off = ⊎_elim (λ h. inl (omega arith)) (λ h. inr (omega arith)) o }

  all_missed : (s : Relocation) (b : Option Relocation) (rs : List Relocation) (q : ℕ) → T (everywhere (sound l size) b rs) → AllApart s rs
      → s.place ≤ q → q < s.place + s.bytes → Each (Misses q) rs
  unfolding everywhere
  all_missed s b [] q t o a c = tt
  all_missed s b (r ∷ rs) q t o a c =
      let h = and_yes (sound l size b r (front rs)) (everywhere (sound l size) (some r) rs) t in
      (missed s r q (sound_store l size b r (front rs) h.0).1 o.0 a c, all_missed s (some r) rs q h.1 o.1 a c)

  module _ (w : Width) (s t : Relocation) (behind : List Relocation) (k : kind_of s.kind ≡ Set w) (kt : kind_of t.kind ≡ Sub w) (pt : t.place ≡ s.place)
      (n : s.bytes ≡ bytes_of w) (d : Known l.symbols w s t) (inside : s.place + bytes_of w ≤ size) (apart_behind : AllApart s behind)
      (sound_behind : T (everywhere (sound l size) (some t) behind)) where
    abbrev number : List ℕ → ℕ
    number bs = number_at bs s.place (bytes_of w)

    two : (bs : List ℕ) → stores l bs (s ∷ t ∷ behind) ≡ stores l (sub_in w (set_in w bs s.place (some d.x)) s.place (some d.y)) behind
    unfolding stores store_of store_as
    two bs = rw (k, kt, d.x-is, d.y-is, pt)

    pair_holds : (bs : List ℕ) → length bs ≡ size → number bs < 256 ^ bytes_of w → HoldsDistance l.symbols w s t bs (stores l bs (s ∷ t ∷ behind))
    unfolding set_in sub_in field_at
    pair_holds bs len low =
        let v : ℕ = low_of (bits_of w) d.x in
        let xs : List ℕ = in_field w bs s.place v in
        let ys : List ℕ = sub_in w (set_in w bs s.place (some d.x)) s.place (some d.y) in
        let fit : s.place + bytes_of w ≤ length bs = omega (arith, inside, len) in
        let small : v < 2 ^ bits_of w = low_lt (bits_of w) d.x in
        let fit' : s.place + bytes_of w ≤ length xs = omega (arith, fit, in_length w bs s.place v) in
        let above : number ys / 2 ^ bits_of w ≡ number bs / 2 ^ bits_of w =
        upper_kept w xs s.place _ fit' (still w bs s.place v fit low small) (low_lt (bits_of w) _) ∙ upper_kept w bs s.place v fit low small in
        let held : field_at w ys s.place ≡ d.d = distance w bs s.place d.x d.y d.d fit low d.apart-is d.small in
        let same : number (stores l ys behind) ≡ number ys =
        same_number _ _ s.place (bytes_of w) (λ q a b. unchanged l ys behind q (all_missed s (some t) behind q sound_behind apart_behind a (omega (arith, b, n)))) in
        rw (two bs)
        (record {
          distance = d.is ∙ ap some (sym held ∙ ap (λ (m : ℕ). m % 2 ^ bits_of w) (sym same));
          above = ap (λ (m : ℕ). m / 2 ^ bits_of w) same ∙ above;
        })

    held_behind : (before : List Relocation) (b : Option Relocation) (bs : List ℕ) → T (everywhere (sound l size) b (before ++ (s ∷ t ∷ behind)))
        → AllApart s before → length bs ≡ size → number bs < 256 ^ bytes_of w
        → HoldsDistance l.symbols w s t bs (stores l bs (before ++ (s ∷ t ∷ behind)))
    unfolding everywhere stores
    held_behind [] b bs so o len low = pair_holds bs len low
    held_behind (r ∷ rs) b bs so o len low =
        let rest : List Relocation = rs ++ (s ∷ t ∷ behind) in
        let h = and_yes (sound l size b r (front rest)) (everywhere (sound l size) (some r) rest) so in
        let cs : List ℕ = store_of l bs r (front rest) in
        let z = (sound_store l size b r (front rest) h.0).1 in
        let same : number cs ≡ number bs =
        same_number _ _ s.place (bytes_of w) (λ q a c. store_off l bs r (front rest) q (missed s r q z o.0 a (omega (arith, c, n)))) in
        let v = held_behind rs (some r) cs h.1 o.1 (store_length l bs r (front rest) ∙ len) (omega (arith, same, low)) in
        record { distance = v.distance; above = v.above ∙ ap (λ (m : ℕ). m / 2 ^ bits_of w) same }

-- another list with the same bytes there
again : (w : Width) (s t : Relocation) {ss : List (ℕ × ℕ)} {old new new' : List ℕ} → HoldsDistance ss w s t old new
    → number_at new' s.place (bytes_of w) ≡ number_at new s.place (bytes_of w) → HoldsDistance ss w s t old new'
unfolding field_at
again w s t v same =
    record {
      distance = v.distance ∙ ap (λ (m : ℕ). some (m % 2 ^ bits_of w)) (sym same);
      above = ap (λ (m : ℕ). m / 2 ^ bits_of w) same ∙ v.above;
    }

-- ---- the whole

module _ (bytes relocations addresses : List ℕ) (section image : ℕ) (out : List ℕ) {number : ℕ} {out' : List ℕ}
    (applies : Applies (apply bytes relocations addresses section image (length out)) number out out') (low : (q : ℕ) → get_or bytes q 0 < 256) where
  pub pairs_hold : number ≡ 0 → PairsHold (symbols_of addresses) (relocations_of relocations) bytes out'
  unfolding front near near_as partners buffer_in
  pairs_hold e before s t behind w is k o o' =
      let l : Layout = layout_of addresses section image in
      let size : ℕ = length bytes in
      let rs : List Relocation = relocations_of relocations in
      let done = in_place bytes relocations addresses section image (length out) (sym applies.number ∙ e) in
      let so : T (everywhere (sound l size) none (before ++ (s ∷ t ∷ behind))) = subst (λ x. T (everywhere (sound l size) none x)) is done.sound_ones in
      let ne : T (everywhere (near l.symbols) none (before ++ (s ∷ t ∷ behind))) = subst (λ x. T (everywhere (near l.symbols) none x)) is done.near_ones in
      let a = reach (sound l size) none before s (t ∷ behind) so in
      let c = reach (near l.symbols) none before s (t ∷ behind) ne in
      let b = reach (sound l size) (some s) [] t behind a.behind in
      let d = known l.symbols w s t (rw k at c.here) in
      let z = sound_store l size a.ahead s (some t) a.here in
      let n : s.bytes ≡ bytes_of w = step_size w s.bytes (subst (λ (m : Kind). T (size_ok m s.bytes)) k z.1) in
      let p = partner_of l size w a.ahead s t k a.here in
      let p' =
      and_yes (eqb t.kind (suc s.kind)) (eqb t.place s.place)
      (and_yes (eqb t.kind (suc s.kind) && eqb t.place s.place) (eqb t.bytes s.bytes) p).0 in
      let kt : kind_of t.kind ≡ Sub w = ap kind_of (eqb_yes p'.0) ∙ sub_next s.kind w k in
      let inside : s.place + bytes_of w ≤ size = omega (arith, z.0, n) in
      let res : List ℕ = stores l bytes rs in
      let v : HoldsDistance l.symbols w s t bytes res =
      subst (λ x. HoldsDistance l.symbols w s t bytes (stores l bytes x)) (sym is)
      (held_behind l size w s t behind k kt (eqb_yes p'.1) n d inside o' b.behind before none bytes so o refl (number_low bytes s.place (bytes_of w) low)) in
      let len : length res ≡ size = stores-length l bytes rs in
      let there : out' ≡ res ++ drop (length res) out =
      applies.stored ∙ (rw done.is (put_front out res (omega (arith, done.fits, len)))) in
      let same : number_at out' s.place (bytes_of w) ≡ number_at res s.place (bytes_of w) =
      same_number _ _ s.place (bytes_of w)
      (λ q a b. ap (λ x. get_or x q 0) there ∙ get_or-append res (drop (length res) out) 0 q (omega (arith, b, inside, len))) in
      again w s t v same
