-- Listings by computing the walk.
use Rattle.std.proofs.Common.{◌≡◌, ℕ, zero, suc, ◌+◌, ◌^◌, ◌<◌, ◌≤◌, Bool, true, cond, ◌&&◌, eqb, ltb, leb, List, [], ◌∷◌, map, length, take, drop, Ok, Err, Result, sym, refl, ap, ◌∙◌, subst, ap₂, inl, inr, arith, ltb-true, eqb-true, leb-true}
use Rattle.std.specs.List.{ContainsAt, AllByRecursion, list_all, list_any}
use Rattle.std.proofs.lemmas.List.{length-map, length-take}
use Rattle.std.proofs.lemmas.Bool.{and_parts, and_from, agree_below, agree_below_at}
use Rattle.rulings.specs.Points.{Points, listed}
use Rattle.rulings.specs.Rulings.{digit, byte, has}
use Rattle.rulings.specs.Order.{Precedes}
use Rattle.rulings.specs.declared.ruling.Ruling.{Ruling}
use Rattle.rulings.proofs.Digits.{same_digits}
use Rattle.rulings.proofs.Bytes.{has_at}
use Rattle.rows.proofs.Pairwise.{Pairwise, to_places}
use Rattle.semantics.specs.Meaning.{Meaning, Lawful}
use Rattle.semantics.specs.Chapters.{Sixteen, PartStable, in_chapter, below_chapter, chapter}
use Rattle.semantics.specs.Listing.{AllInRowOrder, Effort, AllPartsStable}
use Rattle.semantics.specs.Walk.{walk, completed, AllOnce}
use Rattle.semantics.proofs.LeastFixpoint.{count_bound}
use Rattle.semantics.proofs.Closures.{closure_inside}
use Rattle.semantics.proofs.Splitting.{own_chapter, chapter_lawful}
use Rattle.semantics.proofs.RulingOf.{ruling_of, ruling_of_has, ruling_of_same}
use Rattle.semantics.proofs.StableTest.{stable_test, stable_test_tells}
use Rattle.semantics.proofs.Ways.{map_has, has_map, listing_of, one_listing, effort_unique}
use Rattle.semantics.proofs.Walk.{walk_completes, walk_effort}
use Rattle.answers.specs.declared.fault.Fault.{Fault}
use Rattle.chapters.proofs.Upward.{fitting}
use Rattle.answers.specs.declared.listing.Listing.{Listing}
use Rattle.marker.specs.Listing.{NoneWide, Listed}
use Rattle.worked.specs.Answers.{GivesListing}
use Rattle.worked.proofs.Once.{same_rulings}
use Rattle.worked.proofs.Checks.{all_use, any_has, Within, within, within_use, agree_all, fits, fits_use}

-- ---- rows of points below 8: the first byte tells the order

-- the first byte of the ruling of a set
abbrev pub first_byte : ℕ → Points → ℕ
first_byte zero x = 0
first_byte (suc k) x = cond (x k) (2 ^ k) 0 + first_byte k x

abbrev pub worth : List ℕ → ℕ
worth s = first_byte 8 (listed s)

-- the byte is right
abbrev pub byte_fits : List ℕ → Bool
byte_fits s = ltb (worth s) 256 && agree_below (digit (worth s)) (listed s) 8

abbrev pub row : List ℕ → Ruling
row s = ruling_of (listed s)

row_byte : (s : List ℕ) → byte_fits s ≡ true → byte (row s) 0 ≡ worth s
row_byte s h =
    let p = and_parts (ltb (worth s) 256) _ h in
    same_digits 8 (byte (row s) 0) (worth s) ((row s).each 0) (ltb-true (worth s) 256 p.0)
    (λ k l. sym (has_at (row s) 0 k l) ∙ (ap (has (row s)) (omega arith)
    ∙ (ruling_of_has (listed s) k (omega arith) ∙ sym (agree_below_at (digit (worth s)) (listed s) 8 k p.1 l))))

row_precedes : (s t : List ℕ) → byte_fits s ≡ true → byte_fits t ≡ true → ltb (worth s) (worth t) ≡ true → Precedes (row s) (row t)
row_precedes s t p q h =
    record {
      place = 0;
      same_before = λ i l. absurd (omega arith);
      smaller = omega (arith, row_byte s p, row_byte t q, ltb-true (worth s) (worth t) h);
    }

-- the sets are in row order
abbrev pub rise : List (List ℕ) → Bool
rise [] = true
rise (s ∷ ss) = list_all (λ t. ltb (worth s) (worth t)) ss && rise ss

rise_use : (sets : List (List ℕ)) → list_all byte_fits sets ≡ true → rise sets ≡ true → Pairwise Precedes (map row sets)
rise_use [] b h = tt
rise_use (s ∷ ss) b h =
    let p = and_parts (byte_fits s) (list_all byte_fits ss) b in
    let q = and_parts (list_all (λ t. ltb (worth s) (worth t)) ss) (rise ss) h in
    (later p.0 ss p.1 q.0, rise_use ss p.1 q.1)
  where
    later : byte_fits s ≡ true → (ts : List (List ℕ)) → list_all byte_fits ts ≡ true → list_all (λ t. ltb (worth s) (worth t)) ts ≡ true → AllByRecursion (Precedes (row s)) (map row ts)
    later f [] c e = tt
    later f (t ∷ ts) c e =
        let p = and_parts (byte_fits t) (list_all byte_fits ts) c in
        let q = and_parts (ltb (worth s) (worth t)) _ e in
        (row_precedes s t f p.0 q.0, later f ts p.1 q.1)

rows_are : (n : ℕ) → n ≤ 128 → (sets : List (List ℕ)) → list_all (within n) sets ≡ true → map has (map row sets) ≡ map listed sets
rows_are n few [] h = refl
rows_are n few (s ∷ ss) h =
    let p = and_parts (within n s) (list_all (within n) ss) h in
    ap₂ ◌∷◌ (ruling_of_same (listed s) (λ a e. let i = within_use n s p.0 a e in omega arith)) (rows_are n few ss p.1)

-- ---- the listing

module _ (m : Meaning) (ch : ℕ → ℕ) where
  -- what the walk completes
  abbrev pub computed : List Points
  computed = completed m ch (walk m ch (stable_test m ch))

  abbrev pub is_set : Points → List ℕ → Bool
  is_set x s = agree_below x (listed s) m.size

  module _ (sets : List (List ℕ)) (effort : ℕ) where
    -- the walk has as many tries as the effort, and completes the sets and no other
    abbrev pub list_check : Bool
    list_check =
        fits m ch && (leb m.size 8 && (leb effort 65536 && (eqb (length (walk m ch (stable_test m ch))) effort &&
        (list_all (within m.size) sets && (list_all byte_fits sets && (rise sets &&
        (list_all (λ x. list_any (is_set x) sets) computed && list_all (λ s. list_any (λ x. is_set x s) computed) sets)))))))

    -- the same, one by one
    record ListChecked : Type 0 where
      fit : fits m ch ≡ true
      small : leb m.size 8 ≡ true
      low : leb effort 65536 ≡ true
      tries : eqb (length (walk m ch (stable_test m ch))) effort ≡ true
      inside : list_all (within m.size) sets ≡ true
      bytes : list_all byte_fits sets ≡ true
      rising : rise sets ≡ true
      only : list_all (λ x. list_any (is_set x) sets) computed ≡ true
      each : list_all (λ s. list_any (λ x. is_set x s) computed) sets ≡ true

    list_checked : list_check ≡ true → ListChecked
    list_checked h =
        let p1 = and_parts (fits m ch) _ h in
        let p2 = and_parts (leb m.size 8) _ p1.1 in
        let p3 = and_parts (leb effort 65536) _ p2.1 in
        let p4 = and_parts (eqb (length (walk m ch (stable_test m ch))) effort) _ p3.1 in
        let p5 = and_parts (list_all (within m.size) sets) _ p4.1 in
        let p6 = and_parts (list_all byte_fits sets) _ p5.1 in
        let p7 = and_parts (rise sets) _ p6.1 in
        let p8 = and_parts (list_all (λ x. list_any (is_set x) sets) computed) _ p7.1 in
        record {
          fit = p1.0;
          small = p2.0;
          low = p3.0;
          tries = p4.0;
          inside = p5.0;
          bytes = p6.0;
          rising = p7.0;
          only = p8.0;
          each = p8.1;
        }

  module _ (l : Lawful m) (few : Sixteen ch) where
    once : AllOnce (λ x. (k : ℕ) → k < 16 → PartStable m ch x k) computed
    once = walk_completes m ch (stable_test m ch) l few (stable_test_tells m l ch)

    computed_within : (x : Points) → ContainsAt computed x → Within m.size x
    computed_within x h a e =
        closure_inside (chapter m ch (ch a) (below_chapter ch (ch a) x) (below_chapter ch (ch a) x))
        (chapter_lawful m l ch (ch a) (below_chapter ch (ch a) x) (below_chapter ch (ch a) x))
        (in_chapter ch (ch a) x) (in_chapter ch (ch a) x) (once.only x h (ch a) (few a)) a
        (and_from _ _ (own_chapter ch a) e)

    pub lists : (sets : List (List ℕ)) (effort : ℕ) → list_check sets effort ≡ true → GivesListing m ch sets effort
    unfolding GivesListing
    lists sets effort h found left room long r = (only r, there)
      where
        c : ListChecked sets effort
        c = list_checked sets effort h

        narrow : NoneWide m ch
        narrow k q = let w = count_bound m.size (λ a. eqb (ch a) k) in let s = leb-true m.size 8 c.small in omega arith

        counted : Effort m ch effort
        counted = subst (Effort m ch) (eqb-true _ effort c.tries) (walk_effort m ch (stable_test m ch) l (stable_test_tells m l ch))

        set_is : (x : Points) (s : List ℕ) → ContainsAt computed x → ContainsAt sets s → is_set x s ≡ true → has (row s) ≡ x
        set_is x s hx hs e =
            let w = within_use m.size s (all_use (within m.size) sets c.inside s hs) in
            ruling_of_same (listed s) (λ a q. let i = w a q in let f = l.few_points in omega arith)
            ∙ sym (agree_all m.size x (listed s) (computed_within x hx) w e)

        listing : AllInRowOrder (AllPartsStable m ch) (map row sets)
        listing =
            listing_of m ch computed once (map row sets)
            (to_places Precedes (map row sets) (rise_use sets c.bytes c.rising))
            (λ r q.
            let (s, there, e) = map_has row sets r q in
            let (x, hx, f) = any_has (λ y. is_set y s) computed (all_use (λ t. list_any (λ y. is_set y t) computed) sets c.each s there) in
            subst (ContainsAt computed) (sym (set_is x s hx there f) ∙ ap has e) hx)
            (λ x hx.
            let (s, there, f) = any_has (is_set x) sets (all_use (λ y. list_any (is_set y) sets) computed c.only x hx) in
            (row s, has_map row sets s there, set_is x s hx there f))

        answer : ℕ → ℕ → Result Listing Fault
        answer n e = Ok (record { rows = n; effort = e })

        -- the first n rows left are the listing
        Left : ℕ → Type 0
        Left n = (map has (take n left) ≡ map listed sets) × (drop n left ≡ drop n found)

        only : (o : Result Listing Fault) → Listed m ch found o left → (o ≡ answer (length sets) effort) × (map has (take (length sets) left) ≡ map listed sets) × (drop (length sets) left ≡ drop (length sets) found)
        only (Ok o) (_, _, tried, _, inside, rows_left, later) =
            let rows : take o.rows left ≡ map row sets = one_listing rows_left listing in
            let n : o.rows ≡ length sets =
            omega (arith, length-take o.rows left, ap length rows, length-map sets row) in
            let said : Left o.rows = (ap (map has) rows ∙ rows_are m.size l.few_points sets c.inside, later) in
            let left_said : Left (length sets) = subst Left n said in
            (ap₂ answer n (effort_unique m ch o.effort effort tried counted), left_said.0, left_said.1)
        only (Err f) (inl (inl u, _)) = fitting m ch f (fits_use m l ch c.fit) u
        only (Err f) (inl (inr (_, (k, _, low, wide, _)), _)) = absurd (let w = narrow k low in omega arith)
        only (Err f) (inr ((_, _, (e, tried, inl (_, high))), _)) =
            absurd (let s = effort_unique m ch e effort tried counted in let t = leb-true effort 65536 c.low in omega arith)
        only (Err f) (inr ((_, _, (e, tried, inr (_, _, (rows, rows_all, more)))), _)) =
            absurd (omega (arith, ap length (one_listing rows_all listing), length-map sets row))

        there : (r ≡ answer (length sets) effort) × (map has (take (length sets) left) ≡ map listed sets) × (drop (length sets) left ≡ drop (length sets) found) →
            Listed m ch found r left
        there (e, rows, later) =
            let same : take (length sets) left ≡ map row sets =
            same_rulings (take (length sets) left) (map row sets) (rows ∙ sym (rows_are m.size l.few_points sets c.inside)) in
            subst (λ (o : Result Listing Fault). Listed m ch found o left) (sym e) (
              fits_use m l ch c.fit,
              narrow,
              counted,
              leb-true effort 65536 c.low,
              room,
              subst (AllInRowOrder (AllPartsStable m ch)) (sym same) listing,
              later,
            )
