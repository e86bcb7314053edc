-- The fillings of the lower chapters with stable parts, listed chapter by chapter: each of them, and each once.
use Rattle.std.proofs.Common.{◌≡◌, ℕ, zero, suc, ◌+◌, ◌^◌, ◌<◌, ◌≤◌, Bool, true, false, cond, ◌&&◌, ◌||◌, eqb, ltb, ◌⊎◌, List, [], ◌∷◌, sym, refl, ap, ◌∙◌, subst, ap₂, inl, inr, le_of_suc-le-suc, eq-or-lt_of_le, arith}
use mathlib.Core.Path.{fun_ext}
use Rattle.std.specs.List.{ContainsAt, flat_map, range_with_len}
use Rattle.std.proofs.lemmas.Bool.{ltb-true, eqb-true, lt-ltb, eq-eqb, not-false, cond-true, cond-false, and_parts, and_from, or_cases, or_left, or_right}
use Rattle.rulings.specs.Points.{Points, Part, union}
use Rattle.rows.proofs.Putting.{has_none, has_first}
use Rattle.semantics.specs.Meaning.{Meaning, Lawful}
use Rattle.semantics.specs.Closure.{Stable}
use Rattle.semantics.specs.Chapters.{in_chapter, below_chapter, chapter, PartStable}
use Rattle.semantics.specs.Listing.{count_below, width}
use Rattle.semantics.specs.Walk.{points_of, spread, none, holds, Test, Tells, with_candidate, passes}
use Rattle.semantics.proofs.Tests.{false_is_not_true}
use Rattle.semantics.proofs.Closures.{same_points, closure_inside}
use Rattle.semantics.proofs.Splitting.{chapter_lawful, in_chapter_of, below_chapter_of, own_chapter}
use Rattle.semantics.proofs.Subsets.{place_below, number_of, number_below, spread_part, spread_number, spread_once}
use Rattle.semantics.proofs.Joined.{Distinct, has_one, joined_has, has_joined, distinct_joined, numbers_has, has_numbers, distinct_numbers}

-- a set fills the chapters lower than k with stable parts, and has no other point
pub record Filled (m : Meaning) (ch : ℕ → ℕ) (k : ℕ) (x : Points) : Type 0 where
  pub lower : (a : ℕ) → x a ≡ true → ch a < k
  pub stable : (j : ℕ) → j < k → PartStable m ch x j

-- a filling with candidate c of chapter k, if that is stable
abbrev pub candidate_list : Meaning → (ℕ → ℕ) → Test → ℕ → Points → ℕ → List Points
candidate_list m ch test k U c = cond (passes m ch test k U c) (with_candidate m ch k U c ∷ []) []

-- a filling of the chapters lower than k, with each stable part of chapter k
abbrev pub extend : Meaning → (ℕ → ℕ) → Test → ℕ → Points → List Points
extend m ch test k U =
    cond (holds m ch k)
    (flat_map (candidate_list m ch test k U) (range_with_len 0 (2 ^ width m ch k)))
    (U ∷ [])

-- the fillings of the chapters lower than k
pub fillings : Meaning → (ℕ → ℕ) → Test → ℕ → List Points
fillings m ch test zero = none ∷ []
fillings m ch test (suc k) = flat_map (extend m ch test k) (fillings m ch test k)

pub fillings_zero : (m : Meaning) (ch : ℕ → ℕ) (test : Test) → fillings m ch test 0 ≡ none ∷ []
unfolding fillings
fillings_zero m ch test = refl

pub fillings_suc : (m : Meaning) (ch : ℕ → ℕ) (test : Test) (k : ℕ) → fillings m ch test (suc k) ≡ flat_map (extend m ch test k) (fillings m ch test k)
unfolding fillings
fillings_suc m ch test k = refl

-- ---- the points of a chapter

module _ (m : Meaning) (ch : ℕ → ℕ) (k : ℕ) where
  pub points_inside : (a : ℕ) → points_of m ch k a ≡ true → a < m.size
  unfolding points_of
  points_inside a h = ltb-true a m.size (and_parts _ _ h).1

  pub points_chapter : (a : ℕ) → points_of m ch k a ≡ true → ch a ≡ k
  unfolding points_of
  points_chapter a h = eqb-true (ch a) k (and_parts _ _ h).0

  pub points_of_own : (a : ℕ) → ch a ≡ k → a < m.size → points_of m ch k a ≡ true
  unfolding points_of
  points_of_own a e l = and_from _ _ (eq-eqb (ch a) k e) (lt-ltb a m.size l)

  pub points_count : count_below m.size (points_of m ch k) ≡ width m ch k
  unfolding points_of
  points_count = go m.size (omega arith)
    where
      bit : (s t : Bool) → t ≡ true → cond {A = ℕ} (s && t) 1 0 ≡ cond s 1 0
      bit true t e = rw e refl
      bit false t e = refl

      go : (n : ℕ) → n ≤ m.size → count_below n (points_of m ch k) ≡ count_below n (λ a. eqb (ch a) k)
      go zero h = refl
      go (suc n) h = ap₂ ◌+◌ (bit (eqb (ch n) k) (ltb n m.size) (lt-ltb n m.size h)) (go n (omega arith))

  -- a chapter with a point of the book holds one
  pub no_points : holds m ch k ≡ false → (a : ℕ) → ch a ≡ k → a < m.size → ⊥
  no_points h a e l =
      let p = place_below (points_of m ch k) m.size a l (points_of_own a e l) in
      let w = eqb-true (width m ch k) 0 (not-false (eqb (width m ch k) 0) h) in
      let c = points_count in
      omega arith

-- ---- parts of sets that agree

and_same : (t u v : Bool) → (t ≡ true → u ≡ v) → t && u ≡ t && v
and_same true u v f = f refl
and_same false u v f = refl

-- stable parts depend on the points up to their chapter
pub stable_agrees : (m : Meaning) (ch : ℕ → ℕ) (j : ℕ) (x y : Points) → ((a : ℕ) → ch a ≤ j → x a ≡ y a) → PartStable m ch x j → PartStable m ch y j
stable_agrees m ch j x y h s =
    subst (λ (u : Points). Stable (chapter m ch j u u) (in_chapter ch j y)) below
    (subst (λ (v : Points). Stable (chapter m ch j (below_chapter ch j x) (below_chapter ch j x)) v) here s)
  where
    below : below_chapter ch j x ≡ below_chapter ch j y
    below = fun_ext (λ a. and_same (ltb (ch a) j) (x a) (y a) (λ e. h a (let l = ltb-true (ch a) j e in omega arith)))

    here : in_chapter ch j x ≡ in_chapter ch j y
    here = fun_ext (λ a. and_same (eqb (ch a) j) (x a) (y a) (λ e. h a (let l = eqb-true (ch a) j e in omega arith)))

module _ (m : Meaning) (l : Lawful m) (ch : ℕ → ℕ) where
  -- the points of stable parts derive, so they are points of the book
  pub filled_inside : (k : ℕ) (x : Points) → Filled m ch k x → (a : ℕ) → x a ≡ true → a < m.size
  filled_inside k x f a h =
      closure_inside (chapter m ch j u u) (chapter_lawful m l ch j u u) (in_chapter ch j x) (in_chapter ch j x)
      (f.stable j (f.lower a h)) a (in_chapter_of ch j x a (own_chapter ch a) h)
    where
      j : ℕ
      j = ch a

      u : Points
      u = below_chapter ch j x

  -- a chapter without points is filled as it is
  pub filled_over_empty : (k : ℕ) (U : Points) → Filled m ch k U → holds m ch k ≡ false → Filled m ch (suc k) U
  filled_over_empty k U f h =
      record {
        lower = λ a e. let q = f.lower a e in omega arith;
        stable = λ j q. at j (eq-or-lt_of_le (le_of_suc-le-suc q));
      }
    where
      u : Points
      u = below_chapter ch k U

      here : PartStable m ch U k
      here =
          record {
            closed = λ a d. let p = and_parts _ _ d in
                absurd (no_points m ch k h a (eqb-true (ch a) k p.0) ((chapter_lawful m l ch k u u).derives_inside (in_chapter ch k U) (in_chapter ch k U) a d));
            least = λ Z z a d. let p = and_parts _ _ d in
                let e = eqb-true (ch a) k p.0 in
                let q = f.lower a p.1 in absurd (omega arith);
          }

      at : (j : ℕ) → (j ≡ k) ⊎ (j < k) → PartStable m ch U j
      at j (inl e) = subst (PartStable m ch U) (sym e) here
      at j (inr q) = f.stable j q

  -- a set that fills one chapter more has no point there, if the chapter holds none
  pub empty_filled : (k : ℕ) (x : Points) → Filled m ch (suc k) x → holds m ch k ≡ false → below_chapter ch k x ≡ x
  empty_filled k x f h =
      same_points (below_chapter ch k x) x (λ a e. (and_parts _ _ e).1) (λ a e. below_chapter_of ch k x a (lower a e (eq-or-lt_of_le (le_of_suc-le-suc (f.lower a e)))) e)
    where
      lower : (a : ℕ) → x a ≡ true → (ch a ≡ k) ⊎ (ch a < k) → ch a < k
      lower a e (inl q) = absurd (no_points m ch k h a q (filled_inside (suc k) x f a e))
      lower a e (inr q) = q

  -- the lower part of a filling is a filling
  pub lower_filled : (k : ℕ) (x : Points) → Filled m ch (suc k) x → Filled m ch k (below_chapter ch k x)
  lower_filled k x f =
      record {
        lower = λ a h. ltb-true (ch a) k (and_parts _ _ h).0;
        stable = λ j q. stable_agrees m ch j x (below_chapter ch k x) (λ a p. sym (cut a (lt-ltb (ch a) k (omega arith)))) (f.stable j (omega arith));
      }
    where
      cut : (a : ℕ) → ltb (ch a) k ≡ true → below_chapter ch k x a ≡ x a
      cut a e = ap (λ (t : Bool). t && x a) e

  -- a filling with a candidate of the next chapter: its part in the chapter, and below
  module _ (k : ℕ) (U : Points) (f : Filled m ch k U) (c : ℕ) where
    candidate_chapter : (a : ℕ) → spread (points_of m ch k) c a ≡ true → ch a ≡ k
    candidate_chapter a h = points_chapter m ch k a (spread_part (points_of m ch k) c a h)

    pub below_with : below_chapter ch k (with_candidate m ch k U c) ≡ U
    below_with =
        same_points (below_chapter ch k (with_candidate m ch k U c)) U
        (λ a h. let p = and_parts _ _ h in from a (ltb-true (ch a) k p.0) (or_cases _ _ p.1))
        (λ a h. below_chapter_of ch k (with_candidate m ch k U c) a (f.lower a h) (or_left _ _ h))
      where
        from : (a : ℕ) → ch a < k → (U a ≡ true) ⊎ (spread (points_of m ch k) c a ≡ true) → U a ≡ true
        from a q (inl e) = e
        from a q (inr e) = let i = candidate_chapter a e in absurd (omega arith)

    pub part_with : in_chapter ch k (with_candidate m ch k U c) ≡ spread (points_of m ch k) c
    part_with =
        same_points (in_chapter ch k (with_candidate m ch k U c)) (spread (points_of m ch k) c)
        (λ a h. let p = and_parts _ _ h in from a (eqb-true (ch a) k p.0) (or_cases _ _ p.1))
        (λ a h. in_chapter_of ch k (with_candidate m ch k U c) a (eq-eqb (ch a) k (candidate_chapter a h)) (or_right _ _ h))
      where
        from : (a : ℕ) → ch a ≡ k → (U a ≡ true) ⊎ (spread (points_of m ch k) c a ≡ true) → spread (points_of m ch k) c a ≡ true
        from a q (inl e) = let i = f.lower a e in absurd (omega arith)
        from a q (inr e) = e

    pub with_inside : (a : ℕ) → with_candidate m ch k U c a ≡ true → a < m.size
    with_inside a h = from (or_cases _ _ h)
      where
        from : (U a ≡ true) ⊎ (spread (points_of m ch k) c a ≡ true) → a < m.size
        from (inl e) = filled_inside k U f a e
        from (inr e) = points_inside m ch k a (spread_part (points_of m ch k) c a e)

    -- a stable candidate gives a filling of one chapter more
    pub with_filled : PartStable m ch (with_candidate m ch k U c) k → Filled m ch (suc k) (with_candidate m ch k U c)
    with_filled s =
        record {
          lower = λ a h. lower a (or_cases _ _ h);
          stable = λ j q. at j (eq-or-lt_of_le (le_of_suc-le-suc q));
        }
      where
        lower : (a : ℕ) → (U a ≡ true) ⊎ (spread (points_of m ch k) c a ≡ true) → ch a < suc k
        lower a (inl e) = let q = f.lower a e in omega arith
        lower a (inr e) = let q = candidate_chapter a e in omega arith

        off : (a : ℕ) → ch a < k → (t : Bool) → spread (points_of m ch k) c a ≡ t → U a ≡ U a || t
        off a q true e = let i = candidate_chapter a e in absurd (omega arith)
        off a q false e = or_false (U a)
          where
            or_false : (t : Bool) → t ≡ t || false
            or_false true = refl
            or_false false = refl

        at : (j : ℕ) → (j ≡ k) ⊎ (j < k) → PartStable m ch (with_candidate m ch k U c) j
        at j (inl e) = subst (PartStable m ch (with_candidate m ch k U c)) (sym e) s
        at j (inr q) = stable_agrees m ch j U (with_candidate m ch k U c) (λ a p. off a (omega arith) (spread (points_of m ch k) c a) refl) (f.stable j q)

    -- the test of a candidate tells whether it is stable
    pub passes_stable : (test : Test) → Tells m ch test → passes m ch test k U c ≡ true → PartStable m ch (with_candidate m ch k U c) k
    passes_stable test tells h =
        (tells k (with_candidate m ch k U c) with_inside).0
        (ap₂ (test k) below_with part_with ∙ h)

-- what stands in an extension: the filling with a stable candidate, or as it is over a chapter without points
pub record Extended (m : Meaning) (ch : ℕ → ℕ) (test : Test) (k : ℕ) (U y : Points) : Type 0 where
  pub candidate : ℕ
  pub small : candidate < 2 ^ width m ch k
  pub passed : passes m ch test k U candidate ≡ true
  pub is : with_candidate m ch k U candidate ≡ y

module _ (m : Meaning) (ch : ℕ → ℕ) (test : Test) (k : ℕ) (U : Points) where
  candidate_has : (c : ℕ) (y : Points) → ContainsAt (candidate_list m ch test k U c) y → (passes m ch test k U c ≡ true) × (with_candidate m ch k U c ≡ y)
  candidate_has c y h = go (passes m ch test k U c) refl h
    where
      go : (t : Bool) → passes m ch test k U c ≡ t → ContainsAt (cond t (with_candidate m ch k U c ∷ []) []) y →
          (passes m ch test k U c ≡ true) × (with_candidate m ch k U c ≡ y)
      go true e q = (e, has_one (with_candidate m ch k U c) y q)
      go false e q = absurd (has_none y q)

  has_candidate : (c : ℕ) → passes m ch test k U c ≡ true → ContainsAt (candidate_list m ch test k U c) (with_candidate m ch k U c)
  has_candidate c e =
      subst (λ (ys : List Points). ContainsAt ys (with_candidate m ch k U c)) (sym (cond-true (passes m ch test k U c) (with_candidate m ch k U c ∷ []) [] e))
      (has_first [] (with_candidate m ch k U c))

  pub extend_holds : holds m ch k ≡ true → extend m ch test k U ≡ flat_map (candidate_list m ch test k U) (range_with_len 0 (2 ^ width m ch k))
  extend_holds e = cond-true (holds m ch k) _ _ e

  pub extend_empty : holds m ch k ≡ false → extend m ch test k U ≡ U ∷ []
  extend_empty e = cond-false (holds m ch k) _ _ e

  pub extended : (y : Points) → ContainsAt (extend m ch test k U) y → ((holds m ch k ≡ false) × (U ≡ y)) ⊎ Extended m ch test k U y
  extended y h = go (holds m ch k) refl
    where
      go : (t : Bool) → holds m ch k ≡ t → ((holds m ch k ≡ false) × (U ≡ y)) ⊎ Extended m ch test k U y
      go true e =
          let (c, there, q) = joined_has (candidate_list m ch test k U) (range_with_len 0 (2 ^ width m ch k)) y (subst (λ (ys : List Points). ContainsAt ys y) (extend_holds e) h) in
          let (pass, same) = candidate_has c y q in
          inr (record { candidate = c; small = let (_, b) = numbers_has 0 (2 ^ width m ch k) c there in omega arith; passed = pass; is = same })
      go false e = inl (e, has_one U y (subst (λ (ys : List Points). ContainsAt ys y) (extend_empty e) h))

  pub has_extended : (c : ℕ) → holds m ch k ≡ true → c < 2 ^ width m ch k → passes m ch test k U c ≡ true → ContainsAt (extend m ch test k U) (with_candidate m ch k U c)
  has_extended c e h p =
      subst (λ (ys : List Points). ContainsAt ys (with_candidate m ch k U c)) (sym (extend_holds e))
      (has_joined (candidate_list m ch test k U) (range_with_len 0 (2 ^ width m ch k)) c (with_candidate m ch k U c) (has_numbers 0 (2 ^ width m ch k) c (omega arith) (omega arith)) (has_candidate c p))

module _ (m : Meaning) (l : Lawful m) (ch : ℕ → ℕ) (test : Test) where
  -- an extension keeps the part below
  extended_below : (k : ℕ) (U y : Points) → Filled m ch k U → ContainsAt (extend m ch test k U) y → below_chapter ch k y ≡ U
  extended_below k U y f h = go (extended m ch test k U y h)
    where
      go : ((holds m ch k ≡ false) × (U ≡ y)) ⊎ Extended m ch test k U y → below_chapter ch k y ≡ U
      go (inl (e, q)) = subst (λ (z : Points). below_chapter ch k z ≡ U) q (empty_filled m l ch k U (filled_over_empty m l ch k U f e) e)
      go (inr s) = subst (λ (z : Points). below_chapter ch k z ≡ U) s.is (below_with m l ch k U f s.candidate)

  extend_distinct : (k : ℕ) (U : Points) → Filled m ch k U → Distinct (extend m ch test k U)
  extend_distinct k U f = go (holds m ch k) refl
    where
      D : Points
      D = points_of m ch k

      same : (c d : ℕ) (y : Points) → ContainsAt (range_with_len 0 (2 ^ width m ch k)) c → ContainsAt (range_with_len 0 (2 ^ width m ch k)) d →
          ContainsAt (candidate_list m ch test k U c) y → ContainsAt (candidate_list m ch test k U d) y → c ≡ d
      same c d y hc hd yc yd =
          let (_, bc) = numbers_has 0 (2 ^ width m ch k) c hc in
          let (_, bd) = numbers_has 0 (2 ^ width m ch k) d hd in
          let e : with_candidate m ch k U c ≡ with_candidate m ch k U d = (candidate_has m ch test k U c y yc).1 ∙ sym (candidate_has m ch test k U d y yd).1 in
          let s : spread D c ≡ spread D d = sym (part_with m l ch k U f c) ∙ (ap (in_chapter ch k) e ∙ part_with m l ch k U f d) in
          spread_once m.size D (points_inside m ch k) c d (rw (points_count m ch k) (omega arith)) (rw (points_count m ch k) (omega arith)) s

      each : (c : ℕ) → Distinct (candidate_list m ch test k U c)
      each c = at (passes m ch test k U c)
        where
          at : (t : Bool) → Distinct (cond t (with_candidate m ch k U c ∷ []) [])
          at true = (tt, tt)
          at false = tt

      go : (t : Bool) → holds m ch k ≡ t → Distinct (extend m ch test k U)
      go true e =
          subst Distinct (sym (extend_holds m ch test k U e))
          (distinct_joined (candidate_list m ch test k U) (range_with_len 0 (2 ^ width m ch k)) (distinct_numbers 0 (2 ^ width m ch k)) (λ c _. each c) same)
      go false e = subst Distinct (sym (extend_empty m ch test k U e)) (tt, tt)

  module _ (tells : Tells m ch test) where
    -- every listed set is a filling
    pub fillings_sound : (k : ℕ) (x : Points) → ContainsAt (fillings m ch test k) x → Filled m ch k x
    unfolding fillings
    fillings_sound zero x h =
        record {
          lower = λ a e. false_is_not_true (ap (λ (z : Points). z a) (has_one none x h) ∙ e);
          stable = λ j q. absurd (omega arith);
        }
    fillings_sound (suc k) x h =
        let (U, there, q) = joined_has (extend m ch test k) (fillings m ch test k) x h in
        go U (fillings_sound k U there) (extended m ch test k U x q)
      where
        go : (U : Points) → Filled m ch k U → ((holds m ch k ≡ false) × (U ≡ x)) ⊎ Extended m ch test k U x → Filled m ch (suc k) x
        go U f (inl (e, q)) = subst (Filled m ch (suc k)) q (filled_over_empty m l ch k U f e)
        go U f (inr s) =
            subst (Filled m ch (suc k)) s.is
            (with_filled m l ch k U f s.candidate (passes_stable m l ch k U f s.candidate test tells s.passed))

    -- every filling is listed
    pub fillings_complete : (k : ℕ) (x : Points) → Filled m ch k x → ContainsAt (fillings m ch test k) x
    unfolding fillings
    fillings_complete zero x f =
        subst (ContainsAt (none ∷ [])) (same_points none x (λ a e. false_is_not_true e) (λ a e. let q = f.lower a e in absurd (omega arith)))
        (has_first [] none)
    fillings_complete (suc k) x f =
        has_joined (extend m ch test k) (fillings m ch test k) U x (fillings_complete k U (lower_filled m l ch k x f)) (go (holds m ch k) refl)
      where
        U : Points
        U = below_chapter ch k x

        D : Points
        D = points_of m ch k

        p : Points
        p = in_chapter ch k x

        part : Part p D
        part a h = let q = and_parts _ _ h in points_of_own m ch k a (eqb-true (ch a) k q.0) (filled_inside m l ch (suc k) x f a q.1)

        c : ℕ
        c = number_of D m.size p

        small : c < 2 ^ width m ch k
        small = subst (λ (w : ℕ). c < 2 ^ w) (points_count m ch k) (number_below D m.size p)

        is : spread D c ≡ p
        is = spread_number m.size D (points_inside m ch k) p part

        whole : with_candidate m ch k U c ≡ x
        whole = ap (union U) is ∙ same_points (union U p) x
            (λ a h. from a (or_cases _ _ h)) (λ a h. to a h (eq-or-lt_of_le (le_of_suc-le-suc (f.lower a h))))
          where
            from : (a : ℕ) → (U a ≡ true) ⊎ (p a ≡ true) → x a ≡ true
            from a (inl e) = (and_parts _ _ e).1
            from a (inr e) = (and_parts _ _ e).1

            to : (a : ℕ) → x a ≡ true → (ch a ≡ k) ⊎ (ch a < k) → union U p a ≡ true
            to a h (inl e) = or_right _ _ (in_chapter_of ch k x a (eq-eqb (ch a) k e) h)
            to a h (inr q) = or_left _ _ (below_chapter_of ch k x a q h)

        passed : passes m ch test k U c ≡ true
        passed = ap (test k U) is ∙ (tells k x (filled_inside m l ch (suc k) x f)).1 (f.stable k (omega arith))

        go : (t : Bool) → holds m ch k ≡ t → ContainsAt (extend m ch test k U) x
        go true e = subst (ContainsAt (extend m ch test k U)) whole (has_extended m ch test k U c e small passed)
        go false e =
            subst (λ (ys : List Points). ContainsAt ys x) (sym (extend_empty m ch test k U e))
            (subst (ContainsAt (U ∷ [])) (empty_filled m l ch k x f e) (has_first [] U))

    -- and no set twice
    pub fillings_distinct : (k : ℕ) → Distinct (fillings m ch test k)
    unfolding fillings
    fillings_distinct zero = (tt, tt)
    fillings_distinct (suc k) =
        distinct_joined (extend m ch test k) (fillings m ch test k) (fillings_distinct k)
        (λ U h. extend_distinct k U (fillings_sound k U h))
        (λ U V y hU hV yU yV. sym (extended_below k U y (fillings_sound k U hU) yU) ∙ extended_below k V y (fillings_sound k V hV) yV)
