-- The levels of the walk: the chapters that hold a point.
use Rattle.std.proofs.Common.{◌≡◌, ℕ, zero, suc, ◌+◌, ◌<◌, ◌≤◌, Bool, true, false, cond, ◌⊎◌, List, [], ◌∷◌, ◌++◌, length, get_or, filter, sym, refl, ap, ◌∙◌, subst, inl, inr, add-one, arith}
use Rattle.std.specs.List.{ContainsAt, range_with_len}
use Rattle.std.proofs.lemmas.List.FromFn.{length-range_with_len}
use Rattle.std.proofs.lemmas.List.Elements.{filter-append}
use Rattle.std.proofs.ByRecursion.{has_get_or}
use Rattle.std.proofs.lemmas.List.{append-nil}
use Rattle.std.proofs.lemmas.List.Sums.{length-filter, count_by-le-length}
use Rattle.std.proofs.lemmas.Bool.{cond-true, cond-false}
use Rattle.rows.proofs.Putting.{has_none, has_first, has_later, has_cases}
use Rattle.semantics.specs.Meaning.{Meaning, Lawful}
use Rattle.semantics.specs.Chapters.{Sixteen}
use Rattle.semantics.specs.Walk.{holds, levels}
use Rattle.semantics.proofs.Tests.{false_is_not_true}
use Rattle.semantics.proofs.Joined.{numbers_has, has_numbers}
use Rattle.semantics.proofs.Fillings.{no_points}

has_kept_by : {X : Type 0} (p : X → Bool) (xs : List X) (x : X) → ContainsAt xs x → p x ≡ true → ContainsAt (filter p xs) x
has_kept_by p [] x h e = absurd (has_none x h)
has_kept_by {X} p (y ∷ xs) x h e = go (has_cases xs y x h) (p y) refl (λ q. has_kept_by p xs x q e)
  where
    go : (y ≡ x) ⊎ ContainsAt xs x → (t : Bool) → p y ≡ t → (ContainsAt xs x → ContainsAt (filter p xs) x) → ContainsAt (cond t (y ∷ filter p xs) (filter p xs)) x
    go (inl i) true q ih = subst (ContainsAt (y ∷ filter p xs)) i (has_first (filter p xs) y)
    go (inl i) false q ih = false_is_not_true (sym q ∙ (ap p i ∙ e))
    go (inr l) true q ih = has_later (filter p xs) y x (ih l)
    go (inr l) false q ih = ih l

kept_by_has : {X : Type 0} (p : X → Bool) (xs : List X) (x : X) → ContainsAt (filter p xs) x → ContainsAt xs x × (p x ≡ true)
kept_by_has p [] x h = absurd (has_none x h)
kept_by_has {X} p (y ∷ xs) x h = go (p y) refl h (λ q. kept_by_has p xs x q)
  where
    later : ContainsAt xs x × (p x ≡ true) → ContainsAt (y ∷ xs) x × (p x ≡ true)
    later (l, e) = (has_later xs y x l, e)

    first : p y ≡ true → (y ≡ x) ⊎ ContainsAt (filter p xs) x → (ContainsAt (filter p xs) x → ContainsAt xs x × (p x ≡ true)) → ContainsAt (y ∷ xs) x × (p x ≡ true)
    first q (inl i) ih = (subst (ContainsAt (y ∷ xs)) i (has_first xs y), ap p (sym i) ∙ q)
    first q (inr l) ih = later (ih l)

    go : (t : Bool) → p y ≡ t → ContainsAt (cond t (y ∷ filter p xs) (filter p xs)) x → (ContainsAt (filter p xs) x → ContainsAt xs x × (p x ≡ true)) → ContainsAt (y ∷ xs) x × (p x ≡ true)
    go true q l ih = first q (has_cases (filter p xs) y x l) ih
    go false q l ih = later (ih l)

-- the n chapters from k on that hold a point
pub levels_from : Meaning → (ℕ → ℕ) → ℕ → ℕ → List ℕ
levels_from m ch n k = filter (holds m ch) (range_with_len k n)

module _ (m : Meaning) (ch : ℕ → ℕ) where
  pub levels_all : levels m ch ≡ levels_from m ch 16 0
  unfolding levels levels_from
  levels_all = refl

  pub levels_none : (k : ℕ) → levels_from m ch 0 k ≡ []
  unfolding levels_from
  levels_none k = refl

  pub levels_holds : (n k : ℕ) → holds m ch k ≡ true → levels_from m ch (suc n) k ≡ k ∷ levels_from m ch n (suc k)
  unfolding levels_from
  levels_holds n k e = cond-true (holds m ch k) _ _ e ∙ ap (λ (j : ℕ). k ∷ filter (holds m ch) (range_with_len j n)) (add-one k)

  pub levels_empty : (n k : ℕ) → holds m ch k ≡ false → levels_from m ch (suc n) k ≡ levels_from m ch n (suc k)
  unfolding levels_from
  levels_empty n k e = cond-false (holds m ch k) _ _ e ∙ ap (λ (j : ℕ). filter (holds m ch) (range_with_len j n)) (add-one k)

-- the chapter of point 0 is a level
pub first_level : (m : Meaning) → Lawful m → (ch : ℕ → ℕ) → Sixteen ch → ContainsAt (levels m ch) (ch 0)
unfolding levels
first_level m l ch few =
    has_kept_by (holds m ch) (range_with_len 0 16) (ch 0) (has_numbers 0 16 (ch 0) (omega arith) (let h = few 0 in omega arith)) (go (holds m ch (ch 0)) refl)
  where
    go : (t : Bool) → holds m ch (ch 0) ≡ t → t ≡ true
    go true e = refl
    go false e = absurd (no_points m ch (ch 0) e 0 refl l.some_point)

-- every level is one of the sixteen chapters and holds a point
pub level_holds : (m : Meaning) (ch : ℕ → ℕ) (j : ℕ) → j < length (levels m ch) → (get_or (levels m ch) j 0 < 16) × (holds m ch (get_or (levels m ch) j 0) ≡ true)
unfolding levels
level_holds m ch j h =
    let (there, e) = kept_by_has (holds m ch) (range_with_len 0 16) (get_or (levels m ch) j 0) (has_get_or (levels m ch) j 0 h) in
    let (_, small) = numbers_has 0 16 (get_or (levels m ch) j 0) there in
    (omega arith, e)

-- ---- the levels found one chapter after another

numbers_push : (c n j : ℕ) → c + n ≡ j → range_with_len c (suc n) ≡ range_with_len c n ++ j ∷ []
numbers_push c zero j e = let same : c ≡ j = omega arith in ap (λ (k : ℕ). k ∷ []) same
numbers_push c (suc n) j e = ap (λ (ks : List ℕ). c ∷ ks) (numbers_push (c + 1) n j (omega arith))

-- the levels among the chapters below n
pub levels_below : Meaning → (ℕ → ℕ) → ℕ → List ℕ
levels_below m ch n = filter (holds m ch) (range_with_len 0 n)

module _ (m : Meaning) (ch : ℕ → ℕ) where
  pub levels_below_zero : levels_below m ch 0 ≡ []
  unfolding levels_below
  levels_below_zero = refl

  pub levels_below_all : levels_below m ch 16 ≡ levels m ch
  unfolding levels_below levels
  levels_below_all = refl

  levels_below_push : (n : ℕ) → levels_below m ch (n + 1) ≡ levels_below m ch n ++ filter (holds m ch) (n ∷ [])
  unfolding levels_below
  levels_below_push n =
      ap (λ (i : ℕ). filter (holds m ch) (range_with_len 0 i)) (add-one n)
      ∙ (ap (filter (holds m ch)) (numbers_push 0 n n (omega arith)) ∙ filter-append (holds m ch) (range_with_len 0 n) (n ∷ []))

  pub levels_below_more : (n : ℕ) → holds m ch n ≡ true → levels_below m ch (n + 1) ≡ levels_below m ch n ++ n ∷ []
  levels_below_more n e = levels_below_push n ∙ ap (λ (ks : List ℕ). levels_below m ch n ++ ks) (cond-true (holds m ch n) _ _ e)

  pub levels_below_same : (n : ℕ) → holds m ch n ≡ false → levels_below m ch (n + 1) ≡ levels_below m ch n
  levels_below_same n e = levels_below_push n ∙ (ap (λ (ks : List ℕ). levels_below m ch n ++ ks) (cond-false (holds m ch n) _ _ e) ∙ append-nil (levels_below m ch n))

  pub levels_below_few : (n : ℕ) → length (levels_below m ch n) ≤ n
  unfolding levels_below
  levels_below_few n =
      let a = length-filter (holds m ch) (range_with_len 0 n) in
      let b = count_by-le-length (holds m ch) (range_with_len 0 n) in
      let c = length-range_with_len 0 n in
      omega arith

-- a book has a level
pub some_level : (m : Meaning) → Lawful m → (ch : ℕ → ℕ) → Sixteen ch → 0 < length (levels m ch)
some_level m l ch few = let (k, h, _) = first_level m l ch few in omega arith
