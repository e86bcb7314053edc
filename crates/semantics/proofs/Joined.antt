-- Lists: elements, lists that are joined, and lists without repetition.
use Rattle.std.proofs.Common.{◌≡◌, ℕ, zero, suc, ◌+◌, ◌-◌, ◌<◌, ◌≤◌, Bool, true, false, cond, ◌⊎◌, List, [], ◌∷◌, ◌++◌, sym, refl, ap, ◌∙◌, subst, inl, inr, arith}
use Rattle.std.specs.List.{ContainsAt, flat_map, AllByRecursion, range_with_len}
use Rattle.std.proofs.ByRecursion.{All-append, all-has, has_append_left, has_append_right, has_append_cases}
use Rattle.std.proofs.lemmas.List.FromFn.{length-range_with_len, get_or-range_with_len}
use Rattle.std.proofs.lemmas.List.{append-nil}
use Rattle.std.proofs.lemmas.List.Concat.{flat_map-append}
use Rattle.rows.proofs.Pairwise.{Pairwise}
use Rattle.rows.proofs.Putting.{has_none, has_first, has_later, has_cases}

module _ {A : Type 0} where
  pub has_one : (y x : A) → ContainsAt (y ∷ []) x → y ≡ x
  has_one y x h = go (has_cases [] y x h)
    where
      go : (y ≡ x) ⊎ ContainsAt [] x → y ≡ x
      go (inl e) = e
      go (inr n) = absurd (has_none x n)

  pub all_of_has : (P : A → Type 0) (xs : List A) → ((x : A) → ContainsAt xs x → P x) → AllByRecursion P xs
  all_of_has P [] h = tt
  all_of_has P (x ∷ xs) h = (h x (has_first xs x), all_of_has P xs (λ y l. h y (has_later xs x y l)))

  -- no element twice
  abbrev pub Distinct : List A → Type 0
  Distinct xs = Pairwise (λ (x y : A). x ≡ y → ⊥) xs

  pub distinct_append : (xs ys : List A) → Distinct xs → Distinct ys → ((x : A) → ContainsAt xs x → ContainsAt ys x → ⊥) → Distinct (xs ++ ys)
  distinct_append [] ys p q apart = q
  distinct_append (x ∷ xs) ys p q apart = (
    All-append (λ (y : A). x ≡ y → ⊥) xs ys p.0
        (all_of_has (λ (y : A). x ≡ y → ⊥) ys (λ y h e. apart x (has_first xs x) (subst (ContainsAt ys) (sym e) h))),
    distinct_append xs ys p.1 q (λ y h. apart y (has_later xs x y h)),
  )

module _ {X A : Type 0} (f : X → List A) where
  pub joined_only : (x : X) → flat_map f (x ∷ []) ≡ f x
  joined_only x = append-nil (f x)

  -- an element of the joined lists is one of the list of some element
  pub joined_has : (xs : List X) (y : A) → ContainsAt (flat_map f xs) y → (x : X) × ContainsAt xs x × ContainsAt (f x) y
  joined_has [] y h = absurd (has_none y h)
  joined_has (x ∷ xs) y h =
      elim (has_append_cases (f x) (flat_map f xs) y h) [
        | inl l ↦ (x, has_first xs x, l)
        | inr r ↦ let (z, there, is) = joined_has xs y r in (z, has_later xs x z there, is)
      ]

  pub has_joined : (xs : List X) (x : X) (y : A) → ContainsAt xs x → ContainsAt (f x) y → ContainsAt (flat_map f xs) y
  has_joined [] x y h l = absurd (has_none x h)
  has_joined (z ∷ xs) x y h l =
      elim (has_cases xs z x h) [
        | inl e ↦ has_append_left (f z) (flat_map f xs) y (subst (λ (w : X). ContainsAt (f w) y) (sym e) l)
        | inr r ↦ has_append_right (f z) (flat_map f xs) y (has_joined xs x y r l)
      ]

  -- lists without repetition that share no element make one without repetition
  pub distinct_joined : (xs : List X) → Distinct xs → ((x : X) → ContainsAt xs x → Distinct (f x)) →
      ((x z : X) (y : A) → ContainsAt xs x → ContainsAt xs z → ContainsAt (f x) y → ContainsAt (f z) y → x ≡ z) → Distinct (flat_map f xs)
  distinct_joined [] p each only = tt
  distinct_joined (x ∷ xs) p each only =
      distinct_append (f x) (flat_map f xs) (each x (has_first xs x))
      (distinct_joined xs p.1 (λ z h. each z (has_later xs x z h)) (λ z w y h k. only z w y (has_later xs x z h) (has_later xs x w k)))
      (λ y h k. let (z, there, is) = joined_has xs y k in
      all-has (λ (w : X). x ≡ w → ⊥) xs z p.0 there (only x z y (has_first xs x) (has_later xs x z there) h is))

pub joined_joined : {X Y A : Type 0} (f : X → List Y) (g : Y → List A) (xs : List X) → flat_map g (flat_map f xs) ≡ flat_map (λ x. flat_map g (f x)) xs
joined_joined f g [] = refl
joined_joined {A = A} f g (x ∷ xs) = flat_map-append g (f x) (flat_map f xs) ∙ ap (λ (zs : List A). flat_map g (f x) ++ zs) (joined_joined f g xs)

pub joined_single : {A : Type 0} (xs : List A) → flat_map (λ x. x ∷ []) xs ≡ xs
joined_single [] = refl
joined_single {A} (x ∷ xs) = ap (λ (zs : List A). x ∷ zs) (joined_single xs)

pub joined_cond : {X A : Type 0} (f : X → List A) (b : Bool) (xs : List X) → flat_map f (cond b xs []) ≡ cond b (flat_map f xs) []
joined_cond f true xs = refl
joined_cond f false xs = refl

-- ---- n numbers, from c on

pub numbers_has : (c n j : ℕ) → ContainsAt (range_with_len c n) j → (c ≤ j) × (j < c + n)
numbers_has c zero j h = absurd (has_none j h)
numbers_has c (suc n) j h =
    elim (has_cases (range_with_len (c + 1) n) c j h) [
      | inl e ↦ (omega arith, omega arith)
      | inr l ↦ let (low, high) = numbers_has (c + 1) n j l in (omega arith, omega arith)
    ]

pub has_numbers : (c n j : ℕ) → c ≤ j → j < c + n → ContainsAt (range_with_len c n) j
has_numbers c n j h l =
    let i : j ≡ c + (j - c) = omega arith in
    (j - c, rw (length-range_with_len c n) (omega arith), λ d. get_or-range_with_len c n (j - c) d (omega arith) ∙ sym i)

pub distinct_numbers : (c n : ℕ) → Distinct (range_with_len c n)
distinct_numbers c zero = tt
distinct_numbers c (suc n) =
    (all_of_has (λ (j : ℕ). c ≡ j → ⊥) (range_with_len (c + 1) n) (λ j h e. let (low, high) = numbers_has (c + 1) n j h in omega arith), distinct_numbers (c + 1) n)
