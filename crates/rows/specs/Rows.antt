-- Rows in order, and a row put among them.
use Rattle.std.specs.Prelude.{◌≡◌, ℕ, ◌+◌, ◌<◌, ◌≤◌, ◌-◌, Option, Some, None, ◌↔◌, List, [], ◌∷◌, ◌++◌, length, take, drop, slice_index_or}
use Rattle.std.specs.List.{ContainsAt, AllByRecursion, AllPairs}

module _ {A : Type 0} (before : A → A → Type 0) where
  -- no row stands behind one that it comes before
  abbrev pub InOrder : List A → Type 0
  InOrder xs = AllPairs (λ x y. before y x → ⊥) xs

  -- each row comes before all later ones
  abbrev pub StrictlyInOrder : List A → Type 0
  StrictlyInOrder xs = AllPairs before xs

  -- the same rows, strictly in order, are the same list
  abbrev pub SameRowsSameList : Type 0
  SameRowsSameList =
      (xs ys : List A) → StrictlyInOrder xs → StrictlyInOrder ys → ((r : A) → ContainsAt xs r ↔ ContainsAt ys r) → xs ≡ ys

  -- ys is xs with the row put in: it goes ahead of the rows at the end that it comes before, and behind all others
  pub record PutIn (row : A) (xs ys : List A) : Type 0 where
    pub front : List A
    pub back : List A
    pub split : xs ≡ front ++ back
    pub result : ys ≡ front ++ row ∷ back
    pub ahead_of : AllByRecursion (λ x. before row x) back
    pub behind : (rest : List A) (last : A) → front ≡ rest ++ last ∷ [] → before row last → ⊥

  -- what the ordered insertion leaves of xs, whose first n rows were in use: the row put in, in order if they were, and the later rows as found,
  -- with one more row in use; nothing where there is no room, and then nothing is changed
  abbrev pub Inserted : List A → ℕ → A → Option ℕ → List A → Type 0
  Inserted xs n row (Some m) zs =
      (n < length xs) × ((ys : List A) × PutIn row (take n xs) ys × (zs ≡ ys ++ drop (n + 1) xs) × (InOrder (take n xs) → InOrder ys)) × (m ≡ n + 1)
  Inserted xs n row None zs = (length xs ≤ n) × (zs ≡ xs)

-- the row comes before the last n rows, and not before the one ahead of them; no public contract cites this
pub record Behind {A : Type 0} (before : A → A → Type 0) (row : A) (xs : List A) (n : ℕ) : Type 0 where
  pub few : n ≤ length xs
  pub passed : (j : ℕ) (d : A) → length xs - n ≤ j → j < length xs → before row (slice_index_or xs j d)
  pub stopped : (d : A) → n < length xs → before row (slice_index_or xs (length xs - n - 1) d) → ⊥
