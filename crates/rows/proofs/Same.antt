-- Lists with the same rows, strictly in order, are equal.
use Rattle.std.proofs.Common.{◌≡◌, ◌⊎◌, List, [], ◌∷◌, sym, refl, ◌∙◌, subst, inl, inr}
use Rattle.std.specs.List.{ContainsAt, AllByRecursion}
use Rattle.std.proofs.ByRecursion.{all-has}
use Rattle.rulings.specs.Order.{StrictTotal}
use Rattle.rows.specs.Rows.{SameRowsSameList}
use Rattle.rows.proofs.Pairwise.{Pairwise, from_places}
use Rattle.rows.proofs.Putting.{has_none, has_first, has_later, has_cases}

module _ {A : Type 0} (before : A → A → Type 0) (strict : StrictTotal before) where
  -- neither comes before the other
  both_before : {B : Type 0} (a b : A) → before a b → before b a → B
  both_before a b p q = absurd (strict.irreflexive a (strict.transitive a b a p q))

  -- the first of a list comes before no element of the same rows' first
  not_before : {B : Type 0} (x y : A) (ys : List A) → AllByRecursion (before y) ys → ContainsAt (y ∷ ys) x → before x y → B
  not_before x y ys later h p = go (has_cases ys y x h)
    where
      go : {B : Type 0} → (y ≡ x) ⊎ ContainsAt ys x → B
      go (inl e) = absurd (strict.irreflexive x (subst (λ (z : A). before x z) e p))
      go (inr i) = both_before x y p (all-has (before y) ys x later i)

  same_first : (x y : A) (xs ys : List A) → AllByRecursion (before x) xs → AllByRecursion (before y) ys → ContainsAt (y ∷ ys) x → ContainsAt (x ∷ xs) y → x ≡ y
  same_first x y xs ys p q h k = go (strict.total x y)
    where
      go : before x y ⊎ ((x ≡ y) ⊎ before y x) → x ≡ y
      go (inl b) = not_before x y ys q h b
      go (inr (inl e)) = e
      go (inr (inr b)) = not_before y x xs p k b

  -- what is behind the first of both is the same
  rest : (x y : A) (xs ys : List A) → x ≡ y → AllByRecursion (before x) xs → ((r : A) → ContainsAt (x ∷ xs) r → ContainsAt (y ∷ ys) r) → (r : A) → ContainsAt xs r → ContainsAt ys r
  rest x y xs ys e p f r h = go (has_cases ys y r (f r (has_later xs x r h)))
    where
      go : (y ≡ r) ⊎ ContainsAt ys r → ContainsAt ys r
      go (inl q) = absurd (strict.irreflexive x (subst (λ (z : A). before x z) (sym (e ∙ q)) (all-has (before x) xs r p h)))
      go (inr i) = i

  same : (xs ys : List A) → Pairwise before xs → Pairwise before ys → ((r : A) → ContainsAt xs r → ContainsAt ys r) → ((r : A) → ContainsAt ys r → ContainsAt xs r) → xs ≡ ys
  same [] [] p q f g = refl
  same [] (y ∷ ys) p q f g = absurd (has_none y (g y (has_first ys y)))
  same (x ∷ xs) [] p q f g = absurd (has_none x (f x (has_first xs x)))
  same (x ∷ xs) (y ∷ ys) p q f g =
      let e : x ≡ y = same_first x y xs ys p.0 q.0 (f x (has_first xs x)) (g y (has_first ys y)) in
      let t : xs ≡ ys = same xs ys p.1 q.1 (rest x y xs ys e p.0 f) (rest y x ys xs (sym e) q.0 g) in
      cc

  pub same_rows : SameRowsSameList before
  same_rows xs ys p q m = same xs ys (from_places before xs p) (from_places before ys q) (λ r. (m r).0) (λ r. (m r).1)
