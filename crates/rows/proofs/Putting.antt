-- A row put among rows: length, elements and order, for any strict total order.
use Rattle.std.proofs.Common.{◌≡◌, ℕ, zero, suc, ◌+◌, ◌-◌, ◌≤◌, Some, ◌⊎◌, List, [], ◌∷◌, ◌++◌, length, take, drop, sym, refl, ap, ◌∙◌, subst, inl, inr, arith, length-append}
use Rattle.std.specs.List.{ContainsAt, AllByRecursion}
use Rattle.std.proofs.ByRecursion.{All-weaker, has_append_left, has_append_right, has_append_cases}
use Rattle.std.proofs.lemmas.List.{same_from_push, length-take-le, take_at, drop_at, drop-drop}
use Rattle.rulings.specs.Order.{StrictTotal}
use Rattle.rows.specs.Rows.{InOrder, StrictlyInOrder, PutIn, Inserted}
use Rattle.rows.proofs.Pairwise.{Pairwise, from_places, to_places, pairwise_put}

module _ {A : Type 0} where
  pub has_none : (x : A) → ContainsAt [] x → ⊥
  has_none x (k, h, is) = omega arith

  pub has_first : (xs : List A) (x : A) → ContainsAt (x ∷ xs) x
  has_first xs x = (0, omega arith, λ d. refl)

  pub has_later : (xs : List A) (y x : A) → ContainsAt xs x → ContainsAt (y ∷ xs) x
  has_later xs y x (k, h, is) = (suc k, omega arith, is)

  none_pushed : (rest : List A) (last : A) → [] ≡ rest ++ last ∷ [] → ⊥
  none_pushed rest last e = omega (arith, ap length e, length-append rest (last ∷ []))

  -- an element of a list is its first or one of the rest
  pub has_cases : (xs : List A) (y x : A) → ContainsAt (y ∷ xs) x → (y ≡ x) ⊎ ContainsAt xs x
  has_cases xs y x (zero, h, is) = inl (is x)
  has_cases xs y x (suc k, h, is) = inr (k, omega arith, is)

module _ {A : Type 0} (before : A → A → Type 0) (row : A) (xs ys : List A) (put : PutIn before row xs ys) where
  pub put_length : length ys ≡ length xs + 1
  put_length =
      omega (arith, ap length put.result, ap length put.split, length-append put.front put.back, length-append put.front (row ∷ put.back))

  pub put_has_row : ContainsAt ys row
  put_has_row =
      subst (λ (zs : List A). ContainsAt zs row) (sym put.result) (has_append_right put.front (row ∷ put.back) row (has_first put.back row))

  -- the rows that were there are there still
  pub put_keeps : (x : A) → ContainsAt xs x → ContainsAt ys x
  put_keeps x h =
      subst (λ (zs : List A). ContainsAt zs x) (sym put.result)
      (elim (has_append_cases put.front put.back x (subst (λ (zs : List A). ContainsAt zs x) put.split h)) [
        | inl f ↦ has_append_left put.front (row ∷ put.back) x f
        | inr b ↦ has_append_right put.front (row ∷ put.back) x (has_later put.back row x b)
      ])

  -- and no others but the row itself
  pub put_adds_only : (x : A) → ContainsAt ys x → ContainsAt xs x ⊎ (row ≡ x)
  put_adds_only x h =
      elim (has_append_cases put.front (row ∷ put.back) x (subst (λ (zs : List A). ContainsAt zs x) put.result h)) [
        | inl f ↦ inl (back_to (has_append_left put.front put.back x f))
        | inr b ↦ elim (has_cases put.back row x b) [
          | inl e ↦ inr e
          | inr l ↦ inl (back_to (has_append_right put.front put.back x l))
        ]
      ]
    where
      back_to : ContainsAt (put.front ++ put.back) x → ContainsAt xs x
      back_to k = subst (λ (zs : List A). ContainsAt zs x) (sym put.split) k

module _ {A : Type 0} (before : A → A → Type 0) (order : StrictTotal before) (row : A) where
  -- the row does not come before x, if it does not come before y, which stands in order behind x
  not_before : (x y : A) → (before y x → ⊥) → (before row y → ⊥) → before row x → ⊥
  not_before x y in_order none h =
      elim (order.total x y) [
        | inl l ↦ none (order.transitive row x y h l)
        | inr (inl e) ↦ none (subst (before row) e h)
        | inr (inr g) ↦ in_order g
      ]

  -- the row comes before none of the rows ahead of its place
  before_none : (front : List A) → Pairwise (λ x y. before y x → ⊥) front
      → ((rest : List A) (last : A) → front ≡ rest ++ last ∷ [] → before row last → ⊥) → AllByRecursion (λ x. before row x → ⊥) front
  before_none [] p behind = tt
  before_none (x ∷ []) p behind = (behind [] x refl, tt)
  before_none (x ∷ y ∷ ys) p behind =
      let later = before_none (y ∷ ys) p.1 (λ rest last e. behind (x ∷ rest) last (ap (λ (zs : List A). x ∷ zs) e)) in
      (not_before x y p.0.0 later.0, later)

  asymmetric : (x y : A) → before x y → before y x → ⊥
  asymmetric x y h k = order.irreflexive x (order.transitive x y x h k)

  pairwise_front : (R : A → A → Type 0) (front back : List A) → Pairwise R (front ++ back) → Pairwise R front
  pairwise_front R [] back p = tt
  pairwise_front R (x ∷ front) back p = (all_front front p.0, pairwise_front R front back p.1)
    where
      all_front : (ys : List A) → AllByRecursion (R x) (ys ++ back) → AllByRecursion (R x) ys
      all_front [] a = tt
      all_front (y ∷ ys) a = (a.0, all_front ys a.1)

  module _ (xs ys : List A) (put : PutIn before row xs ys) where
    none_ahead : Pairwise (λ x y. before y x → ⊥) xs → AllByRecursion (λ x. before row x → ⊥) put.front
    none_ahead p =
        before_none put.front (pairwise_front (λ x y. before y x → ⊥) put.front put.back (subst (Pairwise (λ x y. before y x → ⊥)) put.split p)) put.behind

    put_pairwise : (R : A → A → Type 0) → Pairwise R xs → AllByRecursion (λ x. R x row) put.front → AllByRecursion (R row) put.back → Pairwise R ys
    put_pairwise R p f b =
        subst (Pairwise R) (sym put.result) (pairwise_put R put.front put.back row (subst (Pairwise R) put.split p) f b)

    -- rows in order stay in order
    pub put_in_order : InOrder before xs → InOrder before ys
    put_in_order in_order =
        let p = from_places (λ x y. before y x → ⊥) xs in_order in
        to_places (λ x y. before y x → ⊥) ys
        (put_pairwise (λ x y. before y x → ⊥) p (none_ahead p) (All-weaker (before row) (λ x. before x row → ⊥) (asymmetric row) put.back put.ahead_of))

    -- rows that strictly increase still do, if the row is not among them
    pub put_strictly : StrictlyInOrder before xs → (ContainsAt xs row → ⊥) → StrictlyInOrder before ys
    put_strictly strict absent =
        let p = from_places before xs strict in
        to_places before ys
        (put_pairwise before p (ahead put.front (λ x h. h) (none_ahead (weak xs p))) put.ahead_of)
      where
        weak : (zs : List A) → Pairwise before zs → Pairwise (λ x y. before y x → ⊥) zs
        weak [] q = tt
        weak (z ∷ zs) q = (All-weaker (before z) (λ x. before x z → ⊥) (asymmetric z) zs q.0, weak zs q.1)

        comes : (x : A) → ContainsAt put.front x → (before row x → ⊥) → before x row
        comes x h none =
            elim (order.total x row) [
              | inl l ↦ l
              | inr (inl e) ↦ absurd
                  (absent
                  (subst (λ (zs : List A). ContainsAt zs row) (sym put.split)
                  (has_append_left put.front put.back row (subst (λ (z : A). ContainsAt put.front z) e h))))
              | inr (inr g) ↦ absurd (none g)
            ]

        ahead : (zs : List A) → ((x : A) → ContainsAt zs x → ContainsAt put.front x) → AllByRecursion (λ x. before row x → ⊥) zs → AllByRecursion (λ x. before x row) zs
        ahead [] there q = tt
        ahead (z ∷ zs) there q = (comes z (there z (has_first zs z)) q.0, ahead zs (λ x h. there x (has_later zs z x h)) q.1)

  -- a row put among rows is put among one more at their front
  put_behind : (x : A) (xs front back : List A)
      → xs ≡ front ++ back → AllByRecursion (before row) back → ((rest : List A) (last : A) → front ≡ rest ++ last ∷ [] → before row last → ⊥)
      → (ys : List A) × PutIn before row (x ∷ xs) ys
  put_behind x xs [] back e ahead behind =
      elim (order.total row x) [
        | inl l ↦ (
          row ∷ x ∷ back,
          record {
            front = [];
            back = x ∷ back;
            split = ap (λ (zs : List A). x ∷ zs) e;
            result = refl;
            ahead_of = (l, ahead);
            behind = λ rest last f. absurd (none_pushed rest last f);
          },
        )
        | inr g ↦ (
          x ∷ row ∷ back,
          record {
            front = x ∷ [];
            back = back;
            split = ap (λ (zs : List A). x ∷ zs) e;
            result = refl;
            ahead_of = ahead;
            behind = λ rest last f h. not_last g (subst (before row) (sym (same_from_push [] rest x last f).1) h);
          },
        )
      ]
    where
      not_last : (row ≡ x) ⊎ before x row → before row x → ⊥
      not_last (inl e) h = order.irreflexive row (subst (before row) (sym e) h)
      not_last (inr g) h = asymmetric row x h g
  put_behind x xs (y ∷ front) back e ahead behind = (
    x ∷ y ∷ front ++ row ∷ back,
    record {
      front = x ∷ y ∷ front;
      back = back;
      split = ap (λ (zs : List A). x ∷ zs) e;
      result = refl;
      ahead_of = ahead;
      behind = longer;
    },
  )
    where
      longer : (rest : List A) (last : A) → x ∷ y ∷ front ≡ rest ++ last ∷ [] → before row last → ⊥
      longer [] last f = absurd (omega (arith, ap length f))
      longer (z ∷ rest) last f = behind rest last (cc)

  -- a row can be put among any rows
  pub put_among : (xs : List A) → (ys : List A) × PutIn before row xs ys
  put_among [] =
      (row ∷ [], record { front = []; back = []; split = refl; result = refl; ahead_of = tt; behind = λ rest last e. absurd (none_pushed rest last e) })
  put_among (x ∷ xs) = let (_, put) = put_among xs in put_behind x xs put.front put.back put.split put.ahead_of put.behind

-- rows that agree from k on agree from any later place on
pub same_later : {A : Type 0} (k n : ℕ) (xs ys : List A) → k ≤ n → drop k xs ≡ drop k ys → drop n xs ≡ drop n ys
same_later {A} k n xs ys le e =
    let there : n ≡ k + (n - k) = omega arith in
    rw (there, ← drop-drop (n - k) k xs, ← drop-drop (n - k) k ys, e) refl

-- the ordered insertion as a row put in: the first rows, and the later ones
module _ {A : Type 0} (before : A → A → Type 0) (row : A) (xs : List A) (n : ℕ) (zs : List A) (m : ℕ) (inserted : Inserted before xs n row (Some m) zs) where
  put_count : length inserted.1.0 ≡ n + 1
  put_count = put_length before row (take n xs) inserted.1.0 inserted.1.1 ∙ ap (λ (k : ℕ). k + 1) (length-take-le n xs (omega (arith, inserted.0)))

  pub inserted_first : PutIn before row (take n xs) (take (n + 1) zs)
  inserted_first =
      let (ys, put, is, _) = inserted.1 in
      subst (PutIn before row (take n xs)) (sym (ap (take (n + 1)) is ∙ take_at ys (drop (n + 1) xs) (n + 1) put_count)) put

  pub inserted_later : drop (n + 1) zs ≡ drop (n + 1) xs
  inserted_later =
      let (ys, put, is, _) = inserted.1 in
      ap (drop (n + 1)) is ∙ drop_at ys (drop (n + 1) xs) (n + 1) put_count
