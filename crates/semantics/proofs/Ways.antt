-- The fillings as rulings in row order, the number of ways to fill the lower chapters, and that a listing is one.
use Rattle.std.proofs.Common.{◌≡◌, ℕ, zero, suc, ◌+◌, ◌*◌, ◌^◌, ◌<◌, cond, eqb, List, [], ◌∷◌, map, length, sym, refl, ap, ◌∙◌, subst, ap₂, inl, inr, arith}
use Rattle.std.specs.List.{ContainsAt}
use Rattle.std.proofs.ByRecursion.{all-has}
use Rattle.std.proofs.lemmas.List.{length-map}
use Rattle.rulings.specs.Points.{Points}
use Rattle.rulings.specs.Rulings.{has}
use Rattle.rulings.specs.Order.{Precedes, StrictTotal}
use Rattle.rulings.specs.declared.ruling.Ruling.{Ruling}
use Rattle.rulings.proofs.Bytes.{same_points}
use Rattle.rulings.proofs.RowOrder.{row_order}
use Rattle.rows.specs.Rows.{StrictlyInOrder}
use Rattle.rows.proofs.Same.{same_rows}
use Rattle.rows.proofs.Putting.{has_none, has_first, has_later, has_cases, put_among, put_length, put_has_row, put_keeps, put_adds_only, put_strictly}
use Rattle.semantics.specs.Meaning.{Meaning, Lawful}
use Rattle.semantics.specs.Chapters.{PartStable}
use Rattle.semantics.specs.Listing.{width, AllInRowOrder, Fills, Ways, sum_below, Effort, AllPartsStable}
use Rattle.semantics.specs.Walk.{Test, Tells, AllOnce, EffortUnique}
use Rattle.semantics.proofs.Joined.{Distinct, all_of_has}
use Rattle.semantics.proofs.RulingOf.{ruling_of, ruling_of_same, ruling_of_points}
use Rattle.semantics.proofs.Fillings.{Filled, fillings, filled_inside, fillings_sound, fillings_complete, fillings_distinct}

-- the same elements, in strict order
pub record Sorted {A : Type 0} (before : A → A → Type 0) (xs : List A) : Type 0 where
  pub rows : List A
  pub strict : StrictlyInOrder before rows
  pub as_long : length rows ≡ length xs
  pub only : (x : A) → ContainsAt rows x → ContainsAt xs x
  pub each : (x : A) → ContainsAt xs x → ContainsAt rows x

-- a list without repetition is sorted by putting in one element after another
pub sorted : {A : Type 0} (before : A → A → Type 0) → StrictTotal before → (xs : List A) → Distinct xs → Sorted before xs
sorted before order [] d =
    record { rows = []; strict = λ i j d h k. absurd (omega arith); as_long = refl; only = λ x h. h; each = λ x h. h }
sorted {A} before order (x ∷ xs) d = go (sorted before order xs d.1)
  where
    go : Sorted before xs → Sorted before (x ∷ xs)
    go s =
        let (ys, put) = put_among before order x s.rows in
        record {
          rows = ys;
          strict = put_strictly before order x s.rows ys put s.strict
              (λ h. all-has (λ (y : A). x ≡ y → ⊥) xs x d.0 (s.only x h) refl);
          as_long = let n = put_length before x s.rows ys put in omega (arith, s.as_long);
          only = λ y h.
              elim (put_adds_only before x s.rows ys put y h) [
                | inl there ↦ has_later xs x y (s.only y there)
                | inr e ↦ subst (ContainsAt (x ∷ xs)) e (has_first xs x)
              ];
          each = λ y h.
              elim (has_cases xs x y h) [
                | inl e ↦ subst (ContainsAt ys) e (put_has_row before x s.rows ys put)
                | inr there ↦ put_keeps before x s.rows ys put y (s.each y there)
              ];
        }

module _ {A B : Type 0} (f : A → B) where
  pub map_has : (xs : List A) (y : B) → ContainsAt (map f xs) y → (x : A) × ContainsAt xs x × (f x ≡ y)
  map_has [] y h = absurd (has_none y h)
  map_has (x ∷ xs) y h =
      elim (has_cases (map f xs) (f x) y h) [
        | inl e ↦ (x, has_first xs x, e)
        | inr l ↦ let (z, there, is) = map_has xs y l in (z, has_later xs x z there, is)
      ]

  pub has_map : (xs : List A) (x : A) → ContainsAt xs x → ContainsAt (map f xs) (f x)
  has_map [] x h = absurd (has_none x h)
  has_map (z ∷ xs) x h =
      elim (has_cases xs z x h) [
        | inl e ↦ subst (λ (w : A). ContainsAt (map f (z ∷ xs)) (f w)) e (has_first (map f xs) (f z))
        | inr l ↦ has_later (map f xs) (f z) (f x) (has_map xs x l)
      ]

  distinct_map : (xs : List A) → ((x y : A) → ContainsAt xs x → ContainsAt xs y → f x ≡ f y → x ≡ y) → Distinct xs → Distinct (map f xs)
  distinct_map [] one d = tt
  distinct_map (x ∷ xs) one d = (
    all_of_has (λ (y : B). f x ≡ y → ⊥) (map f xs)
        (λ y h e. let (z, there, is) = map_has xs y h in
        all-has (λ (w : A). x ≡ w → ⊥) xs z d.0 there (one x z (has_first xs x) (has_later xs x z there) (e ∙ sym is))),
    distinct_map xs (λ y z hy hz. one y z (has_later xs x y hy) (has_later xs x z hz)) d.1,
  )

module _ (m : Meaning) (l : Lawful m) (ch : ℕ → ℕ) where
  pub filled_ruling : (k : ℕ) (x : Points) → Filled m ch k x → has (ruling_of x) ≡ x
  filled_ruling k x f = ruling_of_same x (λ a h. let i = filled_inside m l ch k x f a h in let s = l.few_points in omega arith)

  fills_filled : (k : ℕ) (r : Ruling) → Fills m ch k r → Filled m ch k (has r)
  fills_filled k r f = record { lower = f.lower; stable = f.stable }

  filled_fills : (k : ℕ) (r : Ruling) → Filled m ch k (has r) → Fills m ch k r
  filled_fills k r f = record { lower = f.lower; stable = f.stable }

  -- the listed fillings are the ways
  pub ways_counted : (test : Test) → Tells m ch test → (k : ℕ) → Ways m ch k (length (fillings m ch test k))
  ways_counted test tells k = (
    s.rows,
    record {
      only = λ r h. only r (map_has ruling_of xs r (s.only r h));
      each = λ r f. s.each r (subst (ContainsAt (map ruling_of xs)) (ruling_of_points r)
          (has_map ruling_of xs (has r) (fillings_complete m l ch test tells k (has r) (fills_filled k r f))));
      in_order = s.strict;
    },
    s.as_long ∙ length-map xs ruling_of,
  )
    where
      xs : List Points
      xs = fillings m ch test k

      filled : (x : Points) → ContainsAt xs x → Filled m ch k x
      filled = fillings_sound m l ch test tells k

      is : (x : Points) → ContainsAt xs x → has (ruling_of x) ≡ x
      is x h = filled_ruling k x (filled x h)

      s : Sorted Precedes (map ruling_of xs)
      s = sorted Precedes row_order (map ruling_of xs)
          (distinct_map ruling_of xs (λ x y hx hy e. sym (is x hx) ∙ (ap has e ∙ is y hy)) (fillings_distinct m l ch test tells k))

      only : (r : Ruling) → (x : Points) × ContainsAt xs x × (ruling_of x ≡ r) → Fills m ch k r
      only r (x, there, e) = filled_fills k r (subst (Filled m ch k) (sym (is x there) ∙ ap has e) (filled x there))

-- ---- a listing, the ways and the effort are determined

-- the rows of a listing are settled by what they list
pub one_listing : {Q : Ruling → Type 0} {xs ys : List Ruling} → AllInRowOrder Q xs → AllInRowOrder Q ys → xs ≡ ys
one_listing {Q} {xs} {ys} p q =
    same_rows Precedes row_order xs ys p.in_order q.in_order
    (λ r. (λ h. q.each r (p.only r h), λ h. p.each r (q.only r h)))

module _ (m : Meaning) (ch : ℕ → ℕ) where
  pub ways_unique : (k n n' : ℕ) → Ways m ch k n → Ways m ch k n' → n ≡ n'
  ways_unique k n n' (rows, all, e) (rows', all', e') = sym e ∙ (ap length (one_listing all all') ∙ e')

  effort_is_one : (e e' : ℕ) → Effort m ch e → Effort m ch e' → e ≡ e'
  effort_is_one e e' s s' =
      s.total ∙ (sums 16 (term s.ways) (term s'.ways) (λ k h. ap (λ (n : ℕ). cond (eqb (width m ch k) 0) 0 (n * 2 ^ width m ch k))
      (ways_unique k (s.ways k) (s'.ways k) (s.counted k h) (s'.counted k h))) ∙ sym s'.total)
    where
      term : (ℕ → ℕ) → ℕ → ℕ
      term ways k = cond (eqb (width m ch k) 0) 0 (ways k * 2 ^ width m ch k)

      sums : (n : ℕ) (f g : ℕ → ℕ) → ((k : ℕ) → k < n → f k ≡ g k) → sum_below n f ≡ sum_below n g
      sums zero f g h = refl
      sums (suc n) f g h = ap₂ ◌+◌ (h n (omega arith)) (sums n f g (λ k q. h k (omega arith)))

pub effort_unique : EffortUnique
effort_unique m ch = effort_is_one m ch

-- rows in strict order that are the sets with all parts stable are the listing
pub listing_of : (m : Meaning) (ch : ℕ → ℕ) (xs : List Points) → AllOnce (λ x. (k : ℕ) → k < 16 → PartStable m ch x k) xs →
    (rows : List Ruling) → StrictlyInOrder Precedes rows → ((r : Ruling) → ContainsAt rows r → ContainsAt xs (has r)) →
    ((x : Points) → ContainsAt xs x → (r : Ruling) × ContainsAt rows r × (has r ≡ x)) → AllInRowOrder (AllPartsStable m ch) rows
listing_of m ch xs all rows strict only each =
    record {
      only = λ r h. all.only (has r) (only r h);
      each = λ r q.
          let (s, there, is) = each (has r) (all.each (has r) q) in
          subst (ContainsAt rows) (same_points s r (λ a _. ap (λ (x : Points). x a) is)) there;
      in_order = strict;
    }
