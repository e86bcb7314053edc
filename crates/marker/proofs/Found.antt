-- The rulings that a walk has found, in row order, in the rows lent.
use Rattle.std.proofs.Common.{◌≡◌, ℕ, ◌+◌, ◌<◌, ◌≤◌, true, ◌⊎◌, Some, None, Option, List, [], ◌∷◌, ◌++◌, length, take, drop, sym, refl, ap, ◌∙◌, subst, inl, inr, arith}
use Rattle.std.specs.List.{ContainsAt}
use Rattle.std.proofs.ByRecursion.{all-has, has_append_left, has_append_right, has_append_cases}
use Rattle.rulings.specs.Points.{Points}
use Rattle.rulings.specs.Rulings.{has}
use Rattle.rulings.specs.Order.{Precedes}
use Rattle.rulings.specs.declared.ruling.Ruling.{Ruling}
use Rattle.rulings.proofs.RowOrder.{row_order}
use Rattle.rows.specs.Rows.{StrictlyInOrder, PutIn, Inserted}
use Rattle.rows.proofs.Putting.{has_none, has_first, has_later, has_cases, put_length, put_has_row, put_keeps, put_adds_only, put_strictly, put_among, inserted_first, inserted_later, same_later}
use Rattle.semantics.proofs.Joined.{Distinct, has_one}
use Rattle.semantics.proofs.RulingOf.{ruling_of, ruling_of_same}

-- the rows are the sets of a list as rulings, in row order
pub record InRows (xs : List Points) (rows : List Ruling) : Type 0 where
  pub strict : StrictlyInOrder Precedes rows
  pub only : (r : Ruling) → ContainsAt rows r → ContainsAt xs (has r)
  pub each : (x : Points) → ContainsAt xs x → (r : Ruling) × ContainsAt rows r × (has r ≡ x)

pub in_rows_none : InRows [] []
in_rows_none = record { strict = λ i j d h k. absurd (omega arith); only = λ r h. absurd (has_none r h); each = λ x h. absurd (has_none x h) }

-- one more set, and its ruling put in
in_rows_more : (xs zs : List Points) (x : Points) (row : Ruling) (rows ys : List Ruling) → has row ≡ x →
    ((y : Points) → ContainsAt zs y → ContainsAt xs y ⊎ (x ≡ y)) → ((y : Points) → ContainsAt xs y → ContainsAt zs y) → ContainsAt zs x →
    (ContainsAt xs x → ⊥) → PutIn Precedes row rows ys → InRows xs rows → InRows zs ys
in_rows_more xs zs x row rows ys is back on there absent put f =
    record {
      strict = put_strictly Precedes row_order row rows ys put f.strict (λ h. absent (subst (ContainsAt xs) is (f.only row h)));
      only = λ r h. elim (put_adds_only Precedes row rows ys put r h) [
        | inl old ↦ on (has r) (f.only r old)
        | inr e ↦ subst (ContainsAt zs) (sym is ∙ ap has e) there
      ];
      each = λ y h. elim (back y h) [
        | inl old ↦ let (r, among, same) = f.each y old in (r, put_keeps Precedes row rows ys put r among, same)
        | inr e ↦ (row, put_has_row Precedes row rows ys put, is ∙ e)
      ];
    }

-- sets of points below 128, each once, can be put in rows
pub rows_for : (xs : List Points) → Distinct xs → ((x : Points) → ContainsAt xs x → (a : ℕ) → x a ≡ true → a < 128) →
    (rows : List Ruling) × InRows xs rows × (length rows ≡ length xs)
rows_for [] d small = ([], in_rows_none, refl)
rows_for (x ∷ xs) d small =
    let (rows, f, long) = rows_for xs d.1 (λ y h. small y (has_later xs x y h)) in
    let (ys, put) = put_among Precedes row_order (ruling_of x) rows in (
      ys,
      in_rows_more xs (x ∷ xs) x (ruling_of x) rows ys (ruling_of_same x (small x (has_first xs x))) (swap xs x) (λ y h. has_later xs x y h) (has_first xs x)
          (λ h. all-has (λ (y : Points). x ≡ y → ⊥) xs x d.0 h refl) put f,
      omega (arith, put_length Precedes (ruling_of x) rows ys put),
    )
  where
    swap : (xs : List Points) (x y : Points) → ContainsAt (x ∷ xs) y → ContainsAt xs y ⊎ (x ≡ y)
    swap xs x y h =
        elim (has_cases xs x y h) [
          | inl e ↦ inr e
          | inr l ↦ inl l
        ]

-- a set that stands later in a list without repetition is not among the earlier ones
pub not_earlier : (xs ys : List Points) (x : Points) → Distinct (xs ++ x ∷ ys) → ContainsAt xs x → ⊥
not_earlier [] ys x d h = has_none x h
not_earlier (y ∷ xs) ys x d h =
    elim (has_cases xs y x h) [
      | inl e ↦ all-has (λ (z : Points). y ≡ z → ⊥) (xs ++ x ∷ ys) x d.0 (has_append_right xs (x ∷ ys) x (has_first ys x)) e
      | inr l ↦ not_earlier xs ys x d.1 l
    ]

-- the sets found so far, in the rows while there is room
pub record Kept (xs : List Points) (count : ℕ) (found rows : List Ruling) : Type 0 where
  pub as_long : length rows ≡ length found
  pub later : drop count rows ≡ drop count found
  pub first : count ≤ length rows → InRows xs (take count rows)

pub kept_none : (found : List Ruling) → Kept [] 0 found found
kept_none found = record { as_long = refl; later = refl; first = λ h. in_rows_none }

pub kept_more : (xs : List Points) (count : ℕ) (found rows rows' : List Ruling) (x : Points) (row : Ruling) (r : Option ℕ) → has row ≡ x → (ContainsAt xs x → ⊥) →
    length rows' ≡ length rows → Inserted Precedes rows count row r rows' → Kept xs count found rows → Kept (xs ++ x ∷ []) (count + 1) found rows'
kept_more xs count found rows rows' x row (Some m) is absent same inserted k =
    record {
      as_long = same ∙ k.as_long;
      later = inserted_later Precedes row rows count rows' m inserted ∙ same_later count (count + 1) rows found (omega arith) k.later;
      first = λ h.
          in_rows_more xs (xs ++ x ∷ []) x row (take count rows) (take (count + 1) rows') is push (λ y l. has_append_left xs (x ∷ []) y l)
          (has_append_right xs (x ∷ []) x (has_first [] x)) absent (inserted_first Precedes row rows count rows' m inserted) (k.first (let n = inserted.0 in omega arith));
    }
  where
    push : (y : Points) → ContainsAt (xs ++ x ∷ []) y → ContainsAt xs y ⊎ (x ≡ y)
    push y h =
        elim (has_append_cases xs (x ∷ []) y h) [
          | inl l ↦ inl l
          | inr l ↦ inr (has_one x y l)
        ]
kept_more xs count found rows rows' x row None is absent same (full, as_found) k =
    record {
      as_long = same ∙ k.as_long;
      later = ap (drop (count + 1)) as_found ∙ same_later count (count + 1) rows found (omega arith) k.later;
      first = λ h. absurd (omega arith);
    }
