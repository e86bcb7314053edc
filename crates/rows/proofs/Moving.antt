-- The rows at the end that a row comes before moved one place on, and the row put into the gap.
use Rattle.std.proofs.Common.{◌≡◌, ℕ, ◌+◌, ◌-◌, ◌<◌, ◌≤◌, Some, List, [], ◌∷◌, ◌++◌, length, get_or, take, drop, set, sym, refl, ap, ap₂, ◌∙◌, subst, append_assoc, arith, length-append}
use Rattle.std.specs.List.{copy_within}
use Rattle.std.proofs.ByRecursion.{All-from_get_or}
use Rattle.std.proofs.lemmas.List.{take-append-drop, take_more, take-take, drop-take, length-take-le, length-drop, get_or_at, get_or-drop, set_at}
use Rattle.rulings.specs.Order.{StrictTotal}
use Rattle.rows.specs.Rows.{PutIn, Inserted, Behind}
use Rattle.rows.proofs.Putting.{put_in_order}

-- what a write into the gap leaves
gap_filled : {A : Type 0} (row : A) (xs : List A) (place count : ℕ) → place ≤ count → count < length xs →
    set (copy_within xs place count (place + 1)) place row ≡ (take place (take count xs) ++ row ∷ drop place (take count xs)) ++ drop (count + 1) xs
gap_filled {A} row xs place count within room =
    ap (λ (zs : List A). set zs place row) opened
    ∙ set_at (take place xs) (get_or xs place row) (back ++ later) row place (length-take-le place xs (omega arith))
    ∙ sym (append_assoc (take place xs) (row ∷ back) later)
    ∙ ap (λ (zs : List A). zs ++ later) (ap₂ (λ (f b : List A). f ++ row ∷ b) (sym (take-take place count xs within)) same_back)
  where
    back : List A
    back = take (count - place) (drop place xs)

    later : List A
    later = drop (count + 1) xs

    same_back : back ≡ drop place (take count xs)
    same_back =
        let e : place + (count - place) ≡ count = omega arith in
        sym (drop-take place (count - place) xs) ∙ ap (λ (n : ℕ). drop place (take n xs)) e

    opened : copy_within xs place count (place + 1) ≡ take place xs ++ get_or xs place row ∷ (back ++ later)
    opened =
        let e : place + 1 + (count - place) ≡ count + 1 = omega arith in
        ap₂ (λ (f l : List A). (f ++ back) ++ l) (take_more xs place row (omega arith)) (ap (λ (n : ℕ). drop n xs) e)
        ∙ append_assoc (take place xs ++ get_or xs place row ∷ []) back later
        ∙ append_assoc (take place xs) (get_or xs place row ∷ []) (back ++ later)

module _ {A : Type 0} (before : A → A → Type 0) (order : StrictTotal before) (row : A) where
  -- a row goes in behind the last that it does not come before
  module _ (ys : List A) (n : ℕ) (those : Behind before row ys n) where
    put_behind_last : (place : ℕ) → place ≡ length ys - n → PutIn before row ys (take place ys ++ row ∷ drop place ys)
    put_behind_last place is =
        record {
          front = take place ys;
          back = drop place ys;
          split = sym (take-append-drop place ys);
          result = refl;
          ahead_of = All-from_get_or (before row) (drop place ys) row
              (λ i h. subst (before row) (sym (get_or-drop place ys i row)) (those.passed (place + i) row (omega arith) (omega (arith, length-drop place ys))));
          behind = λ rest last e b.
              let long : length rest + 1 ≡ place = omega (arith, ap length e, length-append rest (last ∷ []), length-take-le place ys (omega arith)) in
              let there : get_or ys (place - 1) row ≡ last = last_there rest last e long in
              those.stopped row (omega (arith, those.few)) (subst (before row) (sym there ∙ ap (λ (n : ℕ). get_or ys (n - 1) row) is) b);
        }
      where
        last_there : (rest : List A) (last : A) → take place ys ≡ rest ++ last ∷ [] → length rest + 1 ≡ place → get_or ys (place - 1) row ≡ last
        last_there rest last e long =
            ap (λ (zs : List A). get_or zs (place - 1) row) (sym (take-append-drop place ys) ∙ ap (λ (zs : List A). zs ++ drop place ys) e ∙ append_assoc rest (last ∷ []) (drop place ys))
            ∙ get_or_at rest last (drop place ys) row (place - 1) (omega arith)

  pub moved_and_put : (xs : List A) (count moved : ℕ) → count < length xs → Behind before row (take count xs) moved →
      Inserted before xs count row (Some (count + 1)) (set (copy_within xs (count - moved) count (count - moved + 1)) (count - moved) row)
  moved_and_put xs count moved room those =
      let long : length (take count xs) ≡ count = length-take-le count xs (omega arith) in
      let put = put_behind_last (take count xs) moved those (count - moved) (ap (λ (k : ℕ). k - moved) (sym long)) in
      (room, (_, put, gap_filled row xs (count - moved) count (omega arith) room, put_in_order before order row (take count xs) _ put), refl)
