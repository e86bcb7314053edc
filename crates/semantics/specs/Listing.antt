-- Listings: all stable rulings, chapter by chapter, and the effort of finding them.
use Rattle.std.specs.Prelude.{◌≡◌, ℕ, zero, suc, ◌+◌, ◌*◌, ◌^◌, ◌<◌, true, cond, List, length, ◌==◌, nat_eq}
use Rattle.std.specs.List.{ContainsAt}
use Rattle.rulings.specs.Points.{Points}
use Rattle.rulings.specs.Rulings.{has}
use Rattle.rulings.specs.Order.{Precedes}
use Rattle.rulings.specs.declared.ruling.Ruling.{Ruling}
use Rattle.rows.specs.Rows.{StrictlyInOrder}
use Rattle.semantics.specs.Meaning.{Meaning}
use Rattle.semantics.specs.Chapters.{PartStable}

-- how many numbers below n are in the set
abbrev pub count_below : ℕ → Points → ℕ
count_below zero x = 0
count_below (suc n) x = cond (x n) 1 0 + count_below n x

-- how many points of the book are in chapter k
abbrev pub width : Meaning → (ℕ → ℕ) → ℕ → ℕ
width m ch k = count_below m.size (λ a. nat_eq (ch a) k)

-- the rows are all rulings with a property, each once, in row order
pub record AllInRowOrder (Q : Ruling → Type 0) (rows : List Ruling) : Type 0 where
  pub only : (r : Ruling) → ContainsAt rows r → Q r
  pub each : (r : Ruling) → Q r → ContainsAt rows r
  pub in_order : StrictlyInOrder Precedes rows

-- a ruling fills the chapters lower than k with stable parts, and has no other point
pub record Fills (m : Meaning) (ch : ℕ → ℕ) (k : ℕ) (r : Ruling) : Type 0 where
  pub lower : (a : ℕ) → has r a ≡ true → ch a < k
  pub stable : (j : ℕ) → j < k → PartStable m ch (has r) j

-- the number of ways to fill the chapters lower than k with stable parts
abbrev pub Ways : Meaning → (ℕ → ℕ) → ℕ → ℕ → Type 0
Ways m ch k n = (rows : List Ruling) × AllInRowOrder (Fills m ch k) rows × (length rows ≡ n)

-- the sum of f k over the k below n
abbrev pub sum_below : ℕ → (ℕ → ℕ) → ℕ
sum_below zero f = 0
sum_below (suc n) f = f n + sum_below n f

-- The effort: the sum, over the chapters that hold a point, of the number of ways to fill the lower chapters
-- with stable parts, times 2 to the number of points in the chapter.
pub record Effort (m : Meaning) (ch : ℕ → ℕ) (effort : ℕ) : Type 0 where
  pub ways : ℕ → ℕ
  pub counted : (k : ℕ) → k < 16 → Ways m ch k (ways k)
  pub total : effort ≡ sum_below 16 (λ k. cond (width m ch k == 0) 0 (ways k * 2 ^ width m ch k))

-- every part of the ruling is stable in its chapter
abbrev pub AllPartsStable : Meaning → (ℕ → ℕ) → Ruling → Type 0
AllPartsStable m ch r = (k : ℕ) → k < 16 → PartStable m ch (has r) k
