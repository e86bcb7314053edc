-- Rulings picked by a test. No public contract cites this.
use Rattle.std.specs.Prelude.{◌≡◌, ℕ, ◌<◌, ◌≤◌, Bool, false}
use Rattle.rulings.specs.Rulings.{has}
use Rattle.rulings.specs.declared.ruling.Ruling.{Ruling}

-- the ruling has the points below a size, and below 128, of which a test answered true
pub record Picked (answers : ℕ → Bool → Type 0) (size : ℕ) (r : Ruling) : Type 0 where
  pub tested : (a : ℕ) → a < size → a < 128 → answers a (has r a)
  pub outside : (a : ℕ) → size ≤ a → has r a ≡ false
