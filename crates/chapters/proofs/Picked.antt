-- What a ruling is whose points a test picked, where the test is known to answer as a set of points does.
use Rattle.std.proofs.Common.{◌≡◌, ℕ, ◌<◌, ◌≤◌, Bool, false, ◌&&◌, ltb, ◌∙◌, sym, inl, inr, arith}
use Rattle.std.proofs.lemmas.Bool.{cases_lt, lt-ltb, le-ltb}
use Rattle.rulings.specs.Points.{Points}
use Rattle.rulings.specs.Rulings.{has}
use Rattle.rulings.specs.declared.ruling.Ruling.{Ruling}
use Rattle.rulings.proofs.Bytes.{has_past}
use Rattle.chapters.specs.Picking.{Picked}

module _ {answers : ℕ → Bool → Type 0} {size : ℕ} {r : Ruling} (picked : Picked answers size r)
    (p : Points) (agrees : (a : ℕ) (b : Bool) → a < size → answers a b → b ≡ p a) where
  -- the points of the set below the size, as far as a ruling can have them
  pub picked_is : (a : ℕ) → has r a ≡ ltb a size && (ltb a 128 && p a)
  picked_is a =
      elim (cases_lt a size) [
        | inl h ↦ elim (cases_lt a 128) [
          | inl l ↦ rw (lt-ltb a size h, lt-ltb a 128 l) (agrees a (has r a) h (picked.tested a h l))
          | inr l ↦ rw (lt-ltb a size h, le-ltb a 128 l) (has_past r a l)
        ]
        | inr h ↦ rw (le-ltb a size h) (picked.outside a h)
      ]

  -- the whole set, where it has no point at or past the size
  pub picked_all : size ≤ 128 → ((a : ℕ) → size ≤ a → p a ≡ false) → (a : ℕ) → has r a ≡ p a
  picked_all small outside a =
      elim (cases_lt a size) [
        | inl h ↦ agrees a (has r a) h (picked.tested a h (omega arith))
        | inr h ↦ picked.outside a h ∙ sym (outside a h)
      ]
