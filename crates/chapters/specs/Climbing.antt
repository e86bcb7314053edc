-- Climbing by a step from the empty ruling. No public contract cites this.
use Rattle.std.specs.Prelude.{◌≡◌, ℕ, ◌<◌, true}
use Rattle.rulings.specs.Points.{Points, Part}
use Rattle.rulings.specs.Rulings.{has}
use Rattle.rulings.specs.declared.ruling.Ruling.{Ruling}
use Rattle.chapters.specs.declared.climbing.Step.{Step}

-- a step takes a ruling as f takes its set; f keeps containment, and gives points below n alone
pub record StepOf {T : Type 0} (step : Ruling → Step T → Type 0) (n : ℕ) (f : Points → Points) : Type 0 where
  pub taken : (x : Ruling) (s : Step T) → step x s → has s.next ≡ f (has x)
  pub monotone : (x z : Points) → Part x z → Part (f x) (f z)
  pub inside : (x : Points) (a : ℕ) → f x a ≡ true → a < n

-- a step from the ruling found this
abbrev pub FoundBy : {T : Type 0} → (Ruling → Step T → Type 0) → Ruling → T → Type 0
FoundBy {T} step x t = (s : Step T) × step x s × (s.found ≡ t)

-- X is the smallest set that has every point that f makes of it
pub record LeastPrefixpoint (f : Points → Points) (X : Points) : Type 0 where
  pub closed : Part (f X) X
  pub least : (Z : Points) → Part (f Z) Z → Part X Z
